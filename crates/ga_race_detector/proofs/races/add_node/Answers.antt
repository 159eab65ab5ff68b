use Rattle.std.proofs.Common.{◌≡◌, ◌∙◌, ◌+◌, ◌++◌, ℕ, List, Some, refl, length, ap, sym, subst, arith}
use Rattle.std.specs.List.{slice_get}
use Rattle.std.proofs.lemmas.List.{append-nil}
use Rattle.ga_race_detector.specs.declared.races.Race.{Race}
use Rattle.ga_event.specs.Told.{count_steps}
use Rattle.ga_lab.specs.Machine.{MachineState, history_of_node}
use Rattle.ga_race_detector.specs.Races.{races_of_event, races_of_first_steps}
use Rattle.ga_race_detector.specs.inner.Writers.{IsNeighbourKnowledgeTrue}
use Rattle.ga_race_detector.proofs.Behind.{stands_within}
use Rattle.ga_race_detector.proofs.Racing.{one_more, none_before, told_there}
use Rattle.ga_race_detector.proofs.races.add_node.Goals as goal

pub returns-then-not-takes_some-clause-ok : goal.returns-then-not-takes_some-clause-ok
returns-then-not-takes_some-clause-ok c =
    sym (append-nil c.args.list.now.items) ∙ ap (λ (z : List Race). c.args.list.now.items ++ z) (sym (c.takes_some.ensures c.if-not-takes_some.true))

pub steps-init : goal.steps-init
steps-init c = record { same = refl; told = none_before c.args.lab.now c.args.node c.args.list.now.items }

pub steps-preserved : goal.steps-preserved
steps-preserved c =
    let s = c.args.lab.now in
    record {
      same = c.in_ok-add_told-in-Some.ensures.same ∙ c.steps.invariant.same;
      told = one_more s c.args.node c.steps.place c.in-Some.made c.args.list.now.items c.steps.list.items c.add_told.new.list.items c.steps.invariant.told
          (c.in-Some.ensures ∙ ap (λ (z : MachineState). slice_get (history_of_node z c.args.node.number) c.steps.place) c.steps.invariant.same)
          (c.in_ok-add_told-in-Some.ensures.ok ∙ ap (λ (z : MachineState). c.steps.list.items ++ races_of_event z c.args.node (c.steps.place + 1) (Some c.in-Some.made)) c.steps.invariant.same);
    }

pub add_told-requires-clause-beside : goal.add_told-requires-clause-beside
add_told-requires-clause-beside c = subst (λ (z : MachineState). IsNeighbourKnowledgeTrue z c.args.node.number c.in_ok-beside.beside) (sym c.steps.invariant.same) c.in_ok-beside.ensures.ok

pub add_told-requires-clause-stands : goal.add_told-requires-clause-stands
add_told-requires-clause-stands c =
    stands_within c.steps.lab c.args.node.number (c.steps.place + 1) (omega arith)
    (let e = ap (λ (z : MachineState). count_steps c.args.node.number z.kept) c.steps.invariant.same in omega (arith, e, c.steps-test.true, c.steps-steps.ensures.steps))

pub returns-in-None-clause-ok : goal.returns-in-None-clause-ok
returns-in-None-clause-ok c =
    absurd (told_there (history_of_node c.steps.lab c.args.node.number) c.steps.place
    (let e = ap (λ (z : MachineState). length (history_of_node z c.args.node.number)) c.steps.invariant.same in omega (arith, e, c.steps-test.true, c.steps-steps.ensures.told)) (sym c.in-None.ensures))

pub returns-clause-ok : goal.returns-clause-ok
returns-clause-ok c =
    c.steps.invariant.told
    ∙ ap (λ (z : ℕ). c.args.list.now.items ++ races_of_first_steps c.args.lab.now c.args.node z) (let q : c.steps.place ≡ count_steps c.args.node.number c.args.lab.now.kept = omega (arith, c.steps-test.false, c.steps-steps.ensures.steps) in q)
