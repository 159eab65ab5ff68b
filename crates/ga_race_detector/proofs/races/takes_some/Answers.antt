use Rattle.std.proofs.Common.{◌≡◌, ◌+◌, [], sym, ◌∙◌, ap, arith}
use Rattle.ga_event.specs.Told.{count_steps}
use Rattle.ga_race_detector.specs.Races.{races_of_first_steps}
use Rattle.ga_race_detector.proofs.Racing.{one_more, none_before}
use Rattle.ga_race_detector.proofs.races.takes_some.Goals as goal

pub steps-init : goal.steps-init
steps-init c = none_before c.args.lab.now c.args.node []

pub steps-preserved : goal.steps-preserved
steps-preserved c =
    one_more c.args.lab.now c.args.node c.steps.place c.in-Some.made [] [] [] c.steps.invariant c.in-Some.ensures
    (sym (c.takes.ensures c.if-takes.false c.args.lab.now (c.steps.place + 1)))

pub returns : goal.returns
returns c = λ q.
    sym (c.steps.invariant ∙ ap (races_of_first_steps c.args.lab.now c.args.node) (let e : c.steps.place ≡ count_steps c.args.node.number c.args.lab.now.kept = omega (arith, c.steps-test.false, c.steps-steps.ensures.steps) in e))
