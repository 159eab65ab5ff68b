use Rattle.std.proofs.Common.{◌≡◌, ◌∙◌, sym, ap, subst, arith}
use Rattle.std.proofs.lemmas.List.{take_all}
use Rattle.std.specs.Prelude.{drop}
use Rattle.ga_node.specs.Record.{NodeState}
use Rattle.ga_event.specs.Told.{count_steps}
use Rattle.ga_journal.specs.Histories.{history}
use Rattle.ga_journal.specs.Walked.{node_before_entries, CanRestoreEntries}
use Rattle.ga_lab.specs.Machine.{MachineState, node_at_step}
use Rattle.ga_lab.proofs.Stepping.{whole_of}
use Rattle.ga_lab.proofs.Replays.{can_peek, kept_steps}
use Rattle.ga_lab.proofs.lab.Lab.walk_node_from_step.Goals as goal

pub walk_node_back-requires-clause-order : goal.walk_node_back-requires-clause-order
walk_node_back-requires-clause-order c =
    let chip = c.self.inside.chip in
    let book = c.self.inside.chronicle.journal in
    let many : c.count_steps-steps.result ≡ count_steps c.args.node.number c.args.self.now.kept =
    c.count_steps-steps.ensures.steps (whole_of chip book c.self.invariant.tied) ∙ kept_steps chip book c.args.node.number ∙ ap (λ (s : MachineState). count_steps c.args.node.number s.kept) c.self.view_is in
    omega (arith, many, c.requires)

pub walk_node_back-requires-clause-can : goal.walk_node_back-requires-clause-can
walk_node_back-requires-clause-can c =
    subst (λ h. CanRestoreEntries c.copy-copy.result (drop c.args.step h)) (sym (take_all c.count_steps-steps.result (history c.self.inside.chronicle.journal.histories c.args.node.number) (omega (arith, c.count_steps-steps.ensures.value))))
    (subst (λ (z : NodeState). CanRestoreEntries z (drop c.args.step (history c.self.inside.chronicle.journal.histories c.args.node.number))) (sym (c.copy-copy.ensures ∙ c.node.ensures.value))
    (can_peek c.self.inside.chip c.self.inside.chronicle.journal c.args.node.number c.args.step c.self.invariant.tied))

pub invariant_of-result : goal.invariant_of-result
invariant_of-result c =
    let chip = c.self.inside.chip in
    let book = c.self.inside.chronicle.journal in
    let many : c.count_steps-steps.result ≡ count_steps c.args.node.number c.args.self.now.kept =
    c.count_steps-steps.ensures.steps (whole_of chip book c.self.invariant.tied) ∙ kept_steps chip book c.args.node.number ∙ ap (λ (s : MachineState). count_steps c.args.node.number s.kept) c.self.view_is in
    record {
      lab = c.self.invariant;
      within = omega (arith, many, c.requires, c.count_steps-steps.ensures.value);
      walked_to = c.walk_node_back.ensures
          ∙ ap (λ h. node_before_entries c.copy-copy.result (drop c.args.step h)) (take_all c.count_steps-steps.result (history book.histories c.args.node.number) (omega (arith, c.count_steps-steps.ensures.value)))
          ∙ ap (λ (z : NodeState). node_before_entries z (drop c.args.step (history book.histories c.args.node.number))) (c.copy-copy.ensures ∙ c.node.ensures.value);
    }

pub returns : goal.returns
returns c = ap (λ (s : MachineState). node_at_step s c.args.node c.args.step) c.self.view_is
