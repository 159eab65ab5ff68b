use Rattle.std.proofs.Common.{◌≡◌, ◌<◌, ℕ, ◌∙◌, Some, None, take, sym, ap, subst, arith}
use Rattle.std.proofs.lemmas.List.{take_all}
use Rattle.std.specs.Prelude.{◌↔◌, IsNone, drop}
use Rattle.ga_node.specs.declared.node.Node.{Node}
use Rattle.ga_node.specs.Record.{NodeState, record_of_node}
use Rattle.ga_grid.specs.Chip.{node_record_at}
use Rattle.ga_event.specs.Apply.{replay}
use Rattle.ga_journal.specs.Histories.{history}
use Rattle.ga_event.specs.Told.{count_steps}
use Rattle.ga_journal.specs.Walked.{node_before_entries, CanRestoreEntries}
use Rattle.ga_lab.specs.Machine.{MachineState, chip_of_machine, earlier_state}
use Rattle.ga_lab.specs.inner.LabInvariant.{state_of}
use Rattle.ga_lab.proofs.Stepping.{whole_of}
use Rattle.ga_lab.proofs.Replays.{can_peek, replays_earlier, peeked, kept_steps, none_past, some_within}
use Rattle.ga_lab.proofs.lab.Lab.peek.Goals as goal

pub walk_node_back-requires-clause-can : goal.walk_node_back-requires-clause-can
walk_node_back-requires-clause-can c =
    subst (λ h. CanRestoreEntries c.copy-then.result (drop c.args.step h)) (sym (take_all c.count_steps-steps.result (history c.self.inside.chronicle.journal.histories c.args.node.number) (omega (arith, c.count_steps-steps.ensures.value))))
    (subst (λ (z : NodeState). CanRestoreEntries z (drop c.args.step (history c.self.inside.chronicle.journal.histories c.args.node.number))) (sym (c.copy-then.ensures ∙ c.node.ensures.value))
    (can_peek c.self.inside.chip c.self.inside.chronicle.journal c.args.node.number c.args.step c.self.invariant.tied))

pub returns-clause-value : goal.returns-clause-value
returns-clause-value c =
    subst (λ (s : MachineState). (place : ℕ) → count_steps c.args.node.number (take place s.kept) ≡ c.args.step → record_of_node c.walk_node_back.new.now ≡ node_record_at (chip_of_machine (earlier_state s place)) c.args.node.number) c.self.view_is
    (λ place so_many. peeked c.self.inside.chip c.self.inside.chronicle.journal c.args.node.number place c.args.step c.walk_node_back.new.now c.self.invariant.tied so_many
    (c.walk_node_back.ensures
    ∙ ap (λ h. node_before_entries c.copy-then.result (drop c.args.step h)) (take_all c.count_steps-steps.result (history c.self.inside.chronicle.journal.histories c.args.node.number) (omega (arith, c.count_steps-steps.ensures.value)))
    ∙ ap (λ (z : NodeState). node_before_entries z (drop c.args.step (history c.self.inside.chronicle.journal.histories c.args.node.number))) (c.copy-then.ensures ∙ c.node.ensures.value)))

pub returns-clause-replays : goal.returns-clause-replays
returns-clause-replays c =
    subst (λ (s : MachineState). (place : ℕ) → replay s.load (take place s.kept) ≡ Some (chip_of_machine (earlier_state s place))) c.self.view_is
    (λ place. replays_earlier c.self.inside.chip c.self.inside.chronicle.journal place c.self.invariant.tied)

pub returns-then-step-steps-clause-replays : goal.returns-then-step-steps-clause-replays
returns-then-step-steps-clause-replays c =
    subst (λ (s : MachineState). (place : ℕ) → replay s.load (take place s.kept) ≡ Some (chip_of_machine (earlier_state s place))) c.self.view_is
    (λ place. replays_earlier c.self.inside.chip c.self.inside.chronicle.journal place c.self.invariant.tied)

pub returns-then-step-steps-clause-past : goal.returns-then-step-steps-clause-past
returns-then-step-steps-clause-past c =
    subst (λ (s : MachineState). IsNone {T = Node} None ↔ (count_steps c.args.node.number s.kept < c.args.step)) c.self.view_is
    (let many : c.count_steps-steps.result ≡ count_steps c.args.node.number (state_of c.self.inside.chip c.self.inside.chronicle.journal).kept =
    c.count_steps-steps.ensures.steps (whole_of c.self.inside.chip c.self.inside.chronicle.journal c.self.invariant.tied) ∙ kept_steps c.self.inside.chip c.self.inside.chronicle.journal c.args.node.number in
    none_past Node _ _ _ many c.if-step-steps.true)

pub returns-clause-past : goal.returns-clause-past
returns-clause-past c =
    subst (λ (s : MachineState). IsNone (Some c.walk_node_back.new.now) ↔ (count_steps c.args.node.number s.kept < c.args.step)) c.self.view_is
    (let many : c.count_steps-steps.result ≡ count_steps c.args.node.number (state_of c.self.inside.chip c.self.inside.chronicle.journal).kept =
    c.count_steps-steps.ensures.steps (whole_of c.self.inside.chip c.self.inside.chronicle.journal c.self.invariant.tied) ∙ kept_steps c.self.inside.chip c.self.inside.chronicle.journal c.args.node.number in
    some_within c.walk_node_back.new.now _ _ _ many c.if-step-steps.false)
