use Rattle.std.proofs.Common.{◌≡◌, length, sym, ◌∙◌, ap}
use Rattle.ga_event.specs.Told.{count_steps, made_events_of_node}
use Rattle.ga_journal.specs.Histories.{history}
use Rattle.ga_journal.proofs.Telling.{mades_log, entries_long}
use Rattle.ga_lab.specs.Machine.{MachineState, history_of_node}
use Rattle.ga_lab.specs.inner.LabInvariant.{state_of}
use Rattle.ga_lab.proofs.Stepping.{whole_of}
use Rattle.ga_lab.proofs.Replays.{kept_steps, told_tied}
use Rattle.ga_lab.proofs.lab.Lab.steps.Goals as goal

pub returns-clause-steps : goal.returns-clause-steps
returns-clause-steps c =
    let many : c.count_steps.result ≡ count_steps c.args.node.number (state_of c.self.inside.chip c.self.inside.chronicle.journal).kept =
    c.count_steps.ensures.steps (whole_of c.self.inside.chip c.self.inside.chronicle.journal c.self.invariant.tied) ∙ kept_steps c.self.inside.chip c.self.inside.chronicle.journal c.args.node.number in
    many ∙ ap (λ (s : MachineState). count_steps c.args.node.number s.kept) c.self.view_is

pub returns-clause-told : goal.returns-clause-told
returns-clause-told c =
    let chip = c.self.inside.chip in
    let book = c.self.inside.chronicle.journal in
    c.count_steps.ensures.value
    ∙ sym (entries_long c.args.node 0 (history book.histories c.args.node.number))
    ∙ ap length (mades_log book c.args.node (whole_of chip book c.self.invariant.tied) ∙ ap (λ z. made_events_of_node z c.args.node.number) (sym (told_tied chip book c.self.invariant.tied)))
    ∙ ap (λ (s : MachineState). length (history_of_node s c.args.node.number)) c.self.view_is
