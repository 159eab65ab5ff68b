use Rattle.std.proofs.Common.{length, sym, ◌∙◌, ap, subst}
use Rattle.ga_journal.specs.Histories.{BackwardEventsModel}
use Rattle.ga_lab.specs.Machine.{MachineState, backward_state}
use Rattle.ga_lab.specs.inner.LabInvariant.{IsLab, state_of}
use Rattle.ga_lab.specs.inner.Walking.{backward_state_of_journal}
use Rattle.ga_lab.proofs.Stepping.{kept_count}
use Rattle.ga_lab.proofs.lab.Lab.backward_reader.Goals as goal

pub invariant_of-result : goal.invariant_of-result
invariant_of-result c = subst (λ (w : BackwardEventsModel). IsLab c.self.inside.chip w.book) (sym c.backward_reader.ensures) c.self.invariant

pub returns : goal.returns
returns c =
    ap (λ (w : BackwardEventsModel). backward_state_of_journal c.self.inside.chip w) c.backward_reader.ensures
    ∙ ap (λ n. backward_state (state_of c.self.inside.chip c.self.inside.chronicle.journal) n) (kept_count c.self.inside.chip c.self.inside.chronicle.journal)
    ∙ ap (λ (s : MachineState). backward_state s (length s.kept)) c.self.view_is
