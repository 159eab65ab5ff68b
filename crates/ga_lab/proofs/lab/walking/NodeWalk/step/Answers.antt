use Rattle.std.proofs.Common.{◌≡◌, ◌≤◌, length, ap, subst, arith}
use Rattle.ga_event.specs.Told.{count_steps}
use Rattle.ga_journal.specs.Histories.{history}
use Rattle.ga_lab.specs.Machine.{NodeAtStep}
use Rattle.ga_lab.specs.inner.LabInvariant.{state_of}
use Rattle.ga_lab.proofs.Overwritten.{kept_long}
use Rattle.ga_lab.proofs.lab.walking.NodeWalk.step.Goals as goal

pub returns-clause-value : goal.returns-clause-value
returns-clause-value c = ap (λ (z : NodeAtStep). z.step) c.self.view_is

pub returns-clause-within : goal.returns-clause-within
returns-clause-within c =
    let w = c.self.inside in
    subst (λ (z : NodeAtStep). w.step ≤ count_steps z.node.number z.machine.kept) c.self.view_is
    (let long : length (history w.chronicle.now.journal.histories w.id.number) ≡ count_steps w.id.number (state_of w.chip.now w.chronicle.now.journal).kept =
    kept_long w.chip.now w.chronicle.now.journal w.id.number c.self.invariant.lab.tied in
    omega (arith, long, c.self.invariant.within))
