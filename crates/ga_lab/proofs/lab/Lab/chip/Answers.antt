use Rattle.std.proofs.Common.{◌≡◌, sym, ◌∙◌, ap, subst}
use Rattle.std.specs.Prelude.{Some}
use Rattle.ga_event.specs.Apply.{replay}
use Rattle.ga_lab.specs.Machine.{MachineState, chip_of_machine}
use Rattle.ga_lab.proofs.Replays.{chip_of_tied, replays_tied}
use Rattle.ga_lab.proofs.lab.Lab.chip.Goals as goal

pub returns-clause-value : goal.returns-clause-value
returns-clause-value c = sym (chip_of_tied c.self.inside.chip c.self.inside.chronicle.journal c.self.invariant.tied) ∙ ap chip_of_machine c.self.view_is

pub returns-clause-replays : goal.returns-clause-replays
returns-clause-replays c =
    subst (λ (s : MachineState). replay s.load s.kept ≡ Some (chip_of_machine s)) c.self.view_is (replays_tied c.self.inside.chip c.self.inside.chronicle.journal c.self.invariant.tied)
