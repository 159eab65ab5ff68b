use Rattle.std.proofs.Common.{take, ◌∙◌, ap}
use Rattle.ga_event.specs.Told.{count_steps}
use Rattle.ga_lab.specs.Machine.{BackwardState}
use Rattle.ga_lab.proofs.Replays.{steps_before}
use Rattle.ga_lab.proofs.lab.backward.BackwardReader.steps.Goals as goal

pub returns : goal.returns
returns c =
    c.steps.ensures ∙ steps_before c.self.inside.chip.now c.self.inside.walk.book c.self.inside.walk.place c.args.node.number
    ∙ ap (λ (t : BackwardState). count_steps c.args.node.number (take t.place t.machine.kept)) c.self.view_is
