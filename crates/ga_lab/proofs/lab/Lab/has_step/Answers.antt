use Rattle.std.proofs.Common.{◌∙◌, ap, subst}
use Rattle.ga_lab.specs.Machine.{MachineState, has_step}
use Rattle.ga_lab.proofs.Stepping.{whole_of}
use Rattle.ga_lab.proofs.Replays.{IsReplayed, replayed_tied}
use Rattle.ga_lab.proofs.Explaining.{stands_read}
use Rattle.ga_lab.proofs.lab.Lab.has_step.Goals as goal

pub returns-then-step-ge1-clause-value : goal.returns-then-step-ge1-clause-value
returns-then-step-ge1-clause-value c =
    stands_read c.self.inside.chip c.self.inside.chronicle.journal c.args.step.0.number c.args.step.1 c.count_steps.result c.if-step-ge1.true
    (c.count_steps.ensures.steps (whole_of c.self.inside.chip c.self.inside.chronicle.journal c.self.invariant.tied))
    ∙ ap (λ (s : MachineState). has_step s c.args.step.0.number c.args.step.1) c.self.view_is

pub returns-then-step-ge1-clause-caused : goal.returns-then-step-ge1-clause-caused
returns-then-step-ge1-clause-caused c =
    subst IsReplayed c.self.view_is (replayed_tied c.self.inside.chip c.self.inside.chronicle.journal c.self.invariant.tied)

pub returns-else-step-ge1-clause-caused : goal.returns-else-step-ge1-clause-caused
returns-else-step-ge1-clause-caused c =
    subst IsReplayed c.self.view_is (replayed_tied c.self.inside.chip c.self.inside.chronicle.journal c.self.invariant.tied)
