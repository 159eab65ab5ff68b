use Rattle.std.proofs.Common.{sym, ◌∙◌, ap, subst}
use Rattle.ga_journal.specs.Logs.{AreEventsSinceStep}
use Rattle.ga_lab.specs.Machine.{MachineState, has_step, machine_events_with_looks}
use Rattle.ga_lab.proofs.Explaining.{stands_counted, stands_kept}
use Rattle.ga_lab.proofs.Replays.{causes_tied}
use Rattle.ga_lab.proofs.lab.Lab.since.Goals as goal

pub events_with_looks_since_step-requires-clause-counted : goal.events_with_looks_since_step-requires-clause-counted
events_with_looks_since_step-requires-clause-counted c = stands_counted c.args.self.now c.args.from.0.number c.args.from.1 c.requires

pub events_with_looks_since_step-requires-clause-stands : goal.events_with_looks_since_step-requires-clause-stands
events_with_looks_since_step-requires-clause-stands c =
    stands_kept c.self.inside.chip c.self.inside.chronicle.journal c.args.from.0.number c.args.from.1
    (ap (λ (s : MachineState). has_step s c.args.from.0.number c.args.from.1) c.self.view_is ∙ c.requires)

pub returns-in-Ok-clause-ok : goal.returns-in-Ok-clause-ok
returns-in-Ok-clause-ok c =
    subst (λ z. AreEventsSinceStep z c.args.from.0.number c.args.from.1 c.args.other.number c.in-Ok.since.causes.items c.in-Ok.since.before c.in-Ok.since.steps)
    (sym (causes_tied c.self.inside.chip c.self.inside.chronicle.journal c.self.invariant.tied) ∙ ap machine_events_with_looks c.self.view_is) c.in-Ok.ensures.ok
