use Rattle.std.proofs.Common.{◌≡◌, length, sym, ◌∙◌, ap, subst}
use Rattle.std.proofs.lemmas.List.{length-map}
use Rattle.ga_event.specs.declared.event.EventWithLook.{EventWithLook}
use Rattle.ga_lab.specs.Machine.{MachineState, machine_events_with_looks}
use Rattle.ga_lab.proofs.Replays.{IsReplayed, causes_tied, replayed_tied}
use Rattle.ga_lab.proofs.Explaining.{step_has_position}
use Rattle.ga_lab.proofs.lab.Lab.causes.Goals as goal

pub returns-in-Ok-clause-ok : goal.returns-in-Ok-clause-ok
returns-in-Ok-clause-ok c =
    c.in-Ok.ensures.ok ∙ sym (causes_tied c.self.inside.chip c.self.inside.chronicle.journal c.self.invariant.tied) ∙ ap machine_events_with_looks c.self.view_is

as_long : (s : MachineState) → IsReplayed s → length (machine_events_with_looks s) ≡ length s.kept
as_long s same = sym (length-map (machine_events_with_looks s) (λ (e : EventWithLook). e.event)) ∙ ap length same

pub returns-in-Ok-clause-size : goal.returns-in-Ok-clause-size
returns-in-Ok-clause-size c =
    as_long c.args.self.now (subst IsReplayed c.self.view_is (replayed_tied c.self.inside.chip c.self.inside.chronicle.journal c.self.invariant.tied))

pub returns-in-Err-clause-size : goal.returns-in-Err-clause-size
returns-in-Err-clause-size c =
    as_long c.args.self.now (subst IsReplayed c.self.view_is (replayed_tied c.self.inside.chip c.self.inside.chronicle.journal c.self.invariant.tied))

pub returns-in-Ok-clause-places : goal.returns-in-Ok-clause-places
returns-in-Ok-clause-places c n k =
    step_has_position c.args.self.now n k (subst IsReplayed c.self.view_is (replayed_tied c.self.inside.chip c.self.inside.chronicle.journal c.self.invariant.tied))

pub returns-in-Err-clause-places : goal.returns-in-Err-clause-places
returns-in-Err-clause-places c n k =
    step_has_position c.args.self.now n k (subst IsReplayed c.self.view_is (replayed_tied c.self.inside.chip c.self.inside.chronicle.journal c.self.invariant.tied))
