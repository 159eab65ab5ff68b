use Rattle.std.proofs.Common.{◌≤◌, ◌↔◌, length, sym, ◌∙◌, ap, subst}
use Rattle.std.specs.Prelude.{IsNone}
use Rattle.ga_event.specs.Told.{made_event_at_place}
use Rattle.ga_lab.specs.Machine.{MachineState, machine_events_with_outcomes}
use Rattle.ga_lab.proofs.Replays.{told_tied}
use Rattle.ga_lab.proofs.Stepping.{kept_count}
use Rattle.ga_lab.proofs.lab.Lab.made_event_at.Goals as goal

pub returns-clause-value : goal.returns-clause-value
returns-clause-value c =
    c.made_event_at.ensures.value ∙ ap (λ z. made_event_at_place z c.args.place) (sym (told_tied c.self.inside.chip c.self.inside.chronicle.journal c.self.invariant.tied))
    ∙ ap (λ (s : MachineState). made_event_at_place (machine_events_with_outcomes s) c.args.place) c.self.view_is

pub returns-clause-past : goal.returns-clause-past
returns-clause-past c =
    subst (λ z. IsNone c.made_event_at.result ↔ (z ≤ c.args.place))
    (kept_count c.self.inside.chip c.self.inside.chronicle.journal ∙ ap (λ (s : MachineState). length s.kept) c.self.view_is) c.made_event_at.ensures.past
