use Rattle.std.proofs.Common.{◌≤◌, length, subst}
use Rattle.ga_journal.specs.Histories.{BackwardEventsModel}
use Rattle.ga_journal.specs.Events.{kept_events_with_outcomes}
use Rattle.ga_journal.proofs.Down.{place_within}
use Rattle.ga_journal.proofs.journal.backward.BackwardEvents.place.Goals as goal

pub returns-clause-within : goal.returns-clause-within
returns-clause-within c =
    let b = c.self.inside in
    subst (λ (u : BackwardEventsModel). b.place ≤ length (kept_events_with_outcomes u.book)) c.self.view_is (place_within b.journal.now b.lengths b.top b.place c.self.invariant)
