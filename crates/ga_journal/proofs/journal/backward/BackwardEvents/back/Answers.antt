use Rattle.std.proofs.Common.{◌≡◌, ◌-◌, ◌<◌, List, Some, subst, arith}
use Rattle.ga_event.specs.Told.{made_event_at_place}
use Rattle.ga_journal.specs.Histories.{JournalState, BackwardEventsModel}
use Rattle.ga_journal.specs.Logs.{StampedEvent}
use Rattle.ga_journal.specs.Events.{kept_events_with_outcomes}
use Rattle.ga_journal.specs.inner.Histories.{AreCutHistoriesOfLog, IsNewestLogEventAsMade, AreCutHistoriesOfOlderEvents}
use Rattle.ga_journal.proofs.Down.{told_next, left_next}
use Rattle.ga_journal.proofs.journal.backward.BackwardEvents.back.Goals as goal

pub invariant_of-self : goal.invariant_of-self
invariant_of-self c =
    let b = c.self.inside in
    let some : 0 < b.place = let h = c.if-self-eq0.false in omega (arith, h) in
    left_next b.journal.now b.lengths c.back-made.new.lengths b.top c.back-made.new.top b.place some c.back-made.ensures.size c.self.invariant
    (subst (λ (k : JournalState). (log : List StampedEvent) → AreCutHistoriesOfLog k.histories b.lengths b.top log → AreCutHistoriesOfOlderEvents k.histories c.back-made.new.lengths c.back-made.new.top log) c.journal.view_is c.back-made.ensures.left)

pub returns-clause-some : goal.returns-clause-some
returns-clause-some c =
    let b = c.self.inside in
    let some : 0 < b.place = let h = c.if-self-eq0.false in omega (arith, h) in
    subst (λ (u : BackwardEventsModel). made_event_at_place (kept_events_with_outcomes u.book) (u.place - 1) ≡ Some c.back-made.result.1) c.self.view_is
    (told_next b.journal.now b.lengths b.top b.place c.back-made.result.0 c.back-made.result.1 some c.self.invariant
    (subst (λ (k : JournalState). (log : List StampedEvent) → AreCutHistoriesOfLog k.histories b.lengths b.top log → IsNewestLogEventAsMade log c.back-made.result.0 c.back-made.result.1) c.journal.view_is c.back-made.ensures.first))
