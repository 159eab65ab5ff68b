use Rattle.std.proofs.Common.{◌≡◌, ◌∙◌, ◌<◌, ℕ, length, map, Some, All, IfOk, ap, sym, subst}
use Rattle.ga_event.specs.Told.{made_event_at_place}
use Rattle.ga_journal.specs.Histories.{JournalState}
use Rattle.ga_journal.specs.inner.Histories.{entry_lists_of_histories}
use Rattle.ga_journal.specs.Events.{kept_events_with_outcomes}
use Rattle.ga_journal.specs.Logs.{AreHistoriesOfSomeLog}
use Rattle.ga_journal.proofs.Keeping.{fits}
use Rattle.ga_journal.proofs.Down.{placed}
use Rattle.ga_journal.proofs.Recalling.{WalkOf, walk_of}
use Rattle.ga_journal.proofs.journal.Journal.made_events_at.Goals as goal

pub recall_all-requires-clause-fits : goal.recall_all-requires-clause-fits
recall_all-requires-clause-fits c n = fits c.self.inside.histories c.self.inside.top c.self.inside.made c.self.inside.kept c.self.inside.limit n c.self.invariant.keeps

pub recall_all-requires-clause-walk : goal.recall_all-requires-clause-walk
recall_all-requires-clause-walk c =
    let whole : AreHistoriesOfSomeLog (entry_lists_of_histories c.self.inside.histories) c.self.inside.made = subst (λ (b : JournalState). AreHistoriesOfSomeLog b.histories b.made) (sym c.self.view_is) c.requires.whole in
    let w : WalkOf c.self.inside.histories c.self.inside.top c.self.inside.made c.self.inside.kept = walk_of c.self.inside.histories c.self.inside.top c.self.inside.made c.self.inside.kept c.self.inside.limit c.self.invariant.keeps whole in
    (w.log, w.long, w.below)

pub returns-clause-ok : goal.returns-clause-ok
returns-clause-ok c =
    let whole : AreHistoriesOfSomeLog (entry_lists_of_histories c.self.inside.histories) c.self.inside.made = subst (λ (b : JournalState). AreHistoriesOfSomeLog b.histories b.made) (sym c.self.view_is) c.requires.whole in
    let w : WalkOf c.self.inside.histories c.self.inside.top c.self.inside.made c.self.inside.kept = walk_of c.self.inside.histories c.self.inside.top c.self.inside.made c.self.inside.kept c.self.inside.limit c.self.invariant.keeps whole in
    let count : length (kept_events_with_outcomes c.args.self.now) ≡ c.self.inside.kept = ap (λ (b : JournalState). length (kept_events_with_outcomes b)) (sym c.self.view_is) ∙ sym c.self.invariant.keeps.count in
    subst (λ (b : JournalState). IfOk c.recall_all.result (λ list. map Some list.items ≡ map (made_event_at_place (kept_events_with_outcomes b)) c.args.places.now)) c.self.view_is
    (placed c.recall_all.result c.self.inside.histories c.self.inside.top c.self.inside.made c.self.inside.kept c.args.places.now w
    (subst (λ (n : ℕ). All (λ (place : ℕ). place < n) c.args.places.now) count c.requires.within) c.recall_all.ensures.ok)
