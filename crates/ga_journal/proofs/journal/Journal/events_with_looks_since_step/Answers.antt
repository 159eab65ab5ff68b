use Rattle.std.proofs.Common.{◌≡◌, ◌≤◌, length, sym, ◌∙◌, ap, subst}
use Rattle.ga_journal.specs.Histories.{JournalState, history}
use Rattle.ga_journal.specs.inner.Histories.{entry_lists_of_histories}
use Rattle.ga_journal.specs.Events.{journal_events_with_looks, journal_events}
use Rattle.ga_event.specs.Told.{count_steps}
use Rattle.ga_journal.specs.Logs.{AreHistoriesOfSomeLog}
use Rattle.ga_journal.proofs.Down.{since_kept, since_short}
use Rattle.ga_journal.proofs.Keeping.{fits}
use Rattle.ga_journal.proofs.Logs.{steps_log}
use Rattle.ga_journal.proofs.Recalling.{WalkOf, walk_of, same_causes}
use Rattle.ga_journal.proofs.journal.Journal.events_with_looks_since_step.Goals as goal

pub walk_down-requires-clause-fits : goal.walk_down-requires-clause-fits
walk_down-requires-clause-fits c n = fits c.self.inside.histories c.self.inside.top c.self.inside.made c.self.inside.kept c.self.inside.limit n c.self.invariant.keeps

pub walk_down-requires-clause-walk : goal.walk_down-requires-clause-walk
walk_down-requires-clause-walk c =
    let whole : AreHistoriesOfSomeLog (entry_lists_of_histories c.self.inside.histories) c.self.inside.made = subst (λ (b : JournalState). AreHistoriesOfSomeLog b.histories b.made) (sym c.self.view_is) c.requires.whole in
    let w : WalkOf c.self.inside.histories c.self.inside.top c.self.inside.made c.self.inside.kept = walk_of c.self.inside.histories c.self.inside.top c.self.inside.made c.self.inside.kept c.self.inside.limit c.self.invariant.keeps whole in
    (w.log, w.long, w.below)

pub walk_down-requires-clause-stands : goal.walk_down-requires-clause-stands
walk_down-requires-clause-stands c =
    let e : length (history c.args.self.now.histories c.args.from.0.number) ≡ count_steps c.args.from.0.number (journal_events c.args.self.now) = steps_log c.args.self.now c.args.from.0.number c.requires.whole in
    subst (λ (b : JournalState). c.args.from.1 ≤ length (history b.histories c.args.from.0.number)) (sym c.self.view_is) (subst (λ z. c.args.from.1 ≤ z) (sym e) c.requires.stands)

pub returns-clause-ok : goal.returns-clause-ok
returns-clause-ok c =
    let whole : AreHistoriesOfSomeLog (entry_lists_of_histories c.self.inside.histories) c.self.inside.made = subst (λ (b : JournalState). AreHistoriesOfSomeLog b.histories b.made) (sym c.self.view_is) c.requires.whole in
    let w : WalkOf c.self.inside.histories c.self.inside.top c.self.inside.made c.self.inside.kept = walk_of c.self.inside.histories c.self.inside.top c.self.inside.made c.self.inside.kept c.self.inside.limit c.self.invariant.keeps whole in
    since_kept c.walk_down.result c.self.inside.histories c.self.inside.top c.self.inside.kept c.args.from.0.number c.args.from.1 c.args.other.number w.log (journal_events_with_looks c.args.self.now) c.walk_down.ensures.ok w.long w.below
    (same_causes c.self.inside.histories c.self.inside.top c.self.inside.made c.self.inside.kept w ∙ ap (λ (b : JournalState). journal_events_with_looks b) c.self.view_is)

pub returns-clause-short : goal.returns-clause-short
returns-clause-short c =
    since_short c.walk_down.result c.self.inside.histories c.self.inside.top c.self.inside.made c.self.inside.kept c.self.inside.limit c.self.invariant.keeps c.walk_down.ensures.short
