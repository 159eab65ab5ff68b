use Rattle.std.proofs.Common.{◌≡◌, ◌<◌, ◌∙◌, length, sym, subst, arith}
use Rattle.std.proofs.lemmas.List.{length-map}
use Rattle.ga_journal.specs.Histories.{JournalState}
use Rattle.ga_journal.specs.inner.Histories.{entry_lists_of_histories, entry_records_of_held}
use Rattle.ga_journal.specs.Logs.{AreHistoriesOfSomeLog}
use Rattle.ga_journal.specs.Events.{kept_events_with_outcomes}
use Rattle.ga_journal.proofs.Keeping.{count_within, append_keeps, whole_more, back_more}
use Rattle.ga_journal.proofs.Marking.{append_within, append_matched}
use Rattle.ga_journal.proofs.Logs.{is_made}
use Rattle.ga_journal.proofs.journal.Journal.make_logged_event.Goals as goal

pub make_event-made-requires-clause-fits : goal.make_event-made-requires-clause-fits
make_event-made-requires-clause-fits c n =
    let room : length (kept_events_with_outcomes c.args.self.now) < c.args.self.now.limit = c.requires.ready.unfilled in
    let unfilled = subst (λ (b : JournalState). length (kept_events_with_outcomes b) < b.limit) (sym c.self.view_is) room in
    let q = count_within (entry_lists_of_histories c.self.inside.histories) c.self.inside.top c.self.inside.made n c.self.invariant.keeps.rise c.self.invariant.keeps.below in
    omega (arith, q, unfilled, c.self.invariant.keeps.fits)

pub invariant_of-self : goal.invariant_of-self
invariant_of-self c =
    let room : length (kept_events_with_outcomes c.args.self.now) < c.args.self.now.limit = c.requires.ready.unfilled in
    let unfilled = subst (λ (b : JournalState). length (kept_events_with_outcomes b) < b.limit) (sym c.self.view_is) room in
    let size : length (entry_lists_of_histories c.self.inside.histories) ≡ 144 = length-map c.self.inside.histories entry_records_of_held ∙ c.self.invariant.keeps.size in
    let added = c.make_event-made.ensures.added in
    record {
      keeps = append_keeps c.self.inside.histories c.make_event-made.new.self c.self.inside.top c.self.inside.made c.self.inside.kept c.self.inside.limit c.args.event added.effect
          c.self.invariant.keeps added.histories added.applied.of_kind (subst (λ z. z < c.self.inside.limit) (sym c.self.invariant.keeps.count) unfilled) c.make_event-made.ensures.size;
      go_within = append_within (entry_lists_of_histories c.self.inside.histories) (entry_lists_of_histories c.make_event-made.new.self) c.self.inside.made c.args.event added.effect c.self.inside.going added.histories added.applied.of_kind size c.self.invariant.go_within;
      going_size = c.self.invariant.going_size;
      waiting_size = c.self.invariant.waiting_size;
      matched = append_matched (entry_lists_of_histories c.self.inside.histories) (entry_lists_of_histories c.make_event-made.new.self) c.self.inside.made c.args.event added.effect
          (subst (λ (b : JournalState). AreHistoriesOfSomeLog b.histories b.made) (sym c.self.view_is) c.requires.whole) added.histories added.applied.of_kind;
    }

pub returns-clause-made : goal.returns-clause-made
returns-clause-made c = is_made _ c.args.self.now c.args.chip.now c.make_event-made.new.chip c.args.event c.make_event-made.result _ _ c.self.view_is c.requires.whole c.make_event-made.ensures.added

pub returns-clause-whole : goal.returns-clause-whole
returns-clause-whole c =
    let added = c.make_event-made.ensures.added in
    whole_more (entry_lists_of_histories c.self.inside.histories) (entry_lists_of_histories c.make_event-made.new.self) c.self.inside.made c.args.event added.effect
    (subst (λ (b : JournalState). AreHistoriesOfSomeLog b.histories b.made) (sym c.self.view_is) c.requires.whole) added.applied.of_kind added.histories

pub returns-clause-back : goal.returns-clause-back
returns-clause-back c =
    let added = c.make_event-made.ensures.added in
    back_more (entry_lists_of_histories c.self.inside.histories) (entry_lists_of_histories c.make_event-made.new.self) c.make_event-made.new.chip c.self.inside.made c.args.event added.effect
    (subst (λ (b : JournalState). AreHistoriesOfSomeLog b.histories b.made) (sym c.self.view_is) c.requires.whole) added.applied.of_kind added.histories added.applied.ready
