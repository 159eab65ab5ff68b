use Rattle.std.proofs.Common.{◌≡◌, ℕ, get_or, sym, ap, subst, []}
use Rattle.ga_journal.specs.Histories.{JournalState}
use Rattle.ga_journal.specs.inner.Histories.{entry_lists_of_histories, capacities_of_histories, IsNodeOfNewestEntry}
use Rattle.ga_journal.specs.Events.{kept_events_with_outcomes}
use Rattle.ga_journal.specs.Logs.{AreHistoriesOfLog, AreHistoriesOfSomeLog}
use Rattle.ga_journal.specs.Popped.{HasUndoableNewestEvent}
use Rattle.ga_journal.proofs.Keeping.{none_kept, newest_is, pop_keeps, popped_by, whole_less}
use Rattle.ga_journal.proofs.Recalling.{topmost_kept}
use Rattle.ga_journal.proofs.Marking.{none_go, pop_matched}
use Rattle.ga_journal.proofs.journal.Journal.undo.Goals as goal

pub returns-then-self-eq0-clause-none : goal.returns-then-self-eq0-clause-none
returns-then-self-eq0-clause-none c =
    subst (λ (b : JournalState). kept_events_with_outcomes b ≡ []) c.self.view_is (none_kept c.self.inside.histories c.self.inside.top c.self.inside.made c.self.inside.kept c.self.inside.limit c.self.invariant.keeps c.if-self-eq0.true)

pub last_stamp-stamp-requires : goal.last_stamp-stamp-requires
last_stamp-stamp-requires c =
    let back : HasUndoableNewestEvent c.args.chip.now (entry_lists_of_histories c.self.inside.histories) c.self.inside.made = subst (λ (b : JournalState). HasUndoableNewestEvent c.args.chip.now b.histories b.made) (sym c.self.view_is) c.requires.back in
    (topmost_kept c.self.inside.histories c.self.inside.top c.self.inside.made c.self.inside.kept c.self.inside.limit c.newest-node.result.number c.self.invariant.keeps (record { log = back.log; records = back.records }) c.if-self-eq0.false c.newest-node.ensures).some

pub invariant_of-self : goal.invariant_of-self
invariant_of-self c =
    let back : HasUndoableNewestEvent c.args.chip.now (entry_lists_of_histories c.self.inside.histories) c.self.inside.made = subst (λ (b : JournalState). HasUndoableNewestEvent c.args.chip.now b.histories b.made) (sym c.self.view_is) c.requires.back in
    let settled : (n : ℕ) → get_or c.self.inside.going n 0 ≡ 0 = subst (λ (b : JournalState). (n : ℕ) → get_or b.going n 0 ≡ 0) (sym c.self.view_is) c.requires.rest.settled in
    let out = c.undo_event.ensures.state_after_undo in
    let top : IsNodeOfNewestEntry (entry_lists_of_histories c.self.inside.histories) c.newest-node.result.number = topmost_kept c.self.inside.histories c.self.inside.top c.self.inside.made c.self.inside.kept c.self.inside.limit c.newest-node.result.number c.self.invariant.keeps (record { log = back.log; records = back.records }) c.if-self-eq0.false c.newest-node.ensures in
    let newest = out.newest back.log c.self.inside.made back.records in
    record {
      keeps = pop_keeps back.log c.self.inside.histories c.undo_event.new.self c.self.inside.top c.self.inside.made c.self.inside.kept c.self.inside.limit c.last_stamp-stamp.result.0 c.undo_event.result out.effect
          c.self.invariant.keeps back.records
          (newest_is back.log c.self.inside.made (entry_lists_of_histories c.self.inside.histories) c.newest-node.result c.last_stamp-stamp.result.0 back.records top c.last_stamp-stamp.ensures)
          newest c.undo_event.ensures.size;
      go_within = none_go (entry_lists_of_histories c.undo_event.new.self) c.self.inside.going settled;
      going_size = c.self.invariant.going_size;
      waiting_size = c.self.invariant.waiting_size;
      matched = pop_matched back.log (entry_lists_of_histories c.self.inside.histories) (entry_lists_of_histories c.undo_event.new.self) c.self.inside.made c.undo_event.result out.effect back.records newest;
    }

pub returns-clause-some : goal.returns-clause-some
returns-clause-some c =
    let out = c.undo_event.ensures.state_after_undo in
    let whole : AreHistoriesOfSomeLog c.args.self.now.histories c.args.self.now.made = record { log = c.requires.back.log; records = c.requires.back.records } in
    record {
      effect = out.effect;
      popped = popped_by c.args.self.now _ c.undo_event.result out.effect whole
          (λ log made r. out.newest log made (subst (λ (b : JournalState). AreHistoriesOfLog log b.histories made) (sym c.self.view_is) r))
          (ap (λ (b : JournalState). let n : JournalState = record { histories = entry_lists_of_histories c.undo_event.new.self; limit = b.limit; made = b.made; ready = capacities_of_histories c.undo_event.new.self; going = b.going; waiting = b.waiting; ticks = b.ticks } in n) c.self.view_is);
      chip_is = out.chip_is;
    }

pub returns-clause-whole : goal.returns-clause-whole
returns-clause-whole c =
    let back : HasUndoableNewestEvent c.args.chip.now (entry_lists_of_histories c.self.inside.histories) c.self.inside.made = subst (λ (b : JournalState). HasUndoableNewestEvent c.args.chip.now b.histories b.made) (sym c.self.view_is) c.requires.back in
    let out = c.undo_event.ensures.state_after_undo in
    whole_less back.log (entry_lists_of_histories c.self.inside.histories) (entry_lists_of_histories c.undo_event.new.self) c.self.inside.made c.undo_event.result out.effect
    back.records (out.newest back.log c.self.inside.made back.records)
