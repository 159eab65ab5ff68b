-- What a rollback would take, by the marks alone.
use Rattle.std.proofs.Common.{◌≡◌, ℕ, suc, ◌+◌, ◌-◌, ◌*◌, ◌<◌, ◌≤◌, false, List, [], length, take, get_or, set, refl, sym, ⊎_elim, get_or-set_same, get_or-set_other, ◌≢◌, ◌∙◌, ap, subst, arith, ext_get_or, length-set}
use Rattle.std.specs.List.{sum_by}
use Rattle.std.proofs.lemmas.Bool.{cases_eq, cases_lt}
use Rattle.std.proofs.lemmas.List.{length-take-le, set_past}
use Rattle.std.proofs.lemmas.List.Sums.{sum_by-set}
use Rattle.ga_journal.specs.Histories.{work_with_tick, EntryRecord, JournalState, history}
use Rattle.ga_journal.specs.Events.{kept_events_with_outcomes, journal_events_with_looks, journal_events}
use Rattle.ga_event.specs.Told.{count_steps, events_of_causes}
use Rattle.ga_journal.specs.Logs.{StampedEvent, histories_of_log, IsStampedLog, AreHistoriesOfSomeLog}
use Rattle.ga_journal.specs.inner.Histories.{events_with_looks_oldest_first}
use Rattle.ga_journal.specs.Marks.{HasValidMarks, mark_of_node, entries_to_remove, is_node_pending, entry_counts_event_at, journal_with_raised_mark, HasNoRollbackUnderWay}
use Rattle.ga_journal.specs.inner.Marks.{to_go}
use Rattle.ga_journal.proofs.Logs.{steps_log, length-built}
use Rattle.ga_causal.specs.Dependence.{events_after_rewind}
use Rattle.ga_causal.proofs.Places.{touching_in}
use Rattle.ga_rollback.specs.Rolled.{without_dropped_events}
use Rattle.ga_rollback.specs.Rewound.{IsRollbackForecast}
use Rattle.ga_rollback.specs.inner.{histories_to_stay, AreRollbackMarks, IsUnseenByLooks, count_events_of_entries, count_events_of_histories, count_events_to_keep, count_events_of_entry, AreSomeMarksRaised, AreLoweringTicksBounded}
use Rattle.ga_rollback.proofs.Counted.{sum_none, counted_next, counted_fewer, counted_log}
use Rattle.ga_rollback.proofs.Lowering.{staying_lost, length-histories_to_stay, staying_at, staying_set, staying_none, node_within}
use Rattle.ga_rollback.proofs.Link.{gone, left_cut, left_log}
use Rattle.ga_rollback.proofs.Causes.{length_older, steps_older}
use Rattle.ga_rollback.proofs.Rewinding.{IsCut, is_cut, causes_log, number_log, same_length}

-- nothing is raised yet
pub raising_none : (first : JournalState) → HasValidMarks first → AreSomeMarksRaised first first 0
raising_none first sound = record {
  others = refl;
  sized = sound.going_size;
  tick_counted = refl;
  number = omega arith;
}

-- one entry more
pub raising_more : (first book : JournalState) (events n : ℕ) (new : JournalState) (now : ℕ) → HasValidMarks book → AreSomeMarksRaised first book events → mark_of_node book n < length (history book.histories n) → new ≡ journal_with_raised_mark book n
    → now ≡ events + count_events_of_entry (entry_counts_event_at book.histories n (mark_of_node book n)) → AreSomeMarksRaised first new now
raising_more first book events n new now sound raising some same counted =
    let in_book : n < length book.histories = node_within book.histories n (mark_of_node book n) some in
    let in_going : n < length book.going = (let a = sound.size in let b = sound.going_size in omega arith) in
    let h : List EntryRecord = history book.histories n in
    let within : get_or book.going n 0 ≤ length h = sound.within n in
    let place : length h - (get_or book.going n 0 - 1) ≡ suc (length h - get_or book.going n 0) = omega arith in
    let stay : count_events_of_histories (histories_to_stay book.histories (set book.going n (get_or book.going n 0 - 1))) + count_events_of_entries (take (length h - get_or book.going n 0) h) ≡ count_events_of_histories (histories_to_stay book.histories book.going) + count_events_of_entries (take (length h - (get_or book.going n 0 - 1)) h) =
    staying_set count_events_of_entries book.histories book.going n (get_or book.going n 0 - 1) (sound.size ∙ sym sound.going_size) in_book in
    let one : count_events_of_entries (take (length h - (get_or book.going n 0 - 1)) h) ≡ count_events_of_entries (take (length h - get_or book.going n 0) h) + count_events_of_entry (entry_counts_event_at book.histories n (mark_of_node book n)) =
    ap (λ z. count_events_of_entries (take z h)) place ∙ counted_next (length h - get_or book.going n 0) h in
    let go : sum_by (λ (x : ℕ). x) (set book.going n (get_or book.going n 0 - 1)) + get_or book.going n 0 ≡ sum_by (λ (x : ℕ). x) book.going + (get_or book.going n 0 - 1) =
    sum_by-set (λ (x : ℕ). x) book.going n (get_or book.going n 0 - 1) 0 in_going in
    let after : AreSomeMarksRaised first (journal_with_raised_mark book n) now = record {
      others = ap (λ (b : JournalState). record b { going = set book.going n (get_or book.going n 0 - 1); ticks = work_with_tick book.ticks }) raising.others;
      sized = length-set book.going n (get_or book.going n 0 - 1) ∙ raising.sized;
      tick_counted = let a = raising.tick_counted in omega arith;
      number = let a = raising.number in omega arith;
    } in
    subst (λ z. AreSomeMarksRaised first z now) (sym same) after

-- there is room for the events
pub raising_few : (first book : JournalState) (events n most : ℕ) → HasValidMarks book → AreSomeMarksRaised first book events → mark_of_node book n < length (history book.histories n) → count_events_of_histories first.histories < most
    → events + count_events_of_entry (entry_counts_event_at book.histories n (mark_of_node book n)) < most
raising_few first book events n most sound raising some few =
    let after : AreSomeMarksRaised first (journal_with_raised_mark book n) (events + count_events_of_entry (entry_counts_event_at book.histories n (mark_of_node book n))) = raising_more first book events n (journal_with_raised_mark book n) _ sound raising some refl refl in
    let same : count_events_of_histories book.histories ≡ count_events_of_histories first.histories = ap (λ (b : JournalState). count_events_of_histories b.histories) raising.others in
    let a = after.number in
    let b = counted_fewer book.histories (journal_with_raised_mark book n).going in
    omega arith

-- the marks, raised
pub raised_less : (book new : JournalState) (n m : ℕ) → new ≡ journal_with_raised_mark book n → entries_to_remove book m ≡ 0 → entries_to_remove new m ≡ 0
raised_less book new n m same none =
    ap (λ (b : JournalState). get_or b.going m 0) same ∙ ⊎_elim
    (λ is. ⊎_elim
    (λ l. ap (λ z. get_or (set book.going n (get_or book.going n 0 - 1)) z 0) is ∙ get_or-set_same book.going n (get_or book.going n 0 - 1) 0 l ∙ (let a : get_or book.going n 0 ≡ 0 = ap (λ z. get_or book.going z 0) (sym is) ∙ none in omega arith))
    (λ l. ap (λ z. get_or z m 0) (set_past book.going n (get_or book.going n 0 - 1) l) ∙ none)
    (cases_lt n (length book.going)))
    (λ ne. get_or-set_other book.going n m (get_or book.going n 0 - 1) 0 ne ∙ none)
    (cases_eq m n)

pub raised_same : (book new : JournalState) (n m : ℕ) → new ≡ journal_with_raised_mark book n → m ≢ n → entries_to_remove new m ≡ entries_to_remove book m
raised_same book new n m same ne =
    ap (λ (b : JournalState). get_or b.going m 0) same ∙ get_or-set_other book.going n m (get_or book.going n 0 - 1) 0 ne

-- how many entries are to go falls
pub raised_fewer : (book new : JournalState) (n : ℕ) → HasValidMarks book → mark_of_node book n < length (history book.histories n) → new ≡ journal_with_raised_mark book n → to_go new < to_go book
raised_fewer book new n sound some same =
    let in_book : n < length book.histories = node_within book.histories n (mark_of_node book n) some in
    let go : sum_by (λ (x : ℕ). x) (set book.going n (get_or book.going n 0 - 1)) + get_or book.going n 0 ≡ sum_by (λ (x : ℕ). x) book.going + (get_or book.going n 0 - 1) =
    sum_by-set (λ (x : ℕ). x) book.going n (get_or book.going n 0 - 1) 0 (let a = sound.size in let b = sound.going_size in omega arith) in
    let is : to_go new ≡ sum_by (λ (x : ℕ). x) (set book.going n (get_or book.going n 0 - 1)) = ap to_go same in
    omega arith

-- all events are counted
pub counted_all : (old : JournalState) → AreHistoriesOfSomeLog old.histories old.made → count_events_of_histories old.histories ≡ length (kept_events_with_outcomes old)
counted_all old whole = ap count_events_of_histories whole.records.histories ∙ counted_log whole.log old.made whole.records.order ∙ sym (number_log whole.log old whole.records)

-- those that stay are counted by the entries that stay
counted_left : (log : List StampedEvent) (old mid : JournalState) (n j : ℕ) → IsStampedLog log old.made → HasValidMarks mid → IsCut log mid n j → count_events_to_keep mid ≡ length (without_dropped_events log (gone (mark_of_node mid) log))
counted_left log old mid n j order sound cut =
    let stay : List StampedEvent = without_dropped_events log (gone (mark_of_node mid) log) in
    let same : histories_to_stay mid.histories mid.going ≡ histories_of_log stay =
    ext_get_or [] (histories_to_stay mid.histories mid.going) (histories_of_log stay) (length-histories_to_stay mid.histories mid.going ∙ sound.size ∙ sym (length-built stay))
    (λ m l. staying_at mid.histories mid.going m (sound.size ∙ sym sound.going_size)
    ∙ ap (λ z. take (mark_of_node mid m) (history z m)) cut.same
    ∙ sym (left_cut (mark_of_node mid) log old.made order cut.closed m)) in
    ap count_events_of_histories same ∙ counted_log stay old.made (left_log log (gone (mark_of_node mid) log) old.made order)

pub would_go : (old mid new : JournalState) (n k events : ℕ) (steps : List ℕ) → AreHistoriesOfSomeLog old.histories old.made → 0 < k → k ≤ length (history old.histories n) → mid ≡ record old { going = mid.going; waiting = mid.waiting; ticks = mid.ticks }
    → AreRollbackMarks mid mid.going n (k - 1) → ((m : ℕ) → IsUnseenByLooks mid m) → AreSomeMarksRaised mid new events → ((m : ℕ) → entries_to_remove new m ≡ 0) → ((m : ℕ) → get_or steps m 0 ≡ entries_to_remove mid m)
    → IsRollbackForecast old n k events steps
would_go old mid new n k events steps whole some there same marked_nodes saw raising none each =
    let log : List StampedEvent = whole.log in
    let order : IsStampedLog log old.made = whole.records.order in
    let cut : IsCut log mid n (k - 1) = is_cut old n (k - 1) mid log whole.records (omega (arith, some, there)) same marked_nodes saw in
    let stay : List StampedEvent = without_dropped_events log (gone (mark_of_node mid) log) in
    let step : suc (k - 1) ≡ k = omega (arith, some) in
    let list : events_after_rewind (journal_events_with_looks old) n k ≡ events_with_looks_oldest_first stay =
    ap (λ z. events_after_rewind z n k) (causes_log log old whole.records) ∙ ap (events_after_rewind (events_with_looks_oldest_first log) n) (sym step) ∙ sym cut.events in
    let all : count_events_to_keep new ≡ length log =
    ap count_events_of_histories (staying_none new.histories new.going none) ∙ ap (λ (b : JournalState). count_events_of_histories b.histories) raising.others ∙ ap count_events_of_histories cut.same ∙ counted_log log old.made order in
    let few : count_events_to_keep mid ≡ length stay = counted_left log old mid n (k - 1) order marked_nodes.sound cut in
    let long : length (events_after_rewind (journal_events_with_looks old) n k) ≡ length stay = ap length list ∙ length_older stay in
    let total : length (journal_events old) ≡ length log = same_length old ∙ number_log log old whole.records in
    record {
      stands = (some, subst (λ z. k ≤ z) (steps_log old n whole) there);
      number = let a = raising.number in omega arith;
      each = λ m.
          let a = each m in
          let b : length (history old.histories m) ≡ count_steps m (journal_events old) = steps_log old m whole in
          let w : entries_to_remove mid m ≤ length (history mid.histories m) = marked_nodes.sound.within m in
          let h : length (history mid.histories m) ≡ length (history old.histories m) = ap (λ (z : JournalState). length (history z.histories m)) same in
          let i : length (history (histories_of_log log) m) ≡ length (history mid.histories m) = ap (λ z. length (history z m)) (sym cut.same) in
          let d : count_steps m (events_of_causes (events_after_rewind (journal_events_with_looks old) n k)) ≡ length (history (histories_of_log stay) m) =
          ap (λ z. count_steps m (events_of_causes z)) list ∙ sym (touching_in m (events_with_looks_oldest_first stay)) ∙ sym (steps_older stay old.made m (left_log log (gone (mark_of_node mid) log) old.made order)) in
          let e : length (history (histories_of_log stay) m) ≡ mark_of_node mid m =
          ap length (left_cut (mark_of_node mid) log old.made order cut.closed m) ∙ length-take-le (mark_of_node mid m) (history (histories_of_log log) m) (omega arith) in
          omega arith;
    }

-- the journal is as before, but for its ticks
pub as_before : (old mid new : JournalState) (events : ℕ) → HasValidMarks old → HasNoRollbackUnderWay old → HasValidMarks mid → mid ≡ record old { going = mid.going; waiting = mid.waiting; ticks = mid.ticks } → ((m : ℕ) → is_node_pending mid m ≡ false)
    → AreSomeMarksRaised mid new events → ((m : ℕ) → entries_to_remove new m ≡ 0) → new ≡ record old { ticks = new.ticks }
as_before old mid new events sound rest marks same idle raising none =
    let going : new.going ≡ old.going = ext_get_or 0 new.going old.going (raising.sized ∙ sym sound.going_size) (λ m l. none m ∙ sym (rest.settled m)) in
    let waiting : mid.waiting ≡ old.waiting = ext_get_or false mid.waiting old.waiting (marks.waiting_size ∙ sym sound.waiting_size) (λ m l. idle m ∙ sym (rest.idle m)) in
    raising.others
    ∙ ap (λ (b : JournalState). record b { going = new.going; ticks = new.ticks }) same
    ∙ ap (λ z. record old { going = z; waiting = mid.waiting; ticks = new.ticks }) going
    ∙ ap (λ z. record old { waiting = z; ticks = new.ticks }) waiting

-- its ticks
pub forecast_ticks : (old mid new : JournalState) (events : ℕ) (steps : List ℕ) → HasValidMarks mid → AreLoweringTicksBounded old mid → AreSomeMarksRaised mid new events → ((m : ℕ) → entries_to_remove new m ≡ 0) → length steps ≡ 144 → ((m : ℕ) → get_or steps m 0 ≡ entries_to_remove mid m)
    → new.ticks.count ≤ old.ticks.count + 9 * sum_by (λ (x : ℕ). x) steps
forecast_ticks old mid new events steps sound counted raising none size each =
    let zero : to_go new ≡ 0 = sum_none (λ (x : ℕ). x) 0 new.going none in
    let all : sum_by (λ (x : ℕ). x) steps ≡ to_go mid = ap (sum_by (λ (x : ℕ). x)) (ext_get_or 0 steps mid.going (size ∙ sym sound.going_size) (λ m l. each m)) in
    let lost = staying_lost mid.histories mid.going in
    let found = counted.looks in
    let vain = counted.searches in
    let most = counted.most in
    let a = raising.tick_counted in
    omega arith

-- the steps of the node
pub steps_whole : (book : JournalState) (n steps : ℕ) → AreHistoriesOfSomeLog book.histories book.made → HasNoRollbackUnderWay book → steps ≡ mark_of_node book n → steps ≡ count_steps n (journal_events book)
steps_whole book n steps whole rest is =
    let none : entries_to_remove book n ≡ 0 = rest.settled n in
    let long : length (history book.histories n) ≡ count_steps n (journal_events book) = steps_log book n whole in
    omega arith
