-- Walking back down to a step.
use Rattle.std.proofs.Common.{◌≡◌, ℕ, zero, suc, ◌+◌, ◌-◌, ◌<◌, ◌≤◌, Bool, true, false, cond, List, [], ◌∷◌, ◌++◌, length, map, drop, take, refl, sym, ◌∙◌, ap, subst, arith, append_assoc, Result, Ok, Err, IfOk, ◌^◌, Some, get_or, drop-drop, length-drop, Vec, Global, All}
use Rattle.std.specs.Prelude.{slice_index, reverse}
use Rattle.std.proofs.lemmas.List.{reverse-append, length-take-le, length-map, take_all, take-append-le, length_push, drop_all}
use Rattle.std.proofs.lemmas.List.Sums.{sum_by-append}
use Rattle.ga_event.specs.declared.event.Event.{Event}
use Rattle.ga_event.specs.declared.event.EventWithLook.{EventWithLook}
use Rattle.ga_event.specs.Touches.{touches}
use Rattle.ga_event.specs.Apply.{MadeEventOutcome}
use Rattle.ga_journal.specs.declared.fault.JournalFault.{JournalFault}
use Rattle.ga_journal.specs.declared.since.EventsFromStep.{EventsFromStep}
use Rattle.ga_journal.specs.Histories.{EntryRecord, history, JournalState}
use Rattle.ga_journal.specs.inner.Histories.{HeldNodeHistory, entry_lists_of_histories, AreStoredHistoriesSound, cut, events_with_looks_oldest_first, events_oldest_first, AreCutHistoriesOfLog, IsNewestLogEventAsMade, AreCutHistoriesOfOlderEvents, entry_records_of_held, AreUnreadEntries, IsMadeEventAtPlace, AreMadeEventsAtPlaces}
use Rattle.ga_event.specs.Told.{count_steps, events_of_causes, events_without_outcomes, made_event_at_place}
use Rattle.ga_journal.specs.Logs.{StampedEvent, AreHistoriesOfLog, AreEventsSinceStep, AreHistoriesOfSomeLog}
use Rattle.ga_event.specs.declared.made.MadeEvent.{MadeEvent}
use Rattle.ga_journal.proofs.Cutting.{history-cut}
use Rattle.ga_journal.proofs.Logs.{length-tellings, tellings, kept_log, length-built}
use Rattle.ga_journal.proofs.Recalling.{older_are, older_causes_are, steps_older, walk_whole, cause_at, walked_drop, first_drop, log_lower, at_place, WalkOf}
use Rattle.ga_journal.specs.Events.{kept_events_with_outcomes, journal_events, kept_events_before_stamp}
use Rattle.std.proofs.Math.Seq.{drop-cons}
use Rattle.std.proofs.lemmas.List.Elements.{All-head, All-tail}

-- how many steps of a node are left is what is not walked of its history
pub left_steps : (hs : List (List EntryRecord)) (lengths : List ℕ) (top n : ℕ) (log : List StampedEvent) → length hs ≡ 144 → length lengths ≡ 144 → n < 144 → AreCutHistoriesOfLog hs lengths top log
    → slice_index lengths n ≡ count_steps n (events_oldest_first log)
left_steps hs lengths top n log size all at w =
    sym (ap length (history-cut hs lengths n (omega (arith, size, at)) (omega (arith, all, at))) ∙ length-take-le (slice_index lengths n) (history hs n) (w.fits n))
    ∙ steps_older log top n (cut hs lengths) w.records.order w.records.histories

-- i events are walked back, and the step was within the list before the last of them
pub record IsDown (hs : List (List EntryRecord)) (lengths : List ℕ) (top : ℕ) (log : List StampedEvent) (n k : ℕ) (items : List EventWithLook) (i : ℕ) : Type 0 where
  pub walk : AreCutHistoriesOfLog hs lengths top (drop i log)
  pub list : items ≡ map cause_at (take i log)
  pub stood : k ≤ count_steps n (events_oldest_first (drop (i - 1) log))

some_left : (log : List StampedEvent) (i n k : ℕ) → 0 < k → k ≤ count_steps n (events_oldest_first (drop i log)) → i < length log
some_left [] i n k some l = absurd (none (drop i []) (nothing i) l)
  where
    nothing : (j : ℕ) → drop {A = StampedEvent} j [] ≡ []
    nothing zero = refl
    nothing (suc j) = refl

    none : (xs : List StampedEvent) → xs ≡ [] → k ≤ count_steps n (events_oldest_first xs) → ⊥
    none xs is l = let h : k ≤ count_steps n (events_oldest_first []) = subst (λ z. k ≤ count_steps n (events_oldest_first z)) is l in absurd (omega (arith, some, h))
some_left (x ∷ older) zero n k some l = omega arith
some_left (x ∷ older) (suc i) n k some l = let h = some_left older i n k some l in omega (arith, h)

-- how many steps are left, by the walk
down_steps : (hs : List (List EntryRecord)) (lengths : List ℕ) (top : ℕ) (log : List StampedEvent) (n k : ℕ) (items : List EventWithLook) (i : ℕ) → length hs ≡ 144 → length lengths ≡ 144 → n < 144 → k ≤ slice_index lengths n → IsDown hs lengths top log n k items i
    → k ≤ count_steps n (events_oldest_first (drop i log))
down_steps hs lengths top log n k items i size all at l d = subst (λ (z : ℕ). k ≤ z) (left_steps hs lengths top n (drop i log) size all at d.walk) l

pub down_within : (hs : List (List EntryRecord)) (lengths : List ℕ) (top : ℕ) (log : List StampedEvent) (n k : ℕ) (items : List EventWithLook) (i : ℕ) → length hs ≡ 144 → length lengths ≡ 144 → n < 144 → 0 < k → k ≤ slice_index lengths n → IsDown hs lengths top log n k items i
    → i < length log
down_within hs lengths top log n k items i size all at some l d = some_left log i n k some (down_steps hs lengths top log n k items i size all at l d)

-- so one is left to be walked
pub down_some : (hs : List (List EntryRecord)) (lengths : List ℕ) (top : ℕ) (log : List StampedEvent) (n k kept before : ℕ) (items : List EventWithLook) → length hs ≡ 144 → length lengths ≡ 144 → n < 144 → 0 < k → k ≤ slice_index lengths n → kept ≡ length log
    → before + length items ≡ kept → IsDown hs lengths top log n k items (kept - before) → 0 < before
down_some hs lengths top log n k kept before items size all at some l long count d =
    let within : kept - before < length log = down_within hs lengths top log n k items (kept - before) size all at some l d in
    omega (arith, within, long, count)

-- at first
pub down_first : (hs : List (List EntryRecord)) (lengths : List ℕ) (top : ℕ) (log : List StampedEvent) (n k : ℕ) (items : List EventWithLook) → length hs ≡ 144 → length lengths ≡ 144 → ((m : ℕ) → m < 144 → slice_index lengths m ≡ length (history hs m))
    → AreHistoriesOfLog log hs top → k ≤ length (history hs n) → items ≡ [] → IsDown hs lengths top log n k items 0
down_first hs lengths top log n k items size all same r l none = record {
  walk = walk_whole hs lengths top log size all same r;
  list = none;
  stood = subst (λ (i : ℕ). k ≤ count_steps n (events_oldest_first (drop i log))) (let y : 0 ≡ 0 - 1 = omega arith in y) (subst (λ (z : ℕ). k ≤ z) (steps_older log top n hs r.order r.histories) l);
}

-- an event more is walked
pub down_more : (hs : List (List EntryRecord)) (lengths more : List ℕ) (top now : ℕ) (log : List StampedEvent) (n k : ℕ) (items all : List EventWithLook) (i : ℕ) (e : EventWithLook) (told : MadeEvent) → length hs ≡ 144 → length lengths ≡ 144 → n < 144
    → 0 < k → k ≤ slice_index lengths n → IsDown hs lengths top log n k items i → IsNewestLogEventAsMade (drop i log) e told → AreCutHistoriesOfOlderEvents hs more now (drop i log) → all ≡ items ++ e ∷ [] → IsDown hs more now log n k all (suc i)
down_more hs lengths more top now log n k items all i e told size whole at some l d first walked is = record {
  walk = walked_drop hs more now log i (down_within hs lengths top log n k items i size whole at some l d) walked;
  list = is ∙ ap (λ z. z ++ e ∷ []) d.list ∙ sym (first_drop log i e told first);
  stood = subst (λ (j : ℕ). k ≤ count_steps n (events_oldest_first (drop j log))) (let y : i ≡ suc i - 1 = omega arith in y) (down_steps hs lengths top log n k items i size whole at l d);
}

-- the events of a log
events_older : (log : List StampedEvent) → events_of_causes (events_with_looks_oldest_first log) ≡ events_oldest_first log
events_older log = ap events_of_causes (older_causes_are log) ∙ sym (older_are log)

length-older : (log : List StampedEvent) → length (events_with_looks_oldest_first log) ≡ length log
length-older log = ap length (older_causes_are log) ∙ length-map (tellings log) (λ (y : EventWithLook × MadeEventOutcome). y.0) ∙ length-tellings log

step_more : (n : ℕ) (xs : List Event) (e : Event) → count_steps n (xs ++ e ∷ []) ≡ count_steps n xs + cond (touches e n) 1 0
step_more n xs e = sum_by-append (λ (y : Event). cond (touches y n) 1 0) xs (e ∷ []) ∙ ap (λ (z : ℕ). count_steps n xs + z) (let h : 0 + cond (touches e n) 1 0 ≡ cond (touches e n) 1 0 = omega arith in h)

one_step : (n k : ℕ) (xs : List Event) (e : Event) → k ≤ count_steps n (xs ++ e ∷ []) → count_steps n xs < k → (touches e n ≡ true) × (count_steps n xs + 1 ≡ k)
one_step n k xs e l m = go (touches e n) refl
  where
    go : (b : Bool) → touches e n ≡ b → (touches e n ≡ true) × (count_steps n xs + 1 ≡ k)
    go true is = (is, let h : count_steps n (xs ++ e ∷ []) ≡ count_steps n xs + 1 = step_more n xs e ∙ ap (λ (z : Bool). count_steps n xs + cond {A = ℕ} z 1 0) is in omega (arith, h, l, m))
    go false is = let h : count_steps n (xs ++ e ∷ []) ≡ count_steps n xs + 0 = step_more n xs e ∙ ap (λ (z : Bool). count_steps n xs + cond {A = ℕ} z 1 0) is in absurd (omega (arith, h, l, m))

-- what was walked is what came since
since_of : (log : List StampedEvent) (i n k m steps : ℕ) → suc i ≤ length log → k ≤ count_steps n (events_oldest_first (drop i log)) → count_steps n (events_oldest_first (drop (suc i) log)) < k → steps ≡ count_steps m (events_oldest_first (drop (suc i) log))
    → AreEventsSinceStep (events_with_looks_oldest_first log) n k m (reverse (map cause_at (take (suc i) log))) (length log - suc i) steps
since_of [] i n k m steps within l below is = absurd (omega (arith, within))
since_of (x ∷ older) zero n k m steps within l below is =
    let s = one_step n k (events_oldest_first older) x.event l below in
    record {
      earlier = events_with_looks_oldest_first older;
      parts = refl;
      count = length-older older ∙ (let h : length older ≡ suc (length older) - 1 = omega arith in h);
      first = cause_at x;
      later = [];
      begins = refl;
      is_step = s.0;
      number = ap (λ z. count_steps n z + 1) (events_older older) ∙ s.1;
      others = ap (count_steps m) (events_older older) ∙ sym is;
    }
since_of (x ∷ older) (suc i) n k m steps within l below is =
    let r : AreEventsSinceStep (events_with_looks_oldest_first older) n k m (reverse (map cause_at (take (suc i) older))) (length older - suc i) steps = since_of older i n k m steps (omega (arith, within)) l below is in
    let turned : reverse (cause_at x ∷ map cause_at (take (suc i) older)) ≡ reverse (map cause_at (take (suc i) older)) ++ cause_at x ∷ [] = reverse-append (cause_at x ∷ []) (map cause_at (take (suc i) older)) in
    record {
      earlier = r.earlier;
      parts = ap (λ z. r.earlier ++ z) turned ∙ sym (append_assoc r.earlier (reverse (map cause_at (take (suc i) older))) (cause_at x ∷ [])) ∙ ap (λ z. z ++ cause_at x ∷ []) r.parts;
      count = r.count ∙ (let h : length older - suc i ≡ suc (length older) - suc (suc i) = omega arith in h);
      first = r.first;
      later = r.later ++ cause_at x ∷ [];
      begins = turned ∙ ap (λ z. z ++ cause_at x ∷ []) r.begins;
      is_step = r.is_step;
      number = r.number;
      others = r.others;
    }

-- the step is no longer within the list
stopped : (log : List StampedEvent) (n k m steps : ℕ) (i : ℕ) → i ≤ length log → k ≤ count_steps n (events_oldest_first (drop (i - 1) log)) → count_steps n (events_oldest_first (drop i log)) < k → steps ≡ count_steps m (events_oldest_first (drop i log))
    → AreEventsSinceStep (events_with_looks_oldest_first log) n k m (reverse (map cause_at (take i log))) (length log - i) steps
stopped log n k m steps zero within l below is =
    let h : k ≤ count_steps n (events_oldest_first log) = subst (λ (j : ℕ). k ≤ count_steps n (events_oldest_first (drop j log))) (let y : 0 - 1 ≡ 0 = omega arith in y) l in
    absurd (both k (count_steps n (events_oldest_first log)) h below)
  where
    both : (a b : ℕ) → a ≤ b → b < a → ⊥
    both a b p q = omega arith
stopped log n k m steps (suc i) within l below is =
    since_of log i n k m steps within (subst (λ (j : ℕ). k ≤ count_steps n (events_oldest_first (drop j log))) (let y : suc i - 1 ≡ i = omega arith in y) l) below is

pub down_last : (hs : List (List EntryRecord)) (lengths : List ℕ) (top : ℕ) (log : List StampedEvent) (n k m before steps : ℕ) (items all : List EventWithLook) (i : ℕ) → length hs ≡ 144 → length lengths ≡ 144 → n < 144 → m < 144 → i ≤ length log → length log - i ≡ before
    → slice_index lengths n < k → IsDown hs lengths top log n k items i → all ≡ reverse items → steps ≡ slice_index lengths m → AreEventsSinceStep (events_with_looks_oldest_first log) n k m all before steps
down_last hs lengths top log n k m before steps items all i size whole at there within count l d is other =
    subst (λ z. AreEventsSinceStep (events_with_looks_oldest_first log) n k m z before steps) (sym (is ∙ ap reverse d.list))
    (subst (λ (j : ℕ). AreEventsSinceStep (events_with_looks_oldest_first log) n k m (reverse (map cause_at (take i log))) j steps) count
    (stopped log n k m steps i within d.stood
    (subst (λ (z : ℕ). z < k) (left_steps hs lengths top n (drop i log) size whole at d.walk) l)
    (other ∙ left_steps hs lengths top m (drop i log) size whole there d.walk)))

-- the result of a journal's walk
pub since_kept : (r : Result EventsFromStep JournalFault) (vecs : List HeldNodeHistory) (top kept n k m : ℕ) (log : List StampedEvent) (all : List EventWithLook)
    → IfOk r (λ since. (l : List StampedEvent) → kept ≡ length l → AreHistoriesOfLog l (entry_lists_of_histories vecs) top → AreEventsSinceStep (events_with_looks_oldest_first l) n k m since.causes.items since.before since.steps) → kept ≡ length log → AreHistoriesOfLog log (entry_lists_of_histories vecs) top → events_with_looks_oldest_first log ≡ all
    → IfOk r (λ since. AreEventsSinceStep all n k m since.causes.items since.before since.steps)
since_kept (Ok since) vecs top kept n k m log all f long below same = subst (λ z. AreEventsSinceStep z n k m since.causes.items since.before since.steps) same (f log long below)
since_kept (Err why) vecs top kept n k m log all f long below same = tt

pub since_short : (r : Result EventsFromStep JournalFault) (vecs : List HeldNodeHistory) (top made kept limit : ℕ) → AreStoredHistoriesSound vecs top made kept limit → IfOk r (λ since. since.before + length since.causes.items ≡ kept)
    → IfOk r (λ since. since.before + length since.causes.items < 2 ^ 32)
since_short (Ok since) vecs top made kept limit k f = omega (arith, f, k.count, k.within, k.fits)
since_short (Err why) vecs top made kept limit k f = tt

-- the test of the loop
pub tested : (lengths : List ℕ) (at n k : ℕ) → at ≡ n → k ≤ slice_index lengths at → k ≤ slice_index lengths n
tested lengths at n k is l = subst (λ (z : ℕ). k ≤ slice_index lengths z) is l

pub tested_not : (lengths : List ℕ) (at n k : ℕ) → at ≡ n → slice_index lengths at < k → slice_index lengths n < k
tested_not lengths at n k is l = subst (λ (z : ℕ). slice_index lengths z < k) is l

pub some_of : (log : List StampedEvent) (i : ℕ) → i < length log → 0 < length (drop i log)
some_of log i l = let n : length (drop i log) ≡ length log - i = length-drop i log in omega (arith, n, l)

-- ---- Reading the events of the history one by one from the newest back.

length-events_oldest_first : (log : List StampedEvent) → length (events_oldest_first log) ≡ length log
length-events_oldest_first [] = refl
length-events_oldest_first (x ∷ older) = length_push (events_oldest_first older) x.event ∙ (let h = length-events_oldest_first older in omega (arith, h))

-- the events before a place
older_dropped : (log : List StampedEvent) (j place : ℕ) → j + place ≡ length log → events_oldest_first (drop j log) ≡ take place (events_oldest_first log)
older_dropped [] zero zero q = refl
older_dropped [] zero (suc place) q = absurd (omega (arith, q))
older_dropped [] (suc j) place q = absurd (omega (arith, q))
older_dropped (x ∷ older) zero place q =
    let n : length (events_oldest_first (x ∷ older)) ≡ length (x ∷ older) = length-events_oldest_first (x ∷ older) in
    sym (take_all place (events_oldest_first (x ∷ older)) (omega (arith, n, q)))
older_dropped (x ∷ older) (suc j) place q =
    let n : length (events_oldest_first older) ≡ length older = length-events_oldest_first older in
    older_dropped older j place (omega (arith, q)) ∙ sym (take-append-le place (events_oldest_first older) (x.event ∷ []) (omega (arith, n, q)))

-- at first no event was read
pub none_told : (vecs : List HeldNodeHistory) (lengths : List ℕ) (top kept : ℕ) (book : JournalState) → book.histories ≡ entry_lists_of_histories vecs → (kept_is : kept ≡ length (kept_events_with_outcomes book)) → AreStoredHistoriesSound vecs top book.made kept book.limit → AreHistoriesOfSomeLog book.histories book.made
    → length vecs ≡ 144 → length lengths ≡ 144 → ((n : ℕ) → n < 144 → slice_index lengths n ≡ length (history (entry_lists_of_histories vecs) n)) → AreUnreadEntries book lengths top kept
none_told vecs lengths top kept book is kept_is k whole size all same =
    let log : List StampedEvent = whole.log in
    let many : kept ≡ length log = kept_is ∙ ap length (kept_log log book whole.records) ∙ length-tellings log in
    let none : 0 ≡ length log - kept = omega (arith, many) in
    record {
      log = log;
      records = whole.records;
      within = omega (arith, many);
      walks = subst (λ (n : ℕ). AreCutHistoriesOfLog book.histories lengths top (drop n log)) none
          (subst (λ hs. AreCutHistoriesOfLog hs lengths top log) (sym is)
          (walk_whole (entry_lists_of_histories vecs) lengths top log (length-map vecs entry_records_of_held ∙ size) all same
          (log_lower log (entry_lists_of_histories vecs) book.made top (subst (λ hs. AreHistoriesOfLog log hs book.made) is whole.records) k.rise)));
      size = all;
    }

-- the event that is read, and the place reached then
pub told_next : (book : JournalState) (lengths : List ℕ) (top place : ℕ) (cause : EventWithLook) (made : MadeEvent) → 0 < place → (u : AreUnreadEntries book lengths top place)
    → ((log : List StampedEvent) → AreCutHistoriesOfLog book.histories lengths top log → IsNewestLogEventAsMade log cause made) → made_event_at_place (kept_events_with_outcomes book) (place - 1) ≡ Some made
told_next book lengths top place cause made some u first =
    let w = u.within in
    let q : length u.log - place + (place - 1) + 1 ≡ length u.log = omega (arith, w, some) in
    ap (λ kept. made_event_at_place kept (place - 1)) (kept_log u.log book u.records)
    ∙ (at_place u.log (length u.log - place) (place - 1) cause made q (first (drop (length u.log - place) u.log) u.walks)).made

pub left_next : (book : JournalState) (lengths more : List ℕ) (top now place : ℕ) → 0 < place → length more ≡ 144 → (u : AreUnreadEntries book lengths top place)
    → ((log : List StampedEvent) → AreCutHistoriesOfLog book.histories lengths top log → AreCutHistoriesOfOlderEvents book.histories more now log) → AreUnreadEntries book more now (place - 1)
left_next book lengths more top now place some all u left =
    let w = u.within in
    let next : suc (length u.log - place) ≡ length u.log - (place - 1) = omega (arith, w, some) in
    record {
      log = u.log;
      records = u.records;
      within = omega (arith, w);
      walks = subst (λ (n : ℕ). AreCutHistoriesOfLog book.histories more now (drop n u.log)) next
          (walked_drop book.histories more now u.log (length u.log - place) (omega (arith, w, some)) (left (drop (length u.log - place) u.log) u.walks));
      size = all;
    }

-- how many steps of a node are left
pub steps_left : (book : JournalState) (lengths : List ℕ) (top place n : ℕ) → n < 144 → (u : AreUnreadEntries book lengths top place) → slice_index lengths n ≡ count_steps n (take place (journal_events book))
steps_left book lengths top place n at u =
    let w = u.within in
    left_steps book.histories lengths top n (drop (length u.log - place) u.log) (ap length u.records.histories ∙ length-built u.log) u.size at u.walks
    ∙ ap (count_steps n) (older_dropped u.log (length u.log - place) place (omega (arith, w)))
    ∙ ap (λ events. count_steps n (take place events)) (older_are u.log ∙ ap events_without_outcomes (sym (kept_log u.log book u.records)))

pub place_within : (book : JournalState) (lengths : List ℕ) (top place : ℕ) → (u : AreUnreadEntries book lengths top place) → place ≤ length (kept_events_with_outcomes book)
place_within book lengths top place u =
    let w = u.within in
    let n : length (kept_events_with_outcomes book) ≡ length u.log = ap length (kept_log u.log book u.records) ∙ length-tellings u.log in
    omega (arith, w, n)

-- ---- The events at several places, read in one walk back.

-- walking on from the place that the walk has reached
pub left_long : (log : List StampedEvent) (kept left place : ℕ) → kept ≡ length log → left ≤ kept → left - place ≤ length (drop (kept - left) log)
left_long log kept left place long within = let n : length (drop (kept - left) log) ≡ length log - (kept - left) = length-drop (kept - left) log in omega (arith, n)

pub walked_on : (hs : List (List EntryRecord)) (lengths : List ℕ) (top : ℕ) (log : List StampedEvent) (kept left place : ℕ) → left ≤ kept → place < left
    → AreCutHistoriesOfLog hs lengths top (drop (left - place) (drop (kept - left) log)) → AreCutHistoriesOfLog hs lengths top (drop (kept - place) log)
walked_on hs lengths top log kept left place within l w =
    subst (λ n. AreCutHistoriesOfLog hs lengths top (drop n log)) (let q : kept - left + (left - place) ≡ kept - place = omega arith in q)
    (subst (λ z. AreCutHistoriesOfLog hs lengths top z) (drop-drop (left - place) (kept - left) log) w)

pub told_on : (log : List StampedEvent) (kept left place : ℕ) (cause : EventWithLook) (told : MadeEvent) → kept ≡ length log → left ≤ kept → place < left
    → IsNewestLogEventAsMade (drop (left - place - 1) (drop (kept - left) log)) cause told → IsMadeEventAtPlace log place told
told_on log kept left place cause told long within l f = (
  cause,
  subst (λ n. IsNewestLogEventAsMade (drop n log) cause told) (let q : kept - left + (left - place - 1) ≡ length log - place - 1 = omega arith in q)
      (subst (λ z. IsNewestLogEventAsMade z cause told) (drop-drop (left - place - 1) (kept - left) log) f),
)

-- no place yet, and one more
pub told_none : (log : List StampedEvent) (places : List ℕ) (items : List MadeEvent) → items ≡ [] → AreMadeEventsAtPlaces log (drop (length places) places) (reverse items)
told_none log places items none =
    subst (λ z. AreMadeEventsAtPlaces log (drop (length places) places) (reverse z)) (sym none)
    (subst (λ z. AreMadeEventsAtPlaces log z []) (sym (drop_all (length places) places (omega arith))) tt)

pub told_more : (log : List StampedEvent) (places : List ℕ) (at place : ℕ) (told : MadeEvent) (items : List MadeEvent) → at < length places → place ≡ get_or places at 0
    → IsMadeEventAtPlace log place told → AreMadeEventsAtPlaces log (drop (suc at) places) (reverse items) → AreMadeEventsAtPlaces log (drop at places) (reverse (items ++ told ∷ []))
told_more log places at place told items l is t rest =
    subst (λ z. AreMadeEventsAtPlaces log z (reverse (items ++ told ∷ []))) (sym (drop-cons places at 0 l))
    (subst (λ z. AreMadeEventsAtPlaces log (get_or places at 0 ∷ drop (suc at) places) z) (sym (reverse-append items (told ∷ [])))
    (subst (λ (z : ℕ). IsMadeEventAtPlace log z told) is t, rest))

-- the events that a journal returns for the places
mades_told : (log : List StampedEvent) (places : List ℕ) (mades : List MadeEvent) → All (λ (place : ℕ). place < length log) places → AreMadeEventsAtPlaces log places mades
    → map Some mades ≡ map (made_event_at_place (tellings log)) places
mades_told log [] [] a t = refl
mades_told log [] (told ∷ more) a t = absurd t
mades_told log (place ∷ places) [] a t = absurd t
mades_told log (place ∷ places) (told ∷ more) a t =
    let l : place < length log = All-head (λ (z : ℕ). z < length log) place places a in
    let at = at_place log (length log - place - 1) place t.0.0 told (omega arith) t.0.1 in
    ap (λ z. z ∷ map Some more) (sym at.made) ∙ ap (λ z. made_event_at_place (tellings log) place ∷ z) (mades_told log places more (All-tail (λ (z : ℕ). z < length log) place places a) t.1)

pub placed : (r : Result (Vec MadeEvent Global) JournalFault) (vecs : List HeldNodeHistory) (top made kept : ℕ) (places : List ℕ) (w : WalkOf vecs top made kept) → All (λ (place : ℕ). place < kept) places
    → IfOk r (λ list. (log : List StampedEvent) → kept ≡ length log → AreHistoriesOfLog log (entry_lists_of_histories vecs) top → AreMadeEventsAtPlaces log places list.items)
    → IfOk r (λ list. map Some list.items ≡ map (made_event_at_place (kept_events_before_stamp (entry_lists_of_histories vecs) made)) places)
placed (Ok list) vecs top made kept places w a f =
    mades_told w.log places list.items (subst (λ (n : ℕ). All (λ (place : ℕ). place < n) places) w.long a) (f w.log w.long w.below)
    ∙ ap (λ z. map (made_event_at_place z) places) (sym w.kept_is)
placed (Err why) vecs top made kept places w a f = tt
