-- How many events are counted by entries: each event of a log once.
use Rattle.ga_event.specs.declared.event.Event.TheVariants as event
use Rattle.ga_event.specs.declared.event.Effect.TheVariants as effect
use Rattle.std.proofs.Common.{◌≡◌, ℕ, suc, ◌+◌, ◌<◌, ◌≤◌, List, [], ◌∷◌, length, get_or, refl, ◌∙◌, ap, arith, zero, ◌-◌, Bool, true, false, cond, ◌++◌, take, set, length-set}
use Rattle.std.specs.List.{sum_by}
use Rattle.std.proofs.lemmas.List.Sums.{sum_by-cons, sum_by-append, sum_by-set}
use Rattle.std.specs.Prelude.{option_map, slice_get}
use Rattle.ga_event.specs.declared.event.Event.{Event}
use Rattle.ga_event.specs.declared.event.Effect.{Effect}
use Rattle.ga_event.specs.Undo.{IsEffectOfEventKind}
use Rattle.ga_journal.specs.declared.entry.EntryRole.TheVariants.{Own, SentWord, TookWord}
use Rattle.ga_journal.specs.Histories.{EntryRecord, new_entry_record, outcome_of_own_event, history, no_histories, histories_with_entry, histories_with_event}
use Rattle.ga_journal.specs.Logs.{StampedEvent, histories_of_log, IsStampedLog}
use Rattle.ga_journal.specs.Marks.{entry_counts_event}
use Rattle.ga_journal.proofs.Logs.{history-no_histories, length-built}
use Rattle.ga_rollback.specs.inner.{histories_to_stay, count_events_of_entries, count_events_of_histories, count_events_of_entry}

-- ---- sums over all nodes

pub sum_under : {X : Type 0} (f : X → ℕ) (xs : List ℕ) (ys : List X) (d : X) → length xs ≡ length ys → ((i : ℕ) → i < length ys → get_or xs i 0 ≤ f (get_or ys i d)) → sum_by (λ (x : ℕ). x) xs ≤ sum_by f ys
sum_under f [] [] d q h = omega arith
sum_under f [] (y ∷ ys) d q h = absurd (omega arith)
sum_under f (x ∷ xs) [] d q h = absurd (omega arith)
sum_under f (x ∷ xs) (y ∷ ys) d q h =
    let k : sum_by (λ (z : ℕ). z) xs ≤ sum_by f ys = sum_under f xs ys d (omega arith) (λ i l. h (suc i) (omega arith)) in
    let a : sum_by (λ (z : ℕ). z) (x ∷ xs) ≡ x + sum_by (λ (z : ℕ). z) xs = sum_by-cons (λ (z : ℕ). z) x xs in
    let b : sum_by f (y ∷ ys) ≡ f y + sum_by f ys = sum_by-cons f y ys in
    let here : x ≤ f y = h 0 (omega arith) in
    omega arith

pub sum_none : {X : Type 0} (f : X → ℕ) (d : X) (xs : List X) → ((i : ℕ) → f (get_or xs i d) ≡ 0) → sum_by f xs ≡ 0
sum_none f d [] h = refl
sum_none f d (x ∷ xs) h = sum_by-cons f x xs ∙ ap (λ z. z + sum_by f xs) (h 0) ∙ ap (λ z. 0 + z) (sum_none f d xs (λ i. h (suc i)))

abbrev one_if : Bool → ℕ
one_if b = cond b 1 0

counted-cons : (x : EntryRecord) (h : List EntryRecord) → count_events_of_entries (x ∷ h) ≡ one_if (entry_counts_event x.act) + count_events_of_entries h
counted-cons x h = sum_by-cons (λ (e : EntryRecord). cond (entry_counts_event e.act) 1 0) x h

-- by one entry more
pub counted_next : (p : ℕ) (h : List EntryRecord) → count_events_of_entries (take (suc p) h) ≡ count_events_of_entries (take p h) + count_events_of_entry (option_map (λ (e : EntryRecord). entry_counts_event e.act) (slice_get h p))
counted_next zero [] = refl
counted_next (suc p) [] = refl
counted_next zero (x ∷ xs) = let a = counted-cons x [] in omega arith
counted_next (suc p) (x ∷ xs) =
    let a = counted_next p xs in let b = counted-cons x (take (suc p) xs) in let c = counted-cons x (take p xs) in omega arith

counted_front : (k : ℕ) (h : List EntryRecord) → count_events_of_entries (take k h) ≤ count_events_of_entries h
counted_front zero h = omega arith
counted_front (suc k) [] = omega arith
counted_front (suc k) (x ∷ h) = let a = counted_front k h in let b = counted-cons x (take k h) in let c = counted-cons x h in omega arith

-- by those that stay
pub counted_fewer : (hs : List (List EntryRecord)) (going : List ℕ) → count_events_of_histories (histories_to_stay hs going) ≤ count_events_of_histories hs
counted_fewer [] going = omega arith
counted_fewer (h ∷ hs) [] = let a = counted_fewer hs [] in let b = sum_by-cons count_events_of_entries h (histories_to_stay hs []) in let c = sum_by-cons count_events_of_entries h hs in omega arith
counted_fewer (h ∷ hs) (k ∷ going) =
    let a = counted_fewer hs going in
    let b : count_events_of_histories (take (length h - k) h ∷ histories_to_stay hs going) ≡ count_events_of_entries (take (length h - k) h) + count_events_of_histories (histories_to_stay hs going) = sum_by-cons count_events_of_entries (take (length h - k) h) (histories_to_stay hs going) in
    let c = sum_by-cons count_events_of_entries h hs in
    let d = counted_front (length h - k) h in
    omega arith

-- by an entry more of a node
counted_pushed : (hs : List (List EntryRecord)) (n : ℕ) (e : EntryRecord) → n < length hs → count_events_of_histories (histories_with_entry hs n e) ≡ count_events_of_histories hs + one_if (entry_counts_event e.act)
counted_pushed hs n e l =
    let a : count_events_of_histories (set hs n (history hs n ++ e ∷ [])) + count_events_of_entries (history hs n) ≡ count_events_of_histories hs + count_events_of_entries (history hs n ++ e ∷ []) = sum_by-set count_events_of_entries hs n (history hs n ++ e ∷ []) [] l in
    let b : count_events_of_entries (history hs n ++ e ∷ []) ≡ count_events_of_entries (history hs n) + count_events_of_entries (e ∷ []) = sum_by-append (λ (e : EntryRecord). cond (entry_counts_event e.act) 1 0) (history hs n) (e ∷ []) in
    let c = counted-cons e [] in
    omega arith

-- by those of one event more
counted_more : (hs : List (List EntryRecord)) (s : ℕ) (e : Event) (done : Effect) → IsEffectOfEventKind e done → length hs ≡ 144 → count_events_of_histories (histories_with_event hs s e done) ≡ count_events_of_histories hs + 1
counted_more hs s (event.Own node) (effect.Own kind saved) k size = counted_pushed hs node.number (new_entry_record s (Own (outcome_of_own_event kind false)) saved) (omega (arith, size, node.in_range))
counted_more hs s (event.Own node) (effect.Look kind saved) k size = counted_pushed hs node.number (new_entry_record s (Own (outcome_of_own_event kind true)) saved) (omega (arith, size, node.in_range))
counted_more hs s (event.Pass w r side) (effect.Pass word sent took) k size =
    let sent_to : EntryRecord = new_entry_record s (SentWord r side (length (history hs r.number)) word) sent in
    let taken_from : EntryRecord = new_entry_record s (TookWord w side (length (history hs w.number)) word) took in
    let a = counted_pushed hs w.number sent_to (omega (arith, size, w.in_range)) in
    let l : length (histories_with_entry hs w.number sent_to) ≡ length hs = length-set hs w.number (history hs w.number ++ sent_to ∷ []) in
    let b = counted_pushed (histories_with_entry hs w.number sent_to) r.number taken_from (omega (arith, l, size, r.in_range)) in
    omega arith
counted_more hs s (event.Own node) (effect.Pass word sent took) k size = absurd k
counted_more hs s (event.Pass w r side) (effect.Own kind saved) k size = absurd k
counted_more hs s (event.Pass w r side) (effect.Look kind saved) k size = absurd k

-- each event of a log is counted once
pub counted_log : (log : List StampedEvent) (top : ℕ) → IsStampedLog log top → count_events_of_histories (histories_of_log log) ≡ length log
counted_log [] top l = sum_none count_events_of_entries [] no_histories (λ i. ap count_events_of_entries (history-no_histories i))
counted_log (x ∷ older) top l =
    let a = counted_more (histories_of_log older) x.stamp x.event x.effect l.1 (length-built older) in
    let b = counted_log older x.stamp l.2 in
    omega arith
