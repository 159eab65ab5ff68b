-- Marks lowered.
use Rattle.std.proofs.Common.{◌≡◌, ◌≢◌, ℕ, ◌+◌, ◌-◌, ◌<◌, ◌≤◌, Bool, true, false, cond, List, [], length, take, get_or, set, Some, refl, sym, ◌∙◌, ap, subst, arith, ⊎_elim, length-set, get_or-set_same, get_or-set_other, zero, suc, ◌∷◌}
use Rattle.std.specs.List.{sum_by, count_by}
use Rattle.std.specs.Prelude.{slice_get}
use Rattle.std.proofs.lemmas.Bool.{cases_eq, cases_lt, cases_order, both_ways}
use Rattle.std.proofs.lemmas.Option.{some_pair_parts, none-some, same_Some}
use Rattle.std.proofs.lemmas.List.{get_or_past, take_all}
use Rattle.std.proofs.lemmas.List.Sums.{sum_by-set, sum_by-cons}
use Rattle.ga_journal.specs.declared.entry.EntryRole.{EntryRole}
use Rattle.ga_journal.specs.declared.entry.EntryRole.TheVariants.{Own, SentWord, TookWord}
use Rattle.ga_journal.specs.Histories.{RollbackWork, EntryRecord, JournalState, history}
use Rattle.ga_journal.specs.Marks.{pass_partner_of_entry, entry_at_position, mark_of_node, entries_to_remove, is_node_pending, journal_with_lowered_mark, HasValidMarks}
use Rattle.ga_journal.specs.inner.Marks.{to_go, count_pending_nodes}
use Rattle.ga_journal.specs.Events.{entry_role_has_looked}
use Rattle.ga_journal.specs.Looks.{HasNoLookToRemove, HasLookEntry}
use Rattle.ga_rollback.specs.inner.{stamp_of_journal_entry, IsEntryToRemove, Start, Later, Other, Saw, AreRollbackMarks, histories_to_stay, IsUnseenByLooks}
use Rattle.ga_rollback.specs.Rewound.{count_look_entries, count_all_look_entries}

-- ---- how many looks there are, and how many of them stay

abbrev pub one_if : Bool → ℕ
one_if b = cond b 1 0

pub one_most : (b : Bool) → one_if b ≤ 1
one_most true = omega arith
one_most false = omega arith

looks-cons : (x : EntryRecord) (h : List EntryRecord) → count_look_entries (x ∷ h) ≡ one_if (entry_role_has_looked x.act) + count_look_entries h
looks-cons x h = sum_by-cons (λ (e : EntryRecord). cond (entry_role_has_looked e.act) 1 0) x h

-- among the first entries of a history
pub looks_less : (q k : ℕ) (h : List EntryRecord) → q ≤ k → count_look_entries (take q h) ≤ count_look_entries (take k h)
looks_less zero k h l = omega arith
looks_less (suc q) zero h l = absurd (omega arith)
looks_less (suc q) (suc k) [] l = omega arith
looks_less (suc q) (suc k) (x ∷ h) l =
    let a = looks_less q k h (omega arith) in let b = looks-cons x (take q h) in let c = looks-cons x (take k h) in omega arith

pub looks_one : (q k : ℕ) (h : List EntryRecord) (e : EntryRecord) → slice_get h q ≡ Some e → entry_role_has_looked e.act ≡ true → q < k → count_look_entries (take q h) + 1 ≤ count_look_entries (take k h)
looks_one q zero h e found looked l = absurd (omega arith)
looks_one q (suc k) [] e found looked l = absurd (none-some _ found)
looks_one zero (suc k) (x ∷ h) e found looked l =
    let a = looks-cons x (take k h) in
    let b : one_if (entry_role_has_looked x.act) ≡ 1 = ap (λ (z : EntryRecord). one_if (entry_role_has_looked z.act)) (same_Some x e found) ∙ ap (λ z. one_if z) looked in
    omega arith
looks_one (suc q) (suc k) (x ∷ h) e found looked l =
    let a = looks_one q k h e found looked (omega arith) in let b = looks-cons x (take q h) in let c = looks-cons x (take k h) in omega arith

looks_front : (k : ℕ) (h : List EntryRecord) → count_look_entries (take k h) ≤ count_look_entries h
looks_front zero h = omega arith
looks_front (suc k) [] = omega arith
looks_front (suc k) (x ∷ h) = let a = looks_front k h in let b = looks-cons x (take k h) in let c = looks-cons x h in omega arith

looks_within : (h : List EntryRecord) → count_look_entries h ≤ length h
looks_within [] = omega arith
looks_within (x ∷ h) = let a = looks_within h in let b = looks-cons x h in let c = one_most (entry_role_has_looked x.act) in omega arith

looks_lost : (k : ℕ) (h : List EntryRecord) → count_look_entries h ≤ count_look_entries (take k h) + (length h - k)
looks_lost zero h = let a = looks_within h in omega arith
looks_lost (suc k) [] = omega arith
looks_lost (suc k) (x ∷ h) = let a = looks_lost k h in let b = looks-cons x (take k h) in let c = looks-cons x h in omega arith

-- among all entries
pub looks_under : (hs : List (List EntryRecord)) → count_all_look_entries hs ≤ sum_by length hs
looks_under [] = omega arith
looks_under (h ∷ hs) =
    let a = looks_under hs in let b = looks_within h in let c = sum_by-cons count_look_entries h hs in let d = sum_by-cons length h hs in omega arith

-- a history with a look counts
some_in : (h : List EntryRecord) (p : ℕ) (e : EntryRecord) → slice_get h p ≡ Some e → entry_role_has_looked e.act ≡ true → 0 < count_look_entries h
some_in h p e found looked = let a = looks_one p (p + 1) h e found looked (omega arith) in let b = looks_front (p + 1) h in omega arith

pub some_looks : (hs : List (List EntryRecord)) (m : ℕ) → HasLookEntry (history hs m) → 0 < count_all_look_entries hs
some_looks [] m look = absurd (none-some _ look.2)
some_looks (h ∷ hs) zero look = let a = some_in h look.0 look.1 look.2 look.3 in let b = sum_by-cons count_look_entries h hs in omega arith
some_looks (h ∷ hs) (suc m) look = let a = some_looks hs m look in let b = sum_by-cons count_look_entries h hs in omega arith

-- among those that stay
histories_to_stay-cons : (h : List EntryRecord) (hs : List (List EntryRecord)) (k : ℕ) (going : List ℕ) → count_all_look_entries (histories_to_stay (h ∷ hs) (k ∷ going)) ≡ count_look_entries (take (length h - k) h) + count_all_look_entries (histories_to_stay hs going)
histories_to_stay-cons h hs k going = sum_by-cons count_look_entries (take (length h - k) h) (histories_to_stay hs going)

pub staying_fewer : (hs : List (List EntryRecord)) (going : List ℕ) → count_all_look_entries (histories_to_stay hs going) ≤ count_all_look_entries hs
staying_fewer [] going = omega arith
staying_fewer (h ∷ hs) [] = let a = staying_fewer hs [] in let b = sum_by-cons count_look_entries h (histories_to_stay hs []) in let c = sum_by-cons count_look_entries h hs in omega arith
staying_fewer (h ∷ hs) (k ∷ going) =
    let a = staying_fewer hs going in let b = histories_to_stay-cons h hs k going in let c = sum_by-cons count_look_entries h hs in let d = looks_front (length h - k) h in omega arith

pub staying_lost : (hs : List (List EntryRecord)) (going : List ℕ) → count_all_look_entries hs ≤ count_all_look_entries (histories_to_stay hs going) + sum_by (λ (x : ℕ). x) going
staying_lost [] going = omega arith
staying_lost (h ∷ hs) [] = let a = staying_lost hs [] in let b = sum_by-cons count_look_entries h (histories_to_stay hs []) in let c = sum_by-cons count_look_entries h hs in omega arith
staying_lost (h ∷ hs) (k ∷ going) =
    let a = staying_lost hs going in
    let b = histories_to_stay-cons h hs k going in
    let c = sum_by-cons count_look_entries h hs in
    let d = looks_lost (length h - k) h in
    let e = sum_by-cons (λ (x : ℕ). x) k going in
    omega arith

pub length-histories_to_stay : (hs : List (List EntryRecord)) (going : List ℕ) → length (histories_to_stay hs going) ≡ length hs
length-histories_to_stay [] going = refl
length-histories_to_stay (h ∷ hs) [] = ap (λ z. suc z) (length-histories_to_stay hs [])
length-histories_to_stay (h ∷ hs) (k ∷ going) = ap (λ z. suc z) (length-histories_to_stay hs going)

pub staying_at : (hs : List (List EntryRecord)) (going : List ℕ) (n : ℕ) → length hs ≡ length going → history (histories_to_stay hs going) n ≡ take (length (history hs n) - get_or going n 0) (history hs n)
staying_at [] [] n q = refl
staying_at [] (k ∷ going) n q = absurd (omega arith)
staying_at (h ∷ hs) [] n q = absurd (omega arith)
staying_at (h ∷ hs) (k ∷ going) zero q = refl
staying_at (h ∷ hs) (k ∷ going) (suc n) q = staying_at hs going n (omega arith)

-- where another number of one history's entries is to go
pub staying_set : (f : List EntryRecord → ℕ) (hs : List (List EntryRecord)) (going : List ℕ) (j g : ℕ) → length hs ≡ length going → j < length hs
    → sum_by f (histories_to_stay hs (set going j g)) + f (take (length (history hs j) - get_or going j 0) (history hs j)) ≡ sum_by f (histories_to_stay hs going) + f (take (length (history hs j) - g) (history hs j))
staying_set f [] going j g q l = absurd (omega arith)
staying_set f (h ∷ hs) [] j g q l = absurd (omega arith)
staying_set f (h ∷ hs) (k ∷ going) zero g q l =
    let a : sum_by f (take (length h - g) h ∷ histories_to_stay hs going) ≡ f (take (length h - g) h) + sum_by f (histories_to_stay hs going) = sum_by-cons f (take (length h - g) h) (histories_to_stay hs going) in
    let b : sum_by f (take (length h - k) h ∷ histories_to_stay hs going) ≡ f (take (length h - k) h) + sum_by f (histories_to_stay hs going) = sum_by-cons f (take (length h - k) h) (histories_to_stay hs going) in
    omega arith
staying_set f (h ∷ hs) (k ∷ going) (suc j) g q l =
    let a = staying_set f hs going j g (omega arith) (omega arith) in
    let b : sum_by f (take (length h - k) h ∷ histories_to_stay hs (set going j g)) ≡ f (take (length h - k) h) + sum_by f (histories_to_stay hs (set going j g)) = sum_by-cons f (take (length h - k) h) (histories_to_stay hs (set going j g)) in
    let c : sum_by f (take (length h - k) h ∷ histories_to_stay hs going) ≡ f (take (length h - k) h) + sum_by f (histories_to_stay hs going) = sum_by-cons f (take (length h - k) h) (histories_to_stay hs going) in
    omega arith

-- where none is
pub staying_none : (hs : List (List EntryRecord)) (going : List ℕ) → ((m : ℕ) → get_or going m 0 ≡ 0) → histories_to_stay hs going ≡ hs
staying_none [] going none = refl
staying_none (h ∷ hs) [] none = ap (λ z. h ∷ z) (staying_none hs [] none)
staying_none (h ∷ hs) (k ∷ going) none =
    ap (λ z. take (length h - k) h ∷ z) (staying_none hs going (λ m. none (suc m)))
    ∙ ap (λ z. z ∷ hs) (take_all (length h - k) h (let a : k ≡ 0 = none 0 in omega arith))

-- ---- marks lowered

pub node_within : (hs : List (List EntryRecord)) (n k : ℕ) → k < length (history hs n) → n < length hs
node_within hs n k l = ⊎_elim (λ q. q) (λ q. absurd (let j : length (history hs n) ≡ 0 = ap length (get_or_past hs n [] q) in omega arith)) (cases_lt n (length hs))

-- a mark lowered
pub lowered_same : (book : JournalState) (j q : ℕ) → HasValidMarks book → q < mark_of_node book j → (entries_to_remove (journal_with_lowered_mark book j q) j ≡ length (history book.histories j) - q) × (mark_of_node (journal_with_lowered_mark book j q) j ≡ q) × (is_node_pending (journal_with_lowered_mark book j q) j ≡ true)
lowered_same book j q sound l =
    let in_book : j < length book.histories = node_within book.histories j q (omega arith) in
    let g : get_or (set book.going j (length (history book.histories j) - q)) j 0 ≡ length (history book.histories j) - q = get_or-set_same book.going j (length (history book.histories j) - q) 0 (let a = sound.size in let b = sound.going_size in omega arith) in
    (g, omega arith, get_or-set_same book.waiting j true false (let a = sound.size in let b = sound.waiting_size in omega arith))

pub lowered_other : (book : JournalState) (j q m : ℕ) → m ≢ j → (entries_to_remove (journal_with_lowered_mark book j q) m ≡ entries_to_remove book m) × (mark_of_node (journal_with_lowered_mark book j q) m ≡ mark_of_node book m) × (is_node_pending (journal_with_lowered_mark book j q) m ≡ is_node_pending book m)
lowered_other book j q m ne =
    let g : get_or (set book.going j (length (history book.histories j) - q)) m 0 ≡ get_or book.going m 0 = get_or-set_other book.going j m (length (history book.histories j) - q) 0 ne in
    (g, ap (λ z. length (history book.histories m) - z) g, get_or-set_other book.waiting j m true false ne)

pub lowered_sound : (book : JournalState) (j q : ℕ) → HasValidMarks book → q < mark_of_node book j → HasValidMarks (journal_with_lowered_mark book j q)
lowered_sound book j q sound l = record {
  size = sound.size;
  matched = sound.matched;
  going_size = length-set book.going j (length (history book.histories j) - q) ∙ sound.going_size;
  waiting_size = length-set book.waiting j true ∙ sound.waiting_size;
  within = λ m. ⊎_elim
      (λ same. subst (λ z. entries_to_remove (journal_with_lowered_mark book j q) z ≤ length (history book.histories z)) (sym same) (let k = (lowered_same book j q sound l).0 in omega arith))
      (λ ne. let k = (lowered_other book j q m ne).0 in let w = sound.within m in omega arith)
      (cases_eq m j);
}

pub lowered_falls : (book : JournalState) (j q m : ℕ) → HasValidMarks book → q < mark_of_node book j → mark_of_node (journal_with_lowered_mark book j q) m ≤ mark_of_node book m
lowered_falls book j q m sound l = ⊎_elim
    (λ same. subst (λ z. mark_of_node (journal_with_lowered_mark book j q) z ≤ mark_of_node book z) (sym same) (let k = (lowered_same book j q sound l).1 in omega arith))
    (λ ne. let k = (lowered_other book j q m ne).1 in omega arith)
    (cases_eq m j)

due_lowered : (book : JournalState) (j q s m p : ℕ) (e : EntryRecord) → HasValidMarks book → q < mark_of_node book j → IsEntryToRemove book s m p e → IsEntryToRemove (journal_with_lowered_mark book j q) s m p e
due_lowered book j q s m p e sound l (Start h) = Start h
due_lowered book j q s m p e sound l (Later h) = Later (let k = lowered_falls book j q m sound l in omega arith)
due_lowered book j q s m p e sound l (Other i r names h) = Other i r names (let k = lowered_falls book j q i sound l in omega arith)
due_lowered book j q s m p e sound l (Saw i r side f looked beside there h before) = Saw i r side f looked beside there (let k = lowered_falls book j q i sound l in omega arith) before

-- a look names no other entry
look_alone : (act : EntryRole) (x : ℕ × ℕ) → entry_role_has_looked act ≡ true → pass_partner_of_entry act ≡ Some x → ⊥
look_alone (Own deed) x looked names = none-some _ names
look_alone (SentWord to side at word) x looked names = both_ways false refl looked
look_alone (TookWord from side at word) x looked names = both_ways false refl looked

-- the other entry of a pass is due as the one is
pub due_partner : (book : JournalState) (s m p j q : ℕ) (e f : EntryRecord) → HasValidMarks book → q < mark_of_node book j → entry_at_position book.histories m p ≡ Some e → pass_partner_of_entry e.act ≡ Some (j, q) → entry_at_position book.histories j q ≡ Some f → IsEntryToRemove book s m p e → IsEntryToRemove (journal_with_lowered_mark book j q) s j q f
due_partner book s m p j q e f sound l found names there (Start h) = Start (sym (sound.matched.same m p j q e f found names there) ∙ h)
due_partner book s m p j q e f sound l found names there (Later h) =
    let apart : j ≢ m = sound.matched.other m p j q e found names in
    Other m p (sound.matched.linked j q m p f e apart there found (sym (sound.matched.same m p j q e f found names there)))
    (let k = (lowered_other book j q m (λ z. apart (sym z))).1 in omega arith)
due_partner book s m p j q e f sound l found names there (Other i r other h) =
    let same = some_pair_parts _ _ _ _ (sym names ∙ other) in
    absurd (let k : mark_of_node book j < q = subst (λ z. mark_of_node book z < q) (sym same.0) (subst (λ z. mark_of_node book i < z) (sym same.1) h) in omega arith)
due_partner book s m p j q e f sound l found names there (Saw i r side g looked beside visited h before) = absurd (look_alone e.act (j, q) looked names)

-- a mark lowered to an entry that is due then
pub marked_lowered : (book : JournalState) (visited : List ℕ) (n k j q : ℕ) → AreRollbackMarks book visited n k → q < mark_of_node book j → ((f : EntryRecord) → entry_at_position book.histories j q ≡ Some f → IsEntryToRemove (journal_with_lowered_mark book j q) (stamp_of_journal_entry book n k) j q f) → AreRollbackMarks (journal_with_lowered_mark book j q) visited n k
marked_lowered book visited n k j q marked_nodes l due = record {
  sound = lowered_sound book j q marked_nodes.sound l;
  start = let f = lowered_falls book j q n marked_nodes.sound l in let b = marked_nodes.start in omega arith;
  caused = λ x r f there to_go. ⊎_elim
      (λ same. ⊎_elim
      (λ here. subst (λ z. IsEntryToRemove (journal_with_lowered_mark book j q) (stamp_of_journal_entry book n k) z r f) (sym same)
      (subst (λ z. IsEntryToRemove (journal_with_lowered_mark book j q) (stamp_of_journal_entry book n k) j z f) (sym here)
      (due f (ap (λ z. slice_get (history book.histories z) q) (sym same) ∙ ap (λ z. entry_at_position book.histories x z) (sym here) ∙ there))))
      (λ off. ⊎_elim
      (λ below. absurd (let a : mark_of_node (journal_with_lowered_mark book j q) j ≤ r = subst (λ z. mark_of_node (journal_with_lowered_mark book j q) z ≤ r) same to_go in let b = (lowered_same book j q marked_nodes.sound l).1 in omega arith))
      (λ above. Later (subst (λ z. mark_of_node (journal_with_lowered_mark book j q) z < r) (sym same) (let b = (lowered_same book j q marked_nodes.sound l).1 in omega arith)))
      off)
      (cases_order r q))
      (λ ne. due_lowered book j q (stamp_of_journal_entry book n k) x r f marked_nodes.sound l (marked_nodes.caused x r f there (let b = (lowered_other book j q x ne).1 in omega arith)))
      (cases_eq x j);
  whole = λ x r i t looked named. let a = marked_nodes.whole x r i t looked named in let b = lowered_falls book j q i marked_nodes.sound l in omega arith;
}

-- what it costs in ticks
pub lowered_line : (book : JournalState) (j q : ℕ) → HasValidMarks book → q < mark_of_node book j → count_pending_nodes (journal_with_lowered_mark book j q) ≤ count_pending_nodes book + 1
lowered_line book j q sound l =
    let in_book : j < length book.histories = node_within book.histories j q (omega arith) in
    let k : count_by (λ (b : Bool). b) (set book.waiting j true) + cond (get_or book.waiting j false) 1 0 ≡ count_by (λ (b : Bool). b) book.waiting + 1 =
    sum_by-set (λ (b : Bool). cond b 1 0) book.waiting j true false (let a = sound.size in let b = sound.waiting_size in omega arith) in
    omega arith

pub line_grows : (book : JournalState) (j q : ℕ) → HasValidMarks book → q < mark_of_node book j → count_pending_nodes book ≤ count_pending_nodes (journal_with_lowered_mark book j q)
line_grows book j q sound l =
    let in_book : j < length book.histories = node_within book.histories j q (omega arith) in
    let k : count_by (λ (b : Bool). b) (set book.waiting j true) + cond (get_or book.waiting j false) 1 0 ≡ count_by (λ (b : Bool). b) book.waiting + 1 =
    sum_by-set (λ (b : Bool). cond b 1 0) book.waiting j true false (let a = sound.size in let b = sound.waiting_size in omega arith) in
    let one = one_most (get_or book.waiting j false) in
    omega arith

pub lowered_go : (book : JournalState) (j q : ℕ) → HasValidMarks book → q < mark_of_node book j → to_go book + 1 ≤ to_go (journal_with_lowered_mark book j q)
lowered_go book j q sound l =
    let in_book : j < length book.histories = node_within book.histories j q (omega arith) in
    let k : sum_by (λ (x : ℕ). x) (set book.going j (length (history book.histories j) - q)) + get_or book.going j 0 ≡ sum_by (λ (x : ℕ). x) book.going + (length (history book.histories j) - q) =
    sum_by-set (λ (x : ℕ). x) book.going j (length (history book.histories j) - q) 0 (let a = sound.size in let b = sound.going_size in omega arith) in
    omega arith

-- how many looks stay then
looks_lowered : (book : JournalState) (j q : ℕ) → HasValidMarks book → q < mark_of_node book j
    → count_all_look_entries (histories_to_stay book.histories (journal_with_lowered_mark book j q).going) + count_look_entries (take (mark_of_node book j) (history book.histories j)) ≡ count_all_look_entries (histories_to_stay book.histories book.going) + count_look_entries (take q (history book.histories j))
looks_lowered book j q sound l =
    let in_book : j < length book.histories = node_within book.histories j q (omega arith) in
    let place : length (history book.histories j) - (length (history book.histories j) - q) ≡ q = omega arith in
    staying_set count_look_entries book.histories book.going j (length (history book.histories j) - q) (sound.size ∙ sym sound.going_size) in_book
    ∙ ap (λ z. count_all_look_entries (histories_to_stay book.histories book.going) + count_look_entries (take z (history book.histories j))) place

pub fewer_lowered : (book : JournalState) (j q : ℕ) → HasValidMarks book → q < mark_of_node book j → count_all_look_entries (histories_to_stay book.histories (journal_with_lowered_mark book j q).going) ≤ count_all_look_entries (histories_to_stay book.histories book.going)
fewer_lowered book j q sound l =
    let a = looks_lowered book j q sound l in let b = looks_less q (mark_of_node book j) (history book.histories j) (omega arith) in omega arith

pub one_lowered : (book : JournalState) (j q : ℕ) (e : EntryRecord) → HasValidMarks book → q < mark_of_node book j → entry_at_position book.histories j q ≡ Some e → entry_role_has_looked e.act ≡ true
    → count_all_look_entries (histories_to_stay book.histories (journal_with_lowered_mark book j q).going) + 1 ≤ count_all_look_entries (histories_to_stay book.histories book.going)
one_lowered book j q e sound l found looked =
    let a = looks_lowered book j q sound l in let b = looks_one q (mark_of_node book j) (history book.histories j) e found looked l in omega arith

-- ticks change no mark
abbrev pub with_ticks : JournalState → RollbackWork → JournalState
with_ticks book work = record book { ticks = work }

pub sound_with : (book : JournalState) (work : RollbackWork) → HasValidMarks book → HasValidMarks (with_ticks book work)
sound_with book work sound = record {
  size = sound.size;
  matched = sound.matched;
  going_size = sound.going_size;
  waiting_size = sound.waiting_size;
  within = sound.within;
}

pub due_with : (book : JournalState) (work : RollbackWork) (s m p : ℕ) (e : EntryRecord) → IsEntryToRemove book s m p e → IsEntryToRemove (with_ticks book work) s m p e
due_with book work s m p e (Start h) = Start h
due_with book work s m p e (Later h) = Later h
due_with book work s m p e (Other i r names h) = Other i r names h
due_with book work s m p e (Saw i r side f looked beside there h before) = Saw i r side f looked beside there h before

pub marked_with : (book : JournalState) (work : RollbackWork) (visited : List ℕ) (n k : ℕ) → AreRollbackMarks book visited n k → AreRollbackMarks (with_ticks book work) visited n k
marked_with book work visited n k marked_nodes = record {
  sound = sound_with book work marked_nodes.sound;
  start = marked_nodes.start;
  caused = λ x p e found due. due_with book work (stamp_of_journal_entry book n k) x p e (marked_nodes.caused x p e found due);
  whole = marked_nodes.whole;
}

-- what no look saw stays unseen
pub saw_lowered : (book : JournalState) (j q node m : ℕ) → HasValidMarks book → q < mark_of_node book j → node ≢ j → HasNoLookToRemove book node m → HasNoLookToRemove (journal_with_lowered_mark book j q) node m
saw_lowered book j q node m sound l ne saw p e f below found looked first =
    saw p e f (let k = lowered_falls book j q m sound l in omega arith) found looked (subst (λ z. entry_at_position book.histories node z ≡ Some f) ((lowered_other book j q node ne).1) first)

pub unseen_lowered : (book : JournalState) (j q node : ℕ) → HasValidMarks book → q < mark_of_node book j → node ≢ j → IsUnseenByLooks book node → IsUnseenByLooks (journal_with_lowered_mark book j q) node
unseen_lowered book j q node sound l ne unseen m side beside = saw_lowered book j q node m sound l ne (unseen m side beside)
