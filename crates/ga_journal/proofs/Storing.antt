-- How a history is stored.
use Rattle.ga_journal.specs.declared.entry.EntryRole.TheVariants as act
use Rattle.std.proofs.Common.{◌≡◌, ℕ, zero, suc, ◌+◌, ◌-◌, ◌<◌, ◌≤◌, Bool, true, false, List, [], ◌∷◌, ◌++◌, length, map, get_or, set, take, refl, sym, ◌∙◌, ap, subst, arith, length-append, add-zero, drop, length-take}
use Rattle.std.specs.Prelude.{Some, slice_get}
use Rattle.std.proofs.Math.ListN.{get_or-append}
use Rattle.std.proofs.Math.Seq.{get_or-append_seam}
use Rattle.std.proofs.lemmas.List.{length-map, map-append, take_all, take_more, length-drop, length-take-le, take-take, take_at, get_or-take, get_or-drop, get_or_push}
use Rattle.ga_node.specs.declared.kind.OwnEventKind.{OwnEventKind}
use Rattle.ga_journal.specs.declared.entry.Role.{Role}
use Rattle.ga_journal.specs.declared.entry.Role.TheVariants.{Writer, Reader}
use Rattle.ga_journal.specs.declared.entry.Part.{Part}
use Rattle.ga_journal.specs.declared.entry.Part.TheVariants.{Own, Look, Passed}
use Rattle.ga_journal.specs.declared.entry.Pass.{Pass}
use Rattle.ga_journal.specs.declared.entry.Entry.{Entry}
use Rattle.ga_journal.specs.Histories.{EntryRecord, new_entry_record, outcome_of_own_event}
use Rattle.ga_journal.specs.inner.Histories.{stamp_bound_or_default, stamp_bound_of_history}
use Rattle.ga_journal.specs.inner.Stored.{part_of_own_outcome, entry_role_of_pass_end, default_pass, entry_role_of_part, entry_record_of_entry, count_passes_of_part, NamesPassPlace, NamesPassBelow, IsPassOfPartDropped, ArePassPlacesNamedInOrder, IsStoredNodeHistory}
use Rattle.ga_journal.proofs.Walks.{entry_in_front}

pub numbered_le : (n m : ℕ) (es : List Entry) → ArePassPlacesNamedInOrder n es m → n ≤ m
numbered_le n m [] h = omega (arith, h)
numbered_le n m (e ∷ es) h = let k = numbered_le (n + count_passes_of_part e.part) m es h.1 in omega (arith, k)

-- there are no more passes than entries
one_pass : (part : Part) → count_passes_of_part part ≤ 1
one_pass (Own kind) = omega arith
one_pass (Look kind) = omega arith
one_pass (Passed role) = omega arith

pub numbered_long : (n m : ℕ) (es : List Entry) → ArePassPlacesNamedInOrder n es m → m ≤ n + length es
numbered_long n m [] h = omega (arith, h)
numbered_long n m (e ∷ es) h = let k = numbered_long (n + count_passes_of_part e.part) m es h.1 in let j = one_pass e.part in omega (arith, k, j)

-- an entry more
pub numbered_push : (n m : ℕ) (es : List Entry) (e : Entry) → ArePassPlacesNamedInOrder n es m → NamesPassPlace e.part e.place m → ArePassPlacesNamedInOrder n (es ++ e ∷ []) (m + count_passes_of_part e.part)
numbered_push n m [] e h k = (subst (λ z. NamesPassPlace e.part e.place z) (sym h) k, ap (λ z. z + count_passes_of_part e.part) h)
numbered_push n m (x ∷ xs) e h k = (h.0, numbered_push (n + count_passes_of_part x.part) m xs e h.1 k)

-- an entry less
pub record IsNumberedLast (n : ℕ) (es : List Entry) (e : Entry) (k : ℕ) : Type 0 where
  pub before : ℕ
  pub numbered : ArePassPlacesNamedInOrder n es before
  pub names : NamesPassPlace e.part e.place before
  pub sum : k ≡ before + count_passes_of_part e.part

pub numbered_pop : (n k : ℕ) (es : List Entry) (e : Entry) → ArePassPlacesNamedInOrder n (es ++ e ∷ []) k → IsNumberedLast n es e k
numbered_pop n k [] e h = record { before = n; numbered = refl; names = h.0; sum = sym h.1 }
numbered_pop n k (x ∷ xs) e h =
    let r = numbered_pop (n + count_passes_of_part x.part) k xs e h.1 in
    record { before = r.before; numbered = (h.0, r.numbered); names = r.names; sum = r.sum }

-- what an entry names is there
pub below_by : (part : Part) (place n m : ℕ) → NamesPassPlace part place n → n + count_passes_of_part part ≤ m → NamesPassBelow part place m
below_by (Own kind) place n m h l = tt
below_by (Look kind) place n m h l = tt
below_by (Passed role) place n m h l = omega (arith, h, l)

pub numbered_below : (n m i : ℕ) (es : List Entry) (e : Entry) → ArePassPlacesNamedInOrder n es m → i < length es → e ≡ get_or es i e → NamesPassBelow e.part e.place m
numbered_below n m i [] e h l at = absurd (omega (arith, l))
numbered_below n m zero (x ∷ xs) e h l at =
    subst (λ (z : Entry). NamesPassBelow z.part z.place m) (sym at) (below_by x.part x.place n m h.0 (numbered_le (n + count_passes_of_part x.part) m xs h.1))
numbered_below n m (suc i) (x ∷ xs) e h l at = numbered_below (n + count_passes_of_part x.part) m i xs e h.1 (omega (arith, l)) at

-- a pass more leaves what the entries before tell
act_more : (ps : List Pass) (p : Pass) (part : Part) (place : ℕ) → NamesPassBelow part place (length ps) → entry_role_of_part (ps ++ p ∷ []) part place ≡ entry_role_of_part ps part place
act_more ps p (Own kind) place l = refl
act_more ps p (Look kind) place l = refl
act_more ps p (Passed role) place l = ap (λ z. entry_role_of_pass_end role z) (get_or-append ps (p ∷ []) default_pass place l)

below_more : (part : Part) (place n m : ℕ) → NamesPassBelow part place n → n ≤ m → NamesPassBelow part place m
below_more (Own kind) place n m h l = tt
below_more (Look kind) place n m h l = tt
below_more (Passed role) place n m h l = omega (arith, h, l)

pub pasts_more : (ps : List Pass) (p : Pass) (n m : ℕ) (es : List Entry) → ArePassPlacesNamedInOrder n es m → m ≤ length ps → map (entry_record_of_entry (ps ++ p ∷ [])) es ≡ map (entry_record_of_entry ps) es
pasts_more ps p n m [] h l = refl
pasts_more ps p n m (e ∷ es) h l =
    let b : NamesPassBelow e.part e.place (length ps) = below_more e.part e.place m (length ps) (below_by e.part e.place n m h.0 (numbered_le (n + count_passes_of_part e.part) m es h.1)) l in
    ap (λ z. new_entry_record e.stamp z e.saved ∷ map (entry_record_of_entry (ps ++ p ∷ [])) es) (act_more ps p e.part e.place b)
    ∙ ap (λ z. entry_record_of_entry ps e ∷ z) (pasts_more ps p (n + count_passes_of_part e.part) m es h.1 l)

-- a pass with another position of the newest look; it is no part of an act
abbrev pub with_looked : Pass → ℕ → Pass
with_looked p looked = record { partner = p.partner; side = p.side; at = p.at; looked = looked; word = p.word }

pub same_act : (role : Role) (p : Pass) (looked : ℕ) → entry_role_of_pass_end role (with_looked p looked) ≡ entry_role_of_pass_end role p
same_act Writer p looked = refl
same_act Reader p looked = refl

-- the act at the new place is that of the new pass
pub act_last : (ps : List Pass) (p : Pass) (role : Role) → entry_role_of_part (ps ++ p ∷ []) (Passed role) (length ps) ≡ entry_role_of_pass_end role p
act_last ps p role = ap (λ z. entry_role_of_pass_end role z) (get_or-append_seam ps p [] default_pass)

-- an entry more with no pass
pub pasts_own : (ps : List Pass) (es : List Entry) (e : Entry) → map (entry_record_of_entry ps) (es ++ e ∷ []) ≡ map (entry_record_of_entry ps) es ++ entry_record_of_entry ps e ∷ []
pasts_own ps es e = map-append (entry_record_of_entry ps) es (e ∷ [])

-- an end of a pass more
pub pasts_passed : (ps : List Pass) (p : Pass) (role : Role) (es : List Entry) (e : Entry) → ArePassPlacesNamedInOrder 0 es (length ps) → e.part ≡ Passed role → e.place ≡ length ps
    → map (entry_record_of_entry (ps ++ p ∷ [])) (es ++ e ∷ []) ≡ map (entry_record_of_entry ps) es ++ new_entry_record e.stamp (entry_role_of_pass_end role p) e.saved ∷ []
pasts_passed ps p role es e h part place =
    map-append (entry_record_of_entry (ps ++ p ∷ [])) es (e ∷ [])
    ∙ ap (λ z. z ++ entry_record_of_entry (ps ++ p ∷ []) e ∷ []) (pasts_more ps p 0 (length ps) es h (omega arith))
    ∙ ap (λ z. map (entry_record_of_entry ps) es ++ new_entry_record e.stamp z e.saved ∷ [])
    (ap (λ z. entry_role_of_part (ps ++ p ∷ []) z e.place) part ∙ ap (λ z. entry_role_of_part (ps ++ p ∷ []) (Passed role) z) place ∙ act_last ps p role)

-- the entry at a place
pub pasts_at : (ps : List Pass) (es : List Entry) (i : ℕ) (e : Entry) → i < length es → e ≡ get_or es i e → slice_get (map (entry_record_of_entry ps) es) i ≡ Some (entry_record_of_entry ps e)
pasts_at ps [] i e l at = absurd (omega (arith, l))
pasts_at ps (x ∷ xs) zero e l at = ap (λ z. Some (entry_record_of_entry ps z)) (sym at)
pasts_at ps (x ∷ xs) (suc i) e l at = pasts_at ps xs i e (omega (arith, l)) at

-- the last stamp
pub last_bound : (low : ℕ) (ps : List Pass) (es : List Entry) (e : Entry) (i : ℕ) → i + 1 ≡ length es → e ≡ get_or es i e → stamp_bound_or_default low (map (entry_record_of_entry ps) es) ≡ e.stamp + 1
last_bound low ps [] e i q h = absurd (omega arith)
last_bound low ps (a ∷ []) e zero q h = ap (λ (z : Entry). z.stamp + 1) (sym h)
last_bound low ps (a ∷ []) e (suc i) q h = absurd (omega arith)
last_bound low ps (a ∷ b ∷ bs) e zero q h = absurd (omega arith)
last_bound low ps (a ∷ b ∷ bs) e (suc i) q h = last_bound (a.stamp + 1) ps (b ∷ bs) e i (omega arith) h

pub none_bound : (ps : List Pass) (es : List Entry) → length es ≡ 0 → stamp_bound_of_history (map (entry_record_of_entry ps) es) ≡ 0
none_bound ps [] h = refl
none_bound ps (x ∷ xs) h = absurd (omega (arith, h))

-- an own event more
act_own : (ps : List Pass) (kind : OwnEventKind) (look : Bool) (place : ℕ) → entry_role_of_part ps (part_of_own_outcome (outcome_of_own_event kind look)) place ≡ act.Own (outcome_of_own_event kind look)
act_own ps kind true place = refl
act_own ps kind false place = refl

pub pasts_deed : (ps : List Pass) (es : List Entry) (e : Entry) (kind : OwnEventKind) (look : Bool) → e.part ≡ part_of_own_outcome (outcome_of_own_event kind look) → map (entry_record_of_entry ps) (es ++ e ∷ []) ≡ map (entry_record_of_entry ps) es ++ new_entry_record e.stamp (act.Own (outcome_of_own_event kind look)) e.saved ∷ []
pasts_deed ps es e kind look part =
    pasts_own ps es e ∙ ap (λ z. map (entry_record_of_entry ps) es ++ new_entry_record e.stamp z e.saved ∷ []) (ap (λ z. entry_role_of_part ps z e.place) part ∙ act_own ps kind look e.place)

-- the last of a list
pub end_of_list : (es : List Entry) (e : Entry) (i : ℕ) → i + 1 ≡ length es → e ≡ get_or es i e → es ≡ take i es ++ e ∷ []
end_of_list es e i long at =
    sym (take_all (i + 1) es (omega (arith, long))) ∙ take_more es i e (omega (arith, long)) ∙ ap (λ z. take i es ++ z ∷ []) (sym at)

-- an entry less, and the last pass where it is of one
drop_counts : (part : Part) (ps qs : List Pass) (before : ℕ) → length ps ≡ before + count_passes_of_part part → IsPassOfPartDropped part ps qs → before ≡ length qs
drop_counts (Own kind) ps qs before sum d = let k : length qs ≡ length ps = ap length d in omega (arith, k, sum)
drop_counts (Look kind) ps qs before sum d = let k : length qs ≡ length ps = ap length d in omega (arith, k, sum)
drop_counts (Passed role) ps qs before sum d = let k : length ps ≡ length qs + 1 = ap length d.1 ∙ length-append qs (d.0 ∷ []) in omega (arith, k, sum)

drop_same : (part : Part) (ps qs : List Pass) (es : List Entry) → ArePassPlacesNamedInOrder 0 es (length qs) → IsPassOfPartDropped part ps qs → map (entry_record_of_entry ps) es ≡ map (entry_record_of_entry qs) es
drop_same (Own kind) ps qs es h d = ap (λ z. map (entry_record_of_entry z) es) (sym d)
drop_same (Look kind) ps qs es h d = ap (λ z. map (entry_record_of_entry z) es) (sym d)
drop_same (Passed role) ps qs es h d = ap (λ z. map (entry_record_of_entry z) es) d.1 ∙ pasts_more qs d.0 0 (length qs) es h (omega arith)

pub dropped_numbered : (es : List Entry) (e : Entry) (ps qs : List Pass) → ArePassPlacesNamedInOrder 0 (es ++ e ∷ []) (length ps) → IsPassOfPartDropped e.part ps qs → ArePassPlacesNamedInOrder 0 es (length qs)
dropped_numbered es e ps qs h d =
    let r : IsNumberedLast 0 es e (length ps) = numbered_pop 0 (length ps) es e h in
    subst (λ z. ArePassPlacesNamedInOrder 0 es z) (drop_counts e.part ps qs r.before r.sum d) r.numbered

pub dropped_pasts : (es : List Entry) (e : Entry) (ps qs : List Pass) → ArePassPlacesNamedInOrder 0 (es ++ e ∷ []) (length ps) → IsPassOfPartDropped e.part ps qs
    → map (entry_record_of_entry ps) (es ++ e ∷ []) ≡ map (entry_record_of_entry qs) es ++ entry_record_of_entry ps e ∷ []
dropped_pasts es e ps qs h d =
    map-append (entry_record_of_entry ps) es (e ∷ []) ∙ ap (λ z. z ++ entry_record_of_entry ps e ∷ []) (drop_same e.part ps qs es (dropped_numbered es e ps qs h d) d)

pub last_counts : (es : List Entry) (e : Entry) (ps : List Pass) → ArePassPlacesNamedInOrder 0 (es ++ e ∷ []) (length ps) → count_passes_of_part e.part ≤ length ps
last_counts es e ps h = let r : IsNumberedLast 0 es e (length ps) = numbered_pop 0 (length ps) es e h in omega (arith, r.sum)

last_below : (part : Part) (place before n : ℕ) → NamesPassPlace part place before → n ≡ before + count_passes_of_part part → NamesPassBelow part place n
last_below (Own kind) place before n h q = tt
last_below (Look kind) place before n h q = tt
last_below (Passed role) place before n h q = omega (arith, h, q)

pub last_is_below : (es : List Entry) (e : Entry) (ps : List Pass) → ArePassPlacesNamedInOrder 0 (es ++ e ∷ []) (length ps) → NamesPassBelow e.part e.place (length ps)
last_is_below es e ps h =
    let r : IsNumberedLast 0 es e (length ps) = numbered_pop 0 (length ps) es e h in
    last_below e.part e.place r.before (length ps) r.names r.sum

-- the last entry read and written
pub read_last : (es all : List Entry) (first e : Entry) (k : ℕ) → all ≡ es ++ first ∷ [] → k + 1 ≡ length all → e ≡ get_or all k e → e ≡ first
read_last es all first e k is long at =
    let q : k ≡ length es = (let j : length all ≡ length es + 1 = ap length is ∙ length-append es (first ∷ []) in omega (arith, j, long)) in
    at ∙ ap (λ z. get_or z k e) is ∙ ap (λ z. get_or (es ++ first ∷ []) z e) q ∙ get_or-append_seam es first [] e

set_end : (es : List Entry) (first e : Entry) → set (es ++ first ∷ []) (length es) e ≡ es ++ e ∷ []
set_end [] first e = refl
set_end (x ∷ xs) first e = ap (λ z. x ∷ z) (set_end xs first e)

pub set_last : (es all : List Entry) (first e : Entry) (k : ℕ) → all ≡ es ++ first ∷ [] → k + 1 ≡ length all → set all k e ≡ es ++ e ∷ []
set_last es all first e k is long =
    let q : k ≡ length es = (let j : length all ≡ length es + 1 = ap length is ∙ length-append es (first ∷ []) in omega (arith, j, long)) in
    ap (λ z. set z k e) is ∙ ap (λ z. set (es ++ first ∷ []) z e) q ∙ set_end es first e

-- an own event more is numbered
pub own_numbered : (es : List Entry) (m : ℕ) (e : Entry) (kind : OwnEventKind) (look : Bool) → ArePassPlacesNamedInOrder 0 es m → e.part ≡ part_of_own_outcome (outcome_of_own_event kind look) → ArePassPlacesNamedInOrder 0 (es ++ e ∷ []) m
own_numbered es m e kind true h part =
    subst (λ z. ArePassPlacesNamedInOrder 0 (es ++ e ∷ []) z) (ap (λ (p : Part). m + count_passes_of_part p) part ∙ add-zero m)
    (numbered_push 0 m es e h (subst (λ (p : Part). NamesPassPlace p e.place m) (sym part) tt))
own_numbered es m e kind false h part =
    subst (λ z. ArePassPlacesNamedInOrder 0 (es ++ e ∷ []) z) (ap (λ (p : Part). m + count_passes_of_part p) part ∙ add-zero m)
    (numbered_push 0 m es e h (subst (λ (p : Part). NamesPassPlace p e.place m) (sym part) tt))

-- and a pass more
pub pass_numbered : (es : List Entry) (ps : List Pass) (p : Pass) (e : Entry) (role : Role) → ArePassPlacesNamedInOrder 0 es (length ps) → e.part ≡ Passed role → e.place ≡ length ps → ArePassPlacesNamedInOrder 0 (es ++ e ∷ []) (length (ps ++ p ∷ []))
pass_numbered es ps p e role h part place =
    subst (λ z. ArePassPlacesNamedInOrder 0 (es ++ e ∷ []) z) (ap (λ (q : Part). length ps + count_passes_of_part q) part ∙ sym (length-append ps (p ∷ [])))
    (numbered_push 0 (length ps) es e h (subst (λ (q : Part). NamesPassPlace q e.place (length ps)) (sym part) place))

some_entries : (ps : List Pass) (es : List Entry) → 0 < stamp_bound_of_history (map (entry_record_of_entry ps) es) → 0 < length es
some_entries ps [] h = h
some_entries ps (x ∷ xs) h = omega arith

-- an entry that was read, in the first entries of the history
pub read_back : (ps : List Pass) (es : List Entry) (all : List EntryRecord) (from at : ℕ) (e : Entry) → all ≡ map (entry_record_of_entry ps) es → at < from → from ≤ length all → e ≡ get_or es at e → slice_get (take from all) at ≡ Some (entry_record_of_entry ps e)
read_back ps es all from at e same l within read =
    let long : length all ≡ length es = ap length same ∙ length-map es (entry_record_of_entry ps) in
    entry_in_front all from at (entry_record_of_entry ps e) l (ap (λ (h : List EntryRecord). slice_get h at) same ∙ pasts_at ps es at e (omega (arith, long, l, within)) read)

-- the last entry, read before it is taken out
pub popped_end : (ps : List Pass) (es new : List Entry) (e : Entry) (i n : ℕ) → 0 < stamp_bound_of_history (map (entry_record_of_entry ps) es) → i ≡ length es - 1 → n ≡ length es → e ≡ get_or es i e → new ≡ take (n - 1) es → es ≡ new ++ e ∷ []
popped_end ps es new e i n some last long at less =
    let l : 0 < length es = some_entries ps es some in
    end_of_list es e i (omega (arith, l, last)) at
    ∙ ap (λ z. take z es ++ e ∷ []) (let q : i ≡ n - 1 = omega (arith, last, long) in q)
    ∙ ap (λ z. z ++ e ∷ []) (sym less)

-- the history as it is stored, before its last entry and with it, where that is read
pub ended : (ps : List Pass) (es read : List Entry) (e : Entry) (n looked : ℕ) → read ≡ es → length read ≡ n → 0 < stamp_bound_of_history (map (entry_record_of_entry ps) es) → e ≡ get_or es (length read - 1) e → IsStoredNodeHistory es ps looked
    → (es ≡ take (n - 1) es ++ e ∷ []) × IsStoredNodeHistory (take (n - 1) es ++ e ∷ []) ps looked
ended ps es read e n looked same long some at stored =
    let here : length read ≡ length es = ap length same in
    let is : es ≡ take (n - 1) es ++ e ∷ [] = popped_end ps es (take (n - 1) es) e (length read - 1) n some (ap (λ k. k - 1) here) (sym long ∙ here) at refl in
    (is, subst (λ z. IsStoredNodeHistory z ps looked) is stored)

-- ---- entries read from the last one back

-- how many entries are read
pub slice_length : (ps : List Pass) (es slice : List Entry) (all : List EntryRecord) (from to : ℕ) → all ≡ map (entry_record_of_entry ps) es → from ≤ length all → slice ≡ take (from - to) (drop to es) → length slice ≡ from - to
slice_length ps es slice all from to same within is =
    let long : length all ≡ length es = ap length same ∙ length-map es (entry_record_of_entry ps) in
    let after : length (drop to es) ≡ length es - to = length-drop to es in
    ap length is ∙ length-take-le (from - to) (drop to es) (omega (arith, long, after, within))

-- an entry less
pub longer : (left rest : List Entry) (e : Entry) → left ≡ rest ++ e ∷ [] → length left ≡ length rest + 1
longer left rest e last = ap length last ∙ length-append rest (e ∷ [])

-- what is left after the last entry
pub left_before : (slice left rest : List Entry) (e : Entry) → left ≡ take (length left) slice → left ≡ rest ++ e ∷ [] → rest ≡ take (length rest) slice
left_before slice left rest e first last =
    let long = longer left rest e last in
    sym (take_at rest (e ∷ []) (length rest) refl)
    ∙ ap (take (length rest)) (sym last ∙ first)
    ∙ take-take (length rest) (length left) slice (omega (arith, long))

-- the last entry of what is left
pub read_last_left : (ps : List Pass) (es slice left rest : List Entry) (all : List EntryRecord) (from to : ℕ) (e : Entry) → all ≡ map (entry_record_of_entry ps) es → to ≤ from → from ≤ length all → slice ≡ take (from - to) (drop to es)
    → left ≡ take (length left) slice → left ≡ rest ++ e ∷ [] → slice_get (take from all) (to + length rest) ≡ Some (entry_record_of_entry ps e)
read_last_left ps es slice left rest all from to e same order within is first last =
    let long = longer left rest e last in
    let short : length left ≤ length slice = (let q : length left ≡ _ = ap length first ∙ length-take (length left) slice in omega (arith, q)) in
    let some = slice_length ps es slice all from to same within is in
    read_back ps es all from (to + length rest) e same (omega (arith, long, short, some, order)) within
    (sym (get_or_push rest e e (length rest) refl)
    ∙ ap (λ z. get_or z (length rest) e) (sym last ∙ first)
    ∙ get_or-take (length left) slice (length rest) e (omega (arith, long))
    ∙ ap (λ z. get_or z (length rest) e) is
    ∙ get_or-take (from - to) (drop to es) (length rest) e (omega (arith, long, short, some))
    ∙ get_or-drop to es (length rest) e)
