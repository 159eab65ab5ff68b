-- The position of the newest look.
use Rattle.std.proofs.Common.{◌≡◌, ℕ, zero, suc, ◌+◌, ◌-◌, ◌<◌, ◌≤◌, Bool, true, false, not, nat_eq, List, [], ◌∷◌, ◌++◌, length, map, get_or, refl, sym, ◌∙◌, ap, subst, arith, ⊎_elim, add-one}
use Rattle.std.specs.Prelude.{Some, slice_get}
use Rattle.std.specs.Bool.{OnTrue, OnFalse}
use Rattle.std.proofs.Math.ListN.{get_or-append}
use Rattle.std.proofs.Math.Seq.{get_or-append_seam}
use Rattle.std.proofs.lemmas.Bool.{cases_eq, cases_lt, both_ways, ne_eqb}
use Rattle.std.proofs.lemmas.Option.{same_Some, slice_get_within}
use Rattle.ga_node.specs.declared.kind.OwnEventKind.{OwnEventKind}
use Rattle.ga_journal.specs.declared.entry.Role.{Role}
use Rattle.ga_journal.specs.declared.entry.Role.TheVariants.{Writer, Reader}
use Rattle.ga_journal.specs.declared.entry.Part.{Part}
use Rattle.ga_journal.specs.declared.entry.Part.TheVariants.{Own, Look, Passed}
use Rattle.ga_journal.specs.declared.entry.Pass.{Pass}
use Rattle.ga_journal.specs.declared.entry.Entry.{Entry}
use Rattle.ga_journal.specs.Histories.{EntryRecord, outcome_of_own_event}
use Rattle.ga_journal.specs.inner.Histories.{HasRisingStamps, IsPastNewestLook}
use Rattle.ga_journal.specs.Events.{entry_role_has_looked}
use Rattle.ga_journal.specs.Looks.{HasLookEntry, IsNewestLookBeforeMark, HasNoLookEntry, IsLookAfterEntry, HasNoLaterLook}
use Rattle.ga_journal.specs.inner.Stored.{part_of_own_outcome, default_pass, entry_role_of_part, entry_record_of_entry, count_passes_of_part, NamesPassBelow, IsPassOfPartDropped, ArePassPlacesNamedInOrder, newest_look_end_before, newest_look_end_after, StoresNewestLookPositions, IsStoredNodeHistory}
use Rattle.ga_journal.proofs.Matches.{entries_ordered}
use Rattle.ga_journal.proofs.Storing.{numbered_le, below_by, own_numbered, pass_numbered, dropped_numbered}

-- an entry more
keep_push : (ps : List Pass) (at n m : ℕ) (es : List Entry) (e : Entry) → StoresNewestLookPositions ps at n es m → newest_look_end_before ps e.part e.place ≡ m → StoresNewestLookPositions ps at n (es ++ e ∷ []) (newest_look_end_after m (at + length es) e.part)
keep_push ps at n m [] e h k = (k ∙ sym h, ap (λ z. newest_look_end_after z at e.part) h ∙ ap (λ z. newest_look_end_after m z e.part) (let q : at ≡ at + 0 = omega arith in q))
keep_push ps at n m (x ∷ xs) e h k = (
  h.0,
  subst (λ z. StoresNewestLookPositions ps (at + 1) (newest_look_end_after n at x.part) (xs ++ e ∷ []) (newest_look_end_after m z e.part)) (let q : (at + 1) + length xs ≡ at + suc (length xs) = omega arith in q)
      (keep_push ps (at + 1) (newest_look_end_after n at x.part) m xs e h.1 k),
)

-- an entry less
keep_pop : (ps : List Pass) (at n k : ℕ) (es : List Entry) (e : Entry) → StoresNewestLookPositions ps at n (es ++ e ∷ []) k → StoresNewestLookPositions ps at n es (newest_look_end_before ps e.part e.place)
keep_pop ps at n k [] e h = sym h.0
keep_pop ps at n k (x ∷ xs) e h = (h.0, keep_pop ps (at + 1) (newest_look_end_after n at x.part) k xs e h.1)

-- a pass more, or less
looked_more : (ps : List Pass) (p : Pass) (part : Part) (place : ℕ) → NamesPassBelow part place (length ps) → newest_look_end_before (ps ++ p ∷ []) part place ≡ newest_look_end_before ps part place
looked_more ps p (Own kind) place l = refl
looked_more ps p (Look kind) place l = refl
looked_more ps p (Passed role) place l = ap (λ (z : Pass). z.looked) (get_or-append ps (p ∷ []) default_pass place l)

keep_other : (ps qs : List Pass) (at n m a b : ℕ) (es : List Entry) → ((part : Part) (place : ℕ) → NamesPassBelow part place b → newest_look_end_before qs part place ≡ newest_look_end_before ps part place) → ArePassPlacesNamedInOrder a es b → StoresNewestLookPositions ps at n es m → StoresNewestLookPositions qs at n es m
keep_other ps qs at n m a b [] f num h = h
keep_other ps qs at n m a b (e ∷ es) f num h = (
  f e.part e.place (below_by e.part e.place a b num.0 (numbered_le (a + count_passes_of_part e.part) b es num.1)) ∙ h.0,
  keep_other ps qs (at + 1) (newest_look_end_after n at e.part) m (a + count_passes_of_part e.part) b es f num.1 h.1,
)

-- an own event more
own_looked : (ps : List Pass) (kind : OwnEventKind) (look : Bool) (place : ℕ) → newest_look_end_before ps (part_of_own_outcome (outcome_of_own_event kind look)) place ≡ place
own_looked ps kind true place = refl
own_looked ps kind false place = refl

pub own_more : (es : List Entry) (ps : List Pass) (looked : ℕ) (e : Entry) (kind : OwnEventKind) (look : Bool) → IsStoredNodeHistory es ps looked → e.part ≡ part_of_own_outcome (outcome_of_own_event kind look) → e.place ≡ looked
    → IsStoredNodeHistory (es ++ e ∷ []) ps (newest_look_end_after looked (length es) (part_of_own_outcome (outcome_of_own_event kind look)))
own_more es ps looked e kind look h part place = record {
  numbered = own_numbered es (length ps) e kind look h.numbered part;
  looks = subst (λ z. StoresNewestLookPositions ps 0 0 (es ++ e ∷ []) z)
      (ap (λ z. newest_look_end_after looked (0 + length es) z) part ∙ ap (λ z. newest_look_end_after looked z (part_of_own_outcome (outcome_of_own_event kind look))) (let q : 0 + length es ≡ length es = omega arith in q))
      (keep_push ps 0 0 looked es e h.looks (ap (λ z. newest_look_end_before ps z e.place) part ∙ own_looked ps kind look e.place ∙ place));
}

-- an end of a pass more
pub pass_more : (es : List Entry) (ps : List Pass) (looked : ℕ) (p : Pass) (e : Entry) (role : Role) → IsStoredNodeHistory es ps looked → e.part ≡ Passed role → e.place ≡ length ps → p.looked ≡ looked → IsStoredNodeHistory (es ++ e ∷ []) (ps ++ p ∷ []) looked
pass_more es ps looked p e role h part place same = record {
  numbered = pass_numbered es ps p e role h.numbered part place;
  looks = subst (λ z. StoresNewestLookPositions (ps ++ p ∷ []) 0 0 (es ++ e ∷ []) z) (ap (λ z. newest_look_end_after looked (0 + length es) z) part)
      (keep_push (ps ++ p ∷ []) 0 0 looked es e
      (keep_other ps (ps ++ p ∷ []) 0 0 looked 0 (length ps) es (λ q i l. looked_more ps p q i l) h.numbered h.looks)
      (ap (λ z. newest_look_end_before (ps ++ p ∷ []) z e.place) part ∙ ap (λ z. newest_look_end_before (ps ++ p ∷ []) (Passed role) z) place
      ∙ ap (λ (z : Pass). z.looked) (get_or-append_seam ps p [] default_pass) ∙ same));
}

-- an entry less, and the last pass where it is of one
keep_dropped : (part : Part) (ps qs : List Pass) (m : ℕ) (es : List Entry) → ArePassPlacesNamedInOrder 0 es (length qs) → IsPassOfPartDropped part ps qs → StoresNewestLookPositions ps 0 0 es m → StoresNewestLookPositions qs 0 0 es m
keep_dropped (Own kind) ps qs m es num d h = subst (λ z. StoresNewestLookPositions z 0 0 es m) (sym d) h
keep_dropped (Look kind) ps qs m es num d h = subst (λ z. StoresNewestLookPositions z 0 0 es m) (sym d) h
keep_dropped (Passed role) ps qs m es num d h =
    keep_other ps qs 0 0 m 0 (length qs) es (λ q i l. sym (ap (λ z. newest_look_end_before z q i) d.1 ∙ looked_more qs d.0 q i l)) num h

pub one_less : (es : List Entry) (e : Entry) (ps qs : List Pass) (looked : ℕ) → IsStoredNodeHistory (es ++ e ∷ []) ps looked → IsPassOfPartDropped e.part ps qs → IsStoredNodeHistory es qs (newest_look_end_before ps e.part e.place)
one_less es e ps qs looked h d = record {
  numbered = dropped_numbered es e ps qs h.numbered d;
  looks = keep_dropped e.part ps qs (newest_look_end_before ps e.part e.place) es (dropped_numbered es e ps qs h.numbered d) d (keep_pop ps 0 0 looked es e h.looks);
}

-- a part is a look where its act is
abbrev part_looks : Part → Bool
part_looks (Own kind) = false
part_looks (Look kind) = true
part_looks (Passed role) = false

act_looks : (ps : List Pass) (part : Part) (place : ℕ) → entry_role_has_looked (entry_role_of_part ps part place) ≡ part_looks part
act_looks ps (Own kind) place = refl
act_looks ps (Look kind) place = refl
act_looks ps (Passed Writer) place = refl
act_looks ps (Passed Reader) place = refl

-- no look more
past_blind : (h : List EntryRecord) (at n : ℕ) (e : EntryRecord) → IsPastNewestLook h at n → slice_get h at ≡ Some e → entry_role_has_looked e.act ≡ false → IsPastNewestLook h (at + 1) n
past_blind h at zero e t found blind = λ p f l g. ⊎_elim
    (λ k. t p f k g)
    (λ k. ap (λ (z : EntryRecord). entry_role_has_looked z.act) (same_Some f e (sym g ∙ ap (slice_get h) (let q : p ≡ at = omega (arith, l, k) in q) ∙ found)) ∙ blind)
    (cases_lt p at)
past_blind h at (suc n) e t found blind = record {
  entry = t.entry;
  below = let l = t.below in omega (arith, l);
  found = t.found;
  looked = t.looked;
  newest = λ p f above l g. ⊎_elim
      (λ k. t.newest p f above k g)
      (λ k. ap (λ (z : EntryRecord). entry_role_has_looked z.act) (same_Some f e (sym g ∙ ap (slice_get h) (let q : p ≡ at = omega (arith, l, k) in q) ∙ found)) ∙ blind)
      (cases_lt p at);
}

-- an entry on
past_next : (h : List EntryRecord) (at n : ℕ) (e : EntryRecord) (part : Part) → IsPastNewestLook h at n → slice_get h at ≡ Some e → entry_role_has_looked e.act ≡ part_looks part → IsPastNewestLook h (at + 1) (newest_look_end_after n at part)
past_next h at n e (Own kind) t found is = past_blind h at n e t found is
past_next h at n e (Look kind) t found is =
    subst (λ z. IsPastNewestLook h (at + 1) z) (sym (add-one at))
    (record { entry = e; below = (omega arith); found = found; looked = is; newest = λ p f above l g. absurd (let q : at + 1 ≤ at = omega (arith, above, l) in omega (arith, q)) })
past_next h at n e (Passed role) t found is = past_blind h at n e t found is

-- what each entry keeps
pub past_at : (h : List EntryRecord) (ps : List Pass) (at n m : ℕ) (es : List Entry) (i : ℕ) (e : Entry) → ((j : ℕ) → slice_get h (at + j) ≡ slice_get (map (entry_record_of_entry ps) es) j) → IsPastNewestLook h at n → StoresNewestLookPositions ps at n es m
    → i < length es → e ≡ get_or es i e → IsPastNewestLook h (at + i) (newest_look_end_before ps e.part e.place)
past_at h ps at n m [] i e same t k l is = absurd (omega (arith, l))
past_at h ps at n m (x ∷ xs) zero e same t k l is =
    subst (λ (z : Entry). IsPastNewestLook h (at + 0) (newest_look_end_before ps z.part z.place)) (sym is)
    (subst (λ z. IsPastNewestLook h (at + 0) z) (sym k.0) (subst (λ z. IsPastNewestLook h z n) (let q : at ≡ at + 0 = omega arith in q) t))
past_at h ps at n m (x ∷ xs) (suc i) e same t k l is =
    subst (λ z. IsPastNewestLook h z (newest_look_end_before ps e.part e.place)) (let q : (at + 1) + i ≡ at + suc i = omega arith in q)
    (past_at h ps (at + 1) (newest_look_end_after n at x.part) m xs i e
    (λ j. ap (slice_get h) (let q : (at + 1) + j ≡ at + suc j = omega arith in q) ∙ same (suc j))
    (past_next h at n (entry_record_of_entry ps x) x.part t (ap (slice_get h) (let q : at ≡ at + 0 = omega arith in q) ∙ same 0) (act_looks ps x.part x.place)) k.1 (omega (arith, l)) is)

pub past_end : (h : List EntryRecord) (ps : List Pass) (at n m : ℕ) (es : List Entry) → ((j : ℕ) → slice_get h (at + j) ≡ slice_get (map (entry_record_of_entry ps) es) j) → IsPastNewestLook h at n → StoresNewestLookPositions ps at n es m → IsPastNewestLook h (at + length es) m
past_end h ps at n m [] same t k = subst (λ z. IsPastNewestLook h (at + 0) z) k (subst (λ z. IsPastNewestLook h z n) (let q : at ≡ at + 0 = omega arith in q) t)
past_end h ps at n m (x ∷ xs) same t k =
    subst (λ z. IsPastNewestLook h z m) (let q : (at + 1) + length xs ≡ at + suc (length xs) = omega arith in q)
    (past_end h ps (at + 1) (newest_look_end_after n at x.part) m xs
    (λ j. ap (slice_get h) (let q : (at + 1) + j ≡ at + suc j = omega arith in q) ∙ same (suc j))
    (past_next h at n (entry_record_of_entry ps x) x.part t (ap (slice_get h) (let q : at ≡ at + 0 = omega arith in q) ∙ same 0) (act_looks ps x.part x.place)) k.1)

-- at first there is none
pub none_first : (h : List EntryRecord) → IsPastNewestLook h 0 0
none_first h p e l g = absurd (omega (arith, l))

pub past_none : (h : List EntryRecord) (mark n : ℕ) → n ≡ 0 → IsPastNewestLook h mark n → HasNoLookEntry h mark
past_none h mark zero q t = t
past_none h mark (suc n) q t = absurd (omega (arith, q))

pub past_some : (h : List EntryRecord) (mark n : ℕ) → 0 < n → IsPastNewestLook h mark n → IsNewestLookBeforeMark h mark (n - 1)
past_some h mark zero l t = absurd (omega (arith, l))
past_some h mark (suc n) l t = subst (λ z. IsNewestLookBeforeMark h mark z) (let q : n ≡ suc n - 1 = omega arith in q) t

-- the newest look, and an entry of another history
pub look_first : (h : List EntryRecord) (mark : ℕ) (others : List EntryRecord) (place at stamp : ℕ) (e f : EntryRecord) → (k : IsNewestLookBeforeMark h mark at) → slice_get others place ≡ Some f → f.stamp ≡ stamp → slice_get h at ≡ Some e → stamp < e.stamp
    → IsLookAfterEntry h mark others place at
look_first h mark others place at stamp e f k first is found l = record {
  look = k;
  gone = f;
  first = first;
  after = let q : k.entry.stamp ≡ e.stamp = ap (λ (z : EntryRecord). z.stamp) (same_Some k.entry e (sym k.found ∙ found)) in omega (arith, q, is, l);
}

pub look_before : (h : List EntryRecord) (mark : ℕ) (others : List EntryRecord) (place at stamp top : ℕ) (e f : EntryRecord) → HasRisingStamps 0 h top → IsNewestLookBeforeMark h mark at → slice_get others place ≡ Some f → f.stamp ≡ stamp → slice_get h at ≡ Some e → e.stamp ≤ stamp
    → HasNoLaterLook h mark others place
look_before h mark others place at stamp top e f rise k first is found l p x y below there looked gone =
    let s : y.stamp ≡ stamp = ap (λ (z : EntryRecord). z.stamp) (same_Some y f (sym gone ∙ first)) ∙ is in
    ⊎_elim
    (λ j. let q = entries_ordered 0 top p at h x e rise there found j in omega (arith, q, s, l))
    (λ j. ⊎_elim
    (λ i. let q : x.stamp ≡ e.stamp = ap (λ (z : EntryRecord). z.stamp) (same_Some x e (sym there ∙ ap (slice_get h) i ∙ found)) in omega (arith, q, s, l))
    (λ ne. absurd (looks_blind (k.newest p x (omega (arith, j, ne)) below there) looked))
    (cases_eq p at))
    (cases_lt p at)
  where
    looks_blind : {b : Bool} → b ≡ false → b ≡ true → ⊥
    looks_blind q r = cc

-- whether a history has a look at all
pub some_looked : (items : List EntryRecord) (looked : ℕ) → IsPastNewestLook items (length items) looked → OnTrue (not (nat_eq looked 0)) (HasLookEntry items)
some_looked items zero h = tt
some_looked items (suc at) h = subst (λ b. OnTrue (not b) (HasLookEntry items)) (sym (ne_eqb (suc at) 0 (λ q. omega (arith, q)))) (at, h.entry, h.found, h.looked)

pub none_looked : (items : List EntryRecord) (looked : ℕ) → IsPastNewestLook items (length items) looked → OnFalse (not (nat_eq looked 0)) (HasNoLookEntry items (length items))
none_looked items zero h = h
none_looked items (suc at) h = subst (λ b. OnFalse (not b) (HasNoLookEntry items (length items))) (sym (ne_eqb (suc at) 0 (λ q. omega (arith, q)))) tt

-- where there is none, none came after anything
pub none_after : (items : List EntryRecord) (mark : ℕ) (others : List EntryRecord) (place : ℕ) → HasNoLookEntry items (length items) → HasNoLaterLook items mark others place
none_after items mark others place none p e f below found looked first = absurd (both_ways (entry_role_has_looked e.act) (none p e (slice_get_within items p e found) found) looked)
