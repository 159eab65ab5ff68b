-- Removing the nodes that may still continue.
use Rattle.std.proofs.Common.{◌≡◌, ◌≢◌, ℕ, zero, suc, ◌<◌, Bool, true, false, ◌&&◌, ◌||◌, List, [], ◌∷◌, length, get_or, set, get_or-set_same, get_or-set_other, Some, None, true≢false, refl, sym, ◌∙◌, ap, subst, arith, ⊎_elim}
use Rattle.std.specs.Prelude.{Option, not, is_some}
use Rattle.std.proofs.lemmas.Bool.{cases_eq, cases_lt, or_left}
use Rattle.std.proofs.lemmas.List.{get_or_past}
use Rattle.ga_ports.specs.declared.side.Side.{Side}
use Rattle.ga_ports.specs.declared.side.Side.TheVariants.{Right, Down, Left, Up}
use Rattle.ga_node.specs.Record.{NodeRecord}
use Rattle.ga_node.specs.Table.{refusal_of_own_event}
use Rattle.ga_node.specs.declared.kind.EventRefusal.{EventRefusal}
use Rattle.ga_grid.specs.Grid.{neighbour_number}
use Rattle.ga_grid.specs.Chip.{node_record_at}
use Rattle.ga_event.specs.Apply.{waits_to_write_side, waits_to_read_side}
use Rattle.ga_causal.specs.Dependence.{is_node_flagged}
use Rattle.ga_races.specs.Acts.{AreDeadlocked, awaits_side, IsMarkedSubset}
use Rattle.ga_races.specs.inner.{may_free_waiting_node, is_freed_over_side, is_freed, MarksHaltedNodes, HasNoFreedNode}
use Rattle.ga_event.proofs.Nexts.{neighbour_number-within as neighbour_within}

abbrev pub how_many : List Bool → ℕ
how_many [] = 0
how_many (true ∷ fs) = suc (how_many fs)
how_many (false ∷ fs) = how_many fs

-- one mark less
pub one_less : (flags : List Bool) (i : ℕ) → i < length flags → get_or flags i false ≡ true → suc (how_many (set flags i false)) ≡ how_many flags
one_less [] i l h = absurd (omega arith)
one_less (true ∷ fs) zero l h = refl
one_less (false ∷ fs) zero l h = absurd (true≢false (sym h))
one_less (true ∷ fs) (suc i) l h = ap suc (one_less fs i (omega arith) h)
one_less (false ∷ fs) (suc i) l h = one_less fs i (omega arith) h

-- no node of a stuck set is freed, where all of the set are marked
unmarked : (m : Bool) (b : Bool) → m ≡ true → b ≡ false → (not m || b) ≡ false
unmarked m b h k = rw (h, k) refl

both : (a b : Bool) → (a ≡ true → b ≡ false) → (a && b) ≡ false
both true b h = h refl
both false b h = refl

not_freed_by : (chip : List NodeRecord) (marks others : ℕ → Bool) (n : ℕ) (side : Side) (o : Option ℕ) → AreDeadlocked chip others → ((m : ℕ) → others m ≡ true → neighbour_number n side ≡ Some m → marks m ≡ true)
    → others n ≡ true → neighbour_number n side ≡ o → awaits_side (node_record_at chip n).wait side ≡ true → may_free_waiting_node chip marks (node_record_at chip n).wait side o ≡ false
not_freed_by chip marks others n side None s w h near a = refl
not_freed_by chip marks others n side (Some m) s w h near a =
    let in_set : others m ≡ true = s.inside n m side h a near in
    unmarked (marks m) (waits_to_write_side (node_record_at chip n).wait side && waits_to_read_side (node_record_at chip m).wait side) (w m in_set near)
    (both (waits_to_write_side (node_record_at chip n).wait side) (waits_to_read_side (node_record_at chip m).wait side) (λ q. s.apart n m side h in_set near q))

not_freed_on : (chip : List NodeRecord) (marks others : ℕ → Bool) (n : ℕ) (side : Side) → AreDeadlocked chip others → ((m : ℕ) → others m ≡ true → neighbour_number n side ≡ Some m → marks m ≡ true)
    → others n ≡ true → is_freed_over_side chip marks n side ≡ false
not_freed_on chip marks others n side s w h =
    both (awaits_side (node_record_at chip n).wait side) (may_free_waiting_node chip marks (node_record_at chip n).wait side (neighbour_number n side)) (λ a. not_freed_by chip marks others n side (neighbour_number n side) s w h refl a)

pub not_freed : (chip : List NodeRecord) (marks others : ℕ → Bool) (n : ℕ) → n < 144 → AreDeadlocked chip others → IsMarkedSubset others marks → others n ≡ true → is_freed chip marks n ≡ false
unfolding is_freed
not_freed chip marks others n at s w h =
    let near = λ (side : Side) (m : ℕ) (q : others m ≡ true) (e : neighbour_number n side ≡ Some m). w m (neighbour_within n m side at e) q in
    let r : is_freed_over_side chip marks n Right ≡ false = not_freed_on chip marks others n Right s (near Right) h in
    let d : is_freed_over_side chip marks n Down ≡ false = not_freed_on chip marks others n Down s (near Down) h in
    let l : is_freed_over_side chip marks n Left ≡ false = not_freed_on chip marks others n Left s (near Left) h in
    let u : is_freed_over_side chip marks n Up ≡ false = not_freed_on chip marks others n Up s (near Up) h in
    none_of r d l u
  where
    none_of : {a b x y : Bool} → a ≡ false → b ≡ false → x ≡ false → y ≡ false → (a || (b || (x || y))) ≡ false
    none_of p q v w = rw (p, q, v, w) refl

-- a freed node is taken out, which is in no stuck set
pub struck : (chip : List NodeRecord) (flags : List Bool) (at n : ℕ) (others : ℕ → Bool) → at ≡ n → is_freed chip (is_node_flagged flags) n ≡ true → AreDeadlocked chip others → IsMarkedSubset others (is_node_flagged flags) → IsMarkedSubset others (is_node_flagged (set flags at false))
struck chip flags at n others e f s w = λ m l h. ⊎_elim
    (λ q. absurd (true≢false (sym f ∙ not_freed chip (is_node_flagged flags) others n (let z : n < 144 = omega (arith, q, e, l) in z) s w (subst (λ (z : ℕ). others z ≡ true) (q ∙ e) h))))
    (λ ne. get_or-set_other flags at m false false ne ∙ w m l h)
    (cases_eq m at)

pub struck_within : (flags : List Bool) (at m : ℕ) → is_node_flagged (set flags at false) m ≡ true → at < length flags → is_node_flagged flags m ≡ true
struck_within flags at m h l = ⊎_elim
    (λ q. absurd (true≢false (sym h ∙ ap (λ (z : ℕ). get_or (set flags at false) z false) q ∙ get_or-set_same flags at false false l)))
    (λ ne. sym (get_or-set_other flags at m false false ne) ∙ h)
    (cases_eq m at)

-- past the nodes nothing is marked
pub marked_within : (flags : List Bool) (n : ℕ) → length flags ≡ 144 → is_node_flagged flags n ≡ true → n < 144
marked_within flags n size h = ⊎_elim (λ l. l) (λ l. absurd (true≢false (sym h ∙ get_or_past flags n false (omega (arith, size, l))))) (cases_lt n 144)

-- the nodes that are left are stuck
freed_none : (a b x y : Bool) → (a || (b || (x || y))) ≡ false → (a ≡ false) × (b ≡ false) × (x ≡ false) × (y ≡ false)
freed_none true b x y h = absurd (true≢false h)
freed_none false true x y h = absurd (true≢false h)
freed_none false false true y h = absurd (true≢false h)
freed_none false false false true h = absurd (true≢false h)
freed_none false false false false h = (refl, refl, refl, refl)

no_side : (chip : List NodeRecord) (marks : ℕ → Bool) (n : ℕ) → is_freed chip marks n ≡ false
    → (is_freed_over_side chip marks n Right ≡ false) × (is_freed_over_side chip marks n Down ≡ false) × (is_freed_over_side chip marks n Left ≡ false) × (is_freed_over_side chip marks n Up ≡ false)
unfolding is_freed
no_side chip marks n h = freed_none (is_freed_over_side chip marks n Right) (is_freed_over_side chip marks n Down) (is_freed_over_side chip marks n Left) (is_freed_over_side chip marks n Up) h

on_side : (chip : List NodeRecord) (marks : ℕ → Bool) (n : ℕ) (side : Side) → is_freed chip marks n ≡ false → is_freed_over_side chip marks n side ≡ false
on_side chip marks n Right h = (no_side chip marks n h).0
on_side chip marks n Down h = (no_side chip marks n h).1
on_side chip marks n Left h = (no_side chip marks n h).2
on_side chip marks n Up h = (no_side chip marks n h).3

second : (a b : Bool) → (a && b) ≡ false → a ≡ true → b ≡ false
second true b h k = h
second false b h k = absurd (true≢false (sym k))

neither : (m b : Bool) → (not m || b) ≡ false → (m ≡ true) × (b ≡ false)
neither true b h = (refl, h)
neither false b h = absurd (true≢false h)

met : (chip : List NodeRecord) (marks : ℕ → Bool) (n m : ℕ) (side : Side) → is_freed chip marks n ≡ false → awaits_side (node_record_at chip n).wait side ≡ true → neighbour_number n side ≡ Some m
    → (marks m ≡ true) × ((waits_to_write_side (node_record_at chip n).wait side && waits_to_read_side (node_record_at chip m).wait side) ≡ false)
met chip marks n m side h a near =
    let none : may_free_waiting_node chip marks (node_record_at chip n).wait side (neighbour_number n side) ≡ false = second (awaits_side (node_record_at chip n).wait side) (may_free_waiting_node chip marks (node_record_at chip n).wait side (neighbour_number n side)) (on_side chip marks n side h) a in
    neither (marks m) (waits_to_write_side (node_record_at chip n).wait side && waits_to_read_side (node_record_at chip m).wait side)
    (subst (λ (o : Option ℕ). may_free_waiting_node chip marks (node_record_at chip n).wait side o ≡ false) near none)

refused : (o : Option EventRefusal) → is_some o ≡ true → o ≢ None
refused o h e = true≢false (sym h ∙ ap is_some e)

pub are_stuck : (chip : List NodeRecord) (halted flags : List Bool) → length flags ≡ 144 → MarksHaltedNodes chip (is_node_flagged halted) → IsMarkedSubset (is_node_flagged flags) (is_node_flagged halted) → HasNoFreedNode chip (is_node_flagged flags) → AreDeadlocked chip (is_node_flagged flags)
are_stuck chip halted flags size at_first within settled = record {
  halted = λ n h. let l : n < 144 = marked_within flags n size h in refused (refusal_of_own_event (node_record_at chip n)) (sym (at_first n l) ∙ within n l h);
  inside = λ n m side h a near. (met chip (is_node_flagged flags) n m side (settled n h) a near).0;
  apart = λ n m side h g near w.
      second (waits_to_write_side (node_record_at chip n).wait side) (waits_to_read_side (node_record_at chip m).wait side)
      (met chip (is_node_flagged flags) n m side (settled n h) (or_left (waits_to_write_side (node_record_at chip n).wait side) (waits_to_read_side (node_record_at chip n).wait side) w) near).1 w;
}

-- each node of a stuck set waits or is stopped
some_reason : (o : Option EventRefusal) → o ≢ None → is_some o ≡ true
some_reason None h = absurd (h refl)
some_reason (Some why) h = refl

pub halted_first : (chip : List NodeRecord) (halted : List Bool) (marks : ℕ → Bool) → MarksHaltedNodes chip (is_node_flagged halted) → AreDeadlocked chip marks → IsMarkedSubset marks (is_node_flagged halted)
halted_first chip halted marks at_first s = λ n l h. at_first n l ∙ some_reason (refusal_of_own_event (node_record_at chip n)) (s.halted n h)

-- the first side on which a node is freed
pub by_right : (chip : List NodeRecord) (marks : ℕ → Bool) (n : ℕ) (r : Bool) → r ≡ is_freed_over_side chip marks n Right → r ≡ true → r ≡ is_freed chip marks n
unfolding is_freed
by_right chip marks n r e h = let k : is_freed_over_side chip marks n Right ≡ true = sym e ∙ h in rw k h

pub by_down : (chip : List NodeRecord) (marks : ℕ → Bool) (n : ℕ) (r d : Bool) → r ≡ is_freed_over_side chip marks n Right → d ≡ is_freed_over_side chip marks n Down → r ≡ false → d ≡ true → d ≡ is_freed chip marks n
unfolding is_freed
by_down chip marks n r d e f h g =
    let k : is_freed_over_side chip marks n Right ≡ false = sym e ∙ h in
    let m : is_freed_over_side chip marks n Down ≡ true = sym f ∙ g in
    rw (k, m) g

pub by_left : (chip : List NodeRecord) (marks : ℕ → Bool) (n : ℕ) (r d l : Bool) → r ≡ is_freed_over_side chip marks n Right → d ≡ is_freed_over_side chip marks n Down → l ≡ is_freed_over_side chip marks n Left → r ≡ false → d ≡ false → l ≡ true → l ≡ is_freed chip marks n
unfolding is_freed
by_left chip marks n r d l e f g h i j =
    let k : is_freed_over_side chip marks n Right ≡ false = sym e ∙ h in
    let m : is_freed_over_side chip marks n Down ≡ false = sym f ∙ i in
    let o : is_freed_over_side chip marks n Left ≡ true = sym g ∙ j in
    rw (k, m, o) j

pub by_up : (chip : List NodeRecord) (marks : ℕ → Bool) (n : ℕ) (r d l u : Bool) → r ≡ is_freed_over_side chip marks n Right → d ≡ is_freed_over_side chip marks n Down → l ≡ is_freed_over_side chip marks n Left → u ≡ is_freed_over_side chip marks n Up
    → r ≡ false → d ≡ false → l ≡ false → u ≡ is_freed chip marks n
unfolding is_freed
by_up chip marks n r d l u e f g p h i j =
    let k : is_freed_over_side chip marks n Right ≡ false = sym e ∙ h in
    let m : is_freed_over_side chip marks n Down ≡ false = sym f ∙ i in
    let o : is_freed_over_side chip marks n Left ≡ false = sym g ∙ j in
    rw (k, m, o) p
