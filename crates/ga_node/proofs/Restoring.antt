-- Saved values written back, one by one.
use Rattle.std.proofs.Common.{◌≡◌, ℕ, ◌+◌, ◌≤◌, List, [], ◌∷◌, length, refl, sym, ap, ◌∙◌, arith, Bool, true, false, ◌==◌, ◌<◌, slice_index, slice_set, take, drop, get_or, zero, suc, drop-cons, add-one, Some, None, subst, ◌-◌, ◌/◌, ◌^◌}
use Rattle.std.specs.List.{slice_get}
use Rattle.std.proofs.lemmas.Option.{get_or_from_slice_get, slice_get_within}
use Rattle.std.proofs.lemmas.List.{set-get_or, set-set, set_comm}
use Rattle.ga_node.specs.Record.{NodeState, record_of_node}
use Rattle.ga_node.specs.State.{node_with_value, node_with_restored_values, IsPlaceValueInRange, HasAtMostOneStatus, KeepsAtMostOneStatus, ArePlaceValuesValid, wait_code}
use Rattle.std.specs.Int.{from_bool}
use Rattle.ga_node.specs.declared.wait.Wait.{Wait}
use Rattle.ga_node.specs.declared.wait.Wait.TheVariants.{Nothing, Fetch as FetchWait, Read as ReadWait, Write as WriteWait}
use Rattle.ga_node.specs.Table.{wait_refusal, refusal_of_own_event}
use Rattle.ga_node.specs.declared.place.NodePlace.{NodePlace}
use Rattle.ga_node.specs.declared.place.NodePlace.TheVariants.{T, S, DataCell, DataPointer, R, ReturnCell, ReturnPointer, Ram, Rom, A, B, P, I, Slot, Io, Carry, Wait as WaitCode, Stop}
use Rattle.ga_node.specs.inner.Packed.{code_of_node_place, node_place_of_kind_and_code, unpacked_place_value, IsPackedWord, place_values_of_packed_words, ArePackedWordsAtPlaceCodes}
use Rattle.ga_node.proofs.Packing.{kind_in}

-- no wait and no stop, as numbers
pub no_wait : (n : NodeState) → (record_of_node n).wait ≡ Nothing → 0 ≡ wait_code n.wait
unfolding record_of_node
no_wait n none = sym (ap wait_code none)

pub no_stop : (n : NodeState) → (record_of_node n).stop ≡ 0 → 0 ≡ n.stop
unfolding record_of_node
no_stop n none = sym none

-- no stop, no wait and the carry written back
pub stop_back : (m n : NodeState) → m ≡ n → (record_of_node n).stop ≡ 0 → record m { stop = 0 } ≡ n
unfolding record_of_node
stop_back m n same none = ap (λ (k : NodeState). record k { stop = 0 }) same ∙ ap (λ (k : ℕ). record n { stop = k }) (sym none)

pub wait_back : (m n : NodeState) → m ≡ n → (record_of_node n).wait ≡ Nothing → record m { wait = Nothing } ≡ n
unfolding record_of_node
wait_back m n same none = ap (λ (k : NodeState). record k { wait = Nothing }) same ∙ ap (λ (k : Wait). record n { wait = k }) (sym none)

-- the record of a node that begins to wait, and of one that stops
pub record_waits : (m n : NodeState) (wait : Wait) → m ≡ n → record_of_node (record m { wait = wait }) ≡ record (record_of_node n) { wait = wait }
unfolding record_of_node
record_waits m n wait same = ap (λ (k : NodeState). record (record_of_node k) { wait = wait }) same

pub record_stops : (m n : NodeState) (stop : ℕ) → m ≡ n → record_of_node (record m { stop = stop }) ≡ record (record_of_node n) { stop = stop }
unfolding record_of_node
record_stops m n stop same = ap (λ (k : NodeState). record (record_of_node k) { stop = stop }) same

carry_same : (b : Bool) → (from_bool b == 1) ≡ b
carry_same true = refl
carry_same false = refl

pub carry_back : (m n : NodeState) → m ≡ n → record m { carry = from_bool m.carry == 1 } ≡ n
carry_back m n same = ap (λ (k : Bool). record m { carry = k }) (carry_same m.carry) ∙ same

pub carry_fits : (b : Bool) → from_bool b ≤ 1
carry_fits true = omega arith
carry_fits false = omega arith

-- the word of a cell written back
pub ram_back : (m n : NodeState) (k word old : ℕ) → m ≡ n → old ≡ slice_index m.ram k → k < length m.ram
    → record m { ram = slice_set (slice_set m.ram k word) k old } ≡ n
ram_back m n k word old same value cell =
    ap (λ (xs : List ℕ). record m { ram = xs }) (set-set m.ram k word old ∙ ap (slice_set m.ram k) value ∙ set-get_or m.ram k 0) ∙ same

pub stays_apart : (n : NodeState) (place : NodePlace) (value : ℕ) → (place ≡ WaitCode → ⊥) → (place ≡ Stop → ⊥) → KeepsAtMostOneStatus n place value
stays_apart n T value a b = tt
stays_apart n S value a b = tt
stays_apart n (DataCell k) value a b = tt
stays_apart n DataPointer value a b = tt
stays_apart n R value a b = tt
stays_apart n (ReturnCell k) value a b = tt
stays_apart n ReturnPointer value a b = tt
stays_apart n (Ram k) value a b = tt
stays_apart n (Rom k) value a b = tt
stays_apart n A value a b = tt
stays_apart n B value a b = tt
stays_apart n P value a b = tt
stays_apart n I value a b = tt
stays_apart n Slot value a b = tt
stays_apart n Io value a b = tt
stays_apart n Carry value a b = tt
stays_apart n WaitCode value a b = absurd (a refl)
stays_apart n Stop value a b = absurd (b refl)

pub apart_from_no_wait : (n : NodeState) → n.wait ≡ Nothing → HasAtMostOneStatus n
apart_from_no_wait n none = rw none refl

-- one more value written back
restored_drop : (n : NodeState) (saved : List (NodePlace × ℕ)) (i : ℕ) (d : NodePlace × ℕ) → i < length saved
    → node_with_restored_values n (drop i saved) ≡ node_with_value (node_with_restored_values n (drop (i + 1) saved)) (get_or saved i d).0 (get_or saved i d).1
unfolding node_with_restored_values
restored_drop n saved i d below = rw (drop-cons saved i d below, add-one i) refl

pub restored_one : (n : NodeState) (saved : List (NodePlace × ℕ)) (i : ℕ) (value : NodePlace × ℕ) → slice_get saved i ≡ Some value
    → node_with_restored_values n (drop i saved) ≡ node_with_value (node_with_restored_values n (drop (i + 1) saved)) value.0 value.1
restored_one n saved i value is =
    restored_drop n saved i value (slice_get_within saved i value is)
    ∙ ap (λ v. node_with_value (node_with_restored_values n (drop (i + 1) saved)) v.0 v.1) (get_or_from_slice_get saved i value value is)

-- the value at a place of the list
fit_within : (saved : List (NodePlace × ℕ)) (i : ℕ) (d : NodePlace × ℕ) → ArePlaceValuesValid saved → i < length saved → IsPlaceValueInRange (get_or saved i d).0 (get_or saved i d).1
unfolding ArePlaceValuesValid
fit_within [] i d fit below = absurd (omega arith)
fit_within (first ∷ rest) zero d fit below = fit.0
fit_within (first ∷ rest) (suc i) d fit below = fit_within rest i d fit.1 (omega arith)

pub fit_at : (saved : List (NodePlace × ℕ)) (i : ℕ) (value : NodePlace × ℕ) → ArePlaceValuesValid saved → slice_get saved i ≡ Some value → IsPlaceValueInRange value.0 value.1
fit_at saved i value fit is =
    subst (λ v. IsPlaceValueInRange v.0 v.1) (get_or_from_slice_get saved i value value is) (fit_within saved i value fit (slice_get_within saved i value is))

-- nothing written back yet
pub restored_past : (n : NodeState) (saved : List (NodePlace × ℕ)) (i : ℕ) → length saved ≤ i → node_with_restored_values n (drop i saved) ≡ n
unfolding node_with_restored_values
restored_past n [] zero past = refl
restored_past n [] (suc i) past = refl
restored_past n (first ∷ rest) zero past = absurd (omega arith)
restored_past n (first ∷ rest) (suc i) past = restored_past n rest i (omega arith)

-- some of the values written back, and then those before them
pub fit_take : (saved : List (NodePlace × ℕ)) (n : ℕ) → ArePlaceValuesValid saved → ArePlaceValuesValid (take n saved)
unfolding ArePlaceValuesValid
fit_take saved zero fit = tt
fit_take [] (suc n) fit = tt
fit_take (first ∷ rest) (suc n) fit = (fit.0, fit_take rest n fit.1)

pub restored_parts : (n : NodeState) (saved : List (NodePlace × ℕ)) (k : ℕ) → node_with_restored_values n saved ≡ node_with_restored_values (node_with_restored_values n (drop k saved)) (take k saved)
unfolding node_with_restored_values
restored_parts n saved zero = refl
restored_parts n [] (suc k) = refl
restored_parts n (first ∷ rest) (suc k) = ap (λ (m : NodeState). node_with_value m first.0 first.1) (restored_parts n rest k)

-- a node that is ready for an event of its own
pub apart_from_ready : (n : NodeState) → refusal_of_own_event (record_of_node n) ≡ None → HasAtMostOneStatus n
unfolding record_of_node
apart_from_ready n ready = go n.wait refl ready
  where
    go : (w : Wait) → n.wait ≡ w → wait_refusal w n.stop ≡ None → HasAtMostOneStatus n
    go Nothing is h = apart_from_no_wait n is
    go (FetchWait sides) is h = absurd (cc)
    go (ReadWait sides) is h = absurd (cc)
    go (WriteWait side) is h = absurd (cc)

-- ---- old values of many events, of each place the one that is written back last

-- ---- values at places

-- two values at one place: the second remains
absorbs : (n : NodeState) (p : NodePlace) (v w : ℕ) → node_with_value (node_with_value n p v) p w ≡ node_with_value n p w
absorbs n T v w = ap (λ (xs : List ℕ). record n { data_stack = record n.data_stack { registers = xs } }) (set-set n.data_stack.registers 0 v w)
absorbs n S v w = ap (λ (xs : List ℕ). record n { data_stack = record n.data_stack { registers = xs } }) (set-set n.data_stack.registers 1 v w)
absorbs n (DataCell k) v w = ap (λ (xs : List ℕ). record n { data_stack = record n.data_stack { cells = xs } }) (set-set n.data_stack.cells k v w)
absorbs n R v w = ap (λ (xs : List ℕ). record n { return_stack = record n.return_stack { registers = xs } }) (set-set n.return_stack.registers 0 v w)
absorbs n (ReturnCell k) v w = ap (λ (xs : List ℕ). record n { return_stack = record n.return_stack { cells = xs } }) (set-set n.return_stack.cells k v w)
absorbs n (Ram k) v w = ap (λ (xs : List ℕ). record n { ram = xs }) (set-set n.ram k v w)
absorbs n (Rom k) v w = ap (λ (xs : List ℕ). record n { rom = xs }) (set-set n.rom k v w)
absorbs n p v w = refl

-- two values at two places, in either order
commute : (n : NodeState) (p q : NodePlace) (v w : ℕ) → (p ≡ q → ⊥) → node_with_value (node_with_value n p v) q w ≡ node_with_value (node_with_value n q w) p v
commute n T T v w other = absurd (other refl)
commute n S S v w other = absurd (other refl)
commute n DataPointer DataPointer v w other = absurd (other refl)
commute n R R v w other = absurd (other refl)
commute n ReturnPointer ReturnPointer v w other = absurd (other refl)
commute n A A v w other = absurd (other refl)
commute n B B v w other = absurd (other refl)
commute n P P v w other = absurd (other refl)
commute n I I v w other = absurd (other refl)
commute n Slot Slot v w other = absurd (other refl)
commute n Io Io v w other = absurd (other refl)
commute n Carry Carry v w other = absurd (other refl)
commute n WaitCode WaitCode v w other = absurd (other refl)
commute n Stop Stop v w other = absurd (other refl)
commute n T S v w other = ap (λ (xs : List ℕ). record n { data_stack = record n.data_stack { registers = xs } }) (set_comm n.data_stack.registers 0 1 v w (λ is. absurd (omega (arith, is))))
commute n S T v w other = ap (λ (xs : List ℕ). record n { data_stack = record n.data_stack { registers = xs } }) (set_comm n.data_stack.registers 1 0 v w (λ is. absurd (omega (arith, is))))
commute n (DataCell j) (DataCell k) v w other =
    ap (λ (xs : List ℕ). record n { data_stack = record n.data_stack { cells = xs } }) (set_comm n.data_stack.cells j k v w (λ is. other (ap DataCell is)))
commute n (ReturnCell j) (ReturnCell k) v w other =
    ap (λ (xs : List ℕ). record n { return_stack = record n.return_stack { cells = xs } }) (set_comm n.return_stack.cells j k v w (λ is. other (ap ReturnCell is)))
commute n (Ram j) (Ram k) v w other = ap (λ (xs : List ℕ). record n { ram = xs }) (set_comm n.ram j k v w (λ is. other (ap Ram is)))
commute n (Rom j) (Rom k) v w other = ap (λ (xs : List ℕ). record n { rom = xs }) (set_comm n.rom j k v w (λ is. other (ap Rom is)))
commute n p q v w other = refl

-- ---- words at codes

same_place : (u w : ℕ) → u / 2 ^ 24 ≡ w / 2 ^ 24 → (unpacked_place_value u).0 ≡ (unpacked_place_value w).0
same_place u w is =
    ap (λ kind. node_place_of_kind_and_code kind (u / 16777216)) (kind_in u ∙ ap (λ code. code / 8) is ∙ sym (kind_in w)) ∙ ap (node_place_of_kind_and_code (w / 134217728)) is

other_place : (u w : ℕ) → IsPackedWord u → IsPackedWord w → (u / 2 ^ 24 ≡ w / 2 ^ 24 → ⊥) → (unpacked_place_value u).0 ≡ (unpacked_place_value w).0 → ⊥
other_place u w is has differ same = differ (sym is.1 ∙ ap code_of_node_place same ∙ has.1)

-- one word more, that is written back last
pub put_last : (n : NodeState) (code k w : ℕ) (ws : List ℕ) → ArePackedWordsAtPlaceCodes code ws → IsPackedWord w → w / 2 ^ 24 ≡ code + k → k < length ws
    → node_with_restored_values n (place_values_of_packed_words (slice_set ws k (suc w))) ≡ node_with_value (node_with_restored_values n (place_values_of_packed_words ws)) (unpacked_place_value w).0 (unpacked_place_value w).1
unfolding node_with_restored_values
put_last n code k w [] are is at l = absurd (omega (arith, l))
put_last n code zero w (zero ∷ ws) are is at l = refl
put_last n code zero w (suc u ∷ ws) are is at l =
    let same : u / 2 ^ 24 ≡ w / 2 ^ 24 = are.1 ∙ sym (at ∙ omega arith) in
    sym (ap (λ p. node_with_value (node_with_value (node_with_restored_values n (place_values_of_packed_words ws)) p (unpacked_place_value u).1) (unpacked_place_value w).0 (unpacked_place_value w).1) (same_place u w same)
    ∙ absorbs (node_with_restored_values n (place_values_of_packed_words ws)) (unpacked_place_value w).0 (unpacked_place_value u).1 (unpacked_place_value w).1)
put_last n code (suc k) w (zero ∷ ws) are is at l = put_last n (code + 1) k w ws are is (at ∙ omega arith) (omega (arith, l))
put_last n code (suc k) w (suc u ∷ ws) are is at l =
    ap (λ m. node_with_value m (unpacked_place_value u).0 (unpacked_place_value u).1) (put_last n (code + 1) k w ws are.2 is (at ∙ omega arith) (omega (arith, l)))
    ∙ commute (node_with_restored_values n (place_values_of_packed_words ws)) (unpacked_place_value w).0 (unpacked_place_value u).0 (unpacked_place_value w).1 (unpacked_place_value u).1
    (other_place w u is are.0 (λ same. absurd (let here = are.1 in omega (arith, at, here, same))))

pub at_put : (code k w : ℕ) (ws : List ℕ) → ArePackedWordsAtPlaceCodes code ws → IsPackedWord w → w / 2 ^ 24 ≡ code + k → ArePackedWordsAtPlaceCodes code (slice_set ws k (suc w))
at_put code k w [] are is at = tt
at_put code zero w (zero ∷ ws) are is at = (is, at ∙ omega arith, are)
at_put code zero w (suc u ∷ ws) are is at = (is, at ∙ omega arith, are.2)
at_put code (suc k) w (zero ∷ ws) are is at = at_put (code + 1) k w ws are is (at ∙ omega arith)
at_put code (suc k) w (suc u ∷ ws) are is at = (are.0, are.1, at_put (code + 1) k w ws are.2 is (at ∙ omega arith))

pub fit_put : (k w : ℕ) (ws : List ℕ) → ArePlaceValuesValid (place_values_of_packed_words ws) → IsPlaceValueInRange (unpacked_place_value w).0 (unpacked_place_value w).1 → ArePlaceValuesValid (place_values_of_packed_words (slice_set ws k (suc w)))
unfolding ArePlaceValuesValid
fit_put k w [] fit here = fit
fit_put zero w (zero ∷ ws) fit here = (here, fit)
fit_put zero w (suc u ∷ ws) fit here = (here, fit.1)
fit_put (suc k) w (zero ∷ ws) fit here = fit_put k w ws fit here
fit_put (suc k) w (suc u ∷ ws) fit here = (fit.0, fit_put k w ws fit.1 here)

-- ---- words read back

pairs_past_none : (ws : List ℕ) (i : ℕ) → i < length ws → get_or ws i 0 ≡ 0 → place_values_of_packed_words (drop i ws) ≡ place_values_of_packed_words (drop (i + 1) ws)
pairs_past_none ws i l is =
    let next : suc i ≡ i + 1 = omega arith in
    ap place_values_of_packed_words (drop-cons ws i 0 l) ∙ ap (λ x. place_values_of_packed_words (x ∷ drop (suc i) ws)) is ∙ ap (λ k. place_values_of_packed_words (drop k ws)) next

pairs_past_one : (ws : List ℕ) (i w : ℕ) → i < length ws → get_or ws i 0 ≡ suc w → place_values_of_packed_words (drop i ws) ≡ unpacked_place_value w ∷ place_values_of_packed_words (drop (i + 1) ws)
pairs_past_one ws i w l is =
    let next : suc i ≡ i + 1 = omega arith in
    ap place_values_of_packed_words (drop-cons ws i 0 l) ∙ ap (λ x. place_values_of_packed_words (x ∷ drop (suc i) ws)) is ∙ ap (λ k. unpacked_place_value w ∷ place_values_of_packed_words (drop k ws)) next

fit_past : (ws : List ℕ) (i : ℕ) → ArePlaceValuesValid (place_values_of_packed_words ws) → ArePlaceValuesValid (place_values_of_packed_words (drop i ws))
unfolding ArePlaceValuesValid
fit_past ws zero fit = fit
fit_past [] (suc i) fit = fit
fit_past (zero ∷ ws) (suc i) fit = fit_past ws i fit
fit_past (suc w ∷ ws) (suc i) fit = fit_past ws i fit.1

-- the value of a gathered word is in range
pub fit_of : (ws : List ℕ) (i w : ℕ) → ArePlaceValuesValid (place_values_of_packed_words ws) → i < length ws → get_or ws i 0 ≡ suc w → IsPlaceValueInRange (unpacked_place_value w).0 (unpacked_place_value w).1
unfolding ArePlaceValuesValid
fit_of ws i w fit l is = (subst ArePlaceValuesValid (pairs_past_one ws i w l is) (fit_past ws i fit)).0

pub word_of : (code i w : ℕ) (ws : List ℕ) → ArePackedWordsAtPlaceCodes code ws → i < length ws → get_or ws i 0 ≡ suc w → IsPackedWord w
word_of code i w [] are l is = absurd (omega (arith, l))
word_of code zero w (zero ∷ ws) are l is = absurd (cc)
word_of code zero w (suc u ∷ ws) are l is = subst IsPackedWord (cc) are.0
word_of code (suc i) w (zero ∷ ws) are l is = word_of (code + 1) i w ws are (omega (arith, l)) is
word_of code (suc i) w (suc u ∷ ws) are l is = word_of (code + 1) i w ws are.2 (omega (arith, l)) is

-- one place more written back, and one where there is no word
pub back_past_one : (n : NodeState) (ws : List ℕ) (i : ℕ) → i < length ws → 0 < get_or ws i 0
    → node_with_restored_values n (place_values_of_packed_words (drop i ws)) ≡ node_with_value (node_with_restored_values n (place_values_of_packed_words (drop (i + 1) ws))) (unpacked_place_value (get_or ws i 0 - 1)).0 (unpacked_place_value (get_or ws i 0 - 1)).1
unfolding node_with_restored_values
back_past_one n ws i l some = ap (node_with_restored_values n) (pairs_past_one ws i (get_or ws i 0 - 1) l (omega (arith, some)))

pub back_past_none : (n : NodeState) (ws : List ℕ) (i : ℕ) → i < length ws → get_or ws i 0 ≤ 0 → node_with_restored_values n (place_values_of_packed_words (drop i ws)) ≡ node_with_restored_values n (place_values_of_packed_words (drop (i + 1) ws))
back_past_none n ws i l none = ap (node_with_restored_values n) (pairs_past_none ws i l (omega (arith, none)))
