-- Which expectations the newest event broke, and which of some conditions is the first that holds after it.
use Rattle.std.proofs.Common.{◌≡◌, ◌∙◌, ℕ, zero, suc, ◌+◌, ◌<◌, ◌≤◌, ◌||◌, Bool, true, false, cond, List, [], ◌∷◌, length, drop, set, get_or, Some, None, sym, ap, inl, inr, refl, subst, arith}
use Rattle.std.specs.Prelude.{slice_get, slice_index_or, option_map, IsSome}
use Rattle.std.specs.List.{list_any}
use Rattle.std.proofs.lemmas.List.{drop_more, drop_all, get_or-set_same, get_or-set_other, length-set}
use Rattle.std.proofs.lemmas.Option.{get_or_from_slice_get, slice_get_within, same_Some}
use Rattle.std.proofs.lemmas.Bool.{cases_lt}
use Rattle.ga_event.specs.declared.made.MadeEvent.{MadeEvent}
use Rattle.ga_lab.specs.Machine.{MachineState}
use Rattle.ga_scheduler.specs.declared.condition.Condition.{Condition}
use Rattle.ga_state_expectations.specs.declared.source.LineExpectation.{LineExpectation}
use Rattle.ga_state_expectations.specs.Breaking.{oldest_violation, breaks_expectation, breaks_one_expectation, condition_holds_given_breach, first_condition_given_breach}
use Rattle.ga_state_expectations.specs.Knowledge.{AreKnownBroken}
use Rattle.ga_state_expectations.specs.inner.{IsBrokenEarlier, AreBrokenEarlier}

-- ---- flags

-- a flag was set or cleared
flagged : (P : LineExpectation → Type 0) (all : List LineExpectation) (n : ℕ) (flag : Bool) (flags : List Bool) → n < length flags
    → ((one : LineExpectation) → slice_get all n ≡ Some one → flag ≡ true → P one)
    → ((k : ℕ) (one : LineExpectation) → slice_get all k ≡ Some one → slice_index_or flags k false ≡ true → P one)
    → (k : ℕ) (one : LineExpectation) → slice_get all k ≡ Some one → slice_index_or (set flags n flag) k false ≡ true → P one
flagged P all n flag flags within here others k one at is = elim (cases_lt k n) [
  | inl less ↦ others k one at (sym (get_or-set_other flags n k flag false (λ (same : k ≡ n). omega (arith, same, less))) ∙ is)
  | inr more ↦ elim (cases_lt n k) [
    | inl later ↦ others k one at (sym (get_or-set_other flags n k flag false (λ (same : k ≡ n). omega (arith, same, later))) ∙ is)
    | inr equal ↦ (
        let same : k ≡ n = omega (arith, more, equal) in
        here one (sym (ap (slice_get all) same) ∙ at) (sym (ap (λ (z : ℕ). get_or (set flags n flag) z false) same ∙ get_or-set_same flags n flag false within) ∙ is))
  ]
]

-- None of the first `n` expectations was broken by the newest event, and those that are flagged were broken before it.
pub record AreTestedUpTo (all : List LineExpectation) (s : MachineState) (n : ℕ) (flags : List Bool) : Type 0 where
  pub size : length flags ≡ length all
  pub earlier : AreBrokenEarlier all s flags
  pub none : list_any (λ one. breaks_expectation one.expectation s) (drop n all) ≡ breaks_one_expectation all s

some_line : (all : List LineExpectation) (n : ℕ) (one : LineExpectation) → slice_get all n ≡ Some one → drop n all ≡ one ∷ drop (n + 1) all
some_line all n one at = drop_more all n one (slice_get_within all n one at) ∙ ap (λ z. z ∷ drop (n + 1) all) (get_or_from_slice_get all n one one at)

same_line : (one other : LineExpectation) (all : List LineExpectation) (n : ℕ) → slice_get all n ≡ Some one → slice_get all n ≡ Some other → one ≡ other
same_line one other all n a b = sym (get_or_from_slice_get all n one one a) ∙ get_or_from_slice_get all n other one b

pub one_tested : (all : List LineExpectation) (s : MachineState) (n : ℕ) (flags : List Bool) (one : LineExpectation) (known : Bool) → slice_get all n ≡ Some one
    → (known ≡ true → IsSome (oldest_violation one.expectation s)) → breaks_expectation one.expectation s ≡ false → AreTestedUpTo all s n flags → AreTestedUpTo all s (n + 1) (set flags n known)
one_tested all s n flags one known at some unbroken h =
    let within : n < length flags = (let inside : n < length all = slice_get_within all n one at in let size : length flags ≡ length all = h.size in omega (arith, inside, size)) in
    record {
      size = length-set flags n known ∙ h.size;
      earlier = flagged (λ it. IsBrokenEarlier it.expectation s) all n known flags within
          (λ other there is. subst_line one other (same_line one other all n at there) (record { broken = some is; earlier = unbroken })) h.earlier;
      none = sym (ap (list_any (λ one. breaks_expectation one.expectation s)) (some_line all n one at)
          ∙ ap (λ (b : Bool). b || list_any (λ one. breaks_expectation one.expectation s) (drop (n + 1) all)) unbroken) ∙ h.none;
    }
  where
    subst_line : (one other : LineExpectation) → one ≡ other → IsBrokenEarlier one.expectation s → IsBrokenEarlier other.expectation s
    subst_line one other e h = subst (λ (z : LineExpectation). IsBrokenEarlier z.expectation s) e h

-- the newest event broke one
pub one_broken : (all : List LineExpectation) (s : MachineState) (n : ℕ) (flags : List Bool) (one : LineExpectation) → slice_get all n ≡ Some one
    → breaks_expectation one.expectation s ≡ true → AreTestedUpTo all s n flags → true ≡ breaks_one_expectation all s
one_broken all s n flags one at broken h =
    sym (ap (list_any (λ one. breaks_expectation one.expectation s)) (some_line all n one at)
    ∙ ap (λ (b : Bool). b || list_any (λ one. breaks_expectation one.expectation s) (drop (n + 1) all)) broken) ∙ h.none

pub known_of : (all : List LineExpectation) (s : MachineState) (flags : List Bool) → AreBrokenEarlier all s flags → AreKnownBroken all s flags
known_of all s flags h k one at is = (h k one at is).broken

pub known_with : (all : List LineExpectation) (s : MachineState) (n : ℕ) (flags : List Bool) (one : LineExpectation) (known : Bool) → slice_get all n ≡ Some one
    → (known ≡ true → IsSome (oldest_violation one.expectation s)) → AreTestedUpTo all s n flags → AreKnownBroken all s (set flags n known)
known_with all s n flags one known at some h =
    let within : n < length flags = (let inside : n < length all = slice_get_within all n one at in let size : length flags ≡ length all = h.size in omega (arith, inside, size)) in
    flagged (λ it. IsSome (oldest_violation it.expectation s)) all n known flags within
    (λ other there is. subst (λ (z : LineExpectation). IsSome (oldest_violation z.expectation s)) (same_line one other all n at there) (some is)) (known_of all s flags h.earlier)

pub none_broken : (all : List LineExpectation) (s : MachineState) (n : ℕ) (flags : List Bool) → length all ≤ n → AreTestedUpTo all s n flags → false ≡ breaks_one_expectation all s
none_broken all s n flags l h = sym (ap (list_any (λ one. breaks_expectation one.expectation s)) (drop_all n all l)) ∙ h.none

-- ---- conditions

-- None of the first `n` conditions holds.
abbrev pub IsNoConditionHeld : Bool → List Condition → MadeEvent → MachineState → ℕ → Type 0
IsNoConditionHeld breaks until m s n = (k : ℕ) (one : Condition) → slice_get until k ≡ Some one → k < n → condition_holds_given_breach breaks one m s ≡ false

pub held_first : (breaks : Bool) (until : List Condition) (i : ℕ) (one : Condition) (m : MadeEvent) (s : MachineState) → slice_get until i ≡ Some one
    → ((k : ℕ) (other : Condition) → slice_get until k ≡ Some other → k < i → condition_holds_given_breach breaks other m s ≡ false)
    → condition_holds_given_breach breaks one m s ≡ true → first_condition_given_breach breaks until m s ≡ Some i
unfolding first_condition_given_breach
held_first breaks [] i one m s is before h = absurd (cc)
held_first breaks (c ∷ cs) zero one m s is before h =
    ap (λ (b : Bool). cond b (Some 0) (option_map suc (first_condition_given_breach breaks cs m s))) (ap (λ z. condition_holds_given_breach breaks z m s) (same_Some c one is) ∙ h)
held_first breaks (c ∷ cs) (suc i) one m s is before h =
    ap (λ (b : Bool). cond b (Some 0) (option_map suc (first_condition_given_breach breaks cs m s))) (before 0 c refl (omega arith))
    ∙ ap (option_map suc) (held_first breaks cs i one m s is (λ k other at l. before (suc k) other at (omega arith)) h)

pub none_held : (breaks : Bool) (until : List Condition) (m : MadeEvent) (s : MachineState)
    → ((k : ℕ) (one : Condition) → slice_get until k ≡ Some one → k < length until → condition_holds_given_breach breaks one m s ≡ false) → first_condition_given_breach breaks until m s ≡ None
unfolding first_condition_given_breach
none_held breaks [] m s h = refl
none_held breaks (c ∷ cs) m s h =
    ap (λ (b : Bool). cond b (Some 0) (option_map suc (first_condition_given_breach breaks cs m s))) (h 0 c refl (omega arith))
    ∙ ap (option_map suc) (none_held breaks cs m s (λ k other at l. h (suc k) other at (omega arith)))
