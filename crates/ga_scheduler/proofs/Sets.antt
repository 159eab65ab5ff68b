-- A set of numbers by its bits.
use Rattle.std.proofs.Common.{◌≡◌, ℕ, ◌-◌, ◌*◌, ◌%◌, ◌^◌, ◌<◌, ◌≤◌, min, ⊎_elim, sym, ◌∙◌, ap, arith, ◌≢◌, ◌+◌, ◌/◌, ◌==◌, Bool, true, false, length, set, get_or, get_or-set_same, get_or-set_other, eq-eqb, inl, inr}
use Rattle.std.specs.Prelude.{bit_and}
use Rattle.std.specs.Int.{bit_at, w64, trailing_zeros}
use Rattle.std.proofs.lemmas.Bool.{cases_lt, cases_eq, cases_Bool}
use Rattle.std.proofs.lemmas.Nat.{and_le_l}
use Rattle.std.proofs.lemmas.Nat.Bits.{bit_at_and, bit_at-lt, bit_at-zero, bit_at_mask_inside, bit_at_mask_below, ones_shl, bit_at-trailing_zeros}
use Rattle.ga_scheduler.specs.declared.numbers.NumberSet.{NumberSet}
use Rattle.ga_scheduler.specs.inner.{is_number_in_set}

-- ---- the lowest 1 of a word from a place on

-- the word without the places below one
abbrev pub above : ℕ → ℕ → ℕ
above word from = bit_and word (18446744073709551615 * 2 ^ from % 18446744073709551616)

mask_is : (from : ℕ) → from < 64 → 18446744073709551615 * 2 ^ from % 18446744073709551616 ≡ 2 ^ 64 - 2 ^ from
mask_is from f = ones_shl 64 from (omega arith)

min_one : (a b : ℕ) → a < 2 → b ≡ 1 → min a b ≡ a
min_one a b l e = omega arith

min_zero : (a b : ℕ) → b ≡ 0 → min a b ≡ 0
min_zero a b e = omega arith

pub above_same : (word from i : ℕ) → from < 64 → from ≤ i → i < 64 → bit_at (above word from) i ≡ bit_at word i
above_same word from i f l h =
    bit_at_and word (18446744073709551615 * 2 ^ from % 18446744073709551616) i
    ∙ min_one (bit_at word i) (bit_at (18446744073709551615 * 2 ^ from % 18446744073709551616) i) (bit_at-lt word i)
    (ap (λ z. bit_at z i) (mask_is from f) ∙ bit_at_mask_inside from 64 i l h)

above_none : (word from i : ℕ) → from < 64 → i < from → bit_at (above word from) i ≡ 0
above_none word from i f l =
    bit_at_and word (18446744073709551615 * 2 ^ from % 18446744073709551616) i
    ∙ min_zero (bit_at word i) (bit_at (18446744073709551615 * 2 ^ from % 18446744073709551616) i)
    (ap (λ z. bit_at z i) (mask_is from f) ∙ bit_at_mask_below from 64 i l)

-- nothing is left
pub none_above : (word from : ℕ) → from < 64 → above word from ≡ 0 → (i : ℕ) → from ≤ i → i < 64 → bit_at word i ≡ 0
none_above word from f e i l h = sym (above_same word from i f l h) ∙ ap (λ z. bit_at z i) e ∙ bit_at-zero i

-- what the zeros at the end of the rest say of the word
pub record IsLowest (word from place : ℕ) : Type 0 where
  pub least : from ≤ place
  pub in_range : place < 64
  pub one : bit_at word place ≡ 1
  pub before : (i : ℕ) → from ≤ i → i < place → bit_at word i ≡ 0

not_both : (a : ℕ) → a ≡ 0 → a ≡ 1 → ⊥
not_both a h k = let q : ◌≡◌ {A = ℕ} 0 1 = sym h ∙ k in omega arith

pub lowest_is : (word from : ℕ) → word < 2 ^ 64 → from < 64 → 0 < above word from → IsLowest word from (trailing_zeros w64 (above word from))
lowest_is word from w f some =
    let rest : ℕ = above word from in
    let small : above word from < 2 ^ 64 = omega (arith, and_le_l word (18446744073709551615 * 2 ^ from % 18446744073709551616)) in
    let z = bit_at-trailing_zeros w64 (above word from) some small in
    let least : from ≤ trailing_zeros w64 (above word from) =
    ⊎_elim (λ l. absurd (not_both _ (above_none word from (trailing_zeros w64 (above word from)) f l) z.1)) (λ l. l) (cases_lt (trailing_zeros w64 (above word from)) from) in
    record {
      least = least;
      in_range = z.0;
      one = sym (above_same word from (trailing_zeros w64 (above word from)) f least z.0) ∙ z.1;
      before = λ i l h. sym (above_same word from i f l (omega (arith, z.0))) ∙ z.2 i h;
    }

-- ---- a set of numbers by its bits

one_is : (a : ℕ) → a ≡ 1 → (a == 1) ≡ true
one_is a e = eq-eqb a 1 e

zero_is : (a : ℕ) → a ≡ 0 → (a == 1) ≡ false
zero_is a e = ap (λ z. z == 1) e

pub has_bit : (numbers : NumberSet) (n : ℕ) → bit_at (get_or numbers.words (n / 64) 0) (n % 64) ≡ 1 → is_number_in_set numbers n ≡ true
unfolding is_number_in_set
has_bit numbers n h = one_is _ h

pub has_no_bit : (numbers : NumberSet) (n : ℕ) → bit_at (get_or numbers.words (n / 64) 0) (n % 64) ≡ 0 → is_number_in_set numbers n ≡ false
unfolding is_number_in_set
has_no_bit numbers n h = zero_is _ h

-- a number by its word and its place
pub split : (n word place : ℕ) → n ≡ 64 * word + place → place < 64 → (n / 64 ≡ word) × (n % 64 ≡ place)
split n word place e l = (omega arith, omega arith)

pub is_in : (numbers : NumberSet) (n word place : ℕ) → n ≡ 64 * word + place → place < 64 → bit_at (get_or numbers.words word 0) place ≡ 1 → is_number_in_set numbers n ≡ true
is_in numbers n word place e l h =
    let s = split n word place e l in
    has_bit numbers n (ap (λ z. bit_at (get_or numbers.words z 0) (n % 64)) s.0 ∙ ap (bit_at (get_or numbers.words word 0)) s.1 ∙ h)

pub is_out : (numbers : NumberSet) (n word place : ℕ) → n ≡ 64 * word + place → place < 64 → bit_at (get_or numbers.words word 0) place ≡ 0 → is_number_in_set numbers n ≡ false
is_out numbers n word place e l h =
    let s = split n word place e l in
    has_no_bit numbers n (ap (λ z. bit_at (get_or numbers.words z 0) (n % 64)) s.0 ∙ ap (bit_at (get_or numbers.words word 0)) s.1 ∙ h)

-- another word at a number's place
pub put_same : (old new : NumberSet) (n word : ℕ) (is : Bool) → length old.words ≡ 3 → n < 192 → new.words ≡ set old.words (n / 64) word
    → (is ≡ true → bit_at word (n % 64) ≡ 1) → (is ≡ false → bit_at word (n % 64) ≡ 0) → is_number_in_set new n ≡ is
put_same old new n word is size l e one zero =
    let w : get_or new.words (n / 64) 0 ≡ word = ap (λ z. get_or z (n / 64) 0) e ∙ get_or-set_same old.words (n / 64) word 0 (omega arith) in
    let b : bit_at (get_or new.words (n / 64) 0) (n % 64) ≡ bit_at word (n % 64) = ap (λ z. bit_at z (n % 64)) w in
    ⊎_elim (λ t. has_bit new n (b ∙ one t) ∙ sym t) (λ f. has_no_bit new n (b ∙ zero f) ∙ sym f) (cases_Bool is)

pub put_other : (old new : NumberSet) (n m word : ℕ) → length old.words ≡ 3 → n < 192 → m ≢ n → new.words ≡ set old.words (n / 64) word
    → ((i : ℕ) → i < 64 → i ≢ n % 64 → bit_at word i ≡ bit_at (get_or old.words (n / 64) 0) i) → is_number_in_set new m ≡ is_number_in_set old m
unfolding is_number_in_set
put_other old new n m word size l ne e others =
    ap (λ z. bit_at z (m % 64) == 1) (ap (λ z. get_or z (m / 64) 0) e)
    ∙ ⊎_elim
    (λ same. ap (λ z. z == 1)
    (ap (λ z. bit_at (get_or (set old.words (n / 64) word) z 0) (m % 64)) same
    ∙ ap (λ z. bit_at z (m % 64)) (get_or-set_same old.words (n / 64) word 0 (omega arith))
    ∙ others (m % 64) (omega arith) (λ p. ne (omega arith))
    ∙ ap (λ z. bit_at (get_or old.words z 0) (m % 64)) (sym same)))
    (λ apart. ap (λ z. bit_at z (m % 64) == 1) (get_or-set_other old.words (n / 64) (m / 64) word 0 apart))
    (cases_eq (m / 64) (n / 64))

-- up to a place of a word
pub none_until : (numbers : NumberSet) (first index from place : ℕ) → place ≤ 64
    → ((m : ℕ) → first ≤ m → m < 64 * index + from → is_number_in_set numbers m ≡ false)
    → ((i : ℕ) → from ≤ i → i < place → bit_at (get_or numbers.words index 0) i ≡ 0)
    → (m : ℕ) → first ≤ m → m < 64 * index + place → is_number_in_set numbers m ≡ false
none_until numbers first index from place p before none m l h = elim (cases_lt m (64 * index + from)) [
  | inl less ↦ before m l less
  | inr more ↦ is_out numbers m index (m - 64 * index) (omega arith) (omega arith) (none (m - 64 * index) (omega arith) (omega arith))
]
