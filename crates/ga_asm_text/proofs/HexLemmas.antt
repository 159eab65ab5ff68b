-- Hexadecimal digits as they are written and as they are read.
use Rattle.std.specs.Prelude.{◌==◌, nat_lt, bit_and, slice_index}
use Rattle.std.proofs.Common.{◌≡◌, ◌∙◌, ℕ, zero, suc, ◌+◌, ◌-◌, ◌*◌, ◌/◌, ◌%◌, ◌^◌, ◌<◌, Bool, true, ◌&&◌, List, [], ◌∷◌, ◌++◌, Option, Some, None, refl, arith, ap, sym, inl, inr, eq-zero-or-pos, append_assoc}
use Rattle.std.specs.List.{list_all}
use Rattle.std.specs.Char.{digit_value, is_digit}
use Rattle.std.specs.Str.Parse.{digits_value, digits_value_after}
use Rattle.std.proofs.lemmas.Nat.{pow-add, and_mask, shr-shr}
use Rattle.std.proofs.lemmas.Bool.{and_parts, and_from, lt-ltb, cond-true, eqb-true}
use Rattle.hex.specs.Hex.{lower_digits}
use Rattle.ga_word.specs.Word.{hex_digit_at_place}
use Rattle.ga_ports.specs.Address.{parse_side_set}
use Rattle.ga_parser.specs.Vocabulary.{is_numeral, value_of_digits, named_port_set, number_spelled_by_word}
use Rattle.ga_parser.specs.Plain.{apply_to_number_in_range}
use Rattle.ga_asm_text.specs.inner.{last_hex_digits, hex_number_source_word}

-- ---- written

pow_four : (k : ℕ) → 2 ^ (4 * k) ≡ 16 ^ k
pow_four zero = refl
pow_four (suc k) =
    let e : 4 * suc k ≡ 4 + 4 * k = omega arith in
    let one : 1 + k ≡ suc k = omega arith in
    ap (λ (m : ℕ). 2 ^ m) e ∙ (pow-add 2 4 (4 * k) ∙ (ap (λ (m : ℕ). 16 * m) (pow_four k) ∙ (sym (pow-add 16 1 k) ∙ ap (λ (m : ℕ). 16 ^ m) one)))

-- four bits of a number
pub bits_digit : (n k : ℕ) → bit_and (n / 2 ^ (4 * k)) 15 ≡ n / 16 ^ k % 16
bits_digit n k = and_mask (n / 2 ^ (4 * k)) 4 ∙ ap (λ (m : ℕ). n / m % 16) (pow_four k)

-- one digit more
pub hex_more : (items whole : List ℕ) (left n byte : ℕ) → 0 < left → byte ≡ slice_index lower_digits (bit_and (n / 2 ^ (4 * (left - 1))) 15) → items ++ last_hex_digits left n ≡ whole → (items ++ byte ∷ []) ++ last_hex_digits (left - 1) n ≡ whole
hex_more items whole zero n byte some is all = absurd (omega arith)
hex_more items whole (suc k) n byte some is all =
    let e : suc k - 1 ≡ k = omega arith in
    let digit : byte ≡ hex_digit_at_place n k = is ∙ (ap (λ (m : ℕ). slice_index lower_digits (bit_and (n / 2 ^ (4 * m)) 15)) e ∙ ap (slice_index lower_digits) (bits_digit n k)) in
    append_assoc items (byte ∷ []) (last_hex_digits (suc k - 1) n)
    ∙ (ap (λ (m : ℕ). items ++ (byte ∷ last_hex_digits m n)) e
    ∙ (ap (λ (b : ℕ). items ++ (b ∷ last_hex_digits k n)) digit ∙ all))

-- ---- read

-- a test holds below a number
abbrev each : (ℕ → Bool) → ℕ → Bool
each test zero = true
each test (suc n) = test n && each test n

each_at : (test : ℕ → Bool) (count n : ℕ) → each test count ≡ true → n < count → test n ≡ true
each_at test zero n all below = absurd (omega arith)
each_at test (suc count) n all below =
    let parts = and_parts (test count) (each test count) all in
    elim (eq-zero-or-pos (count - n)) [
      | inl z ↦ let e : n ≡ count = omega arith in ap test e ∙ parts.0
      | inr more ↦ each_at test count n parts.1 (omega arith)
    ]

-- what a digit's byte is
abbrev is_right : ℕ → Bool
is_right d = (digit_value (slice_index lower_digits d) == d) && (is_digit (slice_index lower_digits d) 16 && nat_lt 32 (slice_index lower_digits d))

digit_right : (n k : ℕ) → (digit_value (hex_digit_at_place n k) ≡ n / 16 ^ k % 16) × (is_digit (hex_digit_at_place n k) 16 ≡ true) × (nat_lt 32 (hex_digit_at_place n k) ≡ true)
digit_right n k =
    let parts = and_parts (digit_value (hex_digit_at_place n k) == n / 16 ^ k % 16) (is_digit (hex_digit_at_place n k) 16 && nat_lt 32 (hex_digit_at_place n k)) (each_at is_right 16 (n / 16 ^ k % 16) refl (omega arith)) in
    let two = and_parts (is_digit (hex_digit_at_place n k) 16) (nat_lt 32 (hex_digit_at_place n k)) parts.1 in
    (eqb-true (digit_value (hex_digit_at_place n k)) (n / 16 ^ k % 16) parts.0, two.0, two.1)

-- each digit is one
all_digits : (k n : ℕ) → list_all (λ byte. is_digit byte 16) (last_hex_digits k n) ≡ true
all_digits zero n = refl
all_digits (suc k) n = and_from (is_digit (hex_digit_at_place n k) 16) (list_all (λ byte. is_digit byte 16) (last_hex_digits k n)) (digit_right n k).1 (all_digits k n)

pub all_shown : (k n : ℕ) → list_all (λ byte. nat_lt 32 byte) (last_hex_digits k n) ≡ true
all_shown zero n = refl
all_shown (suc k) n = and_from (nat_lt 32 (hex_digit_at_place n k)) (list_all (λ byte. nat_lt 32 byte) (last_hex_digits k n)) (digit_right n k).2 (all_shown k n)

higher : (n k : ℕ) → n / 16 ^ suc k * 16 + n / 16 ^ k % 16 ≡ n / 16 ^ k
higher n k =
    let two : n / 16 ^ k / 16 ≡ n / 16 ^ suc k = ap (λ (m : ℕ). n / m / 16) (sym (pow_four k)) ∙ (shr-shr n (4 * k) 4 ∙ ap (λ (m : ℕ). n / m) ((let e : 4 * k + 4 ≡ 4 * suc k = omega arith in ap (λ (m : ℕ). 2 ^ m) e) ∙ pow_four (suc k))) in
    ap (λ (m : ℕ). m * 16 + n / 16 ^ k % 16) (sym two) ∙ omega arith

digits_back : (k n : ℕ) → digits_value_after 16 (n / 16 ^ k) (last_hex_digits k n) ≡ n
digits_back zero n = omega arith
digits_back (suc k) n =
    ap (λ (d : ℕ). digits_value_after 16 (n / 16 ^ suc k * 16 + d) (last_hex_digits k n)) (digit_right n k).0
    ∙ (ap (λ (m : ℕ). digits_value_after 16 m (last_hex_digits k n)) (higher n k) ∙ digits_back k n)

none_in : (rest : List ℕ) → named_port_set (48 ∷ rest) ≡ None
unfolding parse_side_set
none_in [] = refl
none_in (a ∷ []) = refl
none_in (a ∷ b ∷ []) = refl
none_in (a ∷ b ∷ c ∷ []) = refl
none_in (a ∷ b ∷ c ∷ d ∷ rest) = refl

digits_read : (k n : ℕ) → n / 16 ^ suc k ≡ 0 → value_of_digits 16 (last_hex_digits (suc k) n) ≡ Some n
digits_read k n below =
    cond-true (is_numeral 16 (last_hex_digits (suc k) n)) (Some (digits_value 16 (last_hex_digits (suc k) n))) None (all_digits (suc k) n)
    ∙ ap Some (ap (λ (m : ℕ). digits_value_after 16 m (last_hex_digits (suc k) n)) (sym below) ∙ digits_back (suc k) n)

-- a number is read as it is written
pub number_read : {X : Type 0} (k n : ℕ) (asks : ℕ → Option X) → n / 16 ^ suc k ≡ 0 → n < 262144 → apply_to_number_in_range (number_spelled_by_word (hex_number_source_word (suc k) n)) asks ≡ asks n
number_read k n asks below small = rw (none_in (120 ∷ last_hex_digits (suc k) n), digits_read k n below, lt-ltb n 262144 small) refl
