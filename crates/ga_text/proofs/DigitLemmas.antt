-- Numbers in decimal digits, some digits at a time; the number of a cell by its two digits; the contents of the tables of
-- digits.
use Rattle.std.proofs.Common.{◌≡◌, ℕ, ◌+◌, ◌<◌, ◌≤◌, ◌^◌, ◌/◌, ◌%◌, [], ◌∷◌, ◌++◌, decimal, length, length-append, ap, ◌∙◌, arith, List, refl, ◌≢◌, ◌*◌, Bool, true, false, cond, Option, Some, None, Result, Ok, Err, zero, suc, get_or, subst, inl, inr, eq-zero-or-pos, ◌-◌}
use Rattle.std.proofs.lemmas.Fmt.{decimal_step, decimal_digit, length-decimal-le}
use Rattle.ga_text.specs.inner.{four_decimal_digits}
use Rattle.std.specs.Prelude.{MatchResult, ◌==◌, slice_index, ◌&&◌}
use Rattle.std.specs.Option.{option_and_then}
use Rattle.std.proofs.lemmas.Bool.{ne_eqb, eqb-false}
use Rattle.hex.specs.declared.error.FromHexError.{FromHexError}
use Rattle.hex.specs.declared.error.FromHexError.TheVariants.{OddLength, InvalidStringLength}
use Rattle.hex.specs.Hex.{decode_pairs, decode_sized, digit_or_error, hex_digit_value, ◌>>=◌}
use Rattle.ga_text.specs.Digits.{hex_byte_value, two_hex_digits_text}
use Rattle.std.proofs.lemmas.Bool.Decides.{nat_tests}
use Rattle.ga_word.specs.Word.{hex_digit_at_place, hex_digits_of_word}
use Rattle.ga_text.specs.declared.text.TheConstants.{DECIMAL, HEXADECIMAL, NAMES}

-- a number of 64 bits has at most twenty digits
pub short_decimal : (n : ℕ) → n < 2 ^ 64 → length (decimal n) ≤ 20
short_decimal n fits = length-decimal-le 20 n (omega arith) (omega arith) (omega arith)

pub one_digit : (n : ℕ) → n < 10 → decimal n ≡ (48 + n % 10) ∷ []
one_digit n small = let same : n % 10 ≡ n = omega arith in rw same (decimal_digit n small)

pub two_digits : (n : ℕ) → 10 ≤ n → n < 100 → decimal n ≡ (48 + n / 10 % 10) ∷ (48 + n % 10) ∷ []
two_digits n big small = decimal_step n big (omega arith) ∙ ap (λ (t : List ℕ). t ++ (48 + n % 10) ∷ []) (one_digit (n / 10) (omega arith))

pub three_digits : (n : ℕ) → 100 ≤ n → n < 1000 → decimal n ≡ (48 + n / 100 % 10) ∷ (48 + n / 10 % 10) ∷ (48 + n % 10) ∷ []
three_digits n big small =
    let front : n / 10 / 10 ≡ n / 100 = omega arith in
    decimal_step n (omega arith) (omega arith)
    ∙ ap (λ (t : List ℕ). t ++ (48 + n % 10) ∷ []) (two_digits (n / 10) (omega arith) (omega arith) ∙ ap (λ (m : ℕ). (48 + m % 10) ∷ (48 + n / 10 % 10) ∷ []) front)

pub four_alone : (n : ℕ) → 1000 ≤ n → n < 10000 → decimal n ≡ four_decimal_digits n
four_alone n big small =
    let front : n / 10 / 100 ≡ n / 1000 = omega arith in
    let next : n / 10 / 10 ≡ n / 100 = omega arith in
    decimal_step n (omega arith) (omega arith)
    ∙ ap (λ (t : List ℕ). t ++ (48 + n % 10) ∷ []) (three_digits (n / 10) (omega arith) (omega arith)
    ∙ ap (λ (m : ℕ). (48 + m % 10) ∷ (48 + n / 10 / 10 % 10) ∷ (48 + n / 10 % 10) ∷ []) front
    ∙ ap (λ (m : ℕ). (48 + n / 1000 % 10) ∷ (48 + m % 10) ∷ (48 + n / 10 % 10) ∷ []) next)

-- the last four digits come after the others
pub four_more : (n : ℕ) → 10000 ≤ n → n < 2 ^ 64 → decimal n ≡ decimal (n / 10000) ++ four_decimal_digits (n % 10000)
four_more n big fits =
    let a : n / 10 / 10 / 10 / 10 ≡ n / 10000 = omega arith in
    let d1 : n % 10000 / 1000 % 10 ≡ n / 10 / 10 / 10 % 10 = omega arith in
    let d2 : n % 10000 / 100 % 10 ≡ n / 10 / 10 % 10 = omega arith in
    let d3 : n % 10000 / 10 % 10 ≡ n / 10 % 10 = omega arith in
    let d4 : n % 10000 % 10 ≡ n % 10 = omega arith in
    rw (
      decimal_step n (omega arith) (omega arith),
      decimal_step (n / 10) (omega arith) (omega arith),
      decimal_step (n / 10 / 10) (omega arith) (omega arith),
      decimal_step (n / 10 / 10 / 10) (omega arith) (omega arith),
      a,
      d1,
      d2,
      d3,
      d4,
    ) (four (decimal (n / 10000)) _ _ _ _)
  where
    four : (xs : List ℕ) (a b c d : ℕ) → (((xs ++ a ∷ []) ++ b ∷ []) ++ c ∷ []) ++ d ∷ [] ≡ xs ++ a ∷ b ∷ c ∷ d ∷ []
    four [] a b c d = refl
    four (x ∷ xs) a b c d = ap (λ (t : List ℕ). x ∷ t) (four xs a b c d)

pub longer : (n : ℕ) → 10000 ≤ n → n < 2 ^ 64 → length (decimal n) ≡ length (decimal (n / 10000)) + 4
longer n big fits = ap length (four_more n big fits) ∙ length-append (decimal (n / 10000)) (four_decimal_digits (n % 10000))

-- so much is there before the last four digits
pub shorter : (old new : List ℕ) (n : ℕ) → 10000 ≤ n → n < 2 ^ 64 → new ≡ old ++ decimal (n / 10000) → length new + 4 ≡ length old + length (decimal n)
shorter old new n big fits e = omega (arith, longer n big fits, ap length e, length-append old (decimal (n / 10000)))

-- ---- the number of a cell against the byte that its two digits decode to

-- a byte, or the error of its digits, against a number
abbrev pub Agrees : Result (List ℕ) FromHexError → Option ℕ → Type 0
Agrees (Ok bytes) cell = Some (slice_index bytes 0) ≡ cell
Agrees (Err error) cell = None ≡ cell

-- a byte of two digits with these values
abbrev pair : (x y : ℕ) (high low : Option ℕ) → Result (List ℕ) FromHexError
pair x y high low = do
  byte ← (do
    h ← digit_or_error x 0 high
    l ← digit_or_error y 1 low
    Ok (h * 16 + l))
  bytes ← Ok []
  Ok (byte ∷ bytes)

pair_agrees : (x y : ℕ) (high low : Option ℕ) → Agrees (pair x y high low) (option_and_then (λ h. option_and_then (λ l. Some (h * 16 + l)) low) high)
pair_agrees x y None low = refl
pair_agrees x y (Some h) None = refl
pair_agrees x y (Some h) (Some l) = refl

-- another length is refused, whether it is odd or not
refused : (odd half : Bool) (bytes : Result (List ℕ) FromHexError) → (odd ≡ false → half ≡ false) → Agrees (cond odd (Err OddLength) (cond half bytes (Err InvalidStringLength))) None
refused true half bytes other = refl
refused false true bytes other = absurd (let clash : true ≡ false = other refl in cc)
refused false false bytes other = refl

-- two digits decode to a byte where they name a cell
pub cell_agrees : (text : List ℕ) → Agrees (decode_sized text 1) (hex_byte_value text)
unfolding decode_pairs hex_byte_value
cell_agrees [] = refl
cell_agrees (x ∷ []) = refl
cell_agrees (x ∷ y ∷ []) = pair_agrees x y (hex_digit_value x) (hex_digit_value y)
cell_agrees (x ∷ y ∷ z ∷ text) =
    refused (length (x ∷ y ∷ z ∷ text) % 2 == 1) (length (x ∷ y ∷ z ∷ text) / 2 == 1) (decode_pairs 0 (x ∷ y ∷ z ∷ text))
    (λ even. ne_eqb (length (x ∷ y ∷ z ∷ text) / 2) 1 (λ half. let uneven : length (x ∷ y ∷ z ∷ text) % 2 ≢ 1 = eqb-false (length (x ∷ y ∷ z ∷ text) % 2) 1 even in absurd (omega arith)))

-- what decoding into one byte left, and what it answered
abbrev pub Decoded : Result (List ℕ) FromHexError → Result (Unit {0}) FromHexError → List ℕ → Type 0
Decoded decoded answer out = MatchResult decoded (λ bytes. (answer ≡ Ok tt) × (out ≡ bytes)) (λ error. answer ≡ Err error)

-- no cell where decoding was refused
pub none_decoded : (decoded : Result (List ℕ) FromHexError) (out : List ℕ) (cell : Option ℕ) (error : FromHexError) → Decoded decoded (Err error) out → Agrees decoded cell → None ≡ cell
none_decoded (Ok bytes) out cell error is agrees = absurd (let clash : Err error ≡ Ok tt = is.0 in cc)
none_decoded (Err other) out cell error is agrees = agrees

-- and else the byte that was decoded
pub some_decoded : (decoded : Result (List ℕ) FromHexError) (out : List ℕ) (cell : Option ℕ) (done : Unit {0}) → Decoded decoded (Ok done) out → Agrees decoded cell → Some (slice_index out 0) ≡ cell
some_decoded (Ok bytes) out cell done is agrees = rw is.1 agrees
some_decoded (Err other) out cell done is agrees = absurd (let clash : Ok done ≡ Err other = is in cc)

-- ---- the contents of the tables of digits

-- whether the first n pairs of a table are these
abbrev pairs : List ℕ → (ℕ → ℕ) → (ℕ → ℕ) → ℕ → Bool
pairs table first second zero = true
pairs table first second (suc n) = (get_or table (2 * n) 0 == first n && get_or table (2 * n + 1) 0 == second n) && pairs table first second n

both : (a b : Bool) → (a && b) ≡ true → (a ≡ true) × (b ≡ true)
both true b e = (refl, e)
both false b e = cc

same : (m n : ℕ) → (m == n) ≡ true → m ≡ n
same m n e = grind (arith, nat_tests)

pair_at : (table : List ℕ) (first second : ℕ → ℕ) (count n : ℕ) → pairs table first second count ≡ true → n < count
    → (get_or table (2 * n) 0 ≡ first n) × (get_or table (2 * n + 1) 0 ≡ second n)
pair_at table first second zero n all below = absurd (omega arith)
pair_at table first second (suc count) n all below =
    let (here, rest) = both (get_or table (2 * count) 0 == first count && get_or table (2 * count + 1) 0 == second count) (pairs table first second count) all in
    elim (eq-zero-or-pos (count - n)) [
      | inl z ↦ let e : n ≡ count = omega arith in
          let (one, two) = both (get_or table (2 * count) 0 == first count) (get_or table (2 * count + 1) 0 == second count) here in
          rw e (same _ _ one, same _ _ two)
      | inr g ↦ pair_at table first second count n rest (omega arith)
    ]

pub decimal_pair : (n : ℕ) → n < 100 → (get_or DECIMAL (2 * n) 0 ≡ 48 + n / 10) × (get_or DECIMAL (2 * n + 1) 0 ≡ 48 + n % 10)
decimal_pair n below = pair_at DECIMAL (λ m. 48 + m / 10) (λ m. 48 + m % 10) 100 n refl below

pub hexadecimal_pair : (n : ℕ) → n < 256 → (get_or HEXADECIMAL (2 * n) 0 ≡ hex_digit_at_place n 1) × (get_or HEXADECIMAL (2 * n + 1) 0 ≡ hex_digit_at_place n 0)
hexadecimal_pair n below = pair_at HEXADECIMAL (λ m. hex_digit_at_place m 1) (λ m. hex_digit_at_place m 0) 256 n refl below

-- six digits of a word are those of its three bytes
pub three_bytes : (n : ℕ) → n < 2 ^ 18 → two_hex_digits_text (n / 65536) ++ two_hex_digits_text (n / 256 % 256) ++ two_hex_digits_text (n % 256) ≡ hex_digits_of_word n
three_bytes n below =
    let a : n / 65536 / 16 ^ 1 % 16 ≡ n / 16 ^ 5 % 16 = omega arith in
    let b : n / 65536 / 16 ^ 0 % 16 ≡ n / 16 ^ 4 % 16 = omega arith in
    let c : n / 256 % 256 / 16 ^ 1 % 16 ≡ n / 16 ^ 3 % 16 = omega arith in
    let d : n / 256 % 256 / 16 ^ 0 % 16 ≡ n / 16 ^ 2 % 16 = omega arith in
    let e : n % 256 / 16 ^ 1 % 16 ≡ n / 16 ^ 1 % 16 = omega arith in
    let f : n % 256 / 16 ^ 0 % 16 ≡ n / 16 ^ 0 % 16 = omega arith in
    rw (a, b, c, d, e, f) refl

-- whether the row and the tens of the name at n in the table of names are right; in `ones_are` its ones, with a space after
-- them; in `names` all of the first n names
abbrev row_is : ℕ → Bool
row_is n = get_or NAMES (4 * n) 0 == 48 + n / 18 && get_or NAMES (4 * n + 1) 0 == 48 + n % 18 / 10

abbrev ones_are : ℕ → Bool
ones_are n = get_or NAMES (4 * n + 2) 0 == 48 + n % 18 % 10 && get_or NAMES (4 * n + 3) 0 == 32

abbrev names : ℕ → Bool
names zero = true
names (suc n) = (row_is n && ones_are n) && names n

name_at : (count n : ℕ) → names count ≡ true → n < count
    → (get_or NAMES (4 * n) 0 ≡ 48 + n / 18) × (get_or NAMES (4 * n + 1) 0 ≡ 48 + n % 18 / 10) × (get_or NAMES (4 * n + 2) 0 ≡ 48 + n % 18 % 10) × (get_or NAMES (4 * n + 3) 0 ≡ 32)
name_at zero n all below = absurd (omega arith)
name_at (suc count) n all below =
    let (here, rest) = both (row_is count && ones_are count) (names count) all in
    elim (eq-zero-or-pos (count - n)) [
      | inl z ↦ let e : n ≡ count = omega arith in
          let (front, back) = both (row_is count) (ones_are count) here in
          let (one, two) = both (get_or NAMES (4 * count) 0 == 48 + count / 18) (get_or NAMES (4 * count + 1) 0 == 48 + count % 18 / 10) front in
          let (three, four) = both (get_or NAMES (4 * count + 2) 0 == 48 + count % 18 % 10) (get_or NAMES (4 * count + 3) 0 == 32) back in
          rw e (same _ _ one, same _ _ two, same _ _ three, same _ _ four)
      | inr g ↦ name_at count n rest (omega arith)
    ]

-- a node's name and a space: its row, and two digits of its column
pub name_four : (n : ℕ) → n < 144
    → (get_or NAMES (4 * n) 0 ≡ 48 + n / 18) × (get_or NAMES (4 * n + 1) 0 ≡ 48 + n % 18 / 10) × (get_or NAMES (4 * n + 2) 0 ≡ 48 + n % 18 % 10) × (get_or NAMES (4 * n + 3) 0 ≡ 32)
name_four n below = name_at 144 n refl below

-- whether the name at n is four zeros; in `blanks` the first n names from 144 on
abbrev blank : ℕ → Bool
blank n = (get_or NAMES (4 * n) 0 == 0 && get_or NAMES (4 * n + 1) 0 == 0) && (get_or NAMES (4 * n + 2) 0 == 0 && get_or NAMES (4 * n + 3) 0 == 0)

abbrev blanks : ℕ → Bool
blanks zero = true
blanks (suc n) = blank (144 + n) && blanks n

AreZeros : ℕ → Type 0
AreZeros n = (get_or NAMES (4 * n) 0 ≡ 0) × (get_or NAMES (4 * n + 1) 0 ≡ 0) × (get_or NAMES (4 * n + 2) 0 ≡ 0) × (get_or NAMES (4 * n + 3) 0 ≡ 0)

zeros_at : (n : ℕ) → blank n ≡ true → AreZeros n
unfolding AreZeros
zeros_at n here =
    let (front, back) = both (get_or NAMES (4 * n) 0 == 0 && get_or NAMES (4 * n + 1) 0 == 0) (get_or NAMES (4 * n + 2) 0 == 0 && get_or NAMES (4 * n + 3) 0 == 0) here in
    let (one, two) = both (get_or NAMES (4 * n) 0 == 0) (get_or NAMES (4 * n + 1) 0 == 0) front in
    let (three, four) = both (get_or NAMES (4 * n + 2) 0 == 0) (get_or NAMES (4 * n + 3) 0 == 0) back in
    (same _ _ one, same _ _ two, same _ _ three, same _ _ four)

blank_at : (count m : ℕ) → blanks count ≡ true → m < count → AreZeros (144 + m)
blank_at zero m all below = absurd (omega arith)
blank_at (suc count) m all below =
    let (here, rest) = both (blank (144 + count)) (blanks count) all in
    elim (eq-zero-or-pos (count - m)) [
      | inl z ↦ let e : m ≡ count = omega arith in rw e (zeros_at (144 + count) here)
      | inr g ↦ blank_at count m rest (omega arith)
    ]

pub name_blank : (n : ℕ) → 144 ≤ n → n < 256
    → (get_or NAMES (4 * n) 0 ≡ 0) × (get_or NAMES (4 * n + 1) 0 ≡ 0) × (get_or NAMES (4 * n + 2) 0 ≡ 0) × (get_or NAMES (4 * n + 3) 0 ≡ 0)
unfolding AreZeros
name_blank n past below =
    let e : 144 + (n - 144) ≡ n = omega arith in
    subst AreZeros e (blank_at 112 (n - 144) refl (omega arith))
