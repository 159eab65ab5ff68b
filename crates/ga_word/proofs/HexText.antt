-- The six digits of a word against the pairs of digits of its three bytes.
use Rattle.std.specs.Prelude.{IsOk, OnOk, MatchResult}
use Rattle.std.proofs.Common.{Result, Ok, Err, Option, Some, None, Bool, true, false, cond, rules, sym, ◌≡◌, ℕ, ◌/◌, ◌%◌, ◌*◌, ◌+◌, ◌<◌, List, [], ◌∷◌, refl, arith, ap, slice_index, ◌==◌, ◌≢◌, length}
use Rattle.std.specs.Option.{option_and_then}
use Rattle.std.proofs.lemmas.Bool.{ne_eqb, eqb-false}
use Rattle.hex.specs.declared.error.FromHexError.{FromHexError}
use Rattle.hex.specs.declared.error.FromHexError.TheVariants.{OddLength, InvalidStringLength}
use Rattle.hex.specs.Hex.{encode_with, encode_lower, lower_digits, decode_pairs, decode_sized, digit_or_error, hex_digit_value, ◌>>=◌}
use Rattle.ga_word.specs.Word.{word_modulus, hex_digits_of_word, six_hex_digits_value, hex_digits_value}

-- six digits from equal places
pub six_same : (a b c d e f a' b' c' d' e' f' : ℕ) → a ≡ a' → b ≡ b' → c ≡ c' → d ≡ d' → e ≡ e' → f ≡ f' → (a ∷ b ∷ c ∷ d ∷ e ∷ f ∷ []) ≡ (a' ∷ b' ∷ c' ∷ d' ∷ e' ∷ f' ∷ [])
six_same a b c d e f a' b' c' d' e' f' p q r s t u = cc

pub hex6_of_bytes : (n : ℕ) → n < word_modulus → encode_lower (n / 65536 ∷ n / 256 % 256 ∷ n % 256 ∷ []) ≡ hex_digits_of_word n
unfolding encode_with
hex6_of_bytes n h =
    six_same _ _ _ _ _ _ _ _ _ _ _ _
    (ap (slice_index lower_digits) (omega arith))
    (ap (slice_index lower_digits) (omega arith))
    (ap (slice_index lower_digits) (omega arith))
    (ap (slice_index lower_digits) (omega arith))
    (ap (slice_index lower_digits) (omega arith))
    (ap (slice_index lower_digits) (omega arith))

-- what holds on `Ok`, of a result that is one
pub on_ok : {T E P : Type 0} (r : Result T E) → IsOk r → OnOk r P → P
on_ok (Ok v) is h = h
on_ok (Err e) is h = absurd (search rules)

-- three bytes, or the error of their digits, against the number of the digits
abbrev pub Agrees : Result (List ℕ) FromHexError → Option ℕ → Type 0
Agrees (Ok bytes) number = (high : ℕ) × (middle : ℕ) × (low : ℕ) × (bytes ≡ high ∷ middle ∷ low ∷ []) × (number ≡ Some (high * 65536 + middle * 256 + low))
Agrees (Err error) number = number ≡ None

-- a byte of two digits with these values
abbrev byte : ℕ → ℕ → ℕ → Option ℕ → Option ℕ → Result ℕ FromHexError
byte i x y a b = do
  high ← digit_or_error x i a
  low ← digit_or_error y (i + 1) b
  Ok (high * 16 + low)

-- three of them
abbrev three : (u v w x y z : ℕ) (a b c d e f : Option ℕ) → Result (List ℕ) FromHexError
three u v w x y z a b c d e f = do
  first ← byte 0 u v a b
  rest ← (do
    second ← byte 2 w x c d
    others ← (do
      third ← byte 4 y z e f
      none ← Ok []
      Ok (third ∷ none))
    Ok (second ∷ others))
  Ok (first ∷ rest)

-- the number of digits with these values
abbrev value : (a b c d e f : Option ℕ) → Option ℕ
value a b c d e f =
    option_and_then (λ u. option_and_then (λ v. option_and_then (λ w. option_and_then (λ x. option_and_then (λ y. option_and_then (λ z.
    Some (16 * (16 * (16 * (16 * (16 * (16 * 0 + u) + v) + w) + x) + y) + z)) f) e) d) c) b) a

six_agree : (u v w x y z : ℕ) (a b c d e f : Option ℕ) → Agrees (three u v w x y z a b c d e f) (value a b c d e f)
six_agree u v w x y z None b c d e f = refl
six_agree u v w x y z (Some a) None c d e f = refl
six_agree u v w x y z (Some a) (Some b) None d e f = refl
six_agree u v w x y z (Some a) (Some b) (Some c) None e f = refl
six_agree u v w x y z (Some a) (Some b) (Some c) (Some d) None f = refl
six_agree u v w x y z (Some a) (Some b) (Some c) (Some d) (Some e) None = refl
six_agree u v w x y z (Some a) (Some b) (Some c) (Some d) (Some e) (Some f) =
    (a * 16 + b, c * 16 + d, e * 16 + f, refl, ap (λ (n : ℕ). Some n) (omega arith))

-- another length is refused, whether it is odd or not
chosen : (odd half : Bool) (bytes : Result (List ℕ) FromHexError) (number : Option ℕ) → (odd ≡ false → half ≡ false) → number ≡ None
    → Agrees (cond odd (Err OddLength) (cond half bytes (Err InvalidStringLength))) number
chosen true half bytes number other none = none
chosen false true bytes number other none = absurd (let clash : true ≡ false = other refl in cc)
chosen false false bytes number other none = none

other_agree : (text : List ℕ) → length text ≢ 6 → Agrees (decode_sized text 3) (six_hex_digits_value text)
other_agree text other =
    let none : six_hex_digits_value text ≡ None = ap (λ (b : Bool). cond b (hex_digits_value 0 text) None) (ne_eqb (length text) 6 other) in
    chosen (length text % 2 == 1) (length text / 2 == 3) (decode_pairs 0 text) (six_hex_digits_value text)
    (λ even. ne_eqb (length text / 2) 3 (λ half. other (let none_left : length text % 2 ≢ 1 = eqb-false (length text % 2) 1 even in omega arith)))
    none

-- a text of digits, or of anything else
pub text_agrees : (text : List ℕ) → Agrees (decode_sized text 3) (six_hex_digits_value text)
unfolding decode_pairs
text_agrees [] = other_agree [] (λ e. absurd (omega arith))
text_agrees (a ∷ []) = other_agree (a ∷ []) (λ e. absurd (omega arith))
text_agrees (a ∷ b ∷ []) = other_agree (a ∷ b ∷ []) (λ e. absurd (omega arith))
text_agrees (a ∷ b ∷ c ∷ []) = other_agree (a ∷ b ∷ c ∷ []) (λ e. absurd (omega arith))
text_agrees (a ∷ b ∷ c ∷ d ∷ []) = other_agree (a ∷ b ∷ c ∷ d ∷ []) (λ e. absurd (omega arith))
text_agrees (a ∷ b ∷ c ∷ d ∷ e ∷ []) = other_agree (a ∷ b ∷ c ∷ d ∷ e ∷ []) (λ e. absurd (omega arith))
text_agrees (a ∷ b ∷ c ∷ d ∷ e ∷ f ∷ []) =
    six_agree a b c d e f (hex_digit_value a) (hex_digit_value b) (hex_digit_value c) (hex_digit_value d) (hex_digit_value e) (hex_digit_value f)
text_agrees (a ∷ b ∷ c ∷ d ∷ e ∷ f ∷ g ∷ text) = other_agree (a ∷ b ∷ c ∷ d ∷ e ∷ f ∷ g ∷ text) (λ e. absurd (omega arith))

-- what decoding into three bytes left, and what it answered
abbrev pub Decoded : Result (List ℕ) FromHexError → Result (Unit {0}) FromHexError → List ℕ → Type 0
Decoded decoded answer out = MatchResult decoded (λ bytes. (answer ≡ Ok tt) × (out ≡ bytes)) (λ error. answer ≡ Err error)

pub none-of_error : (decoded : Result (List ℕ) FromHexError) (answer : Result (Unit {0}) FromHexError) (out : List ℕ) (number : Option ℕ) (error : FromHexError)
    → Decoded decoded answer out → answer ≡ Err error → Agrees decoded number → None ≡ number
none-of_error (Ok bytes) answer out number error is refused agrees = absurd (let done : answer ≡ Ok tt = is.0 in cc)
none-of_error (Err other) answer out number error is refused agrees = sym agrees

pub number-of_bytes : (decoded : Result (List ℕ) FromHexError) (answer : Result (Unit {0}) FromHexError) (out : List ℕ) (number : Option ℕ) (done : Unit {0})
    → Decoded decoded answer out → answer ≡ Ok done → Agrees decoded number
    → Some (slice_index out 0 * 65536 + slice_index out 1 * 256 + slice_index out 2) ≡ number
number-of_bytes (Ok bytes) answer out number done is given (high, middle, low, three, value) = rw (is.1, three) (sym value)
number-of_bytes (Err other) answer out number done is given agrees = absurd (let refused : answer ≡ Err other = is in cc)
