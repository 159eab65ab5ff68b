-- Digits and the numbers that they give, both ways.
use Rattle.std.proofs.Common.{◌≡◌, ◌≢◌, ℕ, zero, suc, ◌+◌, ◌<◌, List, [], ◌∷◌, length, take, drop, get_or, arith, ap, refl, ◌∙◌, add-one, ◌-◌, ◌*◌, ◌/◌, ◌%◌, ◌^◌, ◌≤◌, ◌⊎◌, inl, inr, Bool, true, false, cond, ◌&&◌, Option, Some, None, sym}
use Rattle.std.proofs.lemmas.Bool.{ne_eqb}
use Rattle.ga_text.specs.Lines.{lines_of_text, lines_with_added_front_byte}
use Rattle.std.specs.Prelude.{nat_le, nat_lt, slice_index}
use Rattle.std.specs.Char.{to_ascii_lowercase}
use Rattle.std.specs.Str.{str_to_ascii_lowercase}
use Rattle.std.proofs.lemmas.Bool.Decides.{nat_tests}
use Rattle.hex.specs.Hex.{hex_digit_value, lower_digits}
use Rattle.hex.proofs.HexLemmas.{IsDigits-lower_digits}
use Rattle.ga_word.specs.Word.{hex_digit_at_place, hex_digits_of_word, six_hex_digits_value}
use Rattle.ga_grid.specs.Grid.{decimal_digit, parse_decimal_name}
use Rattle.ga_text.specs.Digits.{hex_byte_value, two_hex_digits_text, three_decimal_digits}
use Rattle.ga_ports.specs.Steps.{◌>>=◌}

-- ---- the first line feed of a text ends its first line

-- any other byte belongs to the line
pub past_byte : (b : ℕ) (text : List ℕ) → b ≢ 10 → lines_of_text (b ∷ text) ≡ lines_with_added_front_byte b (lines_of_text text)
past_byte b text other = rw (ne_eqb b 10 other) refl

-- the first line ends before the first line feed
pub at_feed : (text : List ℕ) (i : ℕ) → i < length text → ((k : ℕ) → k < i → get_or text k 0 ≢ 10) → get_or text i 0 ≡ 10 → lines_of_text text ≡ take i text ∷ lines_of_text (drop (i + 1) text)
at_feed [] i within none feed = absurd (omega arith)
at_feed (b ∷ text) zero within none feed = rw feed refl
at_feed (b ∷ text) (suc i) within none feed =
    let again : lines_of_text text ≡ take i text ∷ lines_of_text (drop (i + 1) text) = at_feed text i (omega arith) (λ k below. none (suc k) (omega arith)) feed in
    past_byte b text (none 0 (omega arith)) ∙ ap (lines_with_added_front_byte b) again ∙ rw (add-one, add-one) refl

-- without one the text is a line
pub no_feed : (text : List ℕ) → 0 < length text → ((k : ℕ) → k < length text → get_or text k 0 ≢ 10) → lines_of_text text ≡ text ∷ []
no_feed [] some none = absurd (omega arith)
no_feed (b ∷ []) some none = past_byte b [] (none 0 (omega arith))
no_feed (b ∷ c ∷ text) some none =
    past_byte b (c ∷ text) (none 0 (omega arith)) ∙ ap (lines_with_added_front_byte b) (no_feed (c ∷ text) (omega arith) (λ k below. none (suc k) (omega arith)))

-- a digit has the same value in either case
same_value : (c : ℕ) → hex_digit_value c ≡ hex_digit_value (to_ascii_lowercase c)
same_value c = grind (arith, nat_tests)

-- the lower-case digits in one formula
digit_text : (v : ℕ) → v < 16 → slice_index lower_digits v ≡ cond (nat_lt v 10) (48 + v) (87 + v)
digit_text zero small = refl
digit_text (suc zero) small = refl
digit_text (suc (suc zero)) small = refl
digit_text (suc (suc (suc zero))) small = refl
digit_text (suc (suc (suc (suc zero)))) small = refl
digit_text (suc (suc (suc (suc (suc zero))))) small = refl
digit_text (suc (suc (suc (suc (suc (suc zero)))))) small = refl
digit_text (suc (suc (suc (suc (suc (suc (suc zero))))))) small = refl
digit_text (suc (suc (suc (suc (suc (suc (suc (suc zero)))))))) small = refl
digit_text (suc (suc (suc (suc (suc (suc (suc (suc (suc zero))))))))) small = refl
digit_text (suc (suc (suc (suc (suc (suc (suc (suc (suc (suc zero)))))))))) small = refl
digit_text (suc (suc (suc (suc (suc (suc (suc (suc (suc (suc (suc zero))))))))))) small = refl
digit_text (suc (suc (suc (suc (suc (suc (suc (suc (suc (suc (suc (suc zero)))))))))))) small = refl
digit_text (suc (suc (suc (suc (suc (suc (suc (suc (suc (suc (suc (suc (suc zero))))))))))))) small = refl
digit_text (suc (suc (suc (suc (suc (suc (suc (suc (suc (suc (suc (suc (suc (suc zero)))))))))))))) small = refl
digit_text (suc (suc (suc (suc (suc (suc (suc (suc (suc (suc (suc (suc (suc (suc (suc zero))))))))))))))) small = refl
digit_text (suc (suc (suc (suc (suc (suc (suc (suc (suc (suc (suc (suc (suc (suc (suc (suc v)))))))))))))))) small = absurd (omega arith)

pub chosen : (b : Bool) (x v : ℕ) (others : Option ℕ) → cond b (Some x) others ≡ Some v → ((b ≡ true) × (x ≡ v)) ⊎ (others ≡ Some v)
chosen true x v others e = let same : x ≡ v = cc in inl (refl, same)
chosen false x v others e = inr e

pub between : (low c high : ℕ) → (nat_le low c && nat_le c high) ≡ true → (low ≤ c) × (c ≤ high)
between low c high e = let least : low ≤ c = grind (arith, nat_tests) in let most : c ≤ high = grind (arith, nat_tests) in (least, most)

digit_of : (c v : ℕ) → hex_digit_value c ≡ Some v → (v < 16) × (to_ascii_lowercase c ≡ cond (nat_lt v 10) (48 + v) (87 + v))
digit_of c v e =
    elim (chosen (nat_le 65 c && nat_le c 70) (c - 55) v _ e) [
      | inl upper ↦ let range = between 65 c 70 upper.0 in let is = upper.1 in (omega arith, grind (arith, nat_tests))
      | inr others ↦ elim (chosen (nat_le 97 c && nat_le c 102) (c - 87) v _ others) [
        | inl lower ↦ let range = between 97 c 102 lower.0 in let is = lower.1 in (omega arith, grind (arith, nat_tests))
        | inr rest ↦ elim (chosen (nat_le 48 c && nat_le c 57) (c - 48) v _ rest) [
          | inl decimal ↦ let range = between 48 c 57 decimal.0 in let is = decimal.1 in (omega arith, grind (arith, nat_tests))
          | inr none ↦ absurd (let never : None ≡ Some v = none in cc)
        ]
      ]
    ]

-- a digit with a value is that digit
pub digit_spelled : (c v : ℕ) → hex_digit_value c ≡ Some v → (v < 16) × (to_ascii_lowercase c ≡ slice_index lower_digits v)
digit_spelled c v e = let is = digit_of c v e in (is.0, is.1 ∙ sym (digit_text v is.0))

-- a digit has its value
pub digit_read : (c d : ℕ) → d < 16 → to_ascii_lowercase c ≡ slice_index lower_digits d → hex_digit_value c ≡ Some d
digit_read c d small is = same_value c ∙ ap hex_digit_value is ∙ IsDigits-lower_digits d small

-- the value of six digits, the highest first
abbrev six : (a b c d e f : ℕ) → ℕ
six a b c d e f = 16 * (16 * (16 * (16 * (16 * (16 * 0 + a) + b) + c) + d) + e) + f

two_equal : (a b x y : ℕ) → a ≡ x → b ≡ y → (a ∷ b ∷ []) ≡ (x ∷ y ∷ [])
two_equal a b x y p q = cc

-- the steps that six digits take
stepped : (u v w x y z : Option ℕ) (n : ℕ) → (u >>= λ a. v >>= λ b. w >>= λ c. x >>= λ d. y >>= λ e. z >>= λ f. Some (six a b c d e f)) ≡ Some n
    → (a : ℕ) × (b : ℕ) × (c : ℕ) × (d : ℕ) × (e : ℕ) × (f : ℕ) × (u ≡ Some a) × (v ≡ Some b) × (w ≡ Some c) × (x ≡ Some d) × (y ≡ Some e) × (z ≡ Some f) × (six a b c d e f ≡ n)
stepped None v w x y z n is = cc
stepped (Some a) None w x y z n is = cc
stepped (Some a) (Some b) None x y z n is = cc
stepped (Some a) (Some b) (Some c) None y z n is = cc
stepped (Some a) (Some b) (Some c) (Some d) None z n is = cc
stepped (Some a) (Some b) (Some c) (Some d) (Some e) None n is = cc
stepped (Some a) (Some b) (Some c) (Some d) (Some e) (Some f) n is = let same : six a b c d e f ≡ n = cc in (a, b, c, d, e, f, refl, refl, refl, refl, refl, refl, same)

six_equal : (a b c d e f a' b' c' d' e' f' : ℕ) → a ≡ a' → b ≡ b' → c ≡ c' → d ≡ d' → e ≡ e' → f ≡ f' → (a ∷ b ∷ c ∷ d ∷ e ∷ f ∷ []) ≡ (a' ∷ b' ∷ c' ∷ d' ∷ e' ∷ f' ∷ [])
six_equal a b c d e f a' b' c' d' e' f' p q r s t u = cc

-- six digits that give a number are that number's
pub word_spelled : (a b c d e f n : ℕ) → six_hex_digits_value (a ∷ b ∷ c ∷ d ∷ e ∷ f ∷ []) ≡ Some n → (n < 2 ^ 24) × (str_to_ascii_lowercase (a ∷ b ∷ c ∷ d ∷ e ∷ f ∷ []) ≡ hex_digits_of_word n)
word_spelled a b c d e f n is =
    let (u, v, w, x, y, z, ua, vb, wc, xd, ye, zf, whole) = stepped (hex_digit_value a) (hex_digit_value b) (hex_digit_value c) (hex_digit_value d) (hex_digit_value e) (hex_digit_value f) n is in
    let (u_small, a_is) = digit_spelled a u ua in
    let (v_small, b_is) = digit_spelled b v vb in
    let (w_small, c_is) = digit_spelled c w wc in
    let (x_small, d_is) = digit_spelled d x xd in
    let (y_small, e_is) = digit_spelled e y ye in
    let (z_small, f_is) = digit_spelled f z zf in
    let first : u ≡ n / 1048576 % 16 = omega arith in
    let second : v ≡ n / 65536 % 16 = omega arith in
    let third : w ≡ n / 4096 % 16 = omega arith in
    let fourth : x ≡ n / 256 % 16 = omega arith in
    let fifth : y ≡ n / 16 % 16 = omega arith in
    let sixth : z ≡ n / 1 % 16 = omega arith in (
      omega arith,
      six_equal _ _ _ _ _ _ _ _ _ _ _ _
          (a_is ∙ ap (slice_index lower_digits) first)
          (b_is ∙ ap (slice_index lower_digits) second)
          (c_is ∙ ap (slice_index lower_digits) third)
          (d_is ∙ ap (slice_index lower_digits) fourth)
          (e_is ∙ ap (slice_index lower_digits) fifth)
          (f_is ∙ ap (slice_index lower_digits) sixth),
    )

-- the digits of a number give it back
pub word_read : (text : List ℕ) (n : ℕ) → n < 2 ^ 24 → str_to_ascii_lowercase text ≡ hex_digits_of_word n → six_hex_digits_value text ≡ Some n
word_read [] n small is = cc
word_read (a ∷ []) n small is = cc
word_read (a ∷ b ∷ []) n small is = cc
word_read (a ∷ b ∷ c ∷ []) n small is = cc
word_read (a ∷ b ∷ c ∷ d ∷ []) n small is = cc
word_read (a ∷ b ∷ c ∷ d ∷ e ∷ []) n small is = cc
word_read (a ∷ b ∷ c ∷ d ∷ e ∷ f ∷ []) n small is =
    let first : to_ascii_lowercase a ≡ hex_digit_at_place n 5 = cc in
    let second : to_ascii_lowercase b ≡ hex_digit_at_place n 4 = cc in
    let third : to_ascii_lowercase c ≡ hex_digit_at_place n 3 = cc in
    let fourth : to_ascii_lowercase d ≡ hex_digit_at_place n 2 = cc in
    let fifth : to_ascii_lowercase e ≡ hex_digit_at_place n 1 = cc in
    let sixth : to_ascii_lowercase f ≡ hex_digit_at_place n 0 = cc in
    let whole : six (n / 1048576 % 16) (n / 65536 % 16) (n / 4096 % 16) (n / 256 % 16) (n / 16 % 16) (n / 1 % 16) ≡ n = omega arith in
    rw (
      digit_read a _ (omega arith) first,
      digit_read b _ (omega arith) second,
      digit_read c _ (omega arith) third,
      digit_read d _ (omega arith) fourth,
      digit_read e _ (omega arith) fifth,
      digit_read f _ (omega arith) sixth,
    ) (ap (λ (k : ℕ). Some k) whole)
word_read (a ∷ b ∷ c ∷ d ∷ e ∷ f ∷ g ∷ text) n small is = cc

pair_stepped : (u v : Option ℕ) (n : ℕ) → (u >>= λ a. v >>= λ b. Some (a * 16 + b)) ≡ Some n → (a : ℕ) × (b : ℕ) × (u ≡ Some a) × (v ≡ Some b) × (a * 16 + b ≡ n)
pair_stepped None v n is = cc
pair_stepped (Some a) None n is = cc
pair_stepped (Some a) (Some b) n is = let same : a * 16 + b ≡ n = cc in (a, b, refl, refl, same)

-- two digits that give a number are that number's
pub cell_spelled : (a b n : ℕ) → hex_byte_value (a ∷ b ∷ []) ≡ Some n → (n < 256) × (str_to_ascii_lowercase (a ∷ b ∷ []) ≡ two_hex_digits_text n)
unfolding hex_byte_value
cell_spelled a b n is =
    let (u, v, ua, vb, whole) = pair_stepped (hex_digit_value a) (hex_digit_value b) n is in
    let (u_small, a_is) = digit_spelled a u ua in
    let (v_small, b_is) = digit_spelled b v vb in
    let first : u ≡ n / 16 % 16 = omega arith in
    let second : v ≡ n / 1 % 16 = omega arith in
    (omega arith, two_equal _ _ _ _ (a_is ∙ ap (slice_index lower_digits) first) (b_is ∙ ap (slice_index lower_digits) second))

-- the digits of a number give it back
pub cell_read : (a b n : ℕ) → n < 256 → to_ascii_lowercase a ≡ hex_digit_at_place n 1 → to_ascii_lowercase b ≡ hex_digit_at_place n 0 → hex_byte_value (a ∷ b ∷ []) ≡ Some n
unfolding hex_byte_value
cell_read a b n small first second =
    let whole : n / 16 % 16 * 16 + n / 1 % 16 ≡ n = omega arith in
    rw (digit_read a _ (omega arith) first, digit_read b _ (omega arith) second) (ap (λ (k : ℕ). Some k) whole)

decimal_of : (c v : ℕ) → decimal_digit c ≡ Some v → (v < 10) × (c ≡ 48 + v)
decimal_of c v e =
    elim (chosen (nat_le 48 c && nat_le c 57) (c - 48) v _ e) [
      | inl decimal ↦ let range = between 48 c 57 decimal.0 in let is = decimal.1 in (omega arith, omega arith)
      | inr none ↦ absurd (let never : None ≡ Some v = none in cc)
    ]

pub decimal_read : (v : ℕ) → v < 10 → decimal_digit (48 + v) ≡ Some v
decimal_read v small = grind (arith, nat_tests)

triple_stepped : (u v w : Option ℕ) (n : ℕ) → (u >>= λ a. v >>= λ b. w >>= λ c. Some (100 * a + 10 * b + c)) ≡ Some n
    → (a : ℕ) × (b : ℕ) × (c : ℕ) × (u ≡ Some a) × (v ≡ Some b) × (w ≡ Some c) × (100 * a + 10 * b + c ≡ n)
triple_stepped None v w n is = cc
triple_stepped (Some a) None w n is = cc
triple_stepped (Some a) (Some b) None n is = cc
triple_stepped (Some a) (Some b) (Some c) n is = let same : 100 * a + 10 * b + c ≡ n = cc in (a, b, c, refl, refl, refl, same)

three_equal : (a b c x y z : ℕ) → a ≡ x → b ≡ y → c ≡ z → (a ∷ b ∷ c ∷ []) ≡ (x ∷ y ∷ z ∷ [])
three_equal a b c x y z p q r = cc

-- three digits that give a number are that number's
pub node_spelled : (text : List ℕ) (n : ℕ) → parse_decimal_name text ≡ Some n → (n < 1000) × (text ≡ three_decimal_digits n)
unfolding parse_decimal_name
node_spelled [] n is = cc
node_spelled (x ∷ []) n is = cc
node_spelled (x ∷ y ∷ []) n is = cc
node_spelled (x ∷ y ∷ z ∷ []) n is =
    let (a, b, c, xa, yb, zc, whole) = triple_stepped (decimal_digit x) (decimal_digit y) (decimal_digit z) n is in
    let (a_small, x_is) = decimal_of x a xa in
    let (b_small, y_is) = decimal_of y b yb in
    let (c_small, z_is) = decimal_of z c zc in
    (omega arith, three_equal _ _ _ _ _ _ (omega arith) (omega arith) (omega arith))
node_spelled (x ∷ y ∷ z ∷ w ∷ text) n is = cc

-- the digits of a number give it back
pub node_read : (n : ℕ) → n < 1000 → parse_decimal_name (three_decimal_digits n) ≡ Some n
unfolding parse_decimal_name
node_read n small =
    let whole : 100 * (n / 100) + 10 * (n / 10 % 10) + n % 10 ≡ n = omega arith in
    rw (decimal_read (n / 100) (omega arith), decimal_read (n / 10 % 10) (omega arith), decimal_read (n % 10) (omega arith)) (ap (λ (k : ℕ). Some k) whole)
