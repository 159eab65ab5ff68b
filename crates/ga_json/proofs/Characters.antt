-- The characters of a string that is written (RFC 8259, section 7).
use Rattle.std.proofs.Common.{◌≡◌, ℕ, ◌+◌, ◌*◌, ◌/◌, ◌%◌, ◌^◌, ◌<◌, List, [], ◌∷◌, ◌++◌, Bool, true, false, cond, Option, Some, None, ap, sym, ◌∙◌, refl, subst, arith}
use Rattle.std.specs.Prelude.{◌==◌, ◌||◌, nat_le, flat_map}
use Rattle.std.specs.Char.{encode_utf8}
use Rattle.std.proofs.lemmas.Bool.{cond_both, eqb-true, leb-false, lt-leb, or_from, and_left}
use Rattle.std.proofs.lemmas.Bool.Decides.{nat_tests}
use Rattle.std.proofs.lemmas.Str.{encode_ascii}
use Rattle.hex.specs.Hex.{hex_digit_value}
use Rattle.hex.proofs.HexLemmas.{IsDigits-lower_digits}
use Rattle.ga_word.specs.Word.{hex_digit_at_place}
use Rattle.ga_ports.specs.Steps.{◌>>=◌}
use Rattle.ga_text.specs.Lines.{Text}
use Rattle.ga_text.specs.Digits.{two_hex_digits_text}
use Rattle.ga_json.specs.Grammar.{JsonChar, unescaped, letter, unicode_escape, json_char_text, decoded_json_char, decoded_json_chars, code_point_bytes, hex_escape_code, is_unescaped_byte, is_high_surrogate, is_low_surrogate, IsJsonString}
use Rattle.ga_json.specs.Compact.{control_character_text, escaped_byte_text, escaped_text, quoted_text}

control_char : ℕ → JsonChar
control_char b =
    cond (b == 8) (letter 98) (cond (b == 9) (letter 116) (cond (b == 10) (letter 110) (cond (b == 12) (letter 102) (cond (b == 13) (letter 114) (unicode_escape (48 ∷ 48 ∷ two_hex_digits_text b))))))

char_of : ℕ → JsonChar
char_of b = cond (b == 34) (letter 34) (cond (b == 92) (letter 92) (cond (nat_le 32 b) (unescaped b) (control_char b)))

-- ---- its text

cond_text : (b : Bool) (x y : JsonChar) (s t : Text) → json_char_text x ≡ s → json_char_text y ≡ t → json_char_text (cond b x y) ≡ cond b s t
cond_text true x y s t e f = e
cond_text false x y s t e f = f

control_is : (b : ℕ) → json_char_text (control_char b) ≡ control_character_text b
unfolding control_char
control_is b =
    cond_text (b == 8) _ _ _ _ refl (cond_text (b == 9) _ _ _ _ refl (cond_text (b == 10) _ _ _ _ refl (cond_text (b == 12) _ _ _ _ refl (cond_text (b == 13) _ _ _ _ refl refl))))

char_is : (b : ℕ) → json_char_text (char_of b) ≡ escaped_byte_text b
unfolding char_of
char_is b = cond_text (b == 34) _ _ _ _ refl (cond_text (b == 92) _ _ _ _ refl (cond_text (nat_le 32 b) _ _ _ _ refl (control_is b)))

-- ---- the byte that it denotes

abbrev Denotes : ℕ → JsonChar → Type 0
Denotes b char = decoded_json_char char ≡ Some (b ∷ [])

-- a letter, where the byte is this one
letter_denotes : (b code : ℕ) (char : JsonChar) → b == code ≡ true → Denotes code char → Denotes b char
letter_denotes b code char is h = let P : ℕ → Type 0 = λ n. Denotes n char in subst P (sym (eqb-true b code is)) h

-- the four digits of a control character
two_more : (o p : Option ℕ) (x y : ℕ) → o ≡ Some x → p ≡ Some y
    → (o >>= λ third. p >>= λ last. Some (((0 * 16 + 0) * 16 + third) * 16 + last)) ≡ Some (((0 * 16 + 0) * 16 + x) * 16 + y)
two_more o p x y e f =
    ap (λ (z : Option ℕ). z >>= λ third. p >>= λ last. Some (((0 * 16 + 0) * 16 + third) * 16 + last)) e
    ∙ ap (λ (z : Option ℕ). z >>= λ last. Some (((0 * 16 + 0) * 16 + x) * 16 + last)) f

digits_denote : (b : ℕ) → b < 32 → hex_escape_code (48 ∷ 48 ∷ two_hex_digits_text b) ≡ Some b
digits_denote b low =
    let high_small : b / 16 ^ 1 % 16 < 16 = omega arith in
    let low_small : b / 16 ^ 0 % 16 < 16 = omega arith in
    two_more (hex_digit_value (hex_digit_at_place b 1)) (hex_digit_value (hex_digit_at_place b 0)) _ _ (IsDigits-lower_digits (b / 16 ^ 1 % 16) high_small) (IsDigits-lower_digits (b / 16 ^ 0 % 16) low_small)
    ∙ ap (λ (n : ℕ). Some n) (let e : ((0 * 16 + 0) * 16 + b / 16 ^ 1 % 16) * 16 + b / 16 ^ 0 % 16 ≡ b = omega arith in e)

no_half : (b : ℕ) → b < 32 → is_high_surrogate b || is_low_surrogate b ≡ false
no_half b low = or_from (is_high_surrogate b) (is_low_surrogate b) (and_left (nat_le 55296 b) _ (lt-leb 55296 b (omega arith))) (and_left (nat_le 56320 b) _ (lt-leb 56320 b (omega arith)))

code_denotes : (b : ℕ) → b < 32 → code_point_bytes b ≡ Some (b ∷ [])
code_denotes b low =
    ap (λ (t : Bool). cond t None (Some (encode_utf8 b))) (no_half b low) ∙ ap (λ (t : Text). Some t) (encode_ascii b (omega arith))

coded_denotes : (b : ℕ) → b < 32 → Denotes b (unicode_escape (48 ∷ 48 ∷ two_hex_digits_text b))
coded_denotes b low = ap (λ (o : Option ℕ). o >>= λ code. code_point_bytes code) (digits_denote b low) ∙ code_denotes b low

control_denotes : (b : ℕ) → b < 32 → Denotes b (control_char b)
unfolding control_char
control_denotes b low =
    cond_both (b == 8) _ _ (Denotes b) (λ e. letter_denotes b 8 (letter 98) e refl)
    (λ _. cond_both (b == 9) _ _ (Denotes b) (λ e. letter_denotes b 9 (letter 116) e refl)
    (λ _. cond_both (b == 10) _ _ (Denotes b) (λ e. letter_denotes b 10 (letter 110) e refl)
    (λ _. cond_both (b == 12) _ _ (Denotes b) (λ e. letter_denotes b 12 (letter 102) e refl)
    (λ _. cond_both (b == 13) _ _ (Denotes b) (λ e. letter_denotes b 13 (letter 114) e refl) (λ _. coded_denotes b low)))))

plain_denotes : (b : ℕ) → b == 34 ≡ false → b == 92 ≡ false → nat_le 32 b ≡ true → Denotes b (unescaped b)
plain_denotes b e f g = ap (λ (t : Bool). cond t (Some (b ∷ [])) None) is where
  is : is_unescaped_byte b ≡ true
  is = grind (arith, nat_tests)

char_denotes : (b : ℕ) → Denotes b (char_of b)
unfolding char_of
char_denotes b =
    cond_both (b == 34) _ _ (Denotes b) (λ e. letter_denotes b 34 (letter 34) e refl)
    (λ no_quote. cond_both (b == 92) _ _ (Denotes b) (λ e. letter_denotes b 92 (letter 92) e refl)
    (λ no_solidus. cond_both (nat_le 32 b) _ _ (Denotes b) (λ e. plain_denotes b no_quote no_solidus e) (λ e. control_denotes b (leb-false 32 b e))))

-- ---- all characters

chars_of : Text → List JsonChar
chars_of [] = []
chars_of (b ∷ bs) = char_of b ∷ chars_of bs

texts_are : (bytes : Text) → flat_map json_char_text (chars_of bytes) ≡ escaped_text bytes
unfolding chars_of
texts_are [] = refl
texts_are (b ∷ bs) = ap (λ (z : Text). z ++ flat_map json_char_text (chars_of bs)) (char_is b) ∙ ap (λ (z : Text). escaped_byte_text b ++ z) (texts_are bs)

all_denote : (bytes : Text) → decoded_json_chars (chars_of bytes) ≡ Some bytes
unfolding chars_of
all_denote [] = refl
all_denote (b ∷ bs) =
    ap (λ (o : Option Text). o >>= λ first. decoded_json_chars (chars_of bs) >>= λ more. Some (first ++ more)) (char_denotes b)
    ∙ ap (λ (o : Option Text). o >>= λ more. Some ((b ∷ []) ++ more)) (all_denote bs)

pub string_is : (bytes : Text) → IsJsonString (quoted_text bytes) bytes
string_is bytes = (chars_of bytes, ap (λ (z : Text). 34 ∷ (z ++ 34 ∷ [])) (sym (texts_are bytes)), all_denote bytes)
