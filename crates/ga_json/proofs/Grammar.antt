-- What the grammar takes and refuses (RFC 8259).
use Rattle.std.proofs.Common.{◌≡◌, ℕ, ◌^◌, ◌<◌, ◌≤◌, pos, List, [], ◌∷◌, ◌++◌, Bool, true, false, cond, codes, length, Option, Some, None, ap, sym, ◌∙◌, refl, subst, decimal, inl, arith}
use Rattle.std.specs.Prelude.{◌==◌, ◌&&◌, nat_le, flat_map}
use Rattle.std.specs.List.{All, AllByRecursion}
use Rattle.std.specs.Str.Parse.{AllDigits, digits_value}
use lib.Utf8.{encode}
use Rattle.std.proofs.lemmas.List.Elements.{All-from_recursion}
use Rattle.std.proofs.lemmas.Bool.{cond_both, eqb-true}
use Rattle.std.proofs.lemmas.Bool.Decides.{nat_tests}
use Rattle.std.proofs.lemmas.Str.Parse.{IsNumeralModel}
use Rattle.std.proofs.lemmas.Fmt.{decimal-digits_value}
use Rattle.hex.specs.Hex.{hex_digit_value}
use Rattle.ga_ports.specs.Steps.{◌>>=◌}
use Rattle.ga_text.specs.Lines.{Text}
use Rattle.ga_json.specs.Values.{JsonValue, array, item, no_items, number, string, boolean}
use Rattle.ga_json.specs.Grammar.{JsonChar, unescaped, letter, unicode_escape, surrogate_pair, json_char_text, decoded_json_char, decoded_json_chars, escape_letter_code, hex_escape_code, is_unescaped_byte, IsJsonStructuralCharacter, IsJsonString, IsJsonInt, IsJsonValue, IsMoreArrayItems, IsJsonText}
use Rattle.ga_json.proofs.Characters.{string_is}
use Rattle.ga_json.proofs.Written.{all_append, is_plain, plain_text, mark_is}

-- ---- numbers

numerals : IsNumeralModel (AllDigits 10) (digits_value 10)
numerals = record { to = λ ds d. d; from = λ ds d. d; same = λ ds d. refl }

pub int_is_decimal : (text : Text) (n : ℕ) → IsJsonInt text n → n < 2 ^ 64 → text ≡ decimal n
int_is_decimal text n h fits =
    let small : digits_value 10 text < 2 ^ 64 = omega (arith, h.1) in
    sym (decimal-digits_value numerals text h.0.1 h.0.0 (λ e. ap length (h.2 e)) small) ∙ ap decimal h.1

-- ---- no control character in a string

abbrev AreVisible : Text → Type 0
AreVisible text = AllByRecursion (λ b. 32 ≤ b) text

test_holds : {A : Type 0} (test : Bool) (value other : A) → cond test (Some value) None ≡ Some other → test ≡ true
test_holds true value other e = refl
test_holds false value other e = absurd (cc)

first_some : {A B : Type 0} (o : Option A) (f : A → Option B) (b : B) → (o >>= f) ≡ Some b → (a : A) × (o ≡ Some a) × (f a ≡ Some b)
first_some None f b e = absurd (cc)
first_some (Some a) f b e = (a, refl, e)

unescaped_visible : (b : ℕ) → is_unescaped_byte b ≡ true → 32 ≤ b
unescaped_visible b is = grind (arith, nat_tests)

letter_visible : (b code : ℕ) → escape_letter_code b ≡ Some code → 32 ≤ b
letter_visible b code =
    let P : Option ℕ → Type 0 = λ o. o ≡ Some code → 32 ≤ b in
    cond_both (b == 34) _ _ P (λ e h. let f = eqb-true b 34 e in omega (arith, f))
    (λ _. cond_both (b == 92) _ _ P (λ e h. let f = eqb-true b 92 e in omega (arith, f))
    (λ _. cond_both (b == 47) _ _ P (λ e h. let f = eqb-true b 47 e in omega (arith, f))
    (λ _. cond_both (b == 98) _ _ P (λ e h. let f = eqb-true b 98 e in omega (arith, f))
    (λ _. cond_both (b == 102) _ _ P (λ e h. let f = eqb-true b 102 e in omega (arith, f))
    (λ _. cond_both (b == 110) _ _ P (λ e h. let f = eqb-true b 110 e in omega (arith, f))
    (λ _. cond_both (b == 114) _ _ P (λ e h. let f = eqb-true b 114 e in omega (arith, f))
    (λ _. cond_both (b == 116) _ _ P (λ e h. let f = eqb-true b 116 e in omega (arith, f)) (λ _ h. absurd (cc)))))))))

digit_visible : (c v : ℕ) → hex_digit_value c ≡ Some v → 32 ≤ c
digit_visible c v =
    let P : Option ℕ → Type 0 = λ o. o ≡ Some v → 32 ≤ c in
    cond_both (nat_le 65 c && nat_le c 70) _ _ P (λ e h. grind (arith, nat_tests))
    (λ _. cond_both (nat_le 97 c && nat_le c 102) _ _ P (λ e h. grind (arith, nat_tests))
    (λ _. cond_both (nat_le 48 c && nat_le c 57) _ _ P (λ e h. grind (arith, nat_tests)) (λ _ h. absurd (cc))))

digits_visible : (digits : Text) (code : ℕ) → hex_escape_code digits ≡ Some code → AreVisible digits
digits_visible (a ∷ b ∷ c ∷ d ∷ []) code e =
    let (v, va, e) = first_some (hex_digit_value a) _ code e in
    let (w, wb, e) = first_some (hex_digit_value b) _ code e in
    let (x, xc, e) = first_some (hex_digit_value c) _ code e in
    let (y, yd, e) = first_some (hex_digit_value d) _ code e in
    (digit_visible a v va, (digit_visible b w wb, (digit_visible c x xc, (digit_visible d y yd, tt))))
digits_visible [] code e = absurd (cc)
digits_visible (a ∷ []) code e = absurd (cc)
digits_visible (a ∷ b ∷ []) code e = absurd (cc)
digits_visible (a ∷ b ∷ c ∷ []) code e = absurd (cc)
digits_visible (a ∷ b ∷ c ∷ d ∷ more ∷ rest) code e = absurd (cc)

char_visible : (char : JsonChar) (bytes : Text) → decoded_json_char char ≡ Some bytes → AreVisible (json_char_text char)
char_visible (unescaped b) bytes e = (unescaped_visible b (test_holds (is_unescaped_byte b) _ bytes e), tt)
char_visible (letter b) bytes e = let (code, is, _) = first_some (escape_letter_code b) _ bytes e in (omega arith, (letter_visible b code is, tt))
char_visible (unicode_escape digits) bytes e =
    let (code, is, _) = first_some (hex_escape_code digits) _ bytes e in (omega arith, (omega arith, digits_visible digits code is))
char_visible (surrogate_pair high low) bytes e =
    let (first, is, rest) = first_some (hex_escape_code high) _ bytes e in
    let (second, too, _) = first_some (hex_escape_code low) _ bytes rest in
    (omega arith, (omega arith, all_append high (92 ∷ 117 ∷ low) (digits_visible high first is) (omega arith, (omega arith, digits_visible low second too))))

chars_visible : (chars : List JsonChar) (bytes : Text) → decoded_json_chars chars ≡ Some bytes → AreVisible (flat_map json_char_text chars)
chars_visible [] bytes e = tt
chars_visible (char ∷ chars) bytes e =
    let (first, is, rest) = first_some (decoded_json_char char) _ bytes e in
    let (more, are, _) = first_some (decoded_json_chars chars) _ bytes rest in
    all_append (json_char_text char) (flat_map json_char_text chars) (char_visible char first is) (chars_visible chars more are)

pub string_has_no_control : (text bytes : Text) → IsJsonString text bytes → All (λ b. 32 ≤ b) text
string_has_no_control text bytes h =
    let visible : AreVisible (34 ∷ (flat_map json_char_text h.0 ++ 34 ∷ [])) =
    (omega arith, all_append (flat_map json_char_text h.0) (34 ∷ []) (chars_visible h.0 bytes h.2) (omega arith, tt)) in
    All-from_recursion (λ b. 32 ≤ b) text (subst AreVisible (sym h.1) visible)

-- ---- the examples of RFC 8259

pub clef : IsJsonString (codes "\"\\uD834\\uDD1E\"") (240 ∷ 157 ∷ 132 ∷ 158 ∷ [])
unfolding encode
clef = (surrogate_pair (codes "D834") (codes "DD1E") ∷ [], refl, refl)

pub reverse_solidus : IsJsonString (codes "\"\\u005C\"") (92 ∷ [])
unfolding encode
reverse_solidus = (unicode_escape (codes "005C") ∷ [], refl, refl)

text_is : (text : Text) (value : JsonValue) → is_plain text ≡ true → text ≡ text ++ [] → IsJsonValue text value → IsJsonText text value
text_is text value plain same is = record {
  before = [];
  inner = text;
  after = [];
  parts = same;
  space_before = tt;
  space_after = tt;
  is_value = is;
  is_utf8 = (plain_text text plain).0;
}

three : (a b c n : ℕ) → AllDigits 10 (a ∷ b ∷ c ∷ []) → digits_value 10 (a ∷ b ∷ c ∷ []) ≡ n → (a ≡ 48 → ⊥) → IsJsonInt (a ∷ b ∷ c ∷ []) n
three a b c n digits is some = ((omega arith, digits), is, λ e. absurd (some e))

comma_is : IsJsonStructuralCharacter 44 (codes ", ")
comma_is = ([], codes " ", tt, (refl, tt), refl)

pub ids : IsJsonText (codes "[116, 943, 234, 38793]") (array (item (number (pos 116)) (item (number (pos 943)) (item (number (pos 234)) (item (number (pos 38793)) no_items)))))
unfolding is_plain
ids =
    let first : IsJsonInt (codes "116") 116 = three 49 49 54 116 (omega arith, (omega arith, (omega arith, tt))) refl (λ e. omega (arith, e)) in
    let second : IsJsonInt (codes "943") 943 = three 57 52 51 943 (omega arith, (omega arith, (omega arith, tt))) refl (λ e. omega (arith, e)) in
    let third : IsJsonInt (codes "234") 234 = three 50 51 52 234 (omega arith, (omega arith, (omega arith, tt))) refl (λ e. omega (arith, e)) in
    let last : IsJsonInt (codes "38793") 38793 =
    ((omega arith, (omega arith, (omega arith, (omega arith, (omega arith, (omega arith, tt)))))), refl, λ e. absurd (omega (arith, e))) in
    let end : IsMoreArrayItems (codes ", 38793") (item (number (pos 38793)) no_items) = (codes ", ", codes "38793", [], comma_is, inl (38793, last, refl), refl, refl) in
    let more : IsMoreArrayItems (codes ", 234, 38793") (item (number (pos 234)) (item (number (pos 38793)) no_items)) =
    (codes ", ", codes "234", codes ", 38793", comma_is, inl (234, third, refl), end, refl) in
    let rest : IsMoreArrayItems (codes ", 943, 234, 38793") (item (number (pos 943)) (item (number (pos 234)) (item (number (pos 38793)) no_items))) =
    (codes ", ", codes "943", codes ", 234, 38793", comma_is, inl (943, second, refl), more, refl) in
    text_is _ _ refl refl (
      codes "[",
      codes "116, 943, 234, 38793",
      codes "]",
      mark_is 91,
      (codes "116", codes ", 943, 234, 38793", inl (116, first, refl), rest, refl),
      mark_is 93,
      refl,
    )

pub hello : IsJsonText (codes "\"Hello world!\"") (string (codes "Hello world!"))
unfolding is_plain
hello = text_is _ _ refl refl (string_is (codes "Hello world!"))

pub answer : IsJsonText (codes "42") (number (pos 42))
unfolding is_plain
answer = text_is _ _ refl refl (inl (42, ((omega arith, (omega arith, (omega arith, tt))), refl, λ e. absurd (omega (arith, e))), refl))

pub truth : IsJsonText (codes "true") (boolean true)
unfolding is_plain
truth = text_is _ _ refl refl refl
