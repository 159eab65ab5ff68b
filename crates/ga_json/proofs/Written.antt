-- The text that is written of a value is JSON (RFC 8259), and one line.
use Rattle.std.proofs.Common.{◌≡◌, ℕ, suc, ◌+◌, ◌/◌, ◌%◌, ◌^◌, ◌<◌, ◌≤◌, pos, negsuc, List, [], ◌∷◌, ◌++◌, Bool, true, false, codes, ap, sym, ◌∙◌, refl, subst, ⊎_elim, inl, inr, arith}
use Rattle.std.specs.Prelude.{map, ◌==◌, ◌&&◌, nat_le, nat_lt, slice_index}
use Rattle.std.specs.List.{All, AllByRecursion}
use Rattle.std.specs.Str.{IsUtf8}
use lib.Utf8.{scalar, scalars, encode, encodes, low_scalar}
use Rattle.std.proofs.lemmas.List.{append-nil}
use Rattle.std.proofs.lemmas.List.Elements.{All-from_recursion}
use Rattle.std.proofs.lemmas.Grind.{flat_map-append}
use Rattle.std.proofs.lemmas.Bool.{cond_both, and_parts, and_from, leb-true, ltb-true, agree_below_at, cases_lt}
use Rattle.std.proofs.lemmas.Str.{IsUtf8-append, IsUtf8-nil, encode_ascii}
use Rattle.hex.specs.Hex.{lower_digits}
use Rattle.ga_word.specs.Word.{hex_digit_at_place}
use Rattle.ga_text.specs.Lines.{Text}
use Rattle.ga_text.specs.Digits.{two_hex_digits_text}
use Rattle.ga_json.specs.Values.{JsonValue, null, boolean, number, string, array, object, JsonItems, no_items, item, JsonMembers, no_members, member}
use Rattle.ga_json.specs.Grammar.{IsJsonStructuralCharacter, IsJsonValue, IsArrayItems, IsMoreArrayItems, IsObjectMembers, IsMoreObjectMembers, IsJsonText}
use Rattle.ga_json.specs.Compact.{control_character_text, escaped_byte_text, escaped_text, quoted_text, optional_comma, natural_text, compact_json_text, array_items_text, object_members_text, json_line, IsWritableValue, AreWritableItems, AreWritableMembers}
use Rattle.ga_json.specs.Names.{is_field_name_byte, are_field_name_bytes}
use Rattle.ga_json.specs.FieldValues.{field_value_json}
use Rattle.ga_json.specs.Fields.{named_field_value, members_with_named_values}
use Rattle.ga_json.specs.declared.field.Field.{Field}
use Rattle.ga_json.proofs.Digits.{by_digits, int_is}
use Rattle.ga_json.proofs.Texts.{escape_plain, name_byte}
use Rattle.ga_json.proofs.Characters.{string_is}

-- ---- the text is one of the value

pub mark_is : (mark : ℕ) → IsJsonStructuralCharacter mark (mark ∷ [])
mark_is mark = ([], [], tt, tt, refl)

mutual
  value_is : (value : JsonValue) → IsWritableValue value → IsJsonValue (compact_json_text value) value
  value_is null h = refl
  value_is (boolean b) h = refl
  value_is (number (pos n)) h = inl (n, int_is n, refl)
  value_is (number (negsuc n)) h = inr (natural_text (suc n), suc n, refl, int_is (suc n), refl)
  value_is (string bytes) h = string_is bytes
  value_is (array items) h = (91 ∷ [], array_items_text false items, 93 ∷ [], mark_is 91, items_are items h, mark_is 93, refl)
  value_is (object members) h = (123 ∷ [], object_members_text false members, 125 ∷ [], mark_is 123, members_are members h, mark_is 125, refl)

  items_are : (items : JsonItems) → AreWritableItems items → IsArrayItems (array_items_text false items) items
  items_are no_items h = refl
  items_are (item value items) h = (compact_json_text value, array_items_text true items, value_is value h.0, more_items_are items h.1, refl)

  more_items_are : (items : JsonItems) → AreWritableItems items → IsMoreArrayItems (array_items_text true items) items
  more_items_are no_items h = refl
  more_items_are (item value items) h = (44 ∷ [], compact_json_text value, array_items_text true items, mark_is 44, value_is value h.0, more_items_are items h.1, refl)

  members_are : (members : JsonMembers) → AreWritableMembers members → IsObjectMembers (object_members_text false members) members
  members_are no_members h = refl
  members_are (member name value members) h =
      (quoted_text name, 58 ∷ [], compact_json_text value, object_members_text true members, string_is name, mark_is 58, value_is value h.1, more_members_are members h.2, refl)

  more_members_are : (members : JsonMembers) → AreWritableMembers members → IsMoreObjectMembers (object_members_text true members) members
  more_members_are no_members h = refl
  more_members_are (member name value members) h =
      (44 ∷ [], quoted_text name, 58 ∷ [], compact_json_text value, object_members_text true members, mark_is 44, string_is name, mark_is 58, value_is value h.1, more_members_are members h.2, refl)

-- ---- UTF-8 without a control character

abbrev pub IsPlain : Text → Type 0
IsPlain text = IsUtf8 text × AllByRecursion (λ b. 32 ≤ b) text

pub all_append : (xs ys : Text) → AllByRecursion (λ b. 32 ≤ b) xs → AllByRecursion (λ b. 32 ≤ b) ys → AllByRecursion (λ b. 32 ≤ b) (xs ++ ys)
all_append [] ys h k = k
all_append (x ∷ xs) ys h k = (h.0, all_append xs ys h.1 k)

plain_append : (xs ys : Text) → IsPlain xs → IsPlain ys → IsPlain (xs ++ ys)
plain_append xs ys h k = (IsUtf8-append xs ys h.0 k.0, all_append xs ys h.1 k.1)

plain_nil : IsPlain []
plain_nil = (IsUtf8-nil, tt)

plain_byte : (b : ℕ) → 32 ≤ b → b < 128 → IsPlain (b ∷ [])
plain_byte b low high =
    ((b ∷ [], (and_from (scalar b) true (low_scalar b (omega arith)) refl, append-nil (encode b) ∙ encode_ascii b high)), (low, tt))

unfoldable pub is_plain : Text → Bool
is_plain [] = true
is_plain (b ∷ bs) = (nat_le 32 b && nat_lt b 128) && is_plain bs

pub plain_text : (text : Text) → is_plain text ≡ true → IsPlain text
unfolding is_plain
plain_text [] h = plain_nil
plain_text (b ∷ bs) h =
    let parts = and_parts (nat_le 32 b && nat_lt b 128) (is_plain bs) h in
    let sides = and_parts (nat_le 32 b) (nat_lt b 128) parts.0 in
    plain_append (b ∷ []) bs (plain_byte b (leb-true 32 b sides.0) (ltb-true b 128 sides.1)) (plain_text bs parts.1)

-- ---- numbers

natural_plain : (n : ℕ) → IsPlain (natural_text n)
natural_plain n =
    by_digits (λ m ds. IsPlain ds) (λ m small. plain_byte (48 + m) (omega arith) (omega (arith, small)))
    (λ m ds large h. plain_append ds ((48 + m % 10) ∷ []) h (plain_byte (48 + m % 10) (omega arith) (omega arith))) (n + 1) n (omega arith)

-- ---- strings

hex_plain : (b place : ℕ) → IsPlain (hex_digit_at_place b place ∷ [])
hex_plain b place =
    let small : b / 16 ^ place % 16 < 16 = omega arith in
    let is = agree_below_at (λ d. nat_le 32 (slice_index lower_digits d) && nat_lt (slice_index lower_digits d) 128) (λ d. true) 16 (b / 16 ^ place % 16) refl small in
    let sides = and_parts (nat_le 32 (hex_digit_at_place b place)) (nat_lt (hex_digit_at_place b place) 128) is in
    plain_byte (hex_digit_at_place b place) (leb-true 32 (hex_digit_at_place b place) sides.0) (ltb-true (hex_digit_at_place b place) 128 sides.1)

control_plain : (b : ℕ) → IsPlain (control_character_text b)
unfolding is_plain
control_plain b =
    cond_both (b == 8) _ _ IsPlain (λ _. plain_text (codes "\\b") refl)
    (λ _. cond_both (b == 9) _ _ IsPlain (λ _. plain_text (codes "\\t") refl)
    (λ _. cond_both (b == 10) _ _ IsPlain (λ _. plain_text (codes "\\n") refl)
    (λ _. cond_both (b == 12) _ _ IsPlain (λ _. plain_text (codes "\\f") refl)
    (λ _. cond_both (b == 13) _ _ IsPlain (λ _. plain_text (codes "\\r") refl)
    (λ _. plain_append (codes "\\u00") (two_hex_digits_text b) (plain_text (codes "\\u00") refl) (plain_append (hex_digit_at_place b 1 ∷ []) (hex_digit_at_place b 0 ∷ []) (hex_plain b 1) (hex_plain b 0)))))))

escape_is_plain : (b : ℕ) → b < 128 → IsPlain (escaped_byte_text b)
unfolding is_plain
escape_is_plain b high =
    cond_both (b == 34) _ _ IsPlain (λ _. plain_text (92 ∷ 34 ∷ []) refl)
    (λ _. cond_both (b == 92) _ _ IsPlain (λ _. plain_text (92 ∷ 92 ∷ []) refl)
    (λ _. cond_both (nat_le 32 b) _ _ IsPlain (λ e. plain_byte b (leb-true 32 b e) high) (λ _. control_plain b)))

-- the bytes of a character above 127
abbrev AreHigh : Text → Type 0
AreHigh text = AllByRecursion (λ b. 128 ≤ b) text

high_bytes : (c : ℕ) → 128 ≤ c → AreHigh (encode c)
unfolding encode
high_bytes c high =
    cond_both (nat_lt c 128) _ _ AreHigh (λ e. absurd (let low = ltb-true c 128 e in omega (arith, low)))
    (λ _. cond_both (nat_lt c 2048) _ _ AreHigh (λ _. (omega arith, (omega arith, tt)))
    (λ _. cond_both (nat_lt c 65536) _ _ AreHigh (λ _. (omega arith, (omega arith, (omega arith, tt)))) (λ _. (omega arith, (omega arith, (omega arith, (omega arith, tt)))))))

high_escaped : (text : Text) → AreHigh text → escaped_text text ≡ text
high_escaped [] h = refl
high_escaped (b ∷ bs) h =
    ap (λ (z : Text). z ++ escaped_text bs) (escape_plain b (omega (arith, h.0)) (λ e. omega (arith, h.0, e)) (λ e. omega (arith, h.0, e)))
    ∙ ap (λ (z : Text). b ∷ z) (high_escaped bs h.1)

high_plain : (text : Text) → AreHigh text → AllByRecursion (λ b. 32 ≤ b) text
high_plain [] h = tt
high_plain (b ∷ bs) h = (omega (arith, h.0), high_plain bs h.1)

char_plain : (c : ℕ) → scalar c ≡ true → IsPlain (escaped_text (encode c))
char_plain c is =
    ⊎_elim
    (λ low. let P : Text → Type 0 = λ z. IsPlain (escaped_text z) in
    subst P (sym (encode_ascii c low)) (plain_append (escaped_byte_text c) [] (escape_is_plain c low) plain_nil))
    (λ high. let bytes = high_bytes c high in
    subst IsPlain (sym (high_escaped (encode c) bytes)) ((c ∷ [], (and_from (scalar c) true is refl, append-nil (encode c))), high_plain (encode c) bytes))
    (cases_lt c 128)

chars_plain : (cs : List ℕ) → scalars cs ≡ true → IsPlain (escaped_text (encodes cs))
chars_plain [] h = plain_nil
chars_plain (c ∷ cs) h =
    let parts = and_parts (scalar c) (scalars cs) h in
    subst IsPlain (sym (flat_map-append escaped_byte_text (encode c) (encodes cs)))
    (plain_append (escaped_text (encode c)) (escaped_text (encodes cs)) (char_plain c parts.0) (chars_plain cs parts.1))

escaped_plain : (bytes : Text) → IsUtf8 bytes → IsPlain (escaped_text bytes)
escaped_plain bytes h = let P : Text → Type 0 = λ z. IsPlain (escaped_text z) in subst P h.1.1 (chars_plain h.0 h.1.0)

quoted_plain : (bytes : Text) → IsUtf8 bytes → IsPlain (quoted_text bytes)
unfolding is_plain
quoted_plain bytes h = plain_append (34 ∷ []) (escaped_text bytes ++ 34 ∷ []) (plain_text (34 ∷ []) refl) (plain_append (escaped_text bytes) (34 ∷ []) (escaped_plain bytes h) (plain_text (34 ∷ []) refl))

-- ---- values

comma_plain : (later : Bool) → IsPlain (optional_comma later)
unfolding is_plain
comma_plain true = plain_text (44 ∷ []) refl
comma_plain false = plain_nil

between_plain : (first last : ℕ) (text : Text) → is_plain (first ∷ []) ≡ true → is_plain (last ∷ []) ≡ true → IsPlain text → IsPlain (first ∷ (text ++ last ∷ []))
between_plain first last text e f h = plain_append (first ∷ []) (text ++ last ∷ []) (plain_text (first ∷ []) e) (plain_append text (last ∷ []) h (plain_text (last ∷ []) f))

mutual
  unfolding is_plain

  value_plain : (value : JsonValue) → IsWritableValue value → IsPlain (compact_json_text value)
  value_plain null h = plain_text (codes "null") refl
  value_plain (boolean true) h = plain_text (codes "true") refl
  value_plain (boolean false) h = plain_text (codes "false") refl
  value_plain (number (pos n)) h = natural_plain n
  value_plain (number (negsuc n)) h = plain_append (45 ∷ []) (natural_text (suc n)) (plain_text (45 ∷ []) refl) (natural_plain (suc n))
  value_plain (string bytes) h = quoted_plain bytes h
  value_plain (array items) h = between_plain 91 93 (array_items_text false items) refl refl (items_plain false items h)
  value_plain (object members) h = between_plain 123 125 (object_members_text false members) refl refl (members_plain false members h)

  items_plain : (later : Bool) (items : JsonItems) → AreWritableItems items → IsPlain (array_items_text later items)
  items_plain later no_items h = plain_nil
  items_plain later (item value items) h =
      plain_append (optional_comma later) (compact_json_text value ++ array_items_text true items) (comma_plain later)
      (plain_append (compact_json_text value) (array_items_text true items) (value_plain value h.0) (items_plain true items h.1))

  members_plain : (later : Bool) (members : JsonMembers) → AreWritableMembers members → IsPlain (object_members_text later members)
  members_plain later no_members h = plain_nil
  members_plain later (member name value members) h =
      plain_append (optional_comma later) (quoted_text name ++ 58 ∷ (compact_json_text value ++ object_members_text true members)) (comma_plain later)
      (plain_append (quoted_text name) (58 ∷ (compact_json_text value ++ object_members_text true members)) (quoted_plain name h.0)
      (plain_append (58 ∷ []) (compact_json_text value ++ object_members_text true members) (plain_text (58 ∷ []) refl)
      (plain_append (compact_json_text value) (object_members_text true members) (value_plain value h.1) (members_plain true members h.2))))

pub no_control : (value : JsonValue) → IsWritableValue value → All (λ b. 32 ≤ b) (compact_json_text value)
no_control value h = All-from_recursion (λ b. 32 ≤ b) (compact_json_text value) (value_plain value h).1

feed_utf8 : IsUtf8 (10 ∷ [])
feed_utf8 = (10 ∷ [], (refl, append-nil (encode 10) ∙ encode_ascii 10 (omega arith)))

pub line_is_json : (value : JsonValue) → IsWritableValue value → IsJsonText (json_line value) value
line_is_json value h = record {
  before = [];
  inner = compact_json_text value;
  after = codes "\n";
  parts = refl;
  space_before = tt;
  space_after = (refl, tt);
  is_value = value_is value h;
  is_utf8 = IsUtf8-append (compact_json_text value) (codes "\n") (value_plain value h).0 feed_utf8;
}

-- ---- rows and answers

name_utf8 : (name : Text) → are_field_name_bytes name ≡ true → IsUtf8 name
name_utf8 [] h = IsUtf8-nil
name_utf8 (b ∷ bs) h =
    let parts = and_parts (is_field_name_byte b) (are_field_name_bytes bs) h in
    let byte = name_byte b parts.0 in
    IsUtf8-append (b ∷ []) bs (plain_byte b byte.0 byte.1).0 (name_utf8 bs parts.1)

pub fields_writable : (fields : List Field) (more : JsonMembers) → AllByRecursion (λ field. IsWritableValue (field_value_json field.value)) fields → AreWritableMembers more
    → AreWritableMembers (members_with_named_values (map named_field_value fields) more)
fields_writable [] more h k = k
fields_writable (field ∷ fields) more h k =
    (name_utf8 field.name.now (and_parts (nat_le _ 24) (are_field_name_bytes field.name.now) field.named_field_value).1, h.0, fields_writable fields more h.1 k)

pub rows_name : IsUtf8 (codes "rows")
unfolding is_plain
rows_name = (plain_text (codes "rows") refl).0
