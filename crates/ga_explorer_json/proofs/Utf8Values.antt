-- Values whose texts are UTF-8: what they are made of. The line of one is JSON.
use Rattle.std.proofs.Common.{◌≡◌, ◌<◌, ℕ, zero, suc, ◌+◌, ◌/◌, ◌%◌, List, [], ◌∷◌, ◌++◌, Bool, true, false, codes, decimal, arith}
use Rattle.std.specs.Prelude.{◌==◌, ◌&&◌, nat_lt, pos, Option, Some, None}
use Rattle.std.specs.List.{AllByRecursion}
use Rattle.std.specs.Str.{IsUtf8, IsAscii, is_utf8}
use Rattle.std.specs.Fmt.{digits, digits_onto, digit_glyph}
use Rattle.std.proofs.lemmas.Bool.{cond_both, and_parts, ltb-true}
use Rattle.std.proofs.lemmas.Str.{IsUtf8-from_ascii, IsUtf8-from_is_utf8}
use Rattle.ga_text.specs.Lines.{Text}
use Rattle.ga_text.specs.Digits.{name_of_node}
use Rattle.ga_grid.specs.declared.node_id.NodeId.{NodeId}
use Rattle.ga_explorer_text.specs.Waiting.{name_text_of_node}
use Rattle.ga_json.specs.Values.{JsonValue, null, boolean, number, string, array, object, JsonItems, no_items, item, JsonMembers, no_members, member}
use Rattle.ga_json.specs.Compact.{IsWritableValue, AreWritableItems, AreWritableMembers, json_line}
use Rattle.ga_json.specs.FieldValues.{text_json}
use Rattle.ga_json.specs.Fields.{NamedValue, members_with_named_values, json_object, json_report}
use Rattle.ga_json.proofs.Written.{line_is_json, rows_name}
use Rattle.ga_explorer_json.specs.Parts.{json_number_or_null, json_number_unless_zero}
use Rattle.ga_explorer_json.specs.Rows.{json_rows_of_items}
use Rattle.ga_explorer_json.specs.JsonLines.{IsValidJsonLine}

-- ---- ASCII

abbrev pub IsLow : Text → Type 0
IsLow text = AllByRecursion (λ b. b < 128) text

unfoldable pub is_low : Text → Bool
is_low [] = true
is_low (b ∷ text) = nat_lt b 128 && is_low text

pub low : (text : Text) → is_low text ≡ true → IsLow text
unfolding is_low
low [] h = tt
low (b ∷ text) h = let parts = and_parts (nat_lt b 128) (is_low text) h in (ltb-true b 128 parts.0, low text parts.1)

pub low_append : (text more : Text) → IsLow text → IsLow more → IsLow (text ++ more)
low_append [] more h k = k
low_append (b ∷ text) more h k = (h.0, low_append text more h.1 k)

ascii_of_low : (text : Text) → IsLow text → IsAscii text
ascii_of_low [] h i = omega arith
ascii_of_low (b ∷ text) h zero = omega (arith, h.0)
ascii_of_low (b ∷ text) h (suc i) = ascii_of_low text h.1 i

pub low_utf8 : (text : Text) → IsLow text → IsUtf8 text
low_utf8 text h = IsUtf8-from_ascii text (ascii_of_low text h)

-- a text that is written out
pub plain : (text : Text) → is_low text ≡ true → IsUtf8 text
plain text h = low_utf8 text (low text h)

glyph_low : (d : ℕ) → d < 10 → digit_glyph false d < 128
glyph_low d small = cond_both (nat_lt d 10) (48 + d) (87 + d) (λ b. b < 128) (λ _. omega (arith, small)) (λ _. omega (arith, small))

onto_low : (k n : ℕ) (text : Text) → IsLow text → IsLow (digits_onto k 10 false n text)
onto_low zero n text h = h
onto_low (suc k) n text h =
    let first = glyph_low (n % 10) (omega arith) in
    cond_both (n / 10 == 0) (digit_glyph false (n % 10) ∷ text) (digits_onto k 10 false (n / 10) (digit_glyph false (n % 10) ∷ text)) IsLow
    (λ _. (first, h)) (λ _. onto_low k (n / 10) (digit_glyph false (n % 10) ∷ text) (first, h))

pub decimal_low : (n : ℕ) → IsLow (decimal n)
unfolding digits
decimal_low n = onto_low 64 n [] tt

pub name_low : (n : ℕ) → n < 144 → IsLow (name_text_of_node n)
name_low n small = (omega (arith, small), (omega arith, (omega arith, tt)))

pub number_name : (n : ℕ) → n < 144 → IsUtf8 (name_text_of_node n)
number_name n small = low_utf8 (name_text_of_node n) (name_low n small)

pub node_name : (node : NodeId) → IsUtf8 (name_of_node node)
node_name node = number_name node.number node.in_range

-- ---- values

pub is_json_line : (value : JsonValue) (answer : Text) → answer ≡ json_line value → IsWritableValue value → IsValidJsonLine answer
is_json_line value answer e h = (value, e, line_is_json value h)

pub checked_text : (text : Text) → IsWritableValue (text_json text)
checked_text text = cond_both (is_utf8 text) (string text) null IsWritableValue (λ e. IsUtf8-from_is_utf8 text e) (λ _. tt)

pub optional_number : (n : Option ℕ) → IsWritableValue (json_number_or_null n)
optional_number None = tt
optional_number (Some n) = tt

pub number_if_any : (n : ℕ) → IsWritableValue (json_number_unless_zero n)
number_if_any n = cond_both (n == 0) null (number (pos n)) IsWritableValue (λ _. tt) (λ _. tt)

-- ---- fields, and rows

abbrev IsUtf8Field : NamedValue → Type 0
IsUtf8Field field = IsUtf8 field.0 × IsWritableValue field.1

abbrev pub AreUtf8Fields : List NamedValue → Type 0
AreUtf8Fields fields = AllByRecursion IsUtf8Field fields

unfoldable pub are_named : List NamedValue → Bool
are_named [] = true
are_named (field ∷ fields) = is_low field.0 && are_named fields

-- fields whose names are written out, with these values
pub fields : (named : List NamedValue) → are_named named ≡ true → AllByRecursion (λ field. IsWritableValue field.1) named → AreUtf8Fields named
unfolding are_named
fields [] h k = tt
fields (field ∷ named) h k =
    let parts = and_parts (is_low field.0) (are_named named) h in ((plain field.0 parts.0, k.0), fields named parts.1 k.1)

pub fields_append : (first more : List NamedValue) → AreUtf8Fields first → AreUtf8Fields more → AreUtf8Fields (first ++ more)
fields_append [] more h k = k
fields_append (field ∷ first) more h k = (h.0, fields_append first more h.1 k)

members : (named : List NamedValue) (more : JsonMembers) → AreUtf8Fields named → AreWritableMembers more → AreWritableMembers (members_with_named_values named more)
members [] more h k = k
members (field ∷ named) more h k = (h.0.0, h.0.1, members named more h.1 k)

pub json_object_of_member : (named : List NamedValue) → AreUtf8Fields named → IsWritableValue (json_object named)
json_object_of_member named h = members named no_members h tt

pub report_of : (head : List NamedValue) (rows : JsonItems) → AreUtf8Fields head → AreWritableItems rows → IsWritableValue (json_report head rows)
report_of head rows h k = members head (member (codes "rows") (array rows) no_members) h (rows_name, k, tt)

pub rows_of : {A : Type 0} (row : A → JsonValue) → ((x : A) → IsWritableValue (row x)) → (xs : List A) → AreWritableItems (json_rows_of_items row xs)
rows_of row each [] = tt
rows_of row each (x ∷ xs) = (each x, rows_of row each xs)

-- ---- objects whose names are written out

-- the members of an object
abbrev pub members_of : JsonValue → JsonMembers
members_of (object named) = named
members_of _ = no_members

abbrev pub HaveUtf8Values : JsonMembers → Type 0
HaveUtf8Values no_members = Unit {0}
HaveUtf8Values (member name value named) = IsWritableValue value × HaveUtf8Values named

unfoldable pub have_low_names : JsonMembers → Bool
have_low_names no_members = true
have_low_names (member name value named) = is_low name && have_low_names named

pub object_by : (named : JsonMembers) → have_low_names named ≡ true → HaveUtf8Values named → AreWritableMembers named
unfolding have_low_names
object_by no_members h k = tt
object_by (member name value named) h k = let parts = and_parts (is_low name) (have_low_names named) h in (plain name parts.0, k.0, object_by named parts.1 k.1)
