-- The text that is written of a JSON value: without white space, and with the shortest escapes (this project's own, by RFC 8259).
use Rattle.std.specs.Prelude.{ℕ, zero, suc, ℤ, pos, negsuc, ◌+◌, ◌/◌, ◌%◌, Bool, true, false, if◌then◌else◌, ◌==◌, nat_le, nat_lt, [], ◌∷◌, ◌++◌, flat_map, codes}
use Rattle.std.specs.Str.{IsUtf8}
use Rattle.ga_text.specs.Lines.{Text}
use Rattle.ga_text.specs.Digits.{two_hex_digits_text}
use Rattle.ga_json.specs.Values.{JsonValue, null, boolean, number, string, array, object, JsonItems, no_items, item, JsonMembers, no_members, member}

-- a control character: by its letter, or by its four digits
abbrev pub control_character_text : ℕ → Text
control_character_text b =
    if b == 8 then codes "\\b"
    else if b == 9 then codes "\\t"
    else if b == 10 then codes "\\n"
    else if b == 12 then codes "\\f"
    else if b == 13 then codes "\\r"
    else codes "\\u00" ++ two_hex_digits_text b

-- a byte of a string
abbrev pub escaped_byte_text : ℕ → Text
escaped_byte_text b =
    if b == 34 then 92 ∷ 34 ∷ []
    else if b == 92 then 92 ∷ 92 ∷ []
    else if nat_le 32 b then b ∷ []
    else control_character_text b

abbrev pub escaped_text : Text → Text
escaped_text bytes = flat_map escaped_byte_text bytes

abbrev pub quoted_text : Text → Text
quoted_text bytes = 34 ∷ (escaped_text bytes ++ 34 ∷ [])

-- a comma, where something is before
abbrev pub optional_comma : Bool → Text
optional_comma later = if later then 44 ∷ [] else []

-- The decimal digits of a number of any size, without a leading zero, by at most this number of divisions.
unfoldable pub digits_by_division : ℕ → ℕ → Text
digits_by_division zero n = []
digits_by_division (suc most) n = if nat_lt n 10 then (48 + n) ∷ [] else digits_by_division most (n / 10) ++ (48 + n % 10) ∷ []

abbrev pub natural_text : ℕ → Text
natural_text n = digits_by_division (n + 1) n

abbrev pub integer_text : ℤ → Text
integer_text (pos n) = natural_text n
integer_text (negsuc n) = 45 ∷ natural_text (suc n)

abbrev mutual
  pub compact_json_text : JsonValue → Text
  compact_json_text null = codes "null"
  compact_json_text (boolean b) = if b then codes "true" else codes "false"
  compact_json_text (number z) = integer_text z
  compact_json_text (string bytes) = quoted_text bytes
  compact_json_text (array items) = 91 ∷ (array_items_text false items ++ 93 ∷ [])
  compact_json_text (object members) = 123 ∷ (object_members_text false members ++ 125 ∷ [])

  pub array_items_text : Bool → JsonItems → Text
  array_items_text later no_items = []
  array_items_text later (item value items) = optional_comma later ++ (compact_json_text value ++ array_items_text true items)

  pub object_members_text : Bool → JsonMembers → Text
  object_members_text later no_members = []
  object_members_text later (member name value members) = optional_comma later ++ (quoted_text name ++ 58 ∷ (compact_json_text value ++ object_members_text true members))

-- a line of JSON Lines: a value and a line feed
abbrev pub json_line : JsonValue → Text
json_line value = compact_json_text value ++ codes "\n"

-- the texts are UTF-8
abbrev mutual
  pub IsWritableValue : JsonValue → Type 0
  IsWritableValue null = Unit {0}
  IsWritableValue (boolean b) = Unit {0}
  IsWritableValue (number z) = Unit {0}
  IsWritableValue (string bytes) = IsUtf8 bytes
  IsWritableValue (array items) = AreWritableItems items
  IsWritableValue (object members) = AreWritableMembers members

  pub AreWritableItems : JsonItems → Type 0
  AreWritableItems no_items = Unit {0}
  AreWritableItems (item value items) = IsWritableValue value × AreWritableItems items

  pub AreWritableMembers : JsonMembers → Type 0
  AreWritableMembers no_members = Unit {0}
  AreWritableMembers (member name value members) = IsUtf8 name × IsWritableValue value × AreWritableMembers members
