-- The values of fields as JSON values (this project's own).
use Rattle.std.specs.Prelude.{ℕ, pos, ◌++◌, ◌&&◌, if◌then◌else◌, Option, Some, None}
use Rattle.std.specs.Str.{is_utf8}
use Rattle.ga_text.specs.Lines.{Text as Bytes}
use Rattle.ga_text.specs.Digits.{name_of_node}
use Rattle.ga_json.specs.Values.{JsonValue, null, boolean, number, string}
use Rattle.ga_json.specs.declared.field.FieldValue.{FieldValue}
use Rattle.ga_json.specs.declared.field.FieldValue.TheVariants.{Number, Node, Text, Joined, Flag, Absent}

abbrev pub field_value_json : FieldValue → JsonValue
field_value_json (Number n) = number (pos n)
field_value_json (Node node) = string (name_of_node node)
field_value_json (Text text) = string text.now
field_value_json (Joined front rest) = string (front.now ++ rest.now)
field_value_json (Flag b) = boolean b
field_value_json Absent = null

-- a text; null if it isn't UTF-8
abbrev pub text_json : Bytes → JsonValue
text_json text = if is_utf8 text then string text else null

-- a text in two parts; null if one of them isn't UTF-8
abbrev pub joined_text_json : Bytes → Bytes → JsonValue
joined_text_json front rest = if is_utf8 front && is_utf8 rest then string (front ++ rest) else null

-- a number, if there is one
abbrev pub optional_number_json : Option ℕ → JsonValue
optional_number_json None = null
optional_number_json (Some n) = number (pos n)
