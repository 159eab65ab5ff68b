-- Fields as they are written one after another, and rows as they are taken (this project's own).
use Rattle.std.specs.Prelude.{Bool, true, if◌then◌else◌, List, [], ◌∷◌, ◌++◌, codes, Option, Some, None}
use Rattle.ga_text.specs.Lines.{Text}
use Rattle.ga_json.specs.Values.{JsonItems, no_items, item}
use Rattle.ga_json.specs.Fields.{row_json}
use Rattle.ga_json.specs.Compact.{compact_json_text, optional_comma, quoted_text}
use Rattle.ga_json.specs.FieldValues.{field_value_json}
use Rattle.ga_json.specs.declared.field.Field.{Field}

-- a field, after a comma if another is before it
abbrev pub json_field_text : Bool → Field → Text
json_field_text later field = optional_comma later ++ (quoted_text field.name.now ++ 58 ∷ compact_json_text (field_value_json field.value))

abbrev pub json_fields_text : Bool → List Field → Text
json_fields_text later [] = []
json_fields_text later (field ∷ fields) = json_field_text later field ++ json_fields_text true fields

-- what begins the array of rows, after the fields of a head
abbrev pub text_before_rows : List Field → Text
text_before_rows [] = codes "\"rows\":["
text_before_rows (field ∷ fields) = codes ",\"rows\":["

-- what begins a row
abbrev pub text_before_row : Bool → Text
text_before_row later = if later then codes ",{" else codes "{"

-- rows, of which the first is this one; without one they are none
abbrev pub rows_from_first_row : Option (List Field) → JsonItems → JsonItems
rows_from_first_row (Some row) rest = item (row_json row) rest
rows_from_first_row None rest = no_items
