-- Fields, rows and answers as JSON values (this project's own).
use Rattle.std.specs.Prelude.{List, [], ◌∷◌, map, codes}
use Rattle.ga_text.specs.Lines.{Text}
use Rattle.ga_json.specs.Values.{JsonValue, array, object, JsonItems, JsonMembers, no_members, member}
use Rattle.ga_json.specs.FieldValues.{field_value_json}
use Rattle.ga_json.specs.declared.field.Field.{Field}

-- a name with its value
abbrev pub NamedValue : Type 0
NamedValue = Text × JsonValue

abbrev pub named_field_value : Field → NamedValue
named_field_value field = (field.name.now, field_value_json field.value)

-- these as members, and more after them
abbrev pub members_with_named_values : List NamedValue → JsonMembers → JsonMembers
members_with_named_values [] more = more
members_with_named_values (first ∷ rest) more = member first.0 first.1 (members_with_named_values rest more)

abbrev pub json_object : List NamedValue → JsonValue
json_object fields = object (members_with_named_values fields no_members)

-- an answer with rows: its head, and the rows as an array
abbrev pub json_report : List NamedValue → JsonItems → JsonValue
json_report head rows = object (members_with_named_values head (member (codes "rows") (array rows) no_members))

abbrev pub row_json : List Field → JsonValue
row_json fields = json_object (map named_field_value fields)

abbrev pub report_json : List Field → JsonItems → JsonValue
report_json head rows = json_report (map named_field_value head) rows
