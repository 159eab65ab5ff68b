-- An object that is written of fields.
use Rattle.std.proofs.Common.{◌≡◌, List, Option, Result, ap, ◌∙◌}
use Rattle.std.specs.Prelude.{map}
use Rattle.ga_text.specs.Lines.{Bytes}
use Rattle.ga_text.specs.Output.{WritesExactly}
use Rattle.ga_text.specs.declared.output.WriteError.{WriteError}
use Rattle.ga_text.specs.declared.output.Writer.{Writer}
use Rattle.ga_json.specs.Compact.{json_line}
use Rattle.ga_json.specs.Fields.{NamedValue, named_field_value, json_object, row_json}
use Rattle.ga_json.specs.declared.field.Field.{Field}
use Rattle.ga_json.proofs.Says.{says_as}

-- the fields of a list have these names and values
pub object_written : {T W : Type 0} (contents : W → Option Bytes) (result : Result T WriteError) (old new : Writer W) (fields listed : List Field) (values : List NamedValue)
    → fields ≡ listed → map named_field_value listed ≡ values → WritesExactly result (json_line (row_json fields)) contents old new
    → WritesExactly result (json_line (json_object values)) contents old new
object_written contents result old new fields listed values is named h =
    says_as contents result old new (json_line (row_json fields)) (json_line (json_object values))
    (ap (λ (list : List Field). json_line (row_json list)) is ∙ ap (λ (list : List NamedValue). json_line (json_object list)) named) h
