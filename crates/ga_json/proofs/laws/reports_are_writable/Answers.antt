use Rattle.std.proofs.lemmas.List.Elements.{recursion_from_All}
use Rattle.ga_json.specs.Values.{no_members}
use Rattle.ga_json.specs.Compact.{IsWritableValue}
use Rattle.ga_json.specs.FieldValues.{field_value_json}
use Rattle.ga_json.proofs.Written.{fields_writable, rows_name}
use Rattle.ga_json.proofs.laws.reports_are_writable.Goals as goal

pub returns-clause-rows : goal.returns-clause-rows
returns-clause-rows c fields h = fields_writable fields no_members (recursion_from_All (λ field. IsWritableValue (field_value_json field.value)) fields h) tt

pub returns-clause-reports : goal.returns-clause-reports
returns-clause-reports c head rows h are =
    fields_writable head _ (recursion_from_All (λ field. IsWritableValue (field_value_json field.value)) head h) (rows_name, are, tt)
