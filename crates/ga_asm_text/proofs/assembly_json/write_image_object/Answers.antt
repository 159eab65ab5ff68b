use Rattle.std.proofs.Common.{◌≡◌, List, [], ◌∷◌, ap}
use Rattle.std.specs.Prelude.{map}
use Rattle.ga_json.specs.Compact.{json_line}
use Rattle.ga_json.specs.Fields.{NamedValue, named_field_value, json_object, row_json}
use Rattle.ga_json.specs.declared.field.Field.{Field}
use Rattle.ga_json.proofs.Says.{says_as}
use Rattle.ga_asm_text.specs.SourceJson.{image_json_fields, image_json_object}
use Rattle.ga_asm_text.proofs.assembly_json.write_image_object.Goals as goal

pub returns : goal.returns
returns g c =
    let it = c.args.image.now in
    let fields : List Field = c.text.result ∷ c.text_field.result ∷ c.number.result ∷ c.text_field-2.result ∷ [] in
    let same : map named_field_value fields ≡ image_json_fields c.args.file.now it.nodes it.image.items = cc in
    says_as g.W.Write.contents c.write_object.result c.args.writer.now c.write_object.new.writer (json_line (row_json fields)) (json_line (image_json_object c.args.file.now it.nodes it.image.items))
    (ap (λ (values : List NamedValue). json_line (json_object values)) same) c.write_object.ensures
