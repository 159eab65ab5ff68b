use Rattle.std.proofs.Common.{[], ◌∷◌, ◌++◌, refl}
use Rattle.ga_json.specs.Compact.{optional_comma, compact_json_text}
use Rattle.ga_json.specs.FieldValues.{field_value_json}
use Rattle.ga_json.specs.inner.{json_field_text}
use Rattle.ga_json.proofs.Says.{begins, keeps, goes_on, pushed, ends_with, cuts_here}
use Rattle.ga_json.proofs.Texts.{field_splits}
use Rattle.ga_json.proofs.fields.write_field.Goals as goal

pub returns-in_err-make_room : goal.returns-in_err-make_room
returns-in_err-make_room g c =
    cuts_here c.from_residual.result c.make_room.new.self c.from_residual.ensures.0
    (begins g.W.Write.contents c.args.writer.now (json_field_text c.args.later c.args.field.now)) c.in_err-make_room.ensures.said

pub returns : goal.returns
returns g c =
    let field = c.args.field.now in
    let key = optional_comma c.args.later ++ (34 ∷ (field.name.now ++ 34 ∷ 58 ∷ [])) in
    let value = compact_json_text (field_value_json field.value) in
    let start = begins g.W.Write.contents c.args.writer.now (json_field_text c.args.later field) in
    let new = record c.make_room.new.self { pending = c.push_key.new.out } in
    ends_with c.write_value.result c.write_value.new.writer
    (goes_on new key value (keeps c.make_room.new.self start c.in_ok-make_room.ensures.said) (field_splits c.args.later field.name.now value field.named_field_value)
    (pushed g.W.Write.contents c.make_room.new.self new key refl c.push_key.ensures.text))
    c.write_value.ensures
