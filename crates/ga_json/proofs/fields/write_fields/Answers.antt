use Rattle.std.proofs.Common.{◌+◌, ◌++◌, drop, false, true, sym, ap, ◌∙◌, arith}
use Rattle.std.proofs.lemmas.List.{drop_more, drop_all}
use Rattle.ga_json.specs.inner.{json_field_text, json_fields_text}
use Rattle.ga_json.proofs.Says.{begins, goes_on, ends, cuts}
use Rattle.ga_json.proofs.fields.write_fields.Goals as goal

pub fields-init : goal.fields-init
fields-init g c = begins g.W.Write.contents c.args.writer.now (json_fields_text false c.args.fields.now)

pub returns-in_err-write_field : goal.returns-in_err-write_field
returns-in_err-write_field g c =
    let fields = c.args.fields.now in
    let i = c.fields.field-index in
    let field = c.field-item.result in
    let more = json_fields_text true (drop (i + 1) fields) in
    cuts c.from_residual.result c.write_field.new.writer (json_field_text c.fields.later field) more c.from_residual.ensures.0 c.fields.invariant
    (ap (json_fields_text c.fields.later) (drop_more fields i field (omega arith)) ∙ ap (λ z. json_field_text c.fields.later z ++ more) (sym c.field-item.is))
    c.in_err-write_field.ensures

pub fields-preserved : goal.fields-preserved
fields-preserved g c =
    let fields = c.args.fields.now in
    let i = c.fields.field-index in
    let field = c.field-item.result in
    let more = json_fields_text true (drop (i + 1) fields) in
    goes_on c.write_field.new.writer (json_field_text c.fields.later field) more c.fields.invariant
    (ap (json_fields_text c.fields.later) (drop_more fields i field (omega arith)) ∙ ap (λ z. json_field_text c.fields.later z ++ more) (sym c.field-item.is))
    c.in_ok-write_field.ensures

pub returns : goal.returns
returns g c = ends (ap (json_fields_text c.fields.later) (drop_all c.fields.field-index c.args.fields.now (omega arith))) c.fields.invariant
