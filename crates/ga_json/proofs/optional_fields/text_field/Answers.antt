use Rattle.std.proofs.Common.{◌≡◌, Bool, true, false, refl, ap}
use Rattle.std.specs.Prelude.{if◌then◌else◌}
use Rattle.std.specs.Str.{is_utf8}
use Rattle.std.proofs.lemmas.Str.{is_utf8-from_IsUtf8, IsUtf8-from_is_utf8}
use Rattle.ga_text.specs.Lines.{Text}
use Rattle.ga_json.specs.Values.{null, string}
use Rattle.ga_json.specs.FieldValues.{text_json}
use Rattle.ga_json.proofs.optional_fields.text_field.Goals as goal

pub returns-in-Ok : goal.returns-in-Ok
returns-in-Ok c =
    let text : Text = c.args.text.now in
    let is : is_utf8 text ≡ true = is_utf8-from_IsUtf8 text c.in-Ok.ensures.cases.1 in
    let e : text_json text ≡ string text = ap (λ (b : Bool). if b then string text else null) is in
    cc

unless_true : (b : Bool) → (b ≡ true → ⊥) → b ≡ false
unless_true true never = absurd (never refl)
unless_true false never = refl

pub returns-in-Err : goal.returns-in-Err
returns-in-Err c =
    let text : Text = c.args.text.now in
    let is : is_utf8 text ≡ false = unless_true (is_utf8 text) (λ it. c.in-Err.ensures.cases.0 (IsUtf8-from_is_utf8 text it)) in
    let e : text_json text ≡ null = ap (λ (b : Bool). if b then string text else null) is in
    cc
