use Rattle.std.proofs.Common.{◌≡◌, Bool, true, false, sym, refl}
use Rattle.std.specs.Str.{is_utf8}
use Rattle.std.proofs.lemmas.Str.{is_utf8-from_IsUtf8, IsUtf8-from_is_utf8}
use Rattle.ga_json.proofs.optional_fields.is_text.Goals as goal

pub returns-in-Ok : goal.returns-in-Ok
returns-in-Ok c = sym (is_utf8-from_IsUtf8 c.args.bytes.now c.in-Ok.ensures.cases.1)

unless_true : (b : Bool) → (b ≡ true → ⊥) → false ≡ b
unless_true true never = absurd (never refl)
unless_true false never = refl

pub returns-in-Err : goal.returns-in-Err
returns-in-Err c = unless_true (is_utf8 c.args.bytes.now) (λ it. c.in-Err.ensures.cases.0 (IsUtf8-from_is_utf8 c.args.bytes.now it))
