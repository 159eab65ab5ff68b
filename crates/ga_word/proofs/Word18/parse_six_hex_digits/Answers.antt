use Rattle.std.proofs.Common.{refl}
use Rattle.ga_word.proofs.HexText.{text_agrees, none-of_error, number-of_bytes}
use Rattle.ga_word.proofs.Word18.parse_six_hex_digits.Goals as goal

pub returns-in_default-clause-value : goal.returns-in_default-clause-value
returns-in_default-clause-value c =
    none-of_error _ _ _ _ c.in_default.field-0 c.in_default.ensures.value refl (text_agrees c.args.text.now)

pub returns-clause-value : goal.returns-clause-value
returns-clause-value c =
    rw (c.from.ensures, c.from-2.ensures, c.from-3.ensures)
    (number-of_bytes _ _ _ _ c.in-Ok.field-0 c.in-Ok.ensures.value refl (text_agrees c.args.text.now))
