use Rattle.ga_text.proofs.DigitLemmas.{cell_agrees, none_decoded, some_decoded}
use Rattle.ga_text.proofs.words.parse_hex_byte.Goals as goal

pub returns-in_default : goal.returns-in_default
returns-in_default c = none_decoded _ _ _ c.in_default.field-0 c.in_default.ensures.value (cell_agrees c.args.text.now)

pub returns : goal.returns
returns c = some_decoded _ _ _ c.in-Ok.field-0 c.in-Ok.ensures.value (cell_agrees c.args.text.now)
