use Rattle.std.proofs.Common.{◌++◌, List, ℕ, ap, ◌∙◌}
use Rattle.ga_json.proofs.Digits.{decimal_is_natural_text}
use Rattle.ga_json.proofs.fields.push_integer.Goals as goal

pub returns : goal.returns
returns c = c.push_number.ensures.text ∙ ap (λ (t : List ℕ). c.args.out.now.items ++ t) (decimal_is_natural_text c.args.number c.ranges.number.fits)
