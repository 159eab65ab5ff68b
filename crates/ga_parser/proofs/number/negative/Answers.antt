use Rattle.std.proofs.Common.{◌∙◌}
use Rattle.ga_parser.specs.Vocabulary.{unsigned_number}
use Rattle.ga_parser.proofs.Numbers.{read_below}
use Rattle.ga_parser.proofs.number.negative.Goals as goal

pub returns-in-Some : goal.returns-in-Some
returns-in-Some c = c.negative_number_in_range.ensures ∙ read_below (unsigned_number c.args.text.now) _ c.in-Some.ensures

pub returns-in-None : goal.returns-in-None
returns-in-None c = read_below (unsigned_number c.args.text.now) _ c.in-None.ensures
