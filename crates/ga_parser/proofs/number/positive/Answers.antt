use Rattle.std.proofs.Common.{◌∙◌}
use Rattle.ga_parser.specs.Vocabulary.{unsigned_number}
use Rattle.ga_parser.proofs.Numbers.{read_size}
use Rattle.ga_parser.proofs.number.positive.Goals as goal

pub returns-in-Some : goal.returns-in-Some
returns-in-Some c = c.number_in_word_range.ensures ∙ read_size (unsigned_number c.args.text.now) _ c.in-Some.ensures

pub returns-in-None : goal.returns-in-None
returns-in-None c = read_size (unsigned_number c.args.text.now) _ c.in-None.ensures
