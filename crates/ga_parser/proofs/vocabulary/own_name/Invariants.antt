use Rattle.std.proofs.Common.{◌≡◌, drop}
use Rattle.ga_parser.specs.Vocabulary.{find_in_table, opcodes_by_name}
use Rattle.ga_parser.proofs.vocabulary.own_name.Given as goal

abbrev pub invariant-loop-code : goal.invariant-loop-code
invariant-loop-code l = find_in_table (drop l.code opcodes_by_name) l.text ≡ find_in_table opcodes_by_name l.text
