use Rattle.std.proofs.Common.{◌≡◌, drop}
use Rattle.std.specs.Prelude.{map}
use Rattle.ga_parser.specs.Vocabulary.{find_in_table}
use Rattle.ga_parser.specs.inner.Hinting.{row_of}
use Rattle.ga_parser.proofs.hint.said_here.Given as goal

abbrev pub invariant-rows : goal.invariant-rows
invariant-rows l = find_in_table (map row_of (drop l.row-index l.rows)) l.word ≡ find_in_table (map row_of l.rows) l.word
