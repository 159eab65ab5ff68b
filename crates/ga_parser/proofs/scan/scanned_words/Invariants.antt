use Rattle.std.proofs.Common.{◌≡◌, ◌++◌, length}
use Rattle.ga_parser.specs.Saying.{source_lines, tokens_of_lines, token_contents, columns_of_lines, token_columns}
use Rattle.ga_parser.proofs.scan.scanned_words.Given as goal

abbrev pub invariant-loop-rest : goal.invariant-loop-rest
invariant-loop-rest l = record {
  says : token_contents l.words.items ++ tokens_of_lines l.line (source_lines l.rest) ≡ tokens_of_lines 1 (source_lines l.source);
  columns : token_columns l.words.items ++ columns_of_lines l.line (source_lines l.rest) ≡ columns_of_lines 1 (source_lines l.source);
}

abbrev pub decreases-loop-rest : goal.decreases-loop-rest
decreases-loop-rest l = length l.rest
