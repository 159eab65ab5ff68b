use Rattle.std.proofs.Common.{◌≡◌, ◌≤◌, length}
use Rattle.ga_image.specs.Spelling.{parse_row_words}
use Rattle.ga_image.proofs.Short.{words_after}
use Rattle.ga_image.proofs.line.read_words.Given as goal

abbrev pub invariant-loop-rest : goal.invariant-loop-rest
invariant-loop-rest l = record {
  same : words_after l.words.items l.rest ≡ parse_row_words l.fn.text;
  fits : length l.words.items ≤ 16;
}

abbrev pub decreases-loop-rest : goal.decreases-loop-rest
decreases-loop-rest l = length l.rest
