use Rattle.std.proofs.Common.{◌≡◌, drop}
use Rattle.ga_parser.specs.Recovery.{recover_words_from, recovery_of_words}
use Rattle.ga_parser.specs.inner.Recovering.{recovery_of_reading}
use Rattle.ga_parser.specs.Saying.{token_contents}
use Rattle.ga_parser.proofs.recovery.read_left.Given as goal

abbrev pub invariant-loop-i : goal.invariant-loop-i
invariant-loop-i l = recover_words_from (recovery_of_reading l.reading) (token_contents (drop l.i l.tokens)) ≡ recovery_of_words l.fn.line (token_contents l.tokens)
