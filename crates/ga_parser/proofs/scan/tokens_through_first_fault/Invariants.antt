use Rattle.std.proofs.Common.{◌≡◌, ◌++◌, take, drop}
use Rattle.ga_parser.specs.Saying.{token_contents, tokens_through_first_fault}
use Rattle.ga_parser.proofs.scan.tokens_through_first_fault.Given as goal

abbrev pub invariant-loop-i : goal.invariant-loop-i
invariant-loop-i l = token_contents (take l.i l.words) ++ tokens_through_first_fault (token_contents (drop l.i l.words)) ≡ tokens_through_first_fault (token_contents l.words)
