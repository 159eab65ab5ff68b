use Rattle.std.proofs.Common.{◌≡◌, drop}
use Rattle.ga_parser.specs.Asking.{parse_words_from, requests_of_words}
use Rattle.ga_parser.specs.inner.Drafting.{parse_state_of_builder}
use Rattle.ga_parser.specs.Saying.{token_contents}
use Rattle.ga_parser.proofs.draft.read_node.Given as goal

abbrev pub invariant-loop-i : goal.invariant-loop-i
invariant-loop-i l = parse_words_from (parse_state_of_builder l.draft) l.last (token_contents (drop l.i l.tokens)) ≡ requests_of_words l.fn.line (token_contents l.tokens)
