use Rattle.std.proofs.Common.{◌≡◌, ℕ, ◌<◌, get_or, [], false}
use Rattle.ga_parser.specs.Plain.{is_node_keyword}
use Rattle.ga_parser.specs.inner.Drafting.{texts_of_tokens}
use Rattle.ga_source.proofs.program.body_length.Given as goal

abbrev pub invariant-loop-i : goal.invariant-loop-i
invariant-loop-i l = (k : ℕ) → k < l.i → is_node_keyword (get_or (texts_of_tokens l.tokens) k []) ≡ false
