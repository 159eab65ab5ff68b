use Rattle.std.proofs.Common.{◌≡◌, drop}
use Rattle.ga_parser.specs.Constants.{resolve_words_from, initial_resolution}
use Rattle.ga_parser.specs.inner.Placing.{placed_all}
use Rattle.ga_parser.specs.inner.Resolving.{resolution_of_parser}
use Rattle.ga_parser.proofs.constants.resolve_constants.Given as goal

abbrev pub invariant-loop-i : goal.invariant-loop-i
invariant-loop-i l = resolve_words_from (resolution_of_parser l.all) (placed_all (drop l.i l.words)) ≡ resolve_words_from initial_resolution (placed_all l.words)
