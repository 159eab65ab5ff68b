use Rattle.std.proofs.Common.{◌≡◌, ◌++◌, drop, flat_map}
use Rattle.ga_parser.specs.inner.Expecting.{space_and_resolved_word}
use Rattle.ga_parser.specs.inner.Resolving.{known_names_of_parser}
use Rattle.ga_parser.proofs.expectations.push_spaced.Given as goal

abbrev pub invariant-loop-word : goal.invariant-loop-word
invariant-loop-word l = l.text.items ++ flat_map (space_and_resolved_word (known_names_of_parser l.resolved)) (drop l.word-index l.words) ≡ l.initial.text.items ++ flat_map (space_and_resolved_word (known_names_of_parser l.resolved)) l.words
