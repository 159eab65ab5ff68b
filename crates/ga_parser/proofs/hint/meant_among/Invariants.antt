use Rattle.std.proofs.Common.{◌≡◌, drop}
use Rattle.std.specs.Prelude.{map}
use Rattle.ga_parser.specs.Hints.{first_probable_name}
use Rattle.ga_parser.specs.inner.Hinting.{name_of_known_word}
use Rattle.ga_parser.proofs.hint.meant_among.Given as goal

abbrev pub invariant-names : goal.invariant-names
invariant-names l = first_probable_name l.word (map name_of_known_word (drop l.known-index l.names)) ≡ first_probable_name l.word (map name_of_known_word l.names)
