-- What code that reads expectations says of the words so far.
use Rattle.std.specs.Prelude.{ℕ, nat_lt, ◌∷◌, List, [], if◌then◌else◌}
use Rattle.ga_parser.specs.declared.expectations.NamedGroup.{NamedGroup}
use Rattle.ga_parser.specs.declared.scan.Token.{Token}
use Rattle.ga_parser.specs.Constants.{ConstantAndLabelNames, resolved_word_text}
use Rattle.ga_parser.specs.Expectations.{NodeGroup}
use Rattle.ga_parser.specs.Saying.{PlacedToken}
use Rattle.ga_parser.specs.inner.Grouping.{node_naming_of_parser}

abbrev pub node_group_of_parser : NamedGroup → NodeGroup
node_group_of_parser group = record { naming = node_naming_of_parser group.naming; nodes = group.nodes.items }

-- the words from a line on
unfoldable pub words_from : ℕ → List PlacedToken → List PlacedToken
words_from line [] = []
words_from line (one ∷ rest) = if nat_lt one.said.line line then words_from line rest else one ∷ rest

-- a word after a blank, a constant as its number
abbrev pub space_and_resolved_word : ConstantAndLabelNames → Token → List ℕ
space_and_resolved_word known token = 32 ∷ resolved_word_text known token.text.now
