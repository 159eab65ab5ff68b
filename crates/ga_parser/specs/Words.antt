-- The words of a source: constants are read as their numbers, and each node has a `node` of its own (docs/REFERENCE.md, "Source"; this
-- project's own).
use Rattle.std.specs.Prelude.{ℕ, true, false, List, map}
use Rattle.ga_parser.specs.Constants.{tokens_without_definitions}
use Rattle.ga_parser.specs.Groups.{expand_node_groups}
use Rattle.ga_parser.specs.Groups.NodeNamingProgress.{Nothing}
use Rattle.ga_parser.specs.Plain.{token_texts}
use Rattle.ga_parser.specs.Saying.{TokenContent, PlacedToken, scanned_tokens, tokens_through_first_fault}

-- the words, with the whole program of several nodes after each of their names
unfoldable pub placed_source_tokens : List ℕ → List PlacedToken
placed_source_tokens source = expand_node_groups true Nothing (tokens_without_definitions (scanned_tokens source))

abbrev pub source_tokens : List ℕ → List TokenContent
source_tokens source = map (λ one. one.said) (placed_source_tokens source)

abbrev pub source_columns : List ℕ → List ℕ
source_columns source = map (λ one. one.column) (placed_source_tokens source)

-- the words, with the program of several nodes after the last of their names alone
unfoldable pub source_tokens_without_copies : List ℕ → List TokenContent
source_tokens_without_copies source = map (λ one. one.said) (expand_node_groups false Nothing (tokens_without_definitions (scanned_tokens source)))

-- the words, up to the first fault of a line or of a constant
unfoldable pub source_tokens_until_fault : List ℕ → List TokenContent
source_tokens_until_fault source = tokens_through_first_fault (source_tokens source)

-- the texts of the words
abbrev pub source_word_texts : List ℕ → List (List ℕ)
source_word_texts source = token_texts (source_tokens_until_fault source)
