-- Expectations: the lines of a source that begin with `expect` (docs/REFERENCE.md, "Source"; this project's own).
use Rattle.std.specs.Prelude.{ℕ, nat_lt, Bool, true, false, ◌&&◌, if◌then◌else◌, List, [], ◌∷◌, ◌++◌, map, flat_map, codes, bytes_eq, option_map}
use Rattle.std.specs.List.{list_all}
use Rattle.std.specs.Option.{option_to_list}
use Rattle.ga_grid.specs.declared.node_id.NodeId.{NodeId}
use Rattle.ga_grid.specs.Grid.{node_id}
use Rattle.ga_parser.specs.declared.expectations.ExpectationLine.{ExpectationLine}
use Rattle.ga_parser.specs.Constants.{ConstantAndLabelNames, resolved_word_text, ConstantResolution, resolution_of_words}
use Rattle.ga_parser.specs.Groups.{NodeNamingProgress, begins_node, is_further_node_name, node_naming_after_word}
use Rattle.ga_parser.specs.Groups.NodeNamingProgress.{Nothing, Node, Name}
use Rattle.ga_parser.specs.Plain.{named_node_number}
use Rattle.ga_parser.specs.Saying.{source_lines, stripped_source_line, TokenContent, PlacedToken, is_word_token, tokens_of_line_with_expectation, begins_expectation, next_line_number, scanned_tokens}

-- ---- the nodes whose program a line is in

-- the node of a name, if there is one
abbrev pub nodes_of_name : List ℕ → List NodeId
nodes_of_name text = option_to_list (option_map node_id (named_node_number text))

-- what comes before a word, and the nodes that the words after the last `node` name
pub record NodeGroup : Type 0 where
  pub naming : NodeNamingProgress
  pub nodes : List NodeId

-- no `node` yet
abbrev pub no_node_group : NodeGroup
no_node_group = record { naming = Nothing; nodes = [] }

-- the word names a node: it comes after `node`, or is a further name
abbrev pub is_node_name : NodeNamingProgress → PlacedToken → Bool
is_node_name Nothing one = false
is_node_name (Node node) one = true
is_node_name (Name node) one = is_further_node_name node one

-- the nodes with one word more
abbrev pub nodes_after_word : NodeGroup → PlacedToken → List NodeId
nodes_after_word group one =
    if begins_node one then []
    else if is_node_name group.naming one then group.nodes ++ nodes_of_name one.said.text
    else group.nodes

abbrev pub node_group_after_word : NodeGroup → PlacedToken → NodeGroup
node_group_after_word group one = record { naming = node_naming_after_word group.naming one; nodes = nodes_after_word group one }

-- after the words before a line
unfoldable pub node_group_before_line : ℕ → NodeGroup → List PlacedToken → NodeGroup
node_group_before_line line group [] = group
node_group_before_line line group (one ∷ rest) = if nat_lt one.said.line line then node_group_before_line line (node_group_after_word group one) rest else group

-- the nodes that the last `node` before a line names
abbrev pub nodes_before_line : ℕ → List PlacedToken → List NodeId
nodes_before_line line words = (node_group_before_line line no_node_group words).nodes

-- ---- what an expectation says

-- texts with a blank between two
abbrev pub joined_with_spaces : List (List ℕ) → List ℕ
joined_with_spaces [] = []
joined_with_spaces (text ∷ texts) = text ++ flat_map (λ next. 32 ∷ next) texts

-- the texts of words, with constants as their numbers
abbrev pub resolved_word_texts : ConstantAndLabelNames → List TokenContent → List (List ℕ)
resolved_word_texts known words = map (λ said. resolved_word_text known said.text) words

-- the words after `expect`
abbrev pub expectation_text : ConstantAndLabelNames → List TokenContent → List ℕ
expectation_text known [] = []
expectation_text known (expect ∷ words) = joined_with_spaces (resolved_word_texts known words)

-- an expectation: its line, the nodes of its program, and its text
pub record ExpectationContent : Type 0 where
  pub line : ℕ
  pub nodes : List NodeId
  pub text : List ℕ

abbrev pub expectation_content : ExpectationLine → ExpectationContent
expectation_content one = record { line = one.line; nodes = one.nodes.items; text = one.text.items }

-- ---- the expectations of a source

-- the line has no fault, and is an expectation
abbrev pub is_expectation_line : List TokenContent → Bool
is_expectation_line said = list_all is_word_token said && begins_expectation said

-- the expectation of a line with these tokens, if it is one, in the program of these nodes
abbrev pub expectation_of_tokens : ConstantAndLabelNames → List NodeId → ℕ → List TokenContent → List ExpectationContent
expectation_of_tokens known nodes line said = if is_expectation_line said then record { line = line; nodes = nodes; text = expectation_text known said } ∷ [] else []

-- those of the lines up to one that is `end`, numbered from here on
unfoldable pub expectations_of_lines : ConstantAndLabelNames → List PlacedToken → ℕ → List (List ℕ) → List ExpectationContent
expectations_of_lines known words line [] = []
expectations_of_lines known words line (text ∷ texts) =
    if bytes_eq (stripped_source_line line text) (codes "end") then []
    else expectation_of_tokens known (nodes_before_line line words) line (tokens_of_line_with_expectation line (stripped_source_line line text)) ++ expectations_of_lines known words (next_line_number line) texts

abbrev pub expectations_of_resolution : ConstantResolution → List (List ℕ) → List ExpectationContent
expectations_of_resolution resolved lines = expectations_of_lines resolved.known resolved.words 1 lines

-- The expectations of a source, with the constants and the words of all of it.
unfoldable pub expectation_lines : List ℕ → List ExpectationContent
expectation_lines source = expectations_of_resolution (resolution_of_words (scanned_tokens source)) (source_lines source)
