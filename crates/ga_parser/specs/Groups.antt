-- Several nodes with one program: the words with a `node` before each name (docs/REFERENCE.md, "Source"; this project's own).
use Rattle.std.specs.Prelude.{◌==◌, Bool, ◌&&◌, if◌then◌else◌, List, [], ◌∷◌, ◌++◌, is_some}
use Rattle.ga_grid.specs.Grid.{parse_decimal_name}
use Rattle.ga_parser.specs.Plain.{is_node_keyword}
use Rattle.ga_parser.specs.Saying.{PlacedToken, is_word_token}

abbrev pub begins_node : PlacedToken → Bool
begins_node one = is_node_keyword one.said.text

-- a word after a name is a name too: three digits on the line of `node`
abbrev pub is_further_node_name : PlacedToken → PlacedToken → Bool
is_further_node_name node one = is_word_token one.said && one.said.line == node.said.line && is_some (parse_decimal_name one.said.text)

-- what comes before a word: neither `node` nor a name, this `node`, or a name on the line of this `node`
pub data NodeNamingProgress : Type 0 where
  Nothing : NodeNamingProgress
  Node : PlacedToken → NodeNamingProgress
  Name : PlacedToken → NodeNamingProgress

abbrev pub node_naming_after_non_keyword : NodeNamingProgress → PlacedToken → NodeNamingProgress
node_naming_after_non_keyword Nothing one = Nothing
node_naming_after_non_keyword (Node node) one = Name node
node_naming_after_non_keyword (Name node) one = if is_further_node_name node one then Name node else Nothing

abbrev pub node_naming_after_word : NodeNamingProgress → PlacedToken → NodeNamingProgress
node_naming_after_word begun one = if begins_node one then Node one else node_naming_after_non_keyword begun one

-- the words after further names
unfoldable pub words_after_names : PlacedToken → List PlacedToken → List PlacedToken
words_after_names node [] = []
words_after_names node (one ∷ rest) = if is_further_node_name node one then words_after_names node rest else one ∷ rest

-- the words before the next `node`
unfoldable pub words_before_next_node : List PlacedToken → List PlacedToken
words_before_next_node [] = []
words_before_next_node (one ∷ rest) = if begins_node one then [] else one ∷ words_before_next_node rest

-- before a further name come `node` and, if the words are to be whole, the program
abbrev pub words_inserted_before_name : Bool → NodeNamingProgress → PlacedToken → List PlacedToken → List PlacedToken
words_inserted_before_name is_whole Nothing one rest = []
words_inserted_before_name is_whole (Node node) one rest = []
words_inserted_before_name is_whole (Name node) one rest = if is_further_node_name node one then (if is_whole then words_before_next_node (words_after_names node rest) else []) ++ node ∷ [] else []

-- If the words are to be whole, the program of several nodes comes after each name, otherwise after the last alone.
unfoldable pub expand_node_groups : Bool → NodeNamingProgress → List PlacedToken → List PlacedToken
expand_node_groups is_whole begun [] = []
expand_node_groups is_whole begun (one ∷ rest) = words_inserted_before_name is_whole begun one rest ++ one ∷ expand_node_groups is_whole (node_naming_after_word begun one) rest
