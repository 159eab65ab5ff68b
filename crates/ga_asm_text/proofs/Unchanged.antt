-- Words that define no constant and name each node alone are read as they are written.
use Rattle.std.proofs.Common.{◌≡◌, ◌∙◌, ℕ, Bool, true, false, List, [], ◌∷◌, ◌++◌, map, refl, ap, ap₂, sym, inl, inr, append_assoc, append-nil}
use Rattle.std.specs.Prelude.{◌==◌, ◌&&◌, ◌||◌, not, is_some, bytes_eq, codes}
use Rattle.std.proofs.lemmas.Bool.{and_parts, cond-true, cond-false, cases_Bool}
use Rattle.ga_grid.specs.Grid.{parse_decimal_name}
use Rattle.ga_parser.specs.Asking.{known_label_number}
use Rattle.ga_parser.specs.Constants.{ConstantResolution, resolve_next_word, resolve_words_from, tokens_without_definitions, end_resolution, first_token_text, is_number_before_constant, begins_label}
use Rattle.ga_parser.specs.Constants.AwaitedWord.{Any}
use Rattle.ga_parser.specs.Groups.{NodeNamingProgress, begins_node, is_further_node_name, node_naming_after_non_keyword, node_naming_after_word, words_inserted_before_name, expand_node_groups}
use Rattle.ga_parser.specs.Groups.NodeNamingProgress.{Nothing, Node, Name}
use Rattle.ga_parser.specs.Plain.{is_node_keyword, token_texts}
use Rattle.ga_parser.specs.Saying.{TokenContent, PlacedToken, is_word_token, tokens_with_columns, source_lines, tokens_of_lines, columns_of_lines, scanned_tokens}
use Rattle.ga_parser.specs.Words.{placed_source_tokens, source_tokens}
use Rattle.ga_asm_text.specs.inner.{SourceWordText}

-- ---- such words

-- the word neither defines a constant nor begins a label
abbrev pub is_quiet : SourceWordText → Bool
is_quiet word = not (bytes_eq word (codes "constant")) && not (bytes_eq word (codes ":"))

-- no word defines a constant or begins a label, and one of three digits comes only right after `node`
unfoldable pub are_single : Bool → List SourceWordText → Bool
are_single named [] = true
are_single named (word ∷ words) = is_quiet word && (named || not (is_some (parse_decimal_name word))) && are_single (is_node_keyword word) words

abbrev pub texts : List PlacedToken → List SourceWordText
texts words = map (λ (one : PlacedToken). one.said.text) words

pub not_true : (b : Bool) → not b ≡ true → b ≡ false
not_true true e = sym e
not_true false e = refl

and_right : (a b : Bool) → b ≡ false → (a && b) ≡ false
and_right true b is_false = is_false
and_right false b is_false = refl

-- ---- constants

record Single (named : Bool) (word : SourceWordText) (words : List SourceWordText) : Type 0 where
  pub quiet : bytes_eq word (codes "constant") ≡ false
  pub label : bytes_eq word (codes ":") ≡ false
  pub digits : (named || not (is_some (parse_decimal_name word))) ≡ true
  pub rest : are_single (is_node_keyword word) words ≡ true

single : (named : Bool) (word : SourceWordText) (words : List SourceWordText) → are_single named (word ∷ words) ≡ true → Single named word words
unfolding are_single
single named word words are =
    let outer = and_parts (is_quiet word && (named || not (is_some (parse_decimal_name word)))) (are_single (is_node_keyword word) words) are in
    let inner = and_parts (is_quiet word) (named || not (is_some (parse_decimal_name word))) outer.0 in
    let quiet = and_parts (not (bytes_eq word (codes "constant"))) (not (bytes_eq word (codes ":"))) inner.0 in
    record { quiet = not_true (bytes_eq word (codes "constant")) quiet.0; label = not_true (bytes_eq word (codes ":")) quiet.1; digits = inner.1; rest = outer.1 }

next_quiet : (named : Bool) (words : List PlacedToken) → are_single named (texts words) ≡ true → bytes_eq (first_token_text words) (codes "constant") ≡ false
next_quiet named [] are = refl
next_quiet named (one ∷ words) are = (single named one.said.text (texts words) are).quiet

abbrev so_far : List PlacedToken → ConstantResolution
so_far words = record { words = words; known = record { names = []; numbers = [] }; awaited = Any }

one_same : (front : List PlacedToken) (one : PlacedToken) (next : SourceWordText) → bytes_eq next (codes "constant") ≡ false → bytes_eq one.said.text (codes ":") ≡ false → resolve_next_word (so_far front) one next ≡ so_far (front ++ one ∷ [])
unfolding known_label_number
one_same front one next no_constant no_label =
    cond-false (is_number_before_constant one next) _ _ (and_right (is_word_token one.said) (bytes_eq next (codes "constant")) no_constant) ∙ cond-false (begins_label one) _ _ no_label

same_words : (named : Bool) (front words : List PlacedToken) → are_single named (texts words) ≡ true → resolve_words_from (so_far front) words ≡ so_far (front ++ words)
unfolding resolve_words_from
same_words named front [] are = ap so_far (sym (append-nil front))
same_words named front (one ∷ words) are =
    let is = single named one.said.text (texts words) are in
    ap (λ (r : ConstantResolution). resolve_words_from r words) (one_same front one (first_token_text words) (next_quiet (is_node_keyword one.said.text) words is.rest) is.label)
    ∙ (same_words (is_node_keyword one.said.text) (front ++ one ∷ []) words is.rest ∙ ap so_far (append_assoc front (one ∷ []) words))

-- ---- nodes

abbrev is_named : NodeNamingProgress → Bool
is_named Nothing = false
is_named (Node node) = true
is_named (Name node) = false

past_named : (begun : NodeNamingProgress) (one : PlacedToken) → is_named (node_naming_after_non_keyword begun one) ≡ false
past_named Nothing one = refl
past_named (Node node) one = refl
past_named (Name node) one = elim (cases_Bool (is_further_node_name node one)) [
  | inl is ↦ ap is_named (cond-true (is_further_node_name node one) _ _ is)
  | inr is_false ↦ ap is_named (cond-false (is_further_node_name node one) _ _ is_false)
]

after_named : (begun : NodeNamingProgress) (one : PlacedToken) → is_node_keyword one.said.text ≡ is_named (node_naming_after_word begun one)
after_named begun one = elim (cases_Bool (begins_node one)) [
  | inl is ↦ is ∙ sym (ap is_named (cond-true (begins_node one) _ _ is))
  | inr is_false ↦ is_false ∙ sym (ap is_named (cond-false (begins_node one) _ _ is_false) ∙ past_named begun one)
]

none_before : (begun : NodeNamingProgress) (one : PlacedToken) (rest : List PlacedToken) → (is_named begun || not (is_some (parse_decimal_name one.said.text))) ≡ true → words_inserted_before_name true begun one rest ≡ []
none_before Nothing one rest digits = refl
none_before (Node node) one rest digits = refl
none_before (Name node) one rest digits =
    cond-false (is_further_node_name node one) _ _ (and_right (is_word_token one.said && one.said.line == node.said.line) (is_some (parse_decimal_name one.said.text)) (not_true (is_some (parse_decimal_name one.said.text)) digits))

same_nodes : (begun : NodeNamingProgress) (words : List PlacedToken) → are_single (is_named begun) (texts words) ≡ true → expand_node_groups true begun words ≡ words
unfolding expand_node_groups
same_nodes begun [] are = refl
same_nodes begun (one ∷ words) are =
    let is = single (is_named begun) one.said.text (texts words) are in
    ap₂ (λ (before rest : List PlacedToken). before ++ one ∷ rest) (none_before begun one words is.digits)
    (same_nodes (node_naming_after_word begun one) words (ap (λ (b : Bool). are_single b (texts words)) (sym (after_named begun one)) ∙ is.rest))

-- ---- a source

said_placed : (said : List TokenContent) (columns : List ℕ) → map (λ (one : PlacedToken). one.said) (tokens_with_columns said columns) ≡ said
unfolding tokens_with_columns
said_placed [] columns = refl
said_placed (one ∷ said) [] = ap (λ (rest : List TokenContent). one ∷ rest) (said_placed said [])
said_placed (one ∷ said) (column ∷ columns) = ap (λ (rest : List TokenContent). one ∷ rest) (said_placed said columns)

texts_placed : (words : List PlacedToken) → token_texts (map (λ (one : PlacedToken). one.said) words) ≡ texts words
texts_placed [] = refl
texts_placed (one ∷ words) = ap (λ (rest : List SourceWordText). one.said.text ∷ rest) (texts_placed words)

pub all_same : (source : List ℕ) (said : List TokenContent) → tokens_of_lines 1 (source_lines source) ≡ said → are_single false (token_texts said) ≡ true → source_tokens source ≡ said
unfolding placed_source_tokens
all_same source said is are =
    let written = said_placed (tokens_of_lines 1 (source_lines source)) (columns_of_lines 1 (source_lines source)) ∙ is in
    let single_words : are_single false (texts (scanned_tokens source)) ≡ true = ap (are_single false) (sym (texts_placed (scanned_tokens source)) ∙ ap token_texts written) ∙ are in
    let constants : tokens_without_definitions (scanned_tokens source) ≡ scanned_tokens source = ap (λ (r : ConstantResolution). (end_resolution r).words) (same_words false [] (scanned_tokens source) single_words) in
    ap (map (λ (one : PlacedToken). one.said)) (ap (expand_node_groups true Nothing) constants ∙ same_nodes Nothing (scanned_tokens source) single_words) ∙ written
