-- Tokens with their columns, one by one.
use Rattle.std.proofs.Common.{◌≡◌, ◌∙◌, ℕ, zero, suc, ◌+◌, ◌<◌, List, [], ◌∷◌, ◌++◌, length, take, drop, get_or, slice_index_or, ap, ap₂, sym, refl, arith}
use Rattle.std.specs.Prelude.{map, true, false, Bool}
use Rattle.ga_parser.specs.declared.scan.Token.{Token}
use Rattle.ga_parser.specs.Saying.{TokenContent, PlacedToken, token_content, token_contents, token_columns, tokens_with_columns, tokens_of_lines, columns_of_lines, source_lines, scanned_tokens}
use Rattle.ga_parser.specs.inner.Placing.{placed, placed_all}
use Rattle.ga_parser.specs.Constants.{first_token_text, tokens_without_definitions}
use Rattle.ga_parser.specs.Groups.{expand_node_groups}
use Rattle.ga_parser.specs.Groups.NodeNamingProgress.{Nothing}
use Rattle.ga_parser.specs.Words.{placed_source_tokens, source_tokens, source_columns, source_tokens_without_copies}
use Rattle.ga_parser.specs.inner.Drafting.{texts_of_tokens}

pub placed_same : (tokens : List Token) → placed_all tokens ≡ tokens_with_columns (token_contents tokens) (token_columns tokens)
unfolding tokens_with_columns
placed_same [] = refl
placed_same (token ∷ tokens) = ap (λ (rest : List PlacedToken). placed token ∷ rest) (placed_same tokens)

pub said_same : (tokens : List Token) → map (λ (one : PlacedToken). one.said) (placed_all tokens) ≡ token_contents tokens
said_same [] = refl
said_same (token ∷ tokens) = ap (λ (rest : List TokenContent). token_content token ∷ rest) (said_same tokens)

pub columns_same : (tokens : List Token) → map (λ (one : PlacedToken). one.column) (placed_all tokens) ≡ token_columns tokens
columns_same [] = refl
columns_same (token ∷ tokens) = ap (λ (rest : List ℕ). token.column ∷ rest) (columns_same tokens)

pub scanned_same : (tokens : List Token) (source : List ℕ) → token_contents tokens ≡ tokens_of_lines 1 (source_lines source) → token_columns tokens ≡ columns_of_lines 1 (source_lines source) → placed_all tokens ≡ scanned_tokens source
scanned_same tokens source said columns = placed_same tokens ∙ ap₂ tokens_with_columns said columns

pub first_placed : (tokens : List Token) (k : ℕ) (d : Token) → k < length tokens → placed_all (drop k tokens) ≡ placed (get_or tokens k d) ∷ placed_all (drop (k + 1) tokens)
first_placed [] k d within = absurd (omega arith)
first_placed (token ∷ tokens) zero d within = refl
first_placed (token ∷ tokens) (suc k) d within =
    let one : suc k + 1 ≡ suc (k + 1) = omega arith in
    first_placed tokens k d (omega arith) ∙ ap (λ (j : ℕ). placed (get_or tokens k d) ∷ placed_all (drop j (token ∷ tokens))) (sym one)

pub next_placed : (tokens : List Token) (k : ℕ) → first_token_text (placed_all (drop k tokens)) ≡ slice_index_or (texts_of_tokens tokens) k []
next_placed [] zero = refl
next_placed [] (suc k) = refl
next_placed (token ∷ tokens) zero = refl
next_placed (token ∷ tokens) (suc k) = next_placed tokens k

pub front_placed : (tokens : List Token) (k : ℕ) (d : Token) → k < length tokens → placed_all (take (k + 1) tokens) ≡ placed_all (take k tokens) ++ placed (get_or tokens k d) ∷ []
front_placed [] k d within = absurd (omega arith)
front_placed (token ∷ tokens) zero d within = refl
front_placed (token ∷ tokens) (suc k) d within =
    let one : suc k + 1 ≡ suc (k + 1) = omega arith in
    ap (λ (j : ℕ). placed_all (take j (token ∷ tokens))) one
    ∙ ap (λ (rest : List PlacedToken). placed token ∷ rest) (front_placed tokens k d (omega arith))

-- ---- all words of a source

text_resolved_by_index : (whole : Bool) (source : List ℕ) (scanned read all : List Token) → token_contents scanned ≡ tokens_of_lines 1 (source_lines source) → token_columns scanned ≡ columns_of_lines 1 (source_lines source)
    → placed_all read ≡ tokens_without_definitions (placed_all scanned) → placed_all all ≡ expand_node_groups whole Nothing (placed_all read) → placed_all all ≡ expand_node_groups whole Nothing (tokens_without_definitions (scanned_tokens source))
text_resolved_by_index whole source scanned read all said columns constants nodes =
    nodes ∙ ap (expand_node_groups whole Nothing) (constants ∙ ap tokens_without_definitions (scanned_same scanned source said columns))

pub all_read : (source : List ℕ) (scanned read all : List Token) → token_contents scanned ≡ tokens_of_lines 1 (source_lines source) → token_columns scanned ≡ columns_of_lines 1 (source_lines source)
    → placed_all read ≡ tokens_without_definitions (placed_all scanned) → placed_all all ≡ expand_node_groups true Nothing (placed_all read) → token_contents all ≡ source_tokens source
unfolding placed_source_tokens
all_read source scanned read all said columns constants nodes =
    sym (said_same all) ∙ ap (map (λ (one : PlacedToken). one.said)) (text_resolved_by_index true source scanned read all said columns constants nodes)

pub columns_read : (source : List ℕ) (scanned read all : List Token) → token_contents scanned ≡ tokens_of_lines 1 (source_lines source) → token_columns scanned ≡ columns_of_lines 1 (source_lines source)
    → placed_all read ≡ tokens_without_definitions (placed_all scanned) → placed_all all ≡ expand_node_groups true Nothing (placed_all read) → token_columns all ≡ source_columns source
unfolding placed_source_tokens
columns_read source scanned read all said columns constants nodes =
    sym (columns_same all) ∙ ap (map (λ (one : PlacedToken). one.column)) (text_resolved_by_index true source scanned read all said columns constants nodes)

pub once_read : (source : List ℕ) (scanned read all : List Token) → token_contents scanned ≡ tokens_of_lines 1 (source_lines source) → token_columns scanned ≡ columns_of_lines 1 (source_lines source)
    → placed_all read ≡ tokens_without_definitions (placed_all scanned) → placed_all all ≡ expand_node_groups false Nothing (placed_all read) → token_contents all ≡ source_tokens_without_copies source
unfolding source_tokens_without_copies
once_read source scanned read all said columns constants nodes =
    sym (said_same all) ∙ ap (map (λ (one : PlacedToken). one.said)) (text_resolved_by_index false source scanned read all said columns constants nodes)
