-- Nodes with one program, one word after another.
use Rattle.std.proofs.Common.{◌≡◌, ◌∙◌, ℕ, zero, suc, ◌+◌, ◌<◌, ◌≤◌, Bool, true, false, List, [], ◌∷◌, ◌++◌, length, take, drop, get_or, ap, sym, refl, arith, append_assoc, append-nil}
use Rattle.std.proofs.lemmas.Bool.{cond-true, cond-false}
use Rattle.std.proofs.lemmas.List.{drop_all, take_all}
use Rattle.ga_parser.specs.declared.scan.Token.{Token}
use Rattle.ga_parser.specs.Saying.{TokenContent, PlacedToken, token_content, token_contents, is_word_token, tokens_through_first_fault}
use Rattle.ga_parser.specs.inner.Placing.{placed, placed_all}
use Rattle.ga_parser.specs.Groups.{NodeNamingProgress, begins_node, is_further_node_name, node_naming_after_word, words_after_names, words_before_next_node, words_inserted_before_name, expand_node_groups}
use Rattle.ga_parser.proofs.Placing.{first_placed, front_placed}
use Rattle.ga_parser.proofs.Asking.{first_left}

-- ---- names

pub one_name : (node : PlacedToken) (tokens : List Token) (k : ℕ) (d : Token) → k < length tokens → is_further_node_name node (placed (get_or tokens k d)) ≡ true → words_after_names node (placed_all (drop k tokens)) ≡ words_after_names node (placed_all (drop (k + 1) tokens))
unfolding words_after_names
one_name node tokens k d within is = ap (words_after_names node) (first_placed tokens k d within) ∙ cond-true (is_further_node_name node (placed (get_or tokens k d))) _ _ is

pub no_name : (node : PlacedToken) (tokens : List Token) (k : ℕ) (d : Token) → k < length tokens → is_further_node_name node (placed (get_or tokens k d)) ≡ false → words_after_names node (placed_all (drop k tokens)) ≡ placed_all (drop k tokens)
unfolding words_after_names
no_name node tokens k d within is =
    ap (words_after_names node) (first_placed tokens k d within) ∙ (cond-false (is_further_node_name node (placed (get_or tokens k d))) _ _ is ∙ sym (first_placed tokens k d within))

pub names_end : (node : PlacedToken) (tokens : List Token) → tokens ≡ [] → words_after_names node (placed_all tokens) ≡ []
unfolding words_after_names
names_end node tokens none = ap (λ (t : List Token). words_after_names node (placed_all t)) none

-- ---- programs

pub one_inside : (tokens : List Token) (k : ℕ) (d : Token) (all : List PlacedToken) → k < length tokens → begins_node (placed (get_or tokens k d)) ≡ false → placed_all (take k tokens) ++ words_before_next_node (placed_all (drop k tokens)) ≡ all
    → placed_all (take (k + 1) tokens) ++ words_before_next_node (placed_all (drop (k + 1) tokens)) ≡ all
unfolding words_before_next_node
one_inside tokens k d all within is so_far =
    ap (λ (l : List PlacedToken). l ++ words_before_next_node (placed_all (drop (k + 1) tokens))) (front_placed tokens k d within)
    ∙ (append_assoc (placed_all (take k tokens)) (placed (get_or tokens k d) ∷ []) (words_before_next_node (placed_all (drop (k + 1) tokens)))
    ∙ (ap (λ (l : List PlacedToken). placed_all (take k tokens) ++ l)
    (sym (ap words_before_next_node (first_placed tokens k d within) ∙ cond-false (begins_node (placed (get_or tokens k d))) _ _ is)) ∙ so_far))

pub body_ends : (tokens : List Token) (k : ℕ) (d : Token) (all : List PlacedToken) → k < length tokens → begins_node (placed (get_or tokens k d)) ≡ true → placed_all (take k tokens) ++ words_before_next_node (placed_all (drop k tokens)) ≡ all
    → placed_all (take k tokens) ≡ all
unfolding words_before_next_node
body_ends tokens k d all within is so_far =
    sym (append-nil (placed_all (take k tokens)))
    ∙ (ap (λ (l : List PlacedToken). placed_all (take k tokens) ++ l) (sym (ap words_before_next_node (first_placed tokens k d within) ∙ cond-true (begins_node (placed (get_or tokens k d))) _ _ is)) ∙ so_far)

-- ---- all words

pub one_grouped : (whole : Bool) (begun after : NodeNamingProgress) (all before now : List PlacedToken) (tokens left : List Token) (k : ℕ) (d : Token) → k < length tokens → left ≡ drop (k + 1) tokens
    → now ≡ before ++ words_inserted_before_name whole begun (placed (get_or tokens k d)) (placed_all left) → after ≡ node_naming_after_word begun (placed (get_or tokens k d))
    → before ++ expand_node_groups whole begun (placed_all (drop k tokens)) ≡ all → (now ++ placed (get_or tokens k d) ∷ []) ++ expand_node_groups whole after (placed_all (drop (k + 1) tokens)) ≡ all
unfolding expand_node_groups
one_grouped whole begun after all before now tokens left k d within behind pushed_left is so_far =
    let pushed : now ≡ before ++ words_inserted_before_name whole begun (placed (get_or tokens k d)) (placed_all (drop (k + 1) tokens)) =
    pushed_left ∙ ap (λ (l : List Token). before ++ words_inserted_before_name whole begun (placed (get_or tokens k d)) (placed_all l)) behind in
    let one = placed (get_or tokens k d) in
    let rest = placed_all (drop (k + 1) tokens) in
    let first = words_inserted_before_name whole begun one rest in
    append_assoc now (one ∷ []) (expand_node_groups whole after rest)
    ∙ (ap (λ (l : List PlacedToken). l ++ one ∷ expand_node_groups whole after rest) pushed
    ∙ (append_assoc before first (one ∷ expand_node_groups whole after rest)
    ∙ (ap (λ (b : NodeNamingProgress). before ++ (first ++ one ∷ expand_node_groups whole b rest)) is
    ∙ (ap (λ (l : List PlacedToken). before ++ l) (sym (ap (expand_node_groups whole begun) (first_placed tokens k d within))) ∙ so_far))))

pub none_grouped : (whole : Bool) (begun : NodeNamingProgress) (tokens : List Token) (all before : List PlacedToken) → tokens ≡ [] → before ++ expand_node_groups whole begun (placed_all tokens) ≡ all → before ≡ all
unfolding expand_node_groups
none_grouped whole begun tokens all before none so_far =
    sym (append-nil before) ∙ (ap (λ (l : List PlacedToken). before ++ l) (sym (ap (λ (t : List Token). expand_node_groups whole begun (placed_all t)) none)) ∙ so_far)

-- ---- up to a fault

front_said : (tokens : List Token) (k : ℕ) (d : Token) → k < length tokens → token_contents (take (k + 1) tokens) ≡ token_contents (take k tokens) ++ token_content (get_or tokens k d) ∷ []
front_said [] k d within = absurd (omega arith)
front_said (token ∷ tokens) zero d within = refl
front_said (token ∷ tokens) (suc k) d within =
    let one : suc k + 1 ≡ suc (k + 1) = omega arith in
    ap (λ (j : ℕ). token_contents (take j (token ∷ tokens))) one
    ∙ ap (λ (rest : List TokenContent). token_content token ∷ rest) (front_said tokens k d (omega arith))

pub one_whole : (tokens : List Token) (k : ℕ) (d : Token) (all : List TokenContent) → k < length tokens → is_word_token (token_content (get_or tokens k d)) ≡ true → token_contents (take k tokens) ++ tokens_through_first_fault (token_contents (drop k tokens)) ≡ all
    → token_contents (take (k + 1) tokens) ++ tokens_through_first_fault (token_contents (drop (k + 1) tokens)) ≡ all
unfolding tokens_through_first_fault
one_whole tokens k d all within is so_far =
    let one = token_content (get_or tokens k d) in
    let rest = token_contents (drop (k + 1) tokens) in
    ap (λ (l : List TokenContent). l ++ tokens_through_first_fault rest) (front_said tokens k d within)
    ∙ (append_assoc (token_contents (take k tokens)) (one ∷ []) (tokens_through_first_fault rest)
    ∙ (ap (λ (l : List TokenContent). token_contents (take k tokens) ++ one ∷ l) (sym (cond-true (is_word_token one) (tokens_through_first_fault rest) [] is))
    ∙ (ap (λ (l : List TokenContent). token_contents (take k tokens) ++ tokens_through_first_fault l) (sym (first_left tokens k d within)) ∙ so_far)))

pub one_faulty : (tokens : List Token) (k : ℕ) (d : Token) (all : List TokenContent) → k < length tokens → is_word_token (token_content (get_or tokens k d)) ≡ false → token_contents (take k tokens) ++ tokens_through_first_fault (token_contents (drop k tokens)) ≡ all
    → token_contents (take (k + 1) tokens) ≡ all
unfolding tokens_through_first_fault
one_faulty tokens k d all within is so_far =
    let one = token_content (get_or tokens k d) in
    let rest = token_contents (drop (k + 1) tokens) in
    front_said tokens k d within
    ∙ (ap (λ (l : List TokenContent). token_contents (take k tokens) ++ one ∷ l) (sym (cond-false (is_word_token one) (tokens_through_first_fault rest) [] is))
    ∙ (ap (λ (l : List TokenContent). token_contents (take k tokens) ++ tokens_through_first_fault l) (sym (first_left tokens k d within)) ∙ so_far))

pub whole_end : (tokens : List Token) (k : ℕ) (all : List TokenContent) → length tokens ≤ k → token_contents (take k tokens) ++ tokens_through_first_fault (token_contents (drop k tokens)) ≡ all → token_contents tokens ≡ all
unfolding tokens_through_first_fault
whole_end tokens k all past so_far =
    sym (ap token_contents (take_all k tokens past))
    ∙ (sym (append-nil (token_contents (take k tokens)))
    ∙ (ap (λ (t : List Token). token_contents (take k tokens) ++ tokens_through_first_fault (token_contents t)) (sym (drop_all k tokens past)) ∙ so_far))

pub inside_end : (tokens : List Token) (k : ℕ) (all : List PlacedToken) → length tokens ≤ k → placed_all (take k tokens) ++ words_before_next_node (placed_all (drop k tokens)) ≡ all → placed_all tokens ≡ all
unfolding words_before_next_node
inside_end tokens k all past so_far =
    sym (ap placed_all (take_all k tokens past))
    ∙ (sym (append-nil (placed_all (take k tokens)))
    ∙ (ap (λ (t : List Token). placed_all (take k tokens) ++ words_before_next_node (placed_all t)) (sym (drop_all k tokens past)) ∙ so_far))
