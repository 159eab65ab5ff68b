-- The words of a source that is written, node by node.
use Rattle.std.specs.Prelude.{◌==◌, ◌&&◌, not, is_some, codes}
use Rattle.std.proofs.Common.{◌≡◌, ◌∙◌, ℕ, ◌+◌, ◌*◌, ◌/◌, ◌%◌, ◌-◌, ◌<◌, ◌≤◌, Bool, true, false, List, [], ◌∷◌, ◌++◌, length, map, Some, refl, arith, ap, sym, inl, inr}
use Rattle.std.specs.List.{list_all}
use Rattle.std.proofs.lemmas.List.{append-nil}
use Rattle.std.proofs.lemmas.List.Folds.{list_all-append}
use Rattle.std.proofs.lemmas.Bool.{and_parts, and_from, cond-true, cond-false, ne_eqb, cases_Bool}
use Rattle.ga_grid.specs.Grid.{decimal_name_of_node, node_number_of_name, parse_decimal_name}
use Rattle.ga_node.specs.Record.{NodeState}
use Rattle.ga_text.specs.Lines.{Text}
use Rattle.ga_text.specs.Digits.{three_decimal_digits}
use Rattle.ga_parser.specs.Saying.{TokenContent, parts_ended_by_bytes, is_word_token, source_lines, tokens_of_lines, tokens_through_first_fault}
use Rattle.ga_parser.specs.Words.{source_tokens_until_fault, source_word_texts}
use Rattle.ga_parser.specs.Plain.{is_node_keyword, body_words, body_word_lists, named_node_number}
use Rattle.ga_asm_text.specs.inner.{SourceWordText, TextSaysWords, hex_number_source_word, register_source_words, address_source_words, cell_source_words, address_after_cell, cells_words, address_after_cells, default_register_p, registers_source_words, memory_source_words, has_nonzero_memory, node_source_words, node_source_words_with_name, source_words}
use Rattle.ga_asm_text.proofs.Unchanged.{is_quiet, are_single, not_true, all_same}
use Rattle.ga_text.proofs.Numbers.{decimal_read as digit_back}
use Rattle.ga_text.proofs.Taking.{node_of_yxx as number_back}

-- ---- all that a text says

whole_all : (said : List TokenContent) → list_all is_word_token said ≡ true → tokens_through_first_fault said ≡ said
unfolding tokens_through_first_fault
whole_all [] whole = refl
whole_all (one ∷ said) whole =
    let parts = and_parts (is_word_token one) (list_all is_word_token said) whole in
    ap (λ (rest : List TokenContent). one ∷ rest) (cond-true (is_word_token one) (tokens_through_first_fault said) [] parts.0 ∙ whole_all said parts.1)

nothing_behind : (next : ℕ) → tokens_of_lines next (source_lines []) ≡ []
unfolding parts_ended_by_bytes tokens_of_lines
nothing_behind next = refl

all_said : (text : Text) (words : List SourceWordText) (said : List TokenContent) (next : ℕ) → tokens_of_lines 1 (source_lines (text ++ [])) ≡ said ++ tokens_of_lines next (source_lines []) → list_all is_word_token said ≡ true → map (λ (one : TokenContent). one.text) said ≡ words → are_single false words ≡ true → source_tokens_until_fault text ≡ said
unfolding source_tokens_until_fault
all_said text words said next e whole texts single =
    let written : tokens_of_lines 1 (source_lines text) ≡ said =
    ap (λ (t : Text). tokens_of_lines 1 (source_lines t)) (sym (append-nil text)) ∙ (e ∙ (ap (λ (l : List TokenContent). said ++ l) (nothing_behind next) ∙ append-nil said)) in
    ap tokens_through_first_fault (all_same text said written (ap (are_single false) texts ∙ single)) ∙ whole_all said whole

pub says_whole : (text : Text) (words : List SourceWordText) → are_single false words ≡ true → TextSaysWords text words → list_all is_word_token (source_tokens_until_fault text) ≡ true
says_whole text words single says = let a = says.says 1 [] in ap (list_all is_word_token) (all_said text words a.0 a.1 a.2 a.4 a.3 single) ∙ a.4

pub says_words : (text : Text) (words : List SourceWordText) → are_single false words ≡ true → TextSaysWords text words → source_word_texts text ≡ words
says_words text words single says = let a = says.says 1 [] in ap (map (λ (one : TokenContent). one.text)) (all_said text words a.0 a.1 a.2 a.4 a.3 single) ∙ a.3

-- ---- the bodies of nodes

-- the word isn't `node`, defines no constant, begins no label, and has not three digits
abbrev is_inert : SourceWordText → Bool
is_inert word = not (is_node_keyword word) && is_quiet word && not (is_some (parse_decimal_name word))

abbrev AreInert : List SourceWordText → Type 0
AreInert words = list_all is_inert words ≡ true

-- no word is `node`
abbrev HasNoNode : List SourceWordText → Type 0
HasNoNode words = list_all (λ word. not (is_node_keyword word)) words ≡ true

body_front : (words rest : List SourceWordText) → HasNoNode words → body_words rest ≡ [] → body_words (words ++ rest) ≡ words
unfolding body_words
body_front [] rest none end = end
body_front (word ∷ words) rest none end =
    let parts = and_parts (not (is_node_keyword word)) (list_all (λ w. not (is_node_keyword w)) words) none in
    cond-false (is_node_keyword word) [] (word ∷ body_words (words ++ rest)) (not_true (is_node_keyword word) parts.0)
    ∙ ap (λ (l : List SourceWordText). word ∷ l) (body_front words rest parts.1 end)

bodies_rest : (words rest : List SourceWordText) → HasNoNode words → body_word_lists (words ++ rest) ≡ body_word_lists rest
unfolding body_word_lists
bodies_rest [] rest none = refl
bodies_rest (word ∷ words) rest none =
    let parts = and_parts (not (is_node_keyword word)) (list_all (λ w. not (is_node_keyword w)) words) none in
    cond-false (is_node_keyword word) _ (body_word_lists (words ++ rest)) (not_true (is_node_keyword word) parts.0) ∙ bodies_rest words rest parts.1

inert_no_node : (words : List SourceWordText) → AreInert words → HasNoNode words
inert_no_node [] inert = refl
inert_no_node (word ∷ words) inert =
    let parts = and_parts (is_inert word) (list_all is_inert words) inert in
    let outer = and_parts (not (is_node_keyword word) && is_quiet word) (not (is_some (parse_decimal_name word))) parts.0 in
    and_from (not (is_node_keyword word)) (list_all (λ w. not (is_node_keyword w)) words) (and_parts (not (is_node_keyword word)) (is_quiet word) outer.0).0 (inert_no_node words parts.1)

none_both : (words more : List SourceWordText) → AreInert words → AreInert more → AreInert (words ++ more)
none_both words more a b = list_all-append is_inert words more ∙ and_from (list_all is_inert words) (list_all is_inert more) a b

-- ---- which words there are

register_inert : (name : SourceWordText) (v usual : ℕ) → is_inert name ≡ true → AreInert (register_source_words name v usual)
unfolding parse_decimal_name
register_inert name v usual other = elim (cases_Bool (v == usual)) [
  | inl same ↦ rw same refl
  | inr differs ↦ rw (differs, other) refl
]

address_inert : (address next : ℕ) → AreInert (address_source_words address next)
unfolding parse_decimal_name
address_inert address next = elim (cases_Bool (address == next)) [
  | inl same ↦ rw same refl
  | inr differs ↦ rw differs refl
]

cell_inert : (word address next : ℕ) → AreInert (cell_source_words word address next)
unfolding parse_decimal_name
cell_inert word address next = elim (cases_Bool (word == 0)) [
  | inl same ↦ rw same refl
  | inr differs ↦ rw differs (none_both (address_source_words address next) (hex_number_source_word 6 word ∷ codes "," ∷ []) (address_inert address next) refl)
]

cells_inert : (address next : ℕ) (cells : List ℕ) → AreInert (cells_words address next cells)
unfolding cells_words
cells_inert address next [] = refl
cells_inert address next (word ∷ words) =
    none_both (cell_source_words word address next) (cells_words (address + 1) (address_after_cell word address next) words) (cell_inert word address next) (cells_inert (address + 1) (address_after_cell word address next) words)

node_inert : (n : ℕ) (node : NodeState) → AreInert (node_source_words n node)
unfolding parse_decimal_name
node_inert n node =
    let p = register_source_words (codes "/p") node.p (default_register_p n (has_nonzero_memory node)) in
    let a = register_source_words (codes "/a") node.a 0 in
    let b = register_source_words (codes "/b") node.b 0x15d in
    let rom = cells_words 0x80 (address_after_cells 0 0 node.ram) node.rom in
    none_both (registers_source_words n node (has_nonzero_memory node)) (memory_source_words node)
    (none_both (p ++ a) b (none_both p a (register_inert (codes "/p") node.p (default_register_p n (has_nonzero_memory node)) refl) (register_inert (codes "/a") node.a 0 refl)) (register_inert (codes "/b") node.b 0x15d refl))
    (none_both (cells_words 0 0 node.ram) rom (cells_inert 0 0 node.ram) (cells_inert 0x80 (address_after_cells 0 0 node.ram) node.rom))

name_no_node : (n : ℕ) → n < 144 → is_node_keyword (three_decimal_digits (decimal_name_of_node n)) ≡ false
name_no_node n within = differs (48 + decimal_name_of_node n / 100) (48 + decimal_name_of_node n / 10 % 10) (48 + decimal_name_of_node n % 10) (ne_eqb (48 + decimal_name_of_node n / 100) 110 (λ e. omega arith))
  where
    differs : (a b c : ℕ) → (a == 110) ≡ false → is_node_keyword (a ∷ b ∷ c ∷ []) ≡ false
    differs a b c e = rw e refl

name_quiet : (n : ℕ) → n < 144 → is_quiet (three_decimal_digits (decimal_name_of_node n)) ≡ true
name_quiet n within = differs (48 + decimal_name_of_node n / 100) (48 + decimal_name_of_node n / 10 % 10) (48 + decimal_name_of_node n % 10) (ne_eqb (48 + decimal_name_of_node n / 100) 99 (λ e. omega arith)) (ne_eqb (48 + decimal_name_of_node n / 100) 58 (λ e. omega arith))
  where
    differs : (a b c : ℕ) → (a == 99) ≡ false → (a == 58) ≡ false → is_quiet (a ∷ b ∷ c ∷ []) ≡ true
    differs a b c no_constant no_label = rw (no_constant, no_label) refl

-- ---- each node has a `node` of its own

singles_rest : (words rest : List SourceWordText) → AreInert words → are_single false rest ≡ true → are_single false (words ++ rest) ≡ true
unfolding are_single
singles_rest [] rest inert end = end
singles_rest (word ∷ words) rest inert end =
    let parts = and_parts (is_inert word) (list_all is_inert words) inert in
    let outer = and_parts (not (is_node_keyword word) && is_quiet word) (not (is_some (parse_decimal_name word))) parts.0 in
    let first = and_parts (not (is_node_keyword word)) (is_quiet word) outer.0 in
    and_from (is_quiet word && not (is_some (parse_decimal_name word))) (are_single (is_node_keyword word) (words ++ rest))
    (and_from (is_quiet word) (not (is_some (parse_decimal_name word))) first.1 outer.1)
    (ap (λ (b : Bool). are_single b (words ++ rest)) (not_true (is_node_keyword word) first.0) ∙ singles_rest words rest parts.1 end)

named_single : (n : ℕ) (words rest : List SourceWordText) → n < 144 → AreInert words → are_single false rest ≡ true → are_single false (node_source_words_with_name n words ++ rest) ≡ true
unfolding are_single parse_decimal_name
named_single n [] rest within inert end = end
named_single n (word ∷ words) rest within inert end =
    let name = three_decimal_digits (decimal_name_of_node n) in
    and_from (is_quiet name && true) (are_single (is_node_keyword name) ((word ∷ words) ++ rest))
    (and_from (is_quiet name) true (name_quiet n within) refl)
    (ap (λ (b : Bool). are_single b ((word ∷ words) ++ rest)) (name_no_node n within) ∙ singles_rest (word ∷ words) rest inert end)

pub all_single : (n : ℕ) (nodes : List NodeState) → n + length nodes ≤ 144 → are_single false (source_words n nodes) ≡ true
unfolding source_words are_single
all_single n [] within = refl
all_single n (node ∷ nodes) within = named_single n (node_source_words n node) (source_words (n + 1) nodes) (omega arith) (node_inert n node) (all_single (n + 1) nodes (omega arith))

-- ---- the body of each node

abbrev pub body_of : ℕ → List SourceWordText → List (List SourceWordText)
body_of n [] = []
body_of n (word ∷ words) = (three_decimal_digits (decimal_name_of_node n) ∷ word ∷ words) ∷ []

unfoldable pub bodies_of : ℕ → List NodeState → List (List SourceWordText)
bodies_of n [] = []
bodies_of n (node ∷ nodes) = body_of n (node_source_words n node) ++ bodies_of (n + 1) nodes

starts_none : (n : ℕ) (words rest : List SourceWordText) → body_words rest ≡ [] → body_words (node_source_words_with_name n words ++ rest) ≡ []
unfolding body_words
starts_none n [] rest end = end
starts_none n (word ∷ words) rest end = refl

pub starts : (n : ℕ) (nodes : List NodeState) → body_words (source_words n nodes) ≡ []
unfolding source_words body_words
starts n [] = refl
starts n (node ∷ nodes) = starts_none n (node_source_words n node) (source_words (n + 1) nodes) (starts (n + 1) nodes)

named_body : (n : ℕ) (words rest : List SourceWordText) → n < 144 → HasNoNode words → body_words rest ≡ [] → body_word_lists (node_source_words_with_name n words ++ rest) ≡ body_of n words ++ body_word_lists rest
unfolding body_word_lists
named_body n [] rest within none end = refl
named_body n (word ∷ words) rest within none end =
    let all : HasNoNode (three_decimal_digits (decimal_name_of_node n) ∷ word ∷ words) = rw (name_no_node n within) none in
    ap (λ (b : List SourceWordText). b ∷ body_word_lists ((three_decimal_digits (decimal_name_of_node n) ∷ word ∷ words) ++ rest)) (body_front (three_decimal_digits (decimal_name_of_node n) ∷ word ∷ words) rest all end)
    ∙ ap (λ (l : List (List SourceWordText)). (three_decimal_digits (decimal_name_of_node n) ∷ word ∷ words) ∷ l) (bodies_rest (three_decimal_digits (decimal_name_of_node n) ∷ word ∷ words) rest all)

pub all_bodies : (n : ℕ) (nodes : List NodeState) → n + length nodes ≤ 144 → body_word_lists (source_words n nodes) ≡ bodies_of n nodes
unfolding source_words body_word_lists bodies_of
all_bodies n [] within = refl
all_bodies n (node ∷ nodes) within =
    named_body n (node_source_words n node) (source_words (n + 1) nodes) (omega arith) (inert_no_node (node_source_words n node) (node_inert n node)) (starts (n + 1) nodes)
    ∙ ap (λ (l : List (List SourceWordText)). body_of n (node_source_words n node) ++ l) (all_bodies (n + 1) nodes (omega arith))

-- ---- the names of nodes

pub name_back : (n : ℕ) → n < 144 → named_node_number (three_decimal_digits (decimal_name_of_node n)) ≡ Some n
unfolding parse_decimal_name
name_back n within =
    let name = decimal_name_of_node n in
    let all : 100 * (name / 100) + 10 * (name / 10 % 10) + name % 10 ≡ name = omega arith in
    rw (digit_back (name / 100) (omega arith), digit_back (name / 10 % 10) (omega arith), digit_back (name % 10) (omega arith)) (ap node_number_of_name all ∙ number_back n within)
