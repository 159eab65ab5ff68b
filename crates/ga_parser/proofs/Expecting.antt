-- The expectations of a source, line by line.
use Rattle.std.proofs.Common.{◌≡◌, ◌∙◌, ℕ, ◌+◌, ◌-◌, ◌<◌, ◌≤◌, inl, inr, true, false, ltb, List, [], ◌∷◌, ◌++◌, length, length-drop, take, drop, get_or, ap, sym, refl, arith, append_assoc, append-nil}
use Rattle.std.specs.Prelude.{if◌then◌else◌, codes, bytes_eq, flat_map}
use Rattle.std.proofs.lemmas.Bool.{cond-true, cond-false, cases_Bool, lt-ltb, le-ltb, ltb-true}
use Rattle.std.proofs.lemmas.List.{drop_all, take_all}
use Rattle.ga_parser.specs.declared.scan.Token.{Token}
use Rattle.ga_parser.specs.Constants.{ConstantAndLabelNames, resolved_word_text}
use Rattle.ga_parser.specs.Expectations.{NodeGroup, node_group_after_word, node_group_before_line, nodes_before_line, resolved_word_texts, expectation_text, ExpectationContent, expectation_of_tokens, expectations_of_lines}
use Rattle.ga_parser.specs.Saying.{parts_ended_by_bytes, source_lines, stripped_source_line, PlacedToken, token_contents, tokens_of_line_with_expectation, next_line_number}
use Rattle.ga_parser.specs.inner.Expecting.{words_from, space_and_resolved_word}
use Rattle.ga_parser.specs.inner.Placing.{placed, placed_all}
use Rattle.ga_parser.proofs.Placing.{first_placed}

-- ---- the words before a line

-- what the words before a later line name is what those from a line on name then
pub later_group : (line later : ℕ) (group : NodeGroup) (words : List PlacedToken) → line ≤ later → node_group_before_line later (node_group_before_line line group words) (words_from line words) ≡ node_group_before_line later group words
unfolding node_group_before_line words_from
later_group line later group [] within = refl
later_group line later group (one ∷ rest) within = elim (cases_Bool (ltb one.said.line line)) [
  | inl before ↦
      let is : one.said.line < line = ltb-true one.said.line line before in
      rw (before, lt-ltb one.said.line later (omega arith)) (later_group line later (node_group_after_word group one) rest within)
  | inr from ↦ rw from refl
]

-- a word before the line
pub one_before : (line : ℕ) (group after : NodeGroup) (tokens : List Token) (k : ℕ) (d : Token) → k < length tokens → (placed (get_or tokens k d)).said.line < line → after ≡ node_group_after_word group (placed (get_or tokens k d))
    → node_group_before_line line group (placed_all (drop k tokens)) ≡ node_group_before_line line after (placed_all (drop (k + 1) tokens))
unfolding node_group_before_line
one_before line group after tokens k d within before taken =
    ap (node_group_before_line line group) (first_placed tokens k d within)
    ∙ (cond-true (ltb (get_or tokens k d).line line) (node_group_before_line line (node_group_after_word group (placed (get_or tokens k d))) (placed_all (drop (k + 1) tokens))) group (lt-ltb (get_or tokens k d).line line before)
    ∙ ap (λ (g : NodeGroup). node_group_before_line line g (placed_all (drop (k + 1) tokens))) (sym taken))

pub one_left : (line : ℕ) (tokens : List Token) (k : ℕ) (d : Token) → k < length tokens → (placed (get_or tokens k d)).said.line < line → words_from line (placed_all (drop k tokens)) ≡ words_from line (placed_all (drop (k + 1) tokens))
unfolding words_from
one_left line tokens k d within before =
    ap (words_from line) (first_placed tokens k d within)
    ∙ cond-true (ltb (get_or tokens k d).line line) (words_from line (placed_all (drop (k + 1) tokens))) (placed (get_or tokens k d) ∷ placed_all (drop (k + 1) tokens)) (lt-ltb (get_or tokens k d).line line before)

-- a word on the line or a later one
pub none_before : (line : ℕ) (group : NodeGroup) (tokens : List Token) (k : ℕ) (d : Token) → k < length tokens → line ≤ (placed (get_or tokens k d)).said.line → node_group_before_line line group (placed_all (drop k tokens)) ≡ group
unfolding node_group_before_line
none_before line group tokens k d within from =
    ap (node_group_before_line line group) (first_placed tokens k d within)
    ∙ cond-false (ltb (get_or tokens k d).line line) (node_group_before_line line (node_group_after_word group (placed (get_or tokens k d))) (placed_all (drop (k + 1) tokens))) group (le-ltb (get_or tokens k d).line line from)

pub all_from : (line : ℕ) (tokens : List Token) (k : ℕ) (d : Token) → k < length tokens → line ≤ (placed (get_or tokens k d)).said.line → words_from line (placed_all (drop k tokens)) ≡ placed_all (drop k tokens)
unfolding words_from
all_from line tokens k d within from =
    ap (words_from line) (first_placed tokens k d within)
    ∙ (cond-false (ltb (get_or tokens k d).line line) (words_from line (placed_all (drop (k + 1) tokens))) (placed (get_or tokens k d) ∷ placed_all (drop (k + 1) tokens)) (le-ltb (get_or tokens k d).line line from)
    ∙ sym (first_placed tokens k d within))

-- no word is left
pub no_word_before : (line : ℕ) (group : NodeGroup) (tokens : List Token) → tokens ≡ [] → node_group_before_line line group (placed_all tokens) ≡ group
unfolding node_group_before_line
no_word_before line group tokens none = ap (λ (t : List Token). node_group_before_line line group (placed_all t)) none

pub no_word_from : (line : ℕ) (tokens : List Token) → tokens ≡ [] → words_from line (placed_all tokens) ≡ []
unfolding words_from
no_word_from line tokens none = ap (λ (t : List Token). words_from line (placed_all t)) none

pub all_dropped : (tokens : List Token) → placed_all (drop (length tokens) tokens) ≡ []
all_dropped tokens = ap placed_all (drop_all (length tokens) tokens (omega arith))

-- ---- the text of an expectation

-- words after blanks are their texts after blanks
pub spaced_same : (known : ConstantAndLabelNames) (tokens : List Token) → flat_map (space_and_resolved_word known) tokens ≡ flat_map (λ (next : List ℕ). 32 ∷ next) (resolved_word_texts known (token_contents tokens))
spaced_same known [] = refl
spaced_same known (token ∷ tokens) = ap (λ (l : List ℕ). space_and_resolved_word known token ++ l) (spaced_same known tokens)

-- `expect` alone has no text
pub short_text : (known : ConstantAndLabelNames) (tokens : List Token) → length tokens < 2 → expectation_text known (token_contents tokens) ≡ []
short_text known [] short = refl
short_text known (token ∷ []) short = refl
short_text known (token ∷ first ∷ rest) short = absurd (omega arith)

-- the first word after it, and each further one after a blank
pub long_text : (known : ConstantAndLabelNames) (tokens : List Token) (d : Token) → 2 ≤ length tokens → expectation_text known (token_contents tokens) ≡ resolved_word_text known (get_or tokens 1 d).text.now ++ flat_map (space_and_resolved_word known) (drop 2 tokens)
long_text known [] d long = absurd (omega arith)
long_text known (token ∷ []) d long = absurd (omega arith)
long_text known (token ∷ first ∷ rest) d long = ap (λ (l : List ℕ). resolved_word_text known first.text.now ++ l) (sym (spaced_same known rest))

-- the words after the first two, as they are counted
pub further_words : (tokens : List Token) → take (length tokens - 2) (drop 2 tokens) ≡ drop 2 tokens
further_words tokens = take_all (length tokens - 2) (drop 2 tokens) (omega (arith, length-drop 2 tokens))

-- ---- one line after another

module _ (known : ConstantAndLabelNames) (words : List PlacedToken) (line : ℕ) (rest whole first behind : List ℕ) (e : source_lines rest ≡ whole ∷ source_lines behind) (without : first ≡ stripped_source_line line whole) where
  expected_here : expectations_of_lines known words line (source_lines rest)
      ≡ (if bytes_eq first (codes "end") then [] else expectation_of_tokens known (nodes_before_line line words) line (tokens_of_line_with_expectation line first) ++ expectations_of_lines known words (next_line_number line) (source_lines behind))
  unfolding expectations_of_lines
  expected_here =
      ap (expectations_of_lines known words line) e
      ∙ ap (λ (text : List ℕ). if bytes_eq text (codes "end") then [] else expectation_of_tokens known (nodes_before_line line words) line (tokens_of_line_with_expectation line text) ++ expectations_of_lines known words (next_line_number line) (source_lines behind)) (sym without)

  -- a line `end`
  pub expected_end : bytes_eq first (codes "end") ≡ true → expectations_of_lines known words line (source_lines rest) ≡ []
  expected_end is = expected_here ∙ cond-true (bytes_eq first (codes "end")) [] (expectation_of_tokens known (nodes_before_line line words) line (tokens_of_line_with_expectation line first) ++ expectations_of_lines known words (next_line_number line) (source_lines behind)) is

  -- any other line
  pub expected_other : bytes_eq first (codes "end") ≡ false → expectations_of_lines known words line (source_lines rest) ≡ expectation_of_tokens known (nodes_before_line line words) line (tokens_of_line_with_expectation line first) ++ expectations_of_lines known words (next_line_number line) (source_lines behind)
  expected_other other = expected_here ∙ cond-false (bytes_eq first (codes "end")) [] (expectation_of_tokens known (nodes_before_line line words) line (tokens_of_line_with_expectation line first) ++ expectations_of_lines known words (next_line_number line) (source_lines behind)) other

-- no line is left
pub expected_none : (known : ConstantAndLabelNames) (words : List PlacedToken) (line : ℕ) (rest : List ℕ) → length rest ≡ 0 → expectations_of_lines known words line (source_lines rest) ≡ []
unfolding parts_ended_by_bytes expectations_of_lines
expected_none known words line [] none = refl
expected_none known words line (b ∷ rest) none = absurd (omega arith)

-- ---- joined with those of the lines before

pub expected_all : (told left all : List ExpectationContent) → left ≡ [] → told ++ left ≡ all → told ≡ all
expected_all told left all none e = sym (append-nil told) ∙ (ap (λ (l : List ExpectationContent). told ++ l) (sym none) ∙ e)

pub expected_more : (told left all new part rest : List ExpectationContent) → new ≡ told ++ part → left ≡ part ++ rest → told ++ left ≡ all → new ++ rest ≡ all
expected_more told left all new part rest pushed parts e =
    ap (λ (l : List ExpectationContent). l ++ rest) pushed ∙ (append_assoc told part rest ∙ (ap (λ (l : List ExpectationContent). told ++ l) (sym parts) ∙ e))
