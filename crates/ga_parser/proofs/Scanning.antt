-- What a text says, and in which columns, as it is read line by line and word by word.
use Rattle.std.proofs.Common.{◌≡◌, ◌∙◌, ℕ, zero, suc, ◌+◌, ◌<◌, ◌≤◌, Bool, true, false, not, cond, ltb, List, [], ◌∷◌, ◌++◌, length, map, take, drop, get_or, arith, ap, sym, refl, add-one, append_assoc, append-nil, ◌-◌}
use Rattle.std.specs.Prelude.{◌==◌, if◌then◌else◌, codes, bytes_eq, filter}
use Rattle.std.specs.List.{list_all}
use Rattle.std.proofs.lemmas.Bool.{cond-true, cond-false, both_ways, le-ltb, lt-ltb}
use Rattle.ga_text.specs.Lines.{lines_with_added_front_byte, lines_of_text}
use Rattle.ga_parser.specs.declared.scan.Token.{Token}
use Rattle.ga_parser.specs.declared.scan.TokenKind.TheVariants.{LongLine, OpenComment}
use Rattle.ga_parser.specs.Saying.{parts_ended_by_bytes, is_blank, source_lines, has_bytes, source_words, max_source_line_bytes, stripped_source_line, TokenContent, word_token, line_fault_token, is_word_token, is_comment_end, tokens_of_words, tokens_of_line_with_expectation, begins_expectation, expectation_tokens, tokens_of_line, token_content, token_contents, token_columns, next_line_number, tokens_of_lines, column_of_word_part, columns_of_parts, columns_of_line_with_expectation, expectation_columns, columns_of_line, columns_of_lines}
use Rattle.ga_parser.specs.inner.Drafting.{AreTokensListedBeforeRest}

-- ---- what was added to a list

-- what was added
pub added_last : {X Y : Type 0} (f : X → Y) (old new : List X) (more : List Y) → map f new ≡ map f old ++ more → map f (drop (length old) new) ≡ more
added_last f [] new more e = e
added_last f (x ∷ old) [] more e = cc
added_last f (x ∷ old) (y ∷ new) more e = added_last f old new more (ap (drop 1) e)

-- what was there before
pub added_front : {X Y : Type 0} (f : X → Y) (old new : List X) (more : List Y) → map f new ≡ map f old ++ more → map f (take (length old) new) ≡ map f old
added_front f [] new more e = refl
added_front f (x ∷ old) [] more e = cc
added_front f (x ∷ old) (y ∷ new) more e =
    ap (λ z. z ∷ map f (take (length old) new)) (ap (λ l. get_or l 0 (f x)) e)
    ∙ ap (λ l. f x ∷ l) (added_front f old new more (ap (drop 1) e))

-- ---- parts

-- a byte that doesn't end it belongs to the part
pub past_byte : (ends : ℕ → Bool) (b : ℕ) (text : List ℕ) → ends b ≡ false → parts_ended_by_bytes ends (b ∷ text) ≡ lines_with_added_front_byte b (parts_ended_by_bytes ends text)
unfolding parts_ended_by_bytes
past_byte ends b text other = rw other refl

-- the first part ends before the first byte that ends one
pub at_end : (ends : ℕ → Bool) (text : List ℕ) (i : ℕ) → i < length text → ((k : ℕ) → k < i → ends (get_or text k 0) ≡ false) → ends (get_or text i 0) ≡ true → parts_ended_by_bytes ends text ≡ take i text ∷ parts_ended_by_bytes ends (drop (i + 1) text)
unfolding parts_ended_by_bytes
at_end ends [] i within none here = absurd (omega arith)
at_end ends (b ∷ text) zero within none here = rw here refl
at_end ends (b ∷ text) (suc i) within none here =
    let again : parts_ended_by_bytes ends text ≡ take i text ∷ parts_ended_by_bytes ends (drop (i + 1) text) = at_end ends text i (omega arith) (λ k below. none (suc k) (omega arith)) here in
    past_byte ends b text (none 0 (omega arith)) ∙ ap (lines_with_added_front_byte b) again ∙ rw (add-one, add-one) refl

-- without one the text is a part
pub no_end : (ends : ℕ → Bool) (text : List ℕ) → 0 < length text → ((k : ℕ) → k < length text → ends (get_or text k 0) ≡ false) → parts_ended_by_bytes ends text ≡ text ∷ parts_ended_by_bytes ends []
unfolding parts_ended_by_bytes
no_end ends [] some none = absurd (omega arith)
no_end ends (b ∷ []) some none = past_byte ends b [] (none 0 (omega arith))
no_end ends (b ∷ c ∷ text) some none =
    past_byte ends b (c ∷ text) (none 0 (omega arith)) ∙ ap (lines_with_added_front_byte b) (no_end ends (c ∷ text) (omega arith) (λ k below. none (suc k) (omega arith)))

-- ---- lines

-- lines are the parts that line feeds end
pub same_lines : (text : List ℕ) → lines_of_text text ≡ source_lines text
unfolding parts_ended_by_bytes
same_lines [] = refl
same_lines (byte ∷ text) = ap (λ (lines : List (List ℕ)). if byte == 10 then [] ∷ lines else lines_with_added_front_byte byte lines) (same_lines text)

-- so the first line is that of a source
pub first_split : (text first rest : List ℕ) → lines_of_text text ≡ first ∷ lines_of_text rest → source_lines text ≡ first ∷ source_lines rest
first_split text first rest e = sym (same_lines text) ∙ (e ∙ ap (λ (lines : List (List ℕ)). first ∷ lines) (same_lines rest))

-- ---- the words of a line

-- a part with bytes is a word, and one without is none
words_split : (rest part behind : List ℕ) → parts_ended_by_bytes is_blank rest ≡ part ∷ parts_ended_by_bytes is_blank behind → source_words rest ≡ cond (has_bytes part) (part ∷ source_words behind) (source_words behind)
words_split rest part behind e = ap (λ (parts : List (List ℕ)). filter has_bytes parts) e

-- a line without bytes has no word
pub no_words : (rest : List ℕ) → length rest ≡ 0 → source_words rest ≡ []
unfolding parts_ended_by_bytes
no_words [] none = refl
no_words (b ∷ rest) none = absurd (omega arith)

-- a word, or no bytes, after a `(` that isn't closed yet
pub hear_open : (line : ℕ) (rest part behind : List ℕ) → parts_ended_by_bytes is_blank rest ≡ part ∷ parts_ended_by_bytes is_blank behind → tokens_of_words line true (source_words rest) ≡ tokens_of_words line (not (is_comment_end part)) (source_words behind)
unfolding tokens_of_words
hear_open line rest [] behind e = ap (tokens_of_words line true) (words_split rest [] behind e)
hear_open line rest (b ∷ part) behind e = ap (tokens_of_words line true) (words_split rest (b ∷ part) behind e)

-- `\` as a word
pub hear_remark : (line : ℕ) (rest part behind : List ℕ) → parts_ended_by_bytes is_blank rest ≡ part ∷ parts_ended_by_bytes is_blank behind → bytes_eq part (codes "\\") ≡ true → tokens_of_words line false (source_words rest) ≡ []
unfolding tokens_of_words
hear_remark line rest [] behind e remark = absurd (both_ways false refl remark)
hear_remark line rest (b ∷ part) behind e remark =
    ap (tokens_of_words line false) (words_split rest (b ∷ part) behind e) ∙ cond-true (bytes_eq (b ∷ part) (codes "\\")) [] _ remark

-- `(` as a word
pub hear_opening : (line : ℕ) (rest part behind : List ℕ) → parts_ended_by_bytes is_blank rest ≡ part ∷ parts_ended_by_bytes is_blank behind → bytes_eq part (codes "\\") ≡ false → bytes_eq part (codes "(") ≡ true → tokens_of_words line false (source_words rest) ≡ tokens_of_words line true (source_words behind)
unfolding tokens_of_words
hear_opening line rest [] behind e no_remark opening = absurd (both_ways false refl opening)
hear_opening line rest (b ∷ part) behind e no_remark opening =
    ap (tokens_of_words line false) (words_split rest (b ∷ part) behind e)
    ∙ (cond-false (bytes_eq (b ∷ part) (codes "\\")) [] _ no_remark
    ∙ cond-true (bytes_eq (b ∷ part) (codes "(")) (tokens_of_words line true (source_words behind)) _ opening)

-- no bytes
pub hear_nothing : (line : ℕ) (rest part behind : List ℕ) → parts_ended_by_bytes is_blank rest ≡ part ∷ parts_ended_by_bytes is_blank behind → length part ≡ 0 → tokens_of_words line false (source_words rest) ≡ tokens_of_words line false (source_words behind)
hear_nothing line rest [] behind e none = ap (tokens_of_words line false) (words_split rest [] behind e)
hear_nothing line rest (b ∷ part) behind e none = absurd (omega arith)

-- any other word
pub hear_word : (line : ℕ) (rest part behind : List ℕ) → parts_ended_by_bytes is_blank rest ≡ part ∷ parts_ended_by_bytes is_blank behind → 0 < length part → bytes_eq part (codes "\\") ≡ false → bytes_eq part (codes "(") ≡ false → tokens_of_words line false (source_words rest) ≡ word_token line part ∷ tokens_of_words line false (source_words behind)
unfolding tokens_of_words
hear_word line rest [] behind e some no_remark no_opening = absurd (omega arith)
hear_word line rest (b ∷ part) behind e some no_remark no_opening =
    ap (tokens_of_words line false) (words_split rest (b ∷ part) behind e)
    ∙ (cond-false (bytes_eq (b ∷ part) (codes "\\")) [] _ no_remark
    ∙ cond-false (bytes_eq (b ∷ part) (codes "(")) (tokens_of_words line true (source_words behind)) _ no_opening)

-- ---- one line after another

module _ (line : ℕ) (rest whole first behind : List ℕ) (e : source_lines rest ≡ whole ∷ source_lines behind) (without : first ≡ stripped_source_line line whole) where
  -- the line without what an editor added
  line_said : tokens_of_lines line (source_lines rest) ≡ (if bytes_eq first (codes "end") then [] else tokens_of_line line first ++ tokens_of_lines (next_line_number line) (source_lines behind))
  unfolding tokens_of_lines
  line_said =
      ap (tokens_of_lines line) e
      ∙ ap (λ (text : List ℕ). if bytes_eq text (codes "end") then [] else tokens_of_line line text ++ tokens_of_lines (next_line_number line) (source_lines behind)) (sym without)

  -- a line `end`
  pub ends_here : bytes_eq first (codes "end") ≡ true → tokens_of_lines line (source_lines rest) ≡ []
  ends_here is = line_said ∙ cond-true (bytes_eq first (codes "end")) [] (tokens_of_line line first ++ tokens_of_lines (next_line_number line) (source_lines behind)) is

  -- any other line
  pub other_line : bytes_eq first (codes "end") ≡ false → tokens_of_lines line (source_lines rest) ≡ tokens_of_line line first ++ tokens_of_lines (next_line_number line) (source_lines behind)
  other_line other = line_said ∙ cond-false (bytes_eq first (codes "end")) [] (tokens_of_line line first ++ tokens_of_lines (next_line_number line) (source_lines behind)) other

-- no line is left
pub no_line_left : (line : ℕ) (rest : List ℕ) → length rest ≡ 0 → tokens_of_lines line (source_lines rest) ≡ []
unfolding parts_ended_by_bytes tokens_of_lines
no_line_left line [] none = refl
no_line_left line (b ∷ rest) none = absurd (omega arith)

-- ---- joined with what was said before

-- nothing is left
pub said_all : (told left said : List TokenContent) → left ≡ [] → told ++ left ≡ said → told ≡ said
said_all told left said none all = sym (append-nil told) ∙ (ap (λ (l : List TokenContent). told ++ l) (sym none) ∙ all)

-- what was left has been listed
pub said_last : (told left said new part : List TokenContent) → new ≡ told ++ part → left ≡ part → told ++ left ≡ said → new ≡ said
said_last told left said new part e is all = e ∙ (ap (λ (l : List TokenContent). told ++ l) (sym is) ∙ all)

-- what was left has been listed except for some
pub resolution_with_token : (told left said new part rest : List TokenContent) → new ≡ told ++ part → left ≡ part ++ rest → told ++ left ≡ said → new ++ rest ≡ said
resolution_with_token told left said new part rest e parts all =
    ap (λ (l : List TokenContent). l ++ rest) e ∙ (append_assoc told part rest ∙ (ap (λ (l : List TokenContent). told ++ l) (sym parts) ∙ all))

-- ---- within a line

-- the same tokens are left after a part
pub told_same : (line : ℕ) (text : List ℕ) (before now : List TokenContent) (was is : Bool) (rest behind : List ℕ) → tokens_of_words line was (source_words rest) ≡ tokens_of_words line is (source_words behind) → AreTokensListedBeforeRest line text before now was rest → AreTokensListedBeforeRest line text before now is behind
told_same line text before now was is rest behind e told = record {
  says = ap (λ (l : List TokenContent). now ++ l) (sym e) ∙ told.says;
  whole = ap (list_all is_word_token) (sym e) ∙ told.whole;
}

-- a word has been listed
pub told_word : (line : ℕ) (text : List ℕ) (before now new : List TokenContent) (is_open : Bool) (rest part behind : List ℕ) → is_open ≡ false → new ≡ now ++ word_token line part ∷ [] → tokens_of_words line false (source_words rest) ≡ word_token line part ∷ tokens_of_words line false (source_words behind) → AreTokensListedBeforeRest line text before now is_open rest → AreTokensListedBeforeRest line text before new is_open behind
told_word line text before now new true rest part behind closed pushed e told = absurd (both_ways true closed refl)
told_word line text before now new false rest part behind closed pushed e told = record {
  says = resolution_with_token now (tokens_of_words line false (source_words rest)) (before ++ tokens_of_words line false (source_words text)) new (word_token line part ∷ []) (tokens_of_words line false (source_words behind)) pushed e told.says;
  whole = ap (list_all is_word_token) (sym e) ∙ told.whole;
}

-- at the end of a line
pub none_left : (line : ℕ) (rest : List ℕ) → length rest ≡ 0 → tokens_of_words line false (source_words rest) ≡ []
unfolding tokens_of_words
none_left line rest none = ap (tokens_of_words line false) (no_words rest none)

pub open_left : (line : ℕ) (rest : List ℕ) → length rest ≡ 0 → tokens_of_words line true (source_words rest) ≡ line_fault_token line OpenComment ∷ []
unfolding tokens_of_words
open_left line rest none = ap (tokens_of_words line true) (no_words rest none)

-- a line that isn't too long says what its words say
pub short_line : (line : ℕ) (text : List ℕ) → length text ≤ 200 → tokens_of_line_with_expectation line text ≡ tokens_of_words line false (source_words text)
short_line line text short = cond-false (ltb max_source_line_bytes (length text)) (line_fault_token line LongLine ∷ []) (tokens_of_words line false (source_words text)) (le-ltb max_source_line_bytes (length text) short)

pub long_line : (line : ℕ) (text : List ℕ) → 200 < length text → tokens_of_line_with_expectation line text ≡ line_fault_token line LongLine ∷ []
long_line line text long = cond-true (ltb max_source_line_bytes (length text)) (line_fault_token line LongLine ∷ []) (tokens_of_words line false (source_words text)) (lt-ltb max_source_line_bytes (length text) long)

pub line_told : (line : ℕ) (text : List ℕ) (before now new left : List TokenContent) (is_open : Bool) (rest : List ℕ) → length text ≤ 200 → AreTokensListedBeforeRest line text before now is_open rest → tokens_of_words line is_open (source_words rest) ≡ left → new ≡ now ++ left → new ≡ before ++ tokens_of_line_with_expectation line text
line_told line text before now new left is_open rest short told e pushed =
    said_last now (tokens_of_words line is_open (source_words rest)) (before ++ tokens_of_words line false (source_words text)) new left pushed e told.says
    ∙ ap (λ (l : List TokenContent). before ++ l) (sym (short_line line text short))

pub line_whole : (line : ℕ) (text : List ℕ) (before now left : List TokenContent) (is_open : Bool) (rest : List ℕ) → length text ≤ 200 → AreTokensListedBeforeRest line text before now is_open rest → tokens_of_words line is_open (source_words rest) ≡ left → list_all is_word_token left ≡ list_all is_word_token (tokens_of_line_with_expectation line text)
line_whole line text before now left is_open rest short told e =
    ap (list_all is_word_token) (sym e) ∙ (told.whole ∙ ap (list_all is_word_token) (sym (short_line line text short)))

-- ---- expectations

-- what follows the tokens that were there is what the line has
pub begins_added : (line : ℕ) (text : List ℕ) (old new rest : List Token) (before : ℕ) (begins : Bool) → token_contents new ≡ token_contents old ++ tokens_of_line_with_expectation line text → before ≡ length old → rest ≡ drop before new → begins ≡ begins_expectation (token_contents rest)
    → begins_expectation (tokens_of_line_with_expectation line text) ≡ begins
begins_added line text old new rest before begins says size back is =
    let same : token_contents (drop before new) ≡ tokens_of_line_with_expectation line text = ap (λ (n : ℕ). token_contents (drop n new)) size ∙ added_last token_content old new (tokens_of_line_with_expectation line text) says in
    sym (is ∙ (ap (λ (r : List Token). begins_expectation (token_contents r)) back ∙ ap begins_expectation same))

-- and without it the tokens are those that were there
pub truncated_tokens : (old new left : List Token) (before : ℕ) (more : List TokenContent) → token_contents new ≡ token_contents old ++ more → before ≡ length old → left ≡ take before new → token_contents left ≡ token_contents old
truncated_tokens old new left before more says size front = ap token_contents (front ∙ ap (λ (n : ℕ). take n new) size) ∙ added_front token_content old new more says

pub truncated_columns : (old new left : List Token) (before : ℕ) (more : List ℕ) → token_columns new ≡ token_columns old ++ more → before ≡ length old → left ≡ take before new → token_columns left ≡ token_columns old
truncated_columns old new left before more says size front = ap token_columns (front ∙ ap (λ (n : ℕ). take n new) size) ∙ added_front (λ (token : Token). token.column) old new more says

module _ (line : ℕ) (text : List ℕ) where
  -- a line that is no expectation
  pub plain_line : begins_expectation (tokens_of_line_with_expectation line text) ≡ false → tokens_of_line line text ≡ tokens_of_line_with_expectation line text
  plain_line other = cond-false (begins_expectation (tokens_of_line_with_expectation line text)) (expectation_tokens line (tokens_of_line_with_expectation line text)) (tokens_of_line_with_expectation line text) other

  pub plain_columns : begins_expectation (tokens_of_line_with_expectation line text) ≡ false → columns_of_line line text ≡ columns_of_line_with_expectation text
  plain_columns other = cond-false (begins_expectation (tokens_of_line_with_expectation line text)) (expectation_columns (tokens_of_line_with_expectation line text)) (columns_of_line_with_expectation text) other

  module _ (begins : begins_expectation (tokens_of_line_with_expectation line text) ≡ true) where
    expected_line : tokens_of_line line text ≡ expectation_tokens line (tokens_of_line_with_expectation line text)
    expected_line = cond-true (begins_expectation (tokens_of_line_with_expectation line text)) (expectation_tokens line (tokens_of_line_with_expectation line text)) (tokens_of_line_with_expectation line text) begins

    expected_columns : columns_of_line line text ≡ expectation_columns (tokens_of_line_with_expectation line text)
    expected_columns = cond-true (begins_expectation (tokens_of_line_with_expectation line text)) (expectation_columns (tokens_of_line_with_expectation line text)) (columns_of_line_with_expectation text) begins

    -- an expectation without a fault
    pub whole_expectation : list_all is_word_token (tokens_of_line_with_expectation line text) ≡ true → tokens_of_line line text ≡ []
    whole_expectation whole = expected_line ∙ cond-true (list_all is_word_token (tokens_of_line_with_expectation line text)) [] (line_fault_token line OpenComment ∷ []) whole

    pub whole_columns : list_all is_word_token (tokens_of_line_with_expectation line text) ≡ true → columns_of_line line text ≡ []
    whole_columns whole = expected_columns ∙ cond-true (list_all is_word_token (tokens_of_line_with_expectation line text)) [] (1 ∷ []) whole

    -- one in which a comment is left open
    pub open_expectation : list_all is_word_token (tokens_of_line_with_expectation line text) ≡ false → tokens_of_line line text ≡ line_fault_token line OpenComment ∷ []
    open_expectation faulty = expected_line ∙ cond-false (list_all is_word_token (tokens_of_line_with_expectation line text)) [] (line_fault_token line OpenComment ∷ []) faulty

    pub open_columns : list_all is_word_token (tokens_of_line_with_expectation line text) ≡ false → columns_of_line line text ≡ 1 ∷ []
    open_columns faulty = expected_columns ∙ cond-false (list_all is_word_token (tokens_of_line_with_expectation line text)) [] (1 ∷ []) faulty

-- ---- joined with what was listed before

pub columns_all : (told left all : List ℕ) → left ≡ [] → told ++ left ≡ all → told ≡ all
columns_all told left all none e = sym (append-nil told) ∙ (ap (λ (l : List ℕ). told ++ l) (sym none) ∙ e)

pub columns_last : (told left all new part : List ℕ) → new ≡ told ++ part → left ≡ part → told ++ left ≡ all → new ≡ all
columns_last told left all new part pushed is e = pushed ∙ (ap (λ (l : List ℕ). told ++ l) (sym is) ∙ e)

pub columns_more : (told left all new part rest : List ℕ) → new ≡ told ++ part → left ≡ part ++ rest → told ++ left ≡ all → new ++ rest ≡ all
columns_more told left all new part rest pushed parts e =
    ap (λ (l : List ℕ). l ++ rest) pushed ∙ (append_assoc told part rest ∙ (ap (λ (l : List ℕ). told ++ l) (sym parts) ∙ e))

pub columns_same : (told left all rest : List ℕ) → left ≡ rest → told ++ left ≡ all → told ++ rest ≡ all
columns_same told left all rest is e = ap (λ (l : List ℕ). told ++ l) (sym is) ∙ e

-- ---- within a line

-- where nothing is left, no column counts
no_columns : (c d : ℕ) (is_open : Bool) → columns_of_parts c is_open [] ≡ columns_of_parts d is_open []
unfolding columns_of_parts
no_columns c d false = refl
no_columns c d true = refl

-- The column of the rest is that after a part and the byte that ends it.
pub next_column : (size : ℕ) (rest part behind : List ℕ) (is_open : Bool) → length rest ≤ size → length behind ≡ length rest - (length part + 1)
    → columns_of_parts (size - length rest + 1 + length part + 1) is_open (parts_ended_by_bytes is_blank behind) ≡ columns_of_parts (size - length behind + 1) is_open (parts_ended_by_bytes is_blank behind)
unfolding parts_ended_by_bytes
next_column size rest part [] is_open within left = no_columns _ _ is_open
next_column size rest part (b ∷ behind) is_open within left =
    ap (λ (c : ℕ). columns_of_parts c is_open (parts_ended_by_bytes is_blank (b ∷ behind))) (omega arith)

module _ (size : ℕ) (rest part behind : List ℕ) (e : parts_ended_by_bytes is_blank rest ≡ part ∷ parts_ended_by_bytes is_blank behind) (within : length rest ≤ size) (left : length behind ≡ length rest - (length part + 1)) where
  -- a part after a `(` that isn't closed yet
  pub columns_open : columns_of_parts (size - length rest + 1) true (parts_ended_by_bytes is_blank rest) ≡ columns_of_parts (size - length behind + 1) (not (is_comment_end part)) (parts_ended_by_bytes is_blank behind)
  unfolding columns_of_parts
  columns_open = ap (columns_of_parts (size - length rest + 1) true) e ∙ next_column size rest part behind (not (is_comment_end part)) within left

  -- `\`
  pub columns_remark : bytes_eq part (codes "\\") ≡ true → columns_of_parts (size - length rest + 1) false (parts_ended_by_bytes is_blank rest) ≡ []
  unfolding columns_of_parts
  columns_remark remark = ap (columns_of_parts (size - length rest + 1) false) e ∙ cond-true (bytes_eq part (codes "\\")) [] _ remark

  -- `(`
  pub columns_opening : bytes_eq part (codes "\\") ≡ false → bytes_eq part (codes "(") ≡ true → columns_of_parts (size - length rest + 1) false (parts_ended_by_bytes is_blank rest) ≡ columns_of_parts (size - length behind + 1) true (parts_ended_by_bytes is_blank behind)
  unfolding columns_of_parts
  columns_opening no_remark opening =
      ap (columns_of_parts (size - length rest + 1) false) e
      ∙ (cond-false (bytes_eq part (codes "\\")) [] _ no_remark
      ∙ (cond-true (bytes_eq part (codes "(")) (columns_of_parts (size - length rest + 1 + length part + 1) true (parts_ended_by_bytes is_blank behind)) _ opening
      ∙ next_column size rest part behind true within left))

  -- any other part
  columns_plain : bytes_eq part (codes "\\") ≡ false → bytes_eq part (codes "(") ≡ false → columns_of_parts (size - length rest + 1) false (parts_ended_by_bytes is_blank rest) ≡ column_of_word_part (size - length rest + 1) part ++ columns_of_parts (size - length behind + 1) false (parts_ended_by_bytes is_blank behind)
  unfolding columns_of_parts
  columns_plain no_remark no_opening =
      ap (columns_of_parts (size - length rest + 1) false) e
      ∙ (cond-false (bytes_eq part (codes "\\")) [] _ no_remark
      ∙ (cond-false (bytes_eq part (codes "(")) (columns_of_parts (size - length rest + 1 + length part + 1) true (parts_ended_by_bytes is_blank behind)) _ no_opening
      ∙ ap (λ (l : List ℕ). column_of_word_part (size - length rest + 1) part ++ l) (next_column size rest part behind false within left)))

no_part : (column : ℕ) (part : List ℕ) → length part ≡ 0 → column_of_word_part column part ≡ []
no_part column [] none = refl
no_part column (b ∷ part) none = absurd (omega arith)

one_part : (column : ℕ) (part : List ℕ) → 0 < length part → column_of_word_part column part ≡ column ∷ []
one_part column [] some = absurd (omega arith)
one_part column (b ∷ part) some = refl

module _ (size : ℕ) (rest part behind : List ℕ) (e : parts_ended_by_bytes is_blank rest ≡ part ∷ parts_ended_by_bytes is_blank behind) (within : length rest ≤ size) (left : length behind ≡ length rest - (length part + 1)) where
  -- no bytes
  pub columns_nothing : bytes_eq part (codes "\\") ≡ false → bytes_eq part (codes "(") ≡ false → length part ≡ 0 → columns_of_parts (size - length rest + 1) false (parts_ended_by_bytes is_blank rest) ≡ columns_of_parts (size - length behind + 1) false (parts_ended_by_bytes is_blank behind)
  columns_nothing no_remark no_opening none =
      columns_plain size rest part behind e within left no_remark no_opening
      ∙ ap (λ (l : List ℕ). l ++ columns_of_parts (size - length behind + 1) false (parts_ended_by_bytes is_blank behind)) (no_part (size - length rest + 1) part none)

  -- a word
  pub columns_word : bytes_eq part (codes "\\") ≡ false → bytes_eq part (codes "(") ≡ false → 0 < length part → columns_of_parts (size - length rest + 1) false (parts_ended_by_bytes is_blank rest) ≡ (size - length rest + 1) ∷ [] ++ columns_of_parts (size - length behind + 1) false (parts_ended_by_bytes is_blank behind)
  columns_word no_remark no_opening some =
      columns_plain size rest part behind e within left no_remark no_opening
      ∙ ap (λ (l : List ℕ). l ++ columns_of_parts (size - length behind + 1) false (parts_ended_by_bytes is_blank behind)) (one_part (size - length rest + 1) part some)

-- at the end of a line
pub columns_none : (column : ℕ) (rest : List ℕ) → length rest ≡ 0 → columns_of_parts column false (parts_ended_by_bytes is_blank rest) ≡ []
unfolding columns_of_parts parts_ended_by_bytes
columns_none column [] none = refl
columns_none column (b ∷ rest) none = absurd (omega arith)

pub columns_left_open : (column : ℕ) (rest : List ℕ) → length rest ≡ 0 → columns_of_parts column true (parts_ended_by_bytes is_blank rest) ≡ 1 ∷ []
unfolding columns_of_parts parts_ended_by_bytes
columns_left_open column [] none = refl
columns_left_open column (b ∷ rest) none = absurd (omega arith)

-- a line that isn't too long
pub columns_short : (text : List ℕ) → length text ≤ 200 → columns_of_line_with_expectation text ≡ columns_of_parts 1 false (parts_ended_by_bytes is_blank text)
columns_short text short = cond-false (ltb max_source_line_bytes (length text)) (1 ∷ []) (columns_of_parts 1 false (parts_ended_by_bytes is_blank text)) (le-ltb max_source_line_bytes (length text) short)

pub columns_long : (text : List ℕ) → 200 < length text → columns_of_line_with_expectation text ≡ 1 ∷ []
columns_long text long = cond-true (ltb max_source_line_bytes (length text)) (1 ∷ []) (columns_of_parts 1 false (parts_ended_by_bytes is_blank text)) (lt-ltb max_source_line_bytes (length text) long)

-- the rest of the line has been listed
pub columns_line : (text told left all new part : List ℕ) → length text ≤ 200 → new ≡ told ++ part → left ≡ part → told ++ left ≡ all ++ columns_of_parts 1 false (parts_ended_by_bytes is_blank text) → new ≡ all ++ columns_of_line_with_expectation text
columns_line text told left all new part short pushed is e =
    columns_last told left (all ++ columns_of_parts 1 false (parts_ended_by_bytes is_blank text)) new part pushed is e
    ∙ ap (λ (l : List ℕ). all ++ l) (sym (columns_short text short))

-- ---- one line after another

module _ (line : ℕ) (rest whole first behind : List ℕ) (e : source_lines rest ≡ whole ∷ source_lines behind) (without : first ≡ stripped_source_line line whole) where
  columns_here : columns_of_lines line (source_lines rest) ≡ (if bytes_eq first (codes "end") then [] else columns_of_line line first ++ columns_of_lines (next_line_number line) (source_lines behind))
  unfolding columns_of_lines
  columns_here =
      ap (columns_of_lines line) e
      ∙ ap (λ (text : List ℕ). if bytes_eq text (codes "end") then [] else columns_of_line line text ++ columns_of_lines (next_line_number line) (source_lines behind)) (sym without)

  -- a line `end`
  pub columns_end_here : bytes_eq first (codes "end") ≡ true → columns_of_lines line (source_lines rest) ≡ []
  columns_end_here is = columns_here ∙ cond-true (bytes_eq first (codes "end")) [] (columns_of_line line first ++ columns_of_lines (next_line_number line) (source_lines behind)) is

  -- any other
  pub columns_other_line : bytes_eq first (codes "end") ≡ false → columns_of_lines line (source_lines rest) ≡ columns_of_line line first ++ columns_of_lines (next_line_number line) (source_lines behind)
  columns_other_line other = columns_here ∙ cond-false (bytes_eq first (codes "end")) [] (columns_of_line line first ++ columns_of_lines (next_line_number line) (source_lines behind)) other

-- no line is left
pub no_columns_left : (line : ℕ) (rest : List ℕ) → length rest ≡ 0 → columns_of_lines line (source_lines rest) ≡ []
unfolding parts_ended_by_bytes columns_of_lines
no_columns_left line [] none = refl
no_columns_left line (b ∷ rest) none = absurd (omega arith)
