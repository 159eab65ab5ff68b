-- Texts that say words, line by line.
use Rattle.std.specs.Prelude.{◌-◌, ◌==◌, not, codes, bytes_eq, filter, slice_index, take, drop, if◌then◌else◌, suc, slice_index_or, ◌≢◌, Some}
use Rattle.std.proofs.Common.{◌≡◌, ◌∙◌, ℕ, ◌+◌, ◌/◌, ◌%◌, ◌<◌, ◌≤◌, Bool, true, false, ◌&&◌, List, [], ◌∷◌, ◌++◌, length, map, refl, arith, ap, ap₂, sym, inl, inr, append_assoc, length-append, subst}
use Rattle.std.specs.List.{list_all, All, AllByRecursion}
use Rattle.std.proofs.lemmas.List.{map-append, append-nil}
use Rattle.std.proofs.lemmas.List.Folds.{list_all-append}
use Rattle.std.proofs.lemmas.Slice.Eq.{bytes_eq-Decides}
use Rattle.std.proofs.lemmas.Bool.{cases_Bool, and_parts, and_from, cond-false, ltb-true, lt-ltb, ne_eqb, false≢true}
use Rattle.ga_text.specs.Lines.{Text, Bytes, Line, HasNoLineFeed, line_with_line_feed, text_of_lines, is_line_end_byte, lines_with_added_front_byte}
use Rattle.ga_text.specs.Digits.{three_decimal_digits}
use Rattle.ga_parser.specs.Saying.{parts_ended_by_bytes, is_line_feed, is_blank, source_lines, has_bytes, source_words, byte_order_mark, line_without_carriage_return, stripped_source_line, TokenContent, word_token, is_word_token, tokens_of_words, tokens_of_line_with_expectation, begins_expectation, expectation_tokens, tokens_of_line, next_line_number, tokens_of_lines, tokens_through_first_fault, PlacedToken, tokens_with_columns, columns_of_line, columns_of_lines, scanned_tokens}
use Rattle.ga_parser.specs.Words.{source_tokens_until_fault, placed_source_tokens}
use Rattle.ga_parser.specs.Constants.{tokens_without_definitions}
use Rattle.ga_parser.specs.Groups.{expand_node_groups}
use Rattle.ga_parser.specs.Groups.NodeNamingProgress.{Nothing}
use Rattle.ga_asm_text.specs.inner.{SourceWordText, TextSaysWords, IsOrdinarySourceWord, LacksByteOrderMark, is_comment_byte, is_shown_byte}
use Rattle.ga_asm_text.proofs.Unchanged.{not_true}
use Rattle.ga_parser.proofs.Scanning.{short_line}
use Rattle.std.proofs.lemmas.List.Elements.{All-head, All-tail}
use Rattle.ga_node.specs.Record.{NodeState}
use Rattle.ga_grid.specs.Chip.{node_at}
use Rattle.ga_grid.specs.Grid.{default_chip}
use Rattle.ga_parser.specs.Plain.{body_word_lists, named_node_number}
use Rattle.ga_source.specs.Made.{HasNodeOfPlainWords, IsChipOfSource}
use Rattle.ga_text.specs.Image.{IsImageBodyLine, EndsWithEndLine, image_end_line}
use Rattle.ga_text.specs.Output.{IsImageReadWhole}

-- ---- parts of texts

-- what follows a part
pub part_behind : (ends : ℕ → Bool) (part : List ℕ) (byte : ℕ) (rest : List ℕ) → list_all (λ b. not (ends b)) part ≡ true → ends byte ≡ true → parts_ended_by_bytes ends (part ++ byte ∷ rest) ≡ part ∷ parts_ended_by_bytes ends rest
unfolding parts_ended_by_bytes
part_behind ends [] byte rest inner end = rw end refl
part_behind ends (b ∷ part) byte rest inner end =
    let parts = and_parts (not (ends b)) (list_all (λ b. not (ends b)) part) inner in
    rw (not_true (ends b) parts.0) (ap (lines_with_added_front_byte b) (part_behind ends part byte rest parts.1 end))

-- the last part
pub part_last : (ends : ℕ → Bool) (byte : ℕ) (part : List ℕ) → list_all (λ b. not (ends b)) (byte ∷ part) ≡ true → parts_ended_by_bytes ends (byte ∷ part) ≡ (byte ∷ part) ∷ []
unfolding parts_ended_by_bytes
part_last ends byte [] inner = rw (not_true (ends byte) (and_parts (not (ends byte)) true inner).0) refl
part_last ends byte (b ∷ part) inner =
    let parts = and_parts (not (ends byte)) (list_all (λ b. not (ends b)) (b ∷ part)) inner in
    rw (not_true (ends byte) parts.0) (ap (lines_with_added_front_byte byte) (part_last ends b part parts.1))

-- ---- words of a line

shown_no_blank : (b : ℕ) → is_shown_byte b ≡ true → not (is_blank b) ≡ true
shown_no_blank b shown =
    let more : 32 < b = ltb-true 32 b shown in
    let one : (b == 32) ≡ false = ne_eqb b 32 (λ e. omega arith) in
    let two : (b == 9) ≡ false = ne_eqb b 9 (λ e. omega arith) in
    rw (one, two) refl

shown_inner : (b : ℕ) → is_shown_byte b ≡ true → is_comment_byte b ≡ true
shown_inner b shown =
    let more : 32 < b = ltb-true 32 b shown in
    let one : (b == 10) ≡ false = ne_eqb b 10 (λ e. omega arith) in
    let two : (b == 13) ≡ false = ne_eqb b 13 (λ e. omega arith) in
    rw (one, two) refl

-- a test that is weaker holds too
weaker : (p q : ℕ → Bool) (list : List ℕ) → ((b : ℕ) → p b ≡ true → q b ≡ true) → list_all p list ≡ true → list_all q list ≡ true
weaker p q [] less all = refl
weaker p q (b ∷ list) less all =
    let parts = and_parts (p b) (list_all p list) all in
    and_from (q b) (list_all q list) (less b parts.0) (weaker p q list less parts.1)

pub all_inner : (word : SourceWordText) → list_all is_shown_byte word ≡ true → list_all is_comment_byte word ≡ true
all_inner word shown = weaker is_shown_byte is_comment_byte word shown_inner shown

no_blank : (word : SourceWordText) → list_all is_shown_byte word ≡ true → list_all (λ b. not (is_blank b)) word ≡ true
no_blank word shown = weaker is_shown_byte (λ b. not (is_blank b)) word shown_no_blank shown

no_bytes : false ≡ true → ⊥
no_bytes e = false≢true e

-- a word with others after it
pub word_first : (line : ℕ) (word rest : List ℕ) → IsOrdinarySourceWord word → tokens_of_words line false (source_words (word ++ 32 ∷ rest)) ≡ word_token line word ∷ tokens_of_words line false (source_words rest)
unfolding tokens_of_words
word_first line [] rest is = absurd (no_bytes is.bytes)
word_first line (b ∷ word) rest is =
    ap (λ (parts : List (List ℕ)). tokens_of_words line false (filter has_bytes parts)) (part_behind is_blank (b ∷ word) 32 rest (no_blank (b ∷ word) is.shown) refl)
    ∙ (cond-false (bytes_eq (b ∷ word) (codes "\\")) [] _ is.no_remark
    ∙ cond-false (bytes_eq (b ∷ word) (codes "(")) (tokens_of_words line true (source_words rest)) _ is.no_opening)

-- the last word
pub word_last : (line : ℕ) (word : List ℕ) → IsOrdinarySourceWord word → tokens_of_words line false (source_words word) ≡ word_token line word ∷ []
unfolding tokens_of_words
word_last line [] is = absurd (no_bytes is.bytes)
word_last line (b ∷ word) is =
    ap (λ (parts : List (List ℕ)). tokens_of_words line false (filter has_bytes parts)) (part_last is_blank b word (no_blank (b ∷ word) is.shown))
    ∙ (cond-false (bytes_eq (b ∷ word) (codes "\\")) [] _ is.no_remark
    ∙ cond-false (bytes_eq (b ∷ word) (codes "(")) (tokens_of_words line true []) _ is.no_opening)

-- a comment
pub remark_last : (line : ℕ) (rest : List ℕ) → tokens_of_words line false (source_words (92 ∷ 32 ∷ rest)) ≡ []
unfolding tokens_of_words parts_ended_by_bytes
remark_last line rest = refl

-- ---- lines

and_false : (b : Bool) → (b && false) ≡ false
and_false true = refl
and_false false = refl

none_first : (words more : List SourceWordText) → words ++ more ≡ [] → words ≡ []
none_first [] more none = refl
none_first (word ∷ words) more none = cc

none_second : (words more : List SourceWordText) → words ++ more ≡ [] → more ≡ []
none_second [] more none = none
none_second (word ∷ words) more none = cc

none_both : (first second : Text) → first ≡ [] → second ≡ [] → first ++ second ≡ []
none_both first second one two = rw (one, two) refl

inner_no_feed : (b : ℕ) → is_comment_byte b ≡ true → not (is_line_feed b) ≡ true
inner_no_feed b inner = (and_parts (not (b == 10)) (not (b == 13)) inner).0

inner_no_return : (b : ℕ) → is_comment_byte b ≡ true → (b == 13) ≡ false
inner_no_return b inner = not_true (b == 13) (and_parts (not (b == 10)) (not (b == 13)) inner).1

none_and : (a b : Bool) → a ≡ false → (a && b) ≡ false
none_and true b none = absurd (false≢true (sym none))
none_and false b none = refl

-- a text that doesn't begin as a mark does has none
no_mark : (text : List ℕ) → LacksByteOrderMark text → bytes_eq (take 3 text) byte_order_mark ≡ false
no_mark [] start = refl
no_mark (b ∷ text) start = none_and (b == 0xef) (bytes_eq (take 2 text) (0xbb ∷ 0xbf ∷ [])) start

-- the last byte is no carriage return
last_byte : (b : ℕ) (text : List ℕ) → list_all is_comment_byte (b ∷ text) ≡ true → (slice_index (b ∷ text) (length text) == 13) ≡ false
last_byte b [] inner = inner_no_return b (and_parts (is_comment_byte b) true inner).0
last_byte b (c ∷ text) inner = last_byte c text (and_parts (is_comment_byte b) (list_all is_comment_byte (c ∷ text)) inner).1

no_return : (text : List ℕ) → list_all is_comment_byte text ≡ true → (slice_index text (length text - 1) == 13) ≡ false
no_return [] inner = refl
no_return (b ∷ text) inner = let e : suc (length text) - 1 ≡ length text = omega arith in rw e (last_byte b text inner)

and_none : (a b : Bool) → b ≡ false → (a && b) ≡ false
and_none true b none = none
and_none false b none = refl

-- so such a line has nothing that an editor added
pub own_line : (line : ℕ) (text : List ℕ) → LacksByteOrderMark text → list_all is_comment_byte text ≡ true → stripped_source_line line text ≡ text
own_line line text start inner =
    ap line_without_carriage_return (cond-false (line == 1 && bytes_eq (take 3 text) byte_order_mark) (drop 3 text) text (and_none (line == 1) (bytes_eq (take 3 text) byte_order_mark) (no_mark text start)))
    ∙ cond-false (slice_index text (length text - 1) == 13) (take (length text - 1) text) text (no_return text inner)

pub line_first : (line : ℕ) (text rest : Text) → LacksByteOrderMark text → list_all is_comment_byte text ≡ true → bytes_eq text (codes "end") ≡ false → tokens_of_lines line (source_lines ((text ++ 10 ∷ []) ++ rest)) ≡ tokens_of_line line text ++ tokens_of_lines (next_line_number line) (source_lines rest)
unfolding tokens_of_lines
line_first line text rest start inner other =
    ap (λ (t : Text). tokens_of_lines line (source_lines t)) (append_assoc text (10 ∷ []) rest)
    ∙ (ap (tokens_of_lines line) (part_behind is_line_feed text 10 rest (weaker is_comment_byte (λ b. not (is_line_feed b)) text inner_no_feed inner) refl)
    ∙ (ap (λ (own : List ℕ). if bytes_eq own (codes "end") then [] else tokens_of_line line own ++ tokens_of_lines (next_line_number line) (source_lines rest)) (own_line line text start inner)
    ∙ cond-false (bytes_eq text (codes "end")) [] (tokens_of_line line text ++ tokens_of_lines (next_line_number line) (source_lines rest)) other))

-- lines are none yet
pub says_nothing : TextSaysWords [] []
says_nothing = record {
  says = λ line rest. ([], line, refl, refl, refl);
  nothing = λ none. refl;
}

-- more lines
pub says_both : (first second : Text) (words more : List SourceWordText) → TextSaysWords first words → TextSaysWords second more → TextSaysWords (first ++ second) (words ++ more)
says_both first second words more one two = record {
  says = λ line rest.
      let a = one.says line (second ++ rest) in
      let b = two.says a.1 rest in (
        a.0 ++ b.0,
        b.1,
        ap (λ (text : Text). tokens_of_lines line (source_lines text)) (append_assoc first second rest)
            ∙ (a.2 ∙ (ap (λ (l : List TokenContent). a.0 ++ l) b.2 ∙ sym (append_assoc a.0 b.0 (tokens_of_lines b.1 (source_lines rest))))),
        map-append (λ (said : TokenContent). said.text) a.0 b.0 ∙ (ap (λ (l : List SourceWordText). l ++ map (λ (said : TokenContent). said.text) b.0) a.3 ∙ ap (λ (l : List SourceWordText). words ++ l) b.3),
        list_all-append is_word_token a.0 b.0 ∙ and_from (list_all is_word_token a.0) (list_all is_word_token b.0) a.4 b.4,
      );
  nothing = λ none. none_both first second (one.nothing (none_first words more none)) (two.nothing (none_second words more none));
}

all_words : (line : ℕ) (words : List SourceWordText) → (map (λ (said : TokenContent). said.text) (map (word_token line) words) ≡ words) × (list_all is_word_token (map (word_token line) words) ≡ true)
all_words line [] = (refl, refl)
all_words line (word ∷ words) = let more = all_words line words in (ap (λ (l : List SourceWordText). word ∷ l) more.0, more.1)

-- words of which the first isn't `expect` are the tokens of their line
same_first : (line : ℕ) (words : List SourceWordText) → begins_expectation (map (word_token line) words) ≡ begins_expectation (map (word_token 0) words)
same_first line [] = refl
same_first line (word ∷ words) = refl

no_expectation : (line : ℕ) (text : Text) (words : List SourceWordText) → tokens_of_line_with_expectation line text ≡ map (word_token line) words → begins_expectation (map (word_token 0) words) ≡ false → tokens_of_line line text ≡ map (word_token line) words
no_expectation line text words says plain =
    cond-false (begins_expectation (tokens_of_line_with_expectation line text)) (expectation_tokens line (tokens_of_line_with_expectation line text)) (tokens_of_line_with_expectation line text) (ap begins_expectation says ∙ (same_first line words ∙ plain))
    ∙ says

-- one line
pub says_line : (text : Text) (words : List SourceWordText) → LacksByteOrderMark text → list_all is_comment_byte text ≡ true → length text ≤ 200 → bytes_eq text (codes "end") ≡ false → (words ≡ [] → ⊥) → begins_expectation (map (word_token 0) words) ≡ false → ((line : ℕ) → tokens_of_words line false (source_words text) ≡ map (word_token line) words) → TextSaysWords (text ++ 10 ∷ []) words
says_line text words start inner short other some plain says = record {
  says = λ line rest. (
    map (word_token line) words,
    next_line_number line,
    line_first line text rest start inner other ∙ ap (λ (l : List TokenContent). l ++ tokens_of_lines (next_line_number line) (source_lines rest)) (no_expectation line text words (short_line line text short ∙ says line) plain),
    (all_words line words).0,
    (all_words line words).1,
  );
  nothing = λ none. absurd (some none);
}

-- a line with a blank isn't `end`
pub no_end : (first second : Text) → bytes_eq (first ++ 32 ∷ second) (codes "end") ≡ false
no_end first second = elim (cases_Bool (bytes_eq (first ++ 32 ∷ second) (codes "end"))) [
  | inl same ↦
      let e : first ++ 32 ∷ second ≡ codes "end" = (bytes_eq-Decides (first ++ 32 ∷ second) (codes "end")).0 same in
      let all : list_all is_shown_byte (first ++ 32 ∷ second) ≡ true = ap (list_all is_shown_byte) e in
      absurd (false≢true (sym (and_false (list_all is_shown_byte first)) ∙ (sym (list_all-append is_shown_byte first (32 ∷ second)) ∙ all)))
  | inr other ↦ other
]

-- the first word decides how a line begins
first_start : (first rest : SourceWordText) → has_bytes first ≡ true → LacksByteOrderMark first → LacksByteOrderMark (first ++ rest)
first_start [] rest some start = absurd (no_bytes some)
first_start (b ∷ first) rest some start = start

-- two words on a line
pub says_two : (first second : SourceWordText) → LacksByteOrderMark first → IsOrdinarySourceWord first → IsOrdinarySourceWord second → length first + length second ≤ 100 → TextSaysWords ((first ++ 32 ∷ second) ++ 10 ∷ []) (first ∷ second ∷ [])
says_two first second start one two short =
    says_line (first ++ 32 ∷ second) (first ∷ second ∷ []) (first_start first (32 ∷ second) one.bytes start)
    (list_all-append is_comment_byte first (32 ∷ second) ∙ and_from (list_all is_comment_byte first) (list_all is_comment_byte (32 ∷ second)) (all_inner first one.shown) (all_inner second two.shown))
    (omega (arith, length-append first (32 ∷ second)))
    (no_end first second)
    (λ none. cc)
    one.no_expect
    (λ line. word_first line first second one ∙ ap (λ (l : List TokenContent). word_token line first ∷ l) (word_last line second two))

-- ---- the name of a node

digit_shown : (n : ℕ) → is_shown_byte (48 + n) ≡ true
digit_shown n = lt-ltb 32 (48 + n) (omega arith)

three_long : (a b c d : ℕ) → bytes_eq (a ∷ b ∷ c ∷ []) (d ∷ []) ≡ false
three_long a b c d = and_false (a == d)

three_no_expect : (a b c : ℕ) → bytes_eq (a ∷ b ∷ c ∷ []) (codes "expect") ≡ false
three_no_expect a b c = and_none (a == 101) _ (and_none (b == 120) _ (and_false (c == 112)))

pub name_ordinary : (n : ℕ) → IsOrdinarySourceWord (three_decimal_digits n)
name_ordinary n = record {
  bytes = refl;
  shown = and_from (is_shown_byte (48 + n / 100)) _ (digit_shown (n / 100)) (and_from (is_shown_byte (48 + n / 10 % 10)) _ (digit_shown (n / 10 % 10)) (and_from (is_shown_byte (48 + n % 10)) true (digit_shown (n % 10)) refl));
  no_remark = three_long (48 + n / 100) (48 + n / 10 % 10) (48 + n % 10) 92;
  no_opening = three_long (48 + n / 100) (48 + n / 10 % 10) (48 + n % 10) 40;
  no_expect = three_no_expect (48 + n / 100) (48 + n / 10 % 10) (48 + n % 10);
}

pub plain_word : (word : SourceWordText) → has_bytes word ≡ true → list_all is_shown_byte word ≡ true → bytes_eq word (codes "\\") ≡ false → bytes_eq word (codes "(") ≡ false → bytes_eq word (codes "expect") ≡ false → IsOrdinarySourceWord word
plain_word word bytes shown no_remark no_opening no_expect = record { bytes = bytes; shown = shown; no_remark = no_remark; no_opening = no_opening; no_expect = no_expect }

-- the line of a node
pub says_node : (n : ℕ) → TextSaysWords (codes "node " ++ three_decimal_digits n ++ 10 ∷ []) (codes "node" ∷ three_decimal_digits n ∷ [])
says_node n = says_two (codes "node") (three_decimal_digits n) refl (plain_word (codes "node") refl refl refl refl refl) (name_ordinary n) (omega arith)

-- pieces that were added
pub grown : (old first second a b : Text) → first ≡ old ++ a → second ≡ first ++ b → second ≡ old ++ (a ++ b)
grown old first second a b e f = f ∙ (ap (λ (l : Text). l ++ b) e ∙ append_assoc old a b)

-- ---- source that is read up to its line `end` says what the whole text says

-- no byte of a line ends it
inner_of : (line : Line) → HasNoLineFeed line → list_all (λ b. not (is_line_feed b)) line ≡ true
inner_of [] none = refl
inner_of (b ∷ line) none =
    and_from
    (not (is_line_feed b))
    (list_all (λ b. not (is_line_feed b)) line)
    (ap not (All-head (λ b. is_line_end_byte b ≡ false) b line none))
    (inner_of line (All-tail (λ b. is_line_end_byte b ≡ false) b line none))

-- nothing counts from a line `end` on
end_last : (line : ℕ) (rest : Bytes) → tokens_of_lines line (source_lines (line_with_line_feed image_end_line ++ rest)) ≡ []
unfolding tokens_of_lines
end_last line rest =
    ap (tokens_of_lines line) (part_behind is_line_feed image_end_line 10 rest refl refl)
    ∙ ap (λ (own : List ℕ). if bytes_eq own (codes "end") then [] else tokens_of_line line own ++ tokens_of_lines (next_line_number line) (source_lines rest)) (own_line line image_end_line refl refl)

-- a line, and the words of those after it
line_then : (line : ℕ) (first rest : Text) → HasNoLineFeed first → tokens_of_lines line (source_lines (line_with_line_feed first ++ rest)) ≡ (if bytes_eq (stripped_source_line line first) (codes "end") then [] else tokens_of_line line (stripped_source_line line first) ++ tokens_of_lines (next_line_number line) (source_lines rest))
unfolding tokens_of_lines
line_then line first rest none =
    ap (λ (t : Text). tokens_of_lines line (source_lines t)) (append_assoc first (10 ∷ []) rest)
    ∙ ap (tokens_of_lines line) (part_behind is_line_feed first 10 rest (inner_of first none) refl)

-- lines after a line `end` have no words
to_end : (lines : List Line) → AllByRecursion IsImageBodyLine lines → (line : ℕ) (rest : Bytes) → tokens_of_lines line (source_lines ((text_of_lines lines ++ line_with_line_feed image_end_line) ++ rest)) ≡ tokens_of_lines line (source_lines (text_of_lines lines ++ line_with_line_feed image_end_line))
to_end [] body line rest = end_last line rest ∙ sym (end_last line [])
to_end (first ∷ lines) body line rest =
    let behind : Text = text_of_lines lines ++ line_with_line_feed image_end_line in
    let whole : (text_of_lines (first ∷ lines) ++ line_with_line_feed image_end_line) ++ rest ≡ line_with_line_feed first ++ (behind ++ rest) =
    ap (λ (t : Text). t ++ rest) (append_assoc (line_with_line_feed first) (text_of_lines lines) (line_with_line_feed image_end_line)) ∙ append_assoc (line_with_line_feed first) behind rest in
    ap (λ (t : Text). tokens_of_lines line (source_lines t)) whole
    ∙ (line_then line first (behind ++ rest) body.0.no_feed
    ∙ (ap (λ (l : List TokenContent). if bytes_eq (stripped_source_line line first) (codes "end") then [] else tokens_of_line line (stripped_source_line line first) ++ l) (to_end lines body.1 (next_line_number line) rest)
    ∙ (sym (line_then line first behind body.0.no_feed)
    ∙ ap (λ (t : Text). tokens_of_lines line (source_lines t)) (sym (append_assoc (line_with_line_feed first) (text_of_lines lines) (line_with_line_feed image_end_line))))))

-- nor columns
end_last_column : (line : ℕ) (rest : Bytes) → columns_of_lines line (source_lines (line_with_line_feed image_end_line ++ rest)) ≡ []
unfolding columns_of_lines
end_last_column line rest =
    ap (columns_of_lines line) (part_behind is_line_feed image_end_line 10 rest refl refl)
    ∙ ap (λ (own : List ℕ). if bytes_eq own (codes "end") then [] else columns_of_line line own ++ columns_of_lines (next_line_number line) (source_lines rest)) (own_line line image_end_line refl refl)

column_then : (line : ℕ) (first rest : Text) → HasNoLineFeed first → columns_of_lines line (source_lines (line_with_line_feed first ++ rest)) ≡ (if bytes_eq (stripped_source_line line first) (codes "end") then [] else columns_of_line line (stripped_source_line line first) ++ columns_of_lines (next_line_number line) (source_lines rest))
unfolding columns_of_lines
column_then line first rest none =
    ap (λ (t : Text). columns_of_lines line (source_lines t)) (append_assoc first (10 ∷ []) rest)
    ∙ ap (columns_of_lines line) (part_behind is_line_feed first 10 rest (inner_of first none) refl)

columns_to_end : (lines : List Line) → AllByRecursion IsImageBodyLine lines → (line : ℕ) (rest : Bytes) → columns_of_lines line (source_lines ((text_of_lines lines ++ line_with_line_feed image_end_line) ++ rest)) ≡ columns_of_lines line (source_lines (text_of_lines lines ++ line_with_line_feed image_end_line))
columns_to_end [] body line rest = end_last_column line rest ∙ sym (end_last_column line [])
columns_to_end (first ∷ lines) body line rest =
    let behind : Text = text_of_lines lines ++ line_with_line_feed image_end_line in
    let whole : (text_of_lines (first ∷ lines) ++ line_with_line_feed image_end_line) ++ rest ≡ line_with_line_feed first ++ (behind ++ rest) =
    ap (λ (t : Text). t ++ rest) (append_assoc (line_with_line_feed first) (text_of_lines lines) (line_with_line_feed image_end_line)) ∙ append_assoc (line_with_line_feed first) behind rest in
    ap (λ (t : Text). columns_of_lines line (source_lines t)) whole
    ∙ (column_then line first (behind ++ rest) body.0.no_feed
    ∙ (ap (λ (l : List ℕ). if bytes_eq (stripped_source_line line first) (codes "end") then [] else columns_of_line line (stripped_source_line line first) ++ l) (columns_to_end lines body.1 (next_line_number line) rest)
    ∙ (sym (column_then line first behind body.0.no_feed)
    ∙ ap (λ (t : Text). columns_of_lines line (source_lines t)) (sym (append_assoc (line_with_line_feed first) (text_of_lines lines) (line_with_line_feed image_end_line))))))

-- so a source up to its line `end` says what the whole text says
scanned_all : (source rest : Text) → EndsWithEndLine source → scanned_tokens (source ++ rest) ≡ scanned_tokens source
scanned_all source rest ends =
    ap (λ (t : Text). scanned_tokens (t ++ rest)) ends.splits
    ∙ (ap₂ tokens_with_columns (to_end ends.lines ends.before 1 rest) (columns_to_end ends.lines ends.before 1 rest)
    ∙ ap scanned_tokens (sym ends.splits))

says_all : (source rest : Text) → EndsWithEndLine source → source_tokens_until_fault (source ++ rest) ≡ source_tokens_until_fault source
unfolding source_tokens_until_fault placed_source_tokens
says_all source rest ends =
    ap (λ (words : List PlacedToken). tokens_through_first_fault (map (λ (one : PlacedToken). one.said) (expand_node_groups true Nothing (tokens_without_definitions words)))) (scanned_all source rest ends)

-- what was read of a text, as a source, says what the text says
pub read_says : (text read rest source ahead : Text) → text ≡ read ++ rest → read ≡ source ++ ahead → IsImageReadWhole source ahead rest → source_tokens_until_fault source ≡ source_tokens_until_fault text
read_says text read rest source ahead input parts (inl ends) =
    sym (ap source_tokens_until_fault (input ∙ (ap (λ (t : Text). t ++ rest) parts ∙ append_assoc source ahead rest)) ∙ says_all source (ahead ++ rest) ends.0)
read_says text read rest source ahead input parts (inr all) =
    sym (ap source_tokens_until_fault (input
    ∙ (ap (λ (t : Text). t ++ rest) parts
    ∙ (ap (λ (t : Text). (source ++ ahead) ++ t) all.1
    ∙ (append-nil (source ++ ahead) ∙ (ap (λ (t : Text). source ++ t) all.0 ∙ append-nil source))))))

-- so texts that say the same make the same chips
pub made_of_same : (source text : Text) (chip : List NodeState) → source_tokens_until_fault source ≡ source_tokens_until_fault text → IsChipOfSource source chip → IsChipOfSource text chip
made_of_same source text chip same made = record {
  named = subst (λ (said : List TokenContent). All (HasNodeOfPlainWords chip) (body_word_lists (map (λ (one : TokenContent). one.text) said))) same made.named;
  others = subst (λ (said : List TokenContent). (n : ℕ) → All (λ words. named_node_number (slice_index_or words 0 []) ≢ Some n) (body_word_lists (map (λ (one : TokenContent). one.text) said)) → node_at chip n ≡ node_at default_chip n) same made.others;
}
