-- The lines of a source, as they are looked for.
-- The word that comes first from a line on, as it is looked for.
use Rattle.std.proofs.Common.{◌≡◌, ◌∙◌, ℕ, zero, suc, ◌+◌, ◌-◌, ◌<◌, ◌≤◌, List, [], ◌∷◌, length, get_or, slice_index_or, drop, arith, ap, sym, refl, drop-drop, get_or-drop, Option}
use Rattle.std.specs.Str.{IsTrimAscii}
use Rattle.std.proofs.lemmas.List.{drop_all, drop_more}
use Rattle.std.proofs.lemmas.Str.Ascii.{trim_ascii_is}
use Rattle.ga_parser.specs.Saying.{parts_ended_by_bytes, source_lines, strip_byte_order_mark}
use Rattle.ga_text.specs.Lines.{lines_of_text}
use Rattle.ga_parser.proofs.Scanning.{first_split}
use Rattle.ga_debug_info.specs.Source.{text_without_leading_space, trimmed_text, source_line_without_mark}
use Rattle.ga_debug_info.specs.declared.wording.SlotWord.{SlotWord}
use Rattle.ga_debug_info.specs.declared.wording.DisplayedWord.{DisplayedWord}
use Rattle.ga_debug_info.specs.Notes.{earlier_slot_word_from_line, first_slot_word_from_line}

-- ---- the first line

-- where there is a line
pub first_found : (text first rest : List ℕ) → lines_of_text text ≡ first ∷ lines_of_text rest → first ≡ slice_index_or (source_lines text) 0 []
first_found text first rest e = sym (ap (λ (lines : List (List ℕ)). slice_index_or lines 0 []) (first_split text first rest e))

-- and the text after it
pub rest_found : (text first rest : List ℕ) → lines_of_text text ≡ first ∷ lines_of_text rest → source_lines rest ≡ drop 1 (source_lines text)
rest_found text first rest e = sym (ap (λ (lines : List (List ℕ)). drop 1 lines) (first_split text first rest e))

-- where there is none
pub no_first : (text : List ℕ) → length text ≡ 0 → text ≡ slice_index_or (source_lines text) 0 []
unfolding parts_ended_by_bytes
no_first [] none = refl
no_first (b ∷ text) none = absurd (omega arith)

pub no_rest : (text : List ℕ) → length text ≡ 0 → source_lines text ≡ drop 1 (source_lines text)
unfolding parts_ended_by_bytes
no_rest [] none = refl
no_rest (b ∷ text) none = absurd (omega arith)

-- ---- lines after others

-- after one line and `left` more
pub one_less : (lines : List (List ℕ)) (left : ℕ) → 0 < left → drop (left - 1) (drop 1 lines) ≡ drop left lines
one_less lines left some =
    let e : 1 + (left - 1) ≡ left = omega arith in
    drop-drop (left - 1) 1 lines ∙ ap (λ (n : ℕ). drop n lines) e

-- and after some and the difference
pub further : (lines : List (List ℕ)) (before wanted : ℕ) → before ≤ wanted → drop (wanted - before) (drop before lines) ≡ drop wanted lines
further lines before wanted order =
    let e : before + (wanted - before) ≡ wanted = omega arith in
    drop-drop (wanted - before) before lines ∙ ap (λ (n : ℕ). drop n lines) e

-- after no lines no line is left
no_more : (left : ℕ) → source_lines [] ≡ drop left (source_lines [])
unfolding parts_ended_by_bytes
no_more zero = refl
no_more (suc left) = refl

pub none_left : (text : List ℕ) (left : ℕ) → length text ≡ 0 → source_lines text ≡ drop left (source_lines text)
unfolding parts_ended_by_bytes
none_left [] left none = no_more left
none_left (b ∷ text) left none = absurd (omega arith)

-- ---- a line by its number

-- the first line after some
pub line_found : (source rest first bare : List ℕ) (before line : ℕ) → before ≡ line - 1 → source_lines rest ≡ drop before (source_lines source) → first ≡ get_or (source_lines rest) 0 [] → bare ≡ strip_byte_order_mark line first → bare ≡ source_line_without_mark source line
line_found source rest first bare before line e behind is own =
    let at : before + 0 ≡ line - 1 = omega arith in
    let same : first ≡ get_or (source_lines source) (line - 1) [] =
    is ∙ (ap (λ (lines : List (List ℕ)). get_or lines 0 []) behind
    ∙ (get_or-drop before (source_lines source) 0 [] ∙ ap (λ (n : ℕ). get_or (source_lines source) n []) at)) in
    own ∙ ap (strip_byte_order_mark line) same

-- without white space at its ends
pub trimmed_line : (bare text found : List ℕ) → bare ≡ text → IsTrimAscii bare found → found ≡ trimmed_text text
trimmed_line bare text found is trims = trim_ascii_is bare found (text_without_leading_space bare) refl trims ∙ ap trimmed_text is

-- nothing follows all of a text
pub all_past : (count : ℕ) (text : List ℕ) → length text ≤ count → [] ≡ drop count text
all_past count text past = sym (drop_all count text past)

-- ---- the word that comes first from a line on, as it is looked for

-- one word more
pub one_nearer : (line : ℕ) (best next : Option SlotWord) (all : List DisplayedWord) (i : ℕ) (d : DisplayedWord) (found : Option SlotWord) → i < length all → next ≡ earlier_slot_word_from_line line best (get_or all i d).word → first_slot_word_from_line line best (drop i all) ≡ found → first_slot_word_from_line line next (drop (i + 1) all) ≡ found
unfolding first_slot_word_from_line
one_nearer line best next all i d found within is before =
    ap (λ (b : Option SlotWord). first_slot_word_from_line line b (drop (i + 1) all)) is ∙ (sym (ap (first_slot_word_from_line line best) (drop_more all i d within)) ∙ before)

-- none is left
pub none_nearer : (line : ℕ) (best : Option SlotWord) (all : List DisplayedWord) (i : ℕ) (found : Option SlotWord) → length all ≤ i → first_slot_word_from_line line best (drop i all) ≡ found → best ≡ found
unfolding first_slot_word_from_line
none_nearer line best all i found past before = sym (ap (first_slot_word_from_line line best) (drop_all i all past)) ∙ before
