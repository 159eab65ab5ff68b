-- Texts that grow piece by piece, and the forms that the printed lines parse as.
use Rattle.std.specs.Prelude.{◌==◌, codes, nat_lt, slice_index, ◌-◌, not}
use Rattle.std.specs.List.{list_all, AllByRecursion}
use Rattle.std.proofs.Common.{◌≡◌, ◌≢◌, ℕ, zero, suc, ◌+◌, ◌*◌, ◌^◌, ◌<◌, ◌≤◌, true, false, List, [], ◌∷◌, ◌++◌, length, map, flat_map, take, drop, get_or, refl, sym, ◌∙◌, ap, arith, append_assoc, below_more, length-append, ◌/◌, ◌%◌, Bool, cond, ◌&&◌, Some, None, lit<}
use Rattle.std.proofs.lemmas.List.{take_more, map-append, append-nil, get_or_append_left, get_or_push, ext_get_or, drop_more, drop_all, take_at}
use Rattle.std.proofs.lemmas.List.Concat.{flat_map-append}
use Rattle.ga_word.specs.Word.{hex_digits_of_word, hex_digit_at_place}
use Rattle.ga_image.specs.declared.field.Field.{Field}
use Rattle.ga_node.specs.Record.{NodeRecord}
use Rattle.ga_grid.specs.Grid.{decimal_name_of_node}
use Rattle.ga_image.specs.Spelling.{Node, End, LineForm, Words, side_letter_or_hyphen, side_set_text, wait_text, field_name, field_numbers_text, field_code_text, HasFieldWordCount, IsFieldWordsText, IsFieldCodeNumber, IsFieldCodeText, IsTextOfField, IsTextInFormat}
use Rattle.ga_text.specs.Digits.{spaced_words_text, three_decimal_digits, two_hex_digits_text}
use Rattle.ga_image.specs.Grammar.{NodeBlock, field_line_form, line_forms_of_block, AreLinesOfForms, header_of_format}
use Rattle.ga_image.specs.Printing.{AreEighteenBitWords, lines_text, text_of_line_form, field_text, line_unless_default, word_line_unless_default, row_start_cells, changed_lines_of_node, block_unless_empty, blocks_from_node, printed_image}
use Rattle.ga_image.specs.inner.{field_lines_text, blocks_text}
use Rattle.std.specs.Char.{to_ascii_lowercase}
use Rattle.std.specs.Str.{str_to_ascii_lowercase}
use Rattle.std.proofs.Math.Nat.{mod-lt}
use Rattle.std.proofs.lemmas.Bool.{eqb-false}
use Rattle.hex.specs.Hex.{hex_digit_value, lower_digits}
use Rattle.hex.proofs.HexLemmas.{IsDigits-lower_digits}
use Rattle.ga_image.specs.declared.field.Field.TheVariants.{A, B, P, I, Io, Carry, Slot, Wait, Stop, Data, Return, Ram, Rom}
use Rattle.ga_image.specs.declared.field.Format.TheVariants.{Two}
use Rattle.ga_text.specs.Lines.{lines_of_text, lines_with_added_front_byte}
use Rattle.ga_text.proofs.Numbers.{digit_spelled, past_byte}
use Rattle.ga_image.proofs.Spelled.{AreSix}

-- one piece after another
pub grown : (old mid new a b : List ℕ) → mid ≡ old ++ a → new ≡ mid ++ b → new ≡ old ++ (a ++ b)
grown old mid new a b p q = q ∙ ap (λ xs. xs ++ b) p ∙ append_assoc old a b

-- one word more
pub words_more : (words : List ℕ) (i : ℕ) → i < length words → spaced_words_text (take (i + 1) words) ≡ spaced_words_text (take i words) ++ 32 ∷ hex_digits_of_word (get_or words i 0)
words_more words i within = ap spaced_words_text (take_more words i 0 within) ∙ flat_map-append (λ word. 32 ∷ hex_digits_of_word word) (take i words) (get_or words i 0 ∷ [])

-- each of the words is one
pub each_word : (words : List ℕ) (i : ℕ) → i < length words → AreEighteenBitWords words → get_or words i 0 < 2 ^ 18
each_word [] i within small = absurd (omega arith)
each_word (word ∷ words) zero within small = small.0
each_word (word ∷ words) (suc i) within small = each_word words i (omega arith) small.1

-- and one more
pub words_push : (words : List ℕ) (word : ℕ) → AreEighteenBitWords words → word < 2 ^ 18 → AreEighteenBitWords (words ++ word ∷ [])
words_push [] word small last = (last, tt)
words_push (first ∷ words) word small last = (small.0, words_push words word small.1 last)

-- the texts of some lines and of others
pub fields_append : (xs ys : List (Field × List ℕ)) → field_lines_text (xs ++ ys) ≡ field_lines_text xs ++ field_lines_text ys
fields_append xs ys = ap lines_text (map-append (λ line. field_text line.0 line.1) xs ys) ∙ flat_map-append (λ line. line ++ 10 ∷ []) (map (λ line. field_text line.0 line.1) xs) (map (λ line. field_text line.0 line.1) ys)

-- some lines after others
pub lines_grown : (old mid new : List ℕ) (xs ys : List (Field × List ℕ)) → mid ≡ old ++ field_lines_text xs → new ≡ mid ++ field_lines_text ys → new ≡ old ++ field_lines_text (xs ++ ys)
lines_grown old mid new xs ys p q = grown old mid new (field_lines_text xs) (field_lines_text ys) p q ∙ ap (λ zs. old ++ zs) (sym (fields_append xs ys))

-- the line of a word that is known
pub word_grown : (old new : List ℕ) (at_load : ℕ) (field : Field) (v w : ℕ) → v ≡ w → new ≡ old ++ field_lines_text (word_line_unless_default at_load field v) → new ≡ old ++ field_lines_text (word_line_unless_default at_load field w)
word_grown old new at_load field v w is e = e ∙ ap (λ (n : ℕ). old ++ field_lines_text (word_line_unless_default at_load field n)) is

-- and of words
pub words_grown : (old new : List ℕ) (at_load : ℕ) (field : Field) (vs ws : List ℕ) → vs ≡ ws → new ≡ old ++ field_lines_text (line_unless_default at_load field vs) → new ≡ old ++ field_lines_text (line_unless_default at_load field ws)
words_grown old new at_load field vs ws is e = e ∙ ap (λ ns. old ++ field_lines_text (line_unless_default at_load field ns)) is

-- no line
pub none_written : (text : List ℕ) (at_load : ℕ) (field : Field) (words : List ℕ) → list_all (λ word. word == at_load) words ≡ true → text ≡ text ++ field_lines_text (line_unless_default at_load field words)
none_written text at_load field words all = rw all (sym (append-nil text))

-- one line
pub one_written : (old new : List ℕ) (at_load : ℕ) (field : Field) (words : List ℕ) → list_all (λ word. word == at_load) words ≡ false → new ≡ old ++ (field_text field words ++ 10 ∷ []) → new ≡ old ++ field_lines_text (line_unless_default at_load field words)
one_written old new at_load field words some e = rw some (e ∙ ap (λ xs. old ++ xs) (sym (append-nil (field_text field words ++ 10 ∷ []))))

-- a list as far as it is filled
abbrev pub IsFilled : List ℕ → ℕ → List ℕ → Type 0
IsFilled words n whole = (k : ℕ) → k < n → get_or words k 0 ≡ get_or whole k 0

-- and with one word more
pub filled_more : (words whole : List ℕ) (n word : ℕ) → length words ≡ n → IsFilled words n whole → word ≡ get_or whole n 0 → IsFilled (words ++ word ∷ []) (n + 1) whole
filled_more words whole n word size filled is =
    below_more (λ (k : ℕ). get_or (words ++ word ∷ []) k 0 ≡ get_or whole k 0) n
    (λ k below. let within : k < length words = omega arith in get_or_append_left words (word ∷ []) 0 k within ∙ filled k below)
    (get_or_push words word 0 n size ∙ is)

-- a list that is filled
pub filled_whole : (words whole : List ℕ) (n : ℕ) → length words ≡ n → length whole ≡ n → IsFilled words n whole → words ≡ whole
filled_whole words whole n size same filled = ext_get_or 0 words whole (size ∙ sym same) (λ k below. filled k (omega arith))

-- one row more
pub rows_more : (lines : ℕ → List (Field × List ℕ)) (cells : List ℕ) (i : ℕ) → i < length cells → flat_map lines (take (i + 1) cells) ≡ flat_map lines (take i cells) ++ lines (get_or cells i 0)
rows_more lines cells i within =
    ap (flat_map lines) (take_more cells i 0 within)
    ∙ flat_map-append lines (take i cells) (get_or cells i 0 ∷ [])
    ∙ ap (λ xs. flat_map lines (take i cells) ++ xs) (append-nil (lines (get_or cells i 0)))

-- the first cell of a row
pub row_cell : (i : ℕ) → i < 8 → get_or row_start_cells i 0 ≡ 8 * i
row_cell zero small = refl
row_cell (suc zero) small = refl
row_cell (suc (suc zero)) small = refl
row_cell (suc (suc (suc zero))) small = refl
row_cell (suc (suc (suc (suc zero)))) small = refl
row_cell (suc (suc (suc (suc (suc zero))))) small = refl
row_cell (suc (suc (suc (suc (suc (suc zero)))))) small = refl
row_cell (suc (suc (suc (suc (suc (suc (suc zero))))))) small = refl
row_cell (suc (suc (suc (suc (suc (suc (suc (suc i)))))))) small = absurd (omega arith)

-- ---- blocks

-- lines of which there is a text are lines
some_text : (line : Field × List ℕ) (lines : List (Field × List ℕ)) → 0 < length (field_lines_text (line ∷ lines))
some_text line lines = omega (arith, length-append (field_text line.0 line.1 ++ 10 ∷ []) (field_lines_text lines), length-append (field_text line.0 line.1) (10 ∷ []))

-- the texts of field lines by their forms
forms_text : (lines : List (Field × List ℕ)) → map text_of_line_form (map field_line_form lines) ≡ map (λ line. field_text line.0 line.1) lines
forms_text [] = refl
forms_text (line ∷ lines) = ap (λ xs. field_text line.0 line.1 ∷ xs) (forms_text lines)

-- the first line of a block
abbrev pub block_head : ℕ → List ℕ
block_head number = codes "node " ++ (three_decimal_digits (decimal_name_of_node number) ++ 10 ∷ [])

-- the block of a node that has lines
pub block_text : (number : ℕ) (lines : List (Field × List ℕ)) → length (field_lines_text lines) ≢ 0 → blocks_text (block_unless_empty number lines) ≡ block_head number ++ field_lines_text lines
block_text number [] some = absurd (some refl)
block_text number (line ∷ lines) some =
    ap (λ forms. lines_text (text_of_line_form (Node (decimal_name_of_node number)) ∷ map text_of_line_form forms)) (append-nil (map field_line_form (line ∷ lines)))
    ∙ ap (λ texts. block_head number ++ lines_text texts) (forms_text (line ∷ lines))

-- and of one that has none
pub no_block_text : (number : ℕ) (lines : List (Field × List ℕ)) → length (field_lines_text lines) ≡ 0 → blocks_text (block_unless_empty number lines) ≡ []
no_block_text number [] none = refl
no_block_text number (line ∷ lines) none = absurd (omega (arith, some_text line lines))

-- the texts of some blocks and of others
pub blocks_append : (xs ys : List NodeBlock) → blocks_text (xs ++ ys) ≡ blocks_text xs ++ blocks_text ys
blocks_append xs ys =
    ap (λ forms. lines_text (map text_of_line_form forms)) (flat_map-append line_forms_of_block xs ys)
    ∙ ap lines_text (map-append text_of_line_form (flat_map line_forms_of_block xs) (flat_map line_forms_of_block ys))
    ∙ flat_map-append (λ line. line ++ 10 ∷ []) (map text_of_line_form (flat_map line_forms_of_block xs)) (map text_of_line_form (flat_map line_forms_of_block ys))

-- the blocks of the nodes from a number on are the block of that node and those after it
pub blocks_more : (nodes : List NodeRecord) (i : ℕ) (d : NodeRecord) → i < length nodes
    → blocks_text (blocks_from_node i (drop i nodes)) ≡ blocks_text (block_unless_empty i (changed_lines_of_node i (get_or nodes i d))) ++ blocks_text (blocks_from_node (i + 1) (drop (i + 1) nodes))
unfolding blocks_from_node
blocks_more nodes i d within =
    ap (λ left. blocks_text (blocks_from_node i left)) (drop_more nodes i d within)
    ∙ blocks_append (block_unless_empty i (changed_lines_of_node i (get_or nodes i d))) (blocks_from_node (i + 1) (drop (i + 1) nodes))

-- after the last node there are none
pub blocks_end : (nodes : List NodeRecord) (i : ℕ) → length nodes ≤ i → blocks_text (blocks_from_node i (drop i nodes)) ≡ []
unfolding blocks_from_node
blocks_end nodes i past = ap (λ left. blocks_text (blocks_from_node i left)) (drop_all i nodes past)

-- the whole text
pub whole : (nodes : List NodeRecord) → printed_image nodes ≡ codes "ga144 2\n" ++ (blocks_text (blocks_from_node 0 nodes) ++ codes "end\n")
unfolding printed_image
whole nodes =
    let forms = flat_map line_forms_of_block (blocks_from_node 0 nodes) in
    ap (λ texts. codes "ga144 2\n" ++ lines_text texts) (map-append text_of_line_form forms (End ∷ []))
    ∙ ap (λ text. codes "ga144 2\n" ++ text) (flat_map-append (λ line. line ++ 10 ∷ []) (map text_of_line_form forms) (codes "end" ∷ []))

-- the text of a block after others, if it has lines
block_written : (old t1 t2 t3 t4 : List ℕ) (number : ℕ) (lines : List (Field × List ℕ)) → t1 ≡ old ++ codes "node " → t2 ≡ t1 ++ three_decimal_digits (decimal_name_of_node number) → t3 ≡ t2 ++ 10 ∷ [] → t4 ≡ t3 ++ field_lines_text lines
    → t4 ≡ old ++ (block_head number ++ field_lines_text lines)
block_written old t1 t2 t3 t4 number lines first second third fourth =
    grown old t3 t4 (block_head number) (field_lines_text lines) (grown old t2 t3 (codes "node " ++ three_decimal_digits (decimal_name_of_node number)) (10 ∷ []) (grown old t1 t2 (codes "node ") (three_decimal_digits (decimal_name_of_node number)) first second) third) fourth

longer : (t3 t4 more : List ℕ) → t4 ≡ t3 ++ more → length t4 ≡ length t3 + length more
longer t3 t4 more e = ap length e ∙ length-append t3 more

pub block_grown : (old t1 t2 t3 t4 : List ℕ) (number : ℕ) (lines : List (Field × List ℕ)) → t1 ≡ old ++ codes "node " → t2 ≡ t1 ++ three_decimal_digits (decimal_name_of_node number) → t3 ≡ t2 ++ 10 ∷ [] → t4 ≡ t3 ++ field_lines_text lines
    → length t4 ≢ length t3 → t4 ≡ old ++ blocks_text (block_unless_empty number lines)
block_grown old t1 t2 t3 t4 number lines first second third fourth other =
    let some : length (field_lines_text lines) ≢ 0 = λ none. other (omega (arith, longer t3 t4 (field_lines_text lines) fourth, none)) in
    block_written old t1 t2 t3 t4 number lines first second third fourth ∙ ap (λ xs. old ++ xs) (sym (block_text number lines some))

-- and where it has none and its first line is taken away
pub block_dropped : (old t1 t2 t3 t4 : List ℕ) (number : ℕ) (lines : List (Field × List ℕ)) → t1 ≡ old ++ codes "node " → t2 ≡ t1 ++ three_decimal_digits (decimal_name_of_node number) → t3 ≡ t2 ++ 10 ∷ [] → t4 ≡ t3 ++ field_lines_text lines
    → length t4 ≡ length t3 → take (length old) t4 ≡ old ++ blocks_text (block_unless_empty number lines)
block_dropped old t1 t2 t3 t4 number lines first second third fourth same =
    let none : length (field_lines_text lines) ≡ 0 = omega (arith, longer t3 t4 (field_lines_text lines) fourth) in
    ap (take (length old)) (block_written old t1 t2 t3 t4 number lines first second third fourth)
    ∙ take_at old (block_head number ++ field_lines_text lines) (length old) refl
    ∙ sym (append-nil old)
    ∙ ap (λ xs. old ++ xs) (sym (no_block_text number lines none))

-- one block more
pub next_block : (nodes : List NodeRecord) (i : ℕ) (d : NodeRecord) (text new all : List ℕ) → i < length nodes → text ++ blocks_text (blocks_from_node i (drop i nodes)) ≡ all
    → new ≡ text ++ blocks_text (block_unless_empty i (changed_lines_of_node i (get_or nodes i d))) → new ++ blocks_text (blocks_from_node (i + 1) (drop (i + 1) nodes)) ≡ all
next_block nodes i d text new all within before piece =
    let block = blocks_text (block_unless_empty i (changed_lines_of_node i (get_or nodes i d))) in
    let left = blocks_text (blocks_from_node (i + 1) (drop (i + 1) nodes)) in
    ap (λ xs. xs ++ left) piece ∙ append_assoc text block left ∙ ap (λ xs. text ++ xs) (sym (blocks_more nodes i d within)) ∙ before

-- the end after the last
pub finished : (nodes : List NodeRecord) (i : ℕ) (text new : List ℕ) → length nodes ≤ i → text ++ blocks_text (blocks_from_node i (drop i nodes)) ≡ codes "ga144 2\n" ++ blocks_text (blocks_from_node 0 nodes)
    → new ≡ text ++ codes "end\n" → new ≡ printed_image nodes
finished nodes i text new past before last =
    let all : text ≡ codes "ga144 2\n" ++ blocks_text (blocks_from_node 0 nodes) = sym (append-nil text) ∙ ap (λ xs. text ++ xs) (sym (blocks_end nodes i past)) ∙ before in
    last ∙ ap (λ xs. xs ++ codes "end\n") all ∙ append_assoc (codes "ga144 2\n") (blocks_text (blocks_from_node 0 nodes)) (codes "end\n") ∙ sym (whole nodes)

-- ---- digits

-- a printed digit is in lower case
lower_digit : (d : ℕ) → d < 16 → to_ascii_lowercase (slice_index lower_digits d) ≡ slice_index lower_digits d
lower_digit d small = (digit_spelled (slice_index lower_digits d) d (IsDigits-lower_digits d small)).1

lower_place : (n place : ℕ) → to_ascii_lowercase (hex_digit_at_place n place) ≡ hex_digit_at_place n place
lower_place n place = lower_digit (n / 16 ^ place % 16) (mod-lt (n / 16 ^ place) (lit< tt))

-- so words are
lower_words : (words : List ℕ) → str_to_ascii_lowercase (spaced_words_text words) ≡ spaced_words_text words
lower_words [] = refl
lower_words (w ∷ words) =
    rw (lower_place w 5, lower_place w 4, lower_place w 3, lower_place w 2, lower_place w 1, lower_place w 0, lower_words words) refl

lower_cell : (cell : ℕ) (words : List ℕ) → str_to_ascii_lowercase (two_hex_digits_text cell ++ spaced_words_text words) ≡ two_hex_digits_text cell ++ spaced_words_text words
lower_cell cell words = rw (lower_place cell 1, lower_place cell 0, lower_words words) refl

lower_numbers : (field : Field) (words : List ℕ) → str_to_ascii_lowercase (field_numbers_text field words) ≡ field_numbers_text field words
lower_numbers A words = lower_words words
lower_numbers B words = lower_words words
lower_numbers P words = lower_words words
lower_numbers I words = lower_words words
lower_numbers Io words = lower_words words
lower_numbers Carry words = lower_words words
lower_numbers Slot words = lower_words words
lower_numbers Wait words = lower_words words
lower_numbers Stop words = lower_words words
lower_numbers (Data k) words = lower_words words
lower_numbers (Return k) words = lower_words words
lower_numbers (Ram cell) words = lower_cell cell words
lower_numbers (Rom cell) words = lower_cell cell words

-- ---- spelling

-- one number of a field, or as many words as the field has
abbrev IsCodeLine : Field → List ℕ → Type 0
IsCodeLine field words = (code : ℕ) × (words ≡ code ∷ []) × IsFieldCodeNumber field code

abbrev IsWordLine : Field → List ℕ → Type 0
IsWordLine field words = HasFieldWordCount field (length words) × AreSix words

abbrev pub IsLine : Field → List ℕ → Type 0
IsLine Carry words = IsCodeLine Carry words
IsLine Slot words = IsCodeLine Slot words
IsLine Wait words = IsCodeLine Wait words
IsLine Stop words = IsCodeLine Stop words
IsLine field words = IsWordLine field words

-- a form that can be printed
abbrev pub IsPrintable : LineForm → Type 0
IsPrintable (Node decimal_name) = decimal_name < 1000
IsPrintable (Words field words) = IsLine field words
IsPrintable End = Unit {0}

words_spelled : (field : Field) (words : List ℕ) → IsWordLine field words → IsFieldWordsText (field_name field ++ field_numbers_text field words) field words
words_spelled field words is = record {
  count = is.0;
  six_digits = is.1;
  numbers = field_numbers_text field words;
  parts = refl;
  digits = lower_numbers field words;
}

code_spelled : (field : Field) (words : List ℕ) → IsCodeLine field words → IsFieldCodeText (field_name field ++ field_code_text field (slice_index words 0)) field words
code_spelled field words is = record {
  code = is.0;
  one = is.1;
  valid = is.2;
  parts = ap (λ (ws : List ℕ). field_name field ++ field_code_text field (slice_index ws 0)) is.1;
}

field_spelled : (field : Field) (words : List ℕ) → IsLine field words → IsTextOfField (field_text field words) field words
field_spelled A words is = words_spelled A words is
field_spelled B words is = words_spelled B words is
field_spelled P words is = words_spelled P words is
field_spelled I words is = words_spelled I words is
field_spelled Io words is = words_spelled Io words is
field_spelled Carry words is = code_spelled Carry words is
field_spelled Slot words is = code_spelled Slot words is
field_spelled Wait words is = code_spelled Wait words is
field_spelled Stop words is = code_spelled Stop words is
field_spelled (Data k) words is = words_spelled (Data k) words is
field_spelled (Return k) words is = words_spelled (Return k) words is
field_spelled (Ram cell) words is = words_spelled (Ram cell) words is
field_spelled (Rom cell) words is = words_spelled (Rom cell) words is

form_printed : (line_form : LineForm) → IsPrintable line_form → IsTextInFormat Two (text_of_line_form line_form) line_form
form_printed (Node decimal_name) is = ((is, refl), tt)
form_printed (Words field words) is = (field_spelled field words is, refl)
form_printed End is = (refl, tt)

-- the printed lines parse as the forms
pub forms_printed : (forms : List LineForm) → AllByRecursion IsPrintable forms → AreLinesOfForms Two (map text_of_line_form forms) forms
forms_printed [] each = tt
forms_printed (line_form ∷ forms) each = (form_printed line_form each.0, forms_printed forms each.1)

-- ---- line feeds

abbrev pub HasNoLineFeed : List ℕ → Type 0
HasNoLineFeed line = AllByRecursion (λ b. b ≢ 10) line

no_feed_append : (xs ys : List ℕ) → HasNoLineFeed xs → HasNoLineFeed ys → HasNoLineFeed (xs ++ ys)
no_feed_append [] ys first second = second
no_feed_append (x ∷ xs) ys first second = (first.0, no_feed_append xs ys first.1 second)

-- by a test
no_feed_tested : (xs : List ℕ) → list_all (λ b. not (b == 10)) xs ≡ true → HasNoLineFeed xs
no_feed_tested [] test = tt
no_feed_tested (x ∷ xs) test = either (x == 10) refl test (no_feed_tested xs) where
  either : (b : Bool) → (x == 10) ≡ b → (not b && list_all (λ c. not (c == 10)) xs) ≡ true → (list_all (λ c. not (c == 10)) xs ≡ true → HasNoLineFeed xs) → HasNoLineFeed (x ∷ xs)
  either true is rest more = cc
  either false is rest more = (eqb-false x 10 is, more rest)

no_feed_digit : (d : ℕ) → d < 16 → slice_index lower_digits d ≢ 10
no_feed_digit d small is = let never : None ≡ Some d = ap hex_digit_value (sym is) ∙ IsDigits-lower_digits d small in cc

no_feed_place : (n place : ℕ) → hex_digit_at_place n place ≢ 10
no_feed_place n place = no_feed_digit (n / 16 ^ place % 16) (mod-lt (n / 16 ^ place) (lit< tt))

no_feed_words : (words : List ℕ) → HasNoLineFeed (spaced_words_text words)
no_feed_words [] = tt
no_feed_words (w ∷ words) =
    (omega arith, (no_feed_place w 5, (no_feed_place w 4, (no_feed_place w 3, (no_feed_place w 2, (no_feed_place w 1, (no_feed_place w 0, no_feed_words words)))))))

no_feed_cell : (cell : ℕ) (words : List ℕ) → HasNoLineFeed (two_hex_digits_text cell ++ spaced_words_text words)
no_feed_cell cell words = (no_feed_place cell 1, (no_feed_place cell 0, no_feed_words words))

no_feed_letter : (name bit : ℕ) → name ≢ 10 → side_letter_or_hyphen name bit ≢ 10
no_feed_letter name bit other = either (bit == 1) where
  either : (b : Bool) → cond b name 45 ≢ 10
  either true = other
  either false = omega arith

no_feed_set : (sides : ℕ) → HasNoLineFeed (side_set_text sides)
no_feed_set sides = (
  no_feed_letter 114 (sides / 8 % 2) (omega arith),
  (no_feed_letter 100 (sides / 4 % 2) (omega arith), (no_feed_letter 108 (sides / 2 % 2) (omega arith), (no_feed_letter 117 (sides % 2) (omega arith), tt))),
)

no_feed_wait : (code : ℕ) → HasNoLineFeed (wait_text code)
no_feed_wait code = either (nat_lt code 32) (nat_lt code 48) where
  either : (b c : Bool) → HasNoLineFeed (cond b (codes "fetch " ++ side_set_text (code - 16)) (cond c (codes "read " ++ side_set_text (code - 32)) (codes "write " ++ side_set_text (code - 48))))
  either true c = no_feed_append (codes "fetch ") (side_set_text (code - 16)) (no_feed_tested (codes "fetch ") refl) (no_feed_set (code - 16))
  either false true = no_feed_append (codes "read ") (side_set_text (code - 32)) (no_feed_tested (codes "read ") refl) (no_feed_set (code - 32))
  either false false = no_feed_append (codes "write ") (side_set_text (code - 48)) (no_feed_tested (codes "write ") refl) (no_feed_set (code - 48))

no_feed_name : (field : Field) → HasNoLineFeed (field_name field)
no_feed_name A = no_feed_tested (codes "a") refl
no_feed_name B = no_feed_tested (codes "b") refl
no_feed_name P = no_feed_tested (codes "p") refl
no_feed_name I = no_feed_tested (codes "i") refl
no_feed_name Io = no_feed_tested (codes "io") refl
no_feed_name Carry = no_feed_tested (codes "carry ") refl
no_feed_name Slot = no_feed_tested (codes "slot ") refl
no_feed_name Wait = no_feed_tested (codes "wait ") refl
no_feed_name Stop = no_feed_tested (codes "stop ") refl
no_feed_name (Data k) = no_feed_tested (codes "d") refl
no_feed_name (Return k) = no_feed_tested (codes "r") refl
no_feed_name (Ram cell) = no_feed_tested (codes "ram ") refl
no_feed_name (Rom cell) = no_feed_tested (codes "rom ") refl

no_feed_field : (field : Field) (words : List ℕ) → HasNoLineFeed (field_text field words)
no_feed_field A words = no_feed_append (field_name A) (spaced_words_text words) (no_feed_name A) (no_feed_words words)
no_feed_field B words = no_feed_append (field_name B) (spaced_words_text words) (no_feed_name B) (no_feed_words words)
no_feed_field P words = no_feed_append (field_name P) (spaced_words_text words) (no_feed_name P) (no_feed_words words)
no_feed_field I words = no_feed_append (field_name I) (spaced_words_text words) (no_feed_name I) (no_feed_words words)
no_feed_field Io words = no_feed_append (field_name Io) (spaced_words_text words) (no_feed_name Io) (no_feed_words words)
no_feed_field Carry words = no_feed_append (field_name Carry) ((48 + slice_index words 0) ∷ []) (no_feed_name Carry) (omega arith, tt)
no_feed_field Slot words = no_feed_append (field_name Slot) ((48 + slice_index words 0) ∷ []) (no_feed_name Slot) (omega arith, tt)
no_feed_field Wait words = no_feed_append (field_name Wait) (wait_text (slice_index words 0)) (no_feed_name Wait) (no_feed_wait (slice_index words 0))
no_feed_field Stop words = no_feed_append (field_name Stop) ((48 + slice_index words 0) ∷ []) (no_feed_name Stop) (omega arith, tt)
no_feed_field (Data k) words = no_feed_append (field_name (Data k)) (spaced_words_text words) (no_feed_name (Data k)) (no_feed_words words)
no_feed_field (Return k) words = no_feed_append (field_name (Return k)) (spaced_words_text words) (no_feed_name (Return k)) (no_feed_words words)
no_feed_field (Ram cell) words = no_feed_append (field_name (Ram cell)) (two_hex_digits_text cell ++ spaced_words_text words) (no_feed_name (Ram cell)) (no_feed_cell cell words)
no_feed_field (Rom cell) words = no_feed_append (field_name (Rom cell)) (two_hex_digits_text cell ++ spaced_words_text words) (no_feed_name (Rom cell)) (no_feed_cell cell words)

no_feed_line : (line_form : LineForm) → HasNoLineFeed (text_of_line_form line_form)
no_feed_line (Node decimal_name) = no_feed_append (codes "node ") (three_decimal_digits decimal_name) (no_feed_tested (codes "node ") refl) (omega arith, (omega arith, (omega arith, tt)))
no_feed_line (Words field words) = no_feed_field field words
no_feed_line End = no_feed_tested (codes "end") refl

pub no_feed_lines : (forms : List LineForm) → AllByRecursion HasNoLineFeed (map text_of_line_form forms)
no_feed_lines [] = tt
no_feed_lines (line_form ∷ forms) = (no_feed_line line_form, no_feed_lines forms)

pub no_feed_header : HasNoLineFeed (header_of_format Two)
no_feed_header = no_feed_tested (header_of_format Two) refl

line_ends : (line text : List ℕ) → HasNoLineFeed line → lines_of_text (line ++ 10 ∷ text) ≡ line ∷ lines_of_text text
line_ends [] text none = refl
line_ends (b ∷ line) text none = past_byte b (line ++ 10 ∷ text) none.0 ∙ ap (lines_with_added_front_byte b) (line_ends line text none.1)

-- lines that are each ended are the lines of their text
pub lines_again : (lines : List (List ℕ)) → AllByRecursion HasNoLineFeed lines → lines_of_text (lines_text lines) ≡ lines
lines_again [] each = refl
lines_again (line ∷ lines) each =
    let more = lines_text lines in
    ap lines_of_text (append_assoc line (10 ∷ []) more) ∙ line_ends line more each.0 ∙ ap (λ others. line ∷ others) (lines_again lines each.1)
