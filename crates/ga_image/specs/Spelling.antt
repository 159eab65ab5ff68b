-- The forms of a line, and the texts of each (docs/REFERENCE.md, "Images"; both formats are this project's own). Reading a
-- line: the form that it parses as.
use Rattle.std.specs.Prelude.{◌≡◌, ◌≢◌, ℕ, ◌+◌, ◌-◌, ◌/◌, ◌%◌, ◌^◌, ◌<◌, ◌≤◌, ◌==◌, nat_lt, if◌then◌else◌, true, ◌++◌, List, [], ◌∷◌, length, codes, ◌&&◌, nat_eq, nat_le, Bool, take, drop, Option, Some, None}
use Rattle.std.specs.List.{AllByRecursion}
use Rattle.std.specs.Str.{str_to_ascii_lowercase}
use Rattle.ga_text.specs.Lines.{Text, Line}
use Rattle.ga_word.specs.Word.{six_hex_digits_value}
use Rattle.ga_node.specs.State.{IsWaitCode}
use Rattle.ga_image.specs.declared.field.Field.{Field}
use Rattle.ga_image.specs.declared.field.Format.{Format}
use Rattle.ga_image.specs.Fields.{format_has_field}
use Rattle.ga_image.specs.declared.field.Field.TheVariants.{A, B, P, I, Io, Carry, Slot, Wait, Stop, Data, Return, Ram, Rom}
use Rattle.ga_text.specs.Digits.{three_decimal_digits, two_hex_digits_text, spaced_words_text, hex_byte_value}
use Rattle.std.specs.Cmp.Lexicographic.{pointwise}
use Rattle.ga_ports.specs.Address.{is_single_side_set, parse_side_set}
use Rattle.ga_ports.specs.Steps.{◌>>=◌}
use Rattle.ga_grid.specs.Grid.{parse_decimal_name}

-- A line after the header: a block of the node with this row and column begins; words for a field and for those after it; or
-- the end.
pub data LineForm : Type 0 where
  Node : ℕ → LineForm
  Words : Field → List ℕ → LineForm
  End : LineForm

-- the letter of a side in a set, or a hyphen where the set lacks it
abbrev pub side_letter_or_hyphen : ℕ → ℕ → ℕ
side_letter_or_hyphen name bit = if bit == 1 then name else 45

-- a set of sides: r for right, d for down, l for left and u for up
abbrev pub side_set_text : ℕ → Text
side_set_text sides = side_letter_or_hyphen 114 (sides / 8 % 2) ∷ side_letter_or_hyphen 100 (sides / 4 % 2) ∷ side_letter_or_hyphen 108 (sides / 2 % 2) ∷ side_letter_or_hyphen 117 (sides % 2) ∷ []

-- what a node waits for, by the number of the wait
abbrev pub wait_text : ℕ → Text
wait_text code =
    if nat_lt code 32 then codes "fetch " ++ side_set_text (code - 16)
    else if nat_lt code 48 then codes "read " ++ side_set_text (code - 32)
    else codes "write " ++ side_set_text (code - 48)

-- what a field line begins with
abbrev pub field_name : Field → Text
field_name A = codes "a"
field_name B = codes "b"
field_name P = codes "p"
field_name I = codes "i"
field_name Io = codes "io"
field_name Carry = codes "carry "
field_name Slot = codes "slot "
field_name Wait = codes "wait "
field_name Stop = codes "stop "
field_name (Data k) = codes "d"
field_name (Return k) = codes "r"
field_name (Ram cell) = codes "ram "
field_name (Rom cell) = codes "rom "

-- the numbers of a field line after its name
abbrev pub field_numbers_text : Field → List ℕ → List ℕ
field_numbers_text (Ram cell) words = two_hex_digits_text cell ++ spaced_words_text words
field_numbers_text (Rom cell) words = two_hex_digits_text cell ++ spaced_words_text words
field_numbers_text _ words = spaced_words_text words

-- A register is given one word, a stack all its words from the top on; from a cell on 1 to 16 are given, and the cell has two
-- digits.
abbrev pub HasFieldWordCount : Field → ℕ → Type 0
HasFieldWordCount (Data k) count = (k ≡ 0) × (count ≡ 10)
HasFieldWordCount (Return k) count = (k ≡ 0) × (count ≡ 9)
HasFieldWordCount (Ram cell) count = (cell < 256) × (1 ≤ count) × (count ≤ 16)
HasFieldWordCount (Rom cell) count = (cell < 256) × (1 ≤ count) × (count ≤ 16)
HasFieldWordCount _ count = count ≡ 1

-- a field line of words, whose digits may be of either case
pub record IsFieldWordsText (text : Text) (field : Field) (words : List ℕ) : Type 0 where
  pub count : HasFieldWordCount field (length words)
  pub six_digits : AllByRecursion (λ word. word < 2 ^ 24) words
  pub numbers : List ℕ
  pub parts : text ≡ field_name field ++ numbers
  pub digits : str_to_ascii_lowercase numbers ≡ field_numbers_text field words

-- the numbers that a carry, a slot, a wait or a stop may have in a line
abbrev pub IsFieldCodeNumber : Field → ℕ → Type 0
IsFieldCodeNumber Carry code = code ≤ 1
IsFieldCodeNumber Slot code = code ≤ 4
IsFieldCodeNumber Wait code = IsWaitCode code × (code ≢ 0)
IsFieldCodeNumber Stop code = (1 ≤ code) × (code ≤ 3)
IsFieldCodeNumber _ code = ⊥

-- the text of the number of a carry, a slot, a wait or a stop: one decimal digit, or what the node waits for
abbrev pub field_code_text : Field → ℕ → Text
field_code_text Wait code = wait_text code
field_code_text _ code = (48 + code) ∷ []

-- a line of a carry, a slot, a wait or a stop
pub record IsFieldCodeText (text : Text) (field : Field) (words : List ℕ) : Type 0 where
  pub code : ℕ
  pub one : words ≡ code ∷ []
  pub valid : IsFieldCodeNumber field code
  pub parts : text ≡ field_name field ++ field_code_text field code

-- any field line
abbrev pub IsTextOfField : Text → Field → List ℕ → Type 0
IsTextOfField text Carry words = IsFieldCodeText text Carry words
IsTextOfField text Slot words = IsFieldCodeText text Slot words
IsTextOfField text Wait words = IsFieldCodeText text Wait words
IsTextOfField text Stop words = IsFieldCodeText text Stop words
IsTextOfField text field words = IsFieldWordsText text field words

-- whether the text is that of a line of this form after the header
abbrev pub IsLineFormText : Line → LineForm → Type 0
IsLineFormText text (Node decimal_name) = (decimal_name < 1000) × (text ≡ codes "node " ++ three_decimal_digits decimal_name)
IsLineFormText text (Words field words) = IsTextOfField text field words
IsLineFormText text End = text ≡ codes "end"

-- a form that lines of the format may have
abbrev pub IsFormatLineForm : Format → LineForm → Type 0
IsFormatLineForm format (Words field words) = format_has_field format field ≡ true
IsFormatLineForm format _ = Unit {0}

-- the text of a line of the format
abbrev pub IsTextInFormat : Format → Line → LineForm → Type 0
IsTextInFormat format text line_form = IsLineFormText text line_form × IsFormatLineForm format line_form

-- ---- reading a line: the form that it parses as

-- numbers of six digits, each after one space
unfoldable pub parse_spaced_words : Text → Option (List ℕ)
parse_spaced_words [] = Some []
parse_spaced_words (space ∷ a ∷ b ∷ c ∷ d ∷ e ∷ f ∷ text) =
    if space == 32 then (do
      word ← six_hex_digits_value (a ∷ b ∷ c ∷ d ∷ e ∷ f ∷ [])
      words ← parse_spaced_words text
      Some (word ∷ words))
    else None
parse_spaced_words _ = None

-- some words, where they are 1 to 16
abbrev pub words_within_row_size : List ℕ → Option (List ℕ)
words_within_row_size words = if nat_le 1 (length words) && nat_le (length words) 16 then Some words else None

-- a row of words
unfoldable pub parse_row_words : Text → Option (List ℕ)
parse_row_words text = do
  found ← parse_spaced_words text
  words_within_row_size found

-- a register and its word
unfoldable pub word_line_form : Field → Text → Option LineForm
word_line_form field text = do
  word ← six_hex_digits_value text
  Some (Words field (word ∷ []))

-- a cell, and the words from it on
unfoldable pub cells_line_form : (ℕ → Field) → Text → Option LineForm
cells_line_form field (x ∷ y ∷ text) = do
  cell ← hex_byte_value (x ∷ y ∷ [])
  found ← parse_row_words text
  Some (Words (field cell) found)
cells_line_form field _ = None

-- a stack and all its words
unfoldable pub stack_line_form : Field → ℕ → Text → Option LineForm
stack_line_form field count text = do
  found ← parse_row_words text
  if length found == count then Some (Words field found) else None

-- a field and a number from the least to the most, of one decimal digit
unfoldable pub digit_line_form : Field → ℕ → ℕ → Text → Option LineForm
digit_line_form field least most (c ∷ []) = if nat_le (48 + least) c && nat_le c (48 + most) then Some (Words field ((c - 48) ∷ [])) else None
digit_line_form field least most _ = None

-- a wait of this kind for a set of sides, of which it needs one
unfoldable pub side_set_wait_form : ℕ → Text → Option LineForm
side_set_wait_form kind text = do
  sides ← parse_side_set text
  if sides == 0 then None else Some (Words Wait ((kind + sides) ∷ []))

-- a wait that writes to one side
unfoldable pub side_write_wait_form : Text → Option LineForm
side_write_wait_form text = do
  sides ← parse_side_set text
  if is_single_side_set sides then Some (Words Wait ((48 + sides) ∷ [])) else None

-- the row and the column of a node
unfoldable pub node_line_form : Text → Option LineForm
node_line_form text = do
  number ← parse_decimal_name text
  Some (Node number)

-- the text begins with this front
abbrev pub begins_with_text : Text → Text → Bool
begins_with_text text front = pointwise nat_eq (take (length front) text) front

-- what a node waits for
unfoldable pub node_wait_line_form : Text → Option LineForm
node_wait_line_form text =
    if begins_with_text text (codes "fetch ") then side_set_wait_form 16 (drop 6 text)
    else if begins_with_text text (codes "read ") then side_set_wait_form 32 (drop 5 text)
    else if begins_with_text text (codes "write ") then side_write_wait_form (drop 6 text)
    else None

-- a line of a stack, of a memory or of a node, or the end
unfoldable pub stack_memory_or_node_form : Text → Option LineForm
stack_memory_or_node_form text =
    if begins_with_text text (codes "d") then stack_line_form (Data 0) 10 (drop 1 text)
    else if begins_with_text text (codes "ram ") then cells_line_form Ram (drop 4 text)
    else if begins_with_text text (codes "rom ") then cells_line_form Rom (drop 4 text)
    else if begins_with_text text (codes "r") then stack_line_form (Return 0) 9 (drop 1 text)
    else if begins_with_text text (codes "node ") then node_line_form (drop 5 text)
    else if pointwise nat_eq text (codes "end") then Some End
    else None

-- a line of a carry, a slot, a wait or a stop, of a stack, of a memory or of a node, or the end
unfoldable pub state_line_form : Text → Option LineForm
state_line_form text =
    if begins_with_text text (codes "carry ") then digit_line_form Carry 0 1 (drop 6 text)
    else if begins_with_text text (codes "slot ") then digit_line_form Slot 0 4 (drop 5 text)
    else if begins_with_text text (codes "wait ") then node_wait_line_form (drop 5 text)
    else if begins_with_text text (codes "stop ") then digit_line_form Stop 1 3 (drop 5 text)
    else stack_memory_or_node_form text

-- the form of a line, if it has one
unfoldable pub line_form : Line → Option LineForm
line_form text =
    if begins_with_text text (codes "a ") then word_line_form A (drop 2 text)
    else if begins_with_text text (codes "b ") then word_line_form B (drop 2 text)
    else if begins_with_text text (codes "p ") then word_line_form P (drop 2 text)
    else if begins_with_text text (codes "i ") then word_line_form I (drop 2 text)
    else if begins_with_text text (codes "io ") then word_line_form Io (drop 3 text)
    else state_line_form text
