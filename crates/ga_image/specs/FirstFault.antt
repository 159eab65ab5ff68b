-- The causes of a refusal, with the number and the word by which each is reported, and the first fault of a text that is no
-- image, by its lines (docs/REFERENCE.md, "Images"; this project's own). A fault of a line is defined by that line and the
-- lines before it.
use Rattle.std.specs.Prelude.{ℕ, codes, ◌≡◌, ◌≢◌, ◌+◌, ◌<◌, ◌⊎◌, true, List, [], ◌∷◌, ◌++◌, length, None}
use Rattle.ga_text.specs.Lines.{Text, Line, max_input_line}
use Rattle.ga_image.specs.declared.fault.ImageFaultCause.{ImageFaultCause}
use Rattle.ga_image.specs.declared.fault.ImageFaultCause.TheVariants as cause
use Rattle.ga_image.specs.declared.fault.ImageFault.{ImageFault}
use Rattle.std.specs.List.{AllByRecursion}
use Rattle.ga_grid.specs.Grid.{node_number_of_name}
use Rattle.ga_image.specs.declared.field.Field.{Field}
use Rattle.ga_image.specs.declared.field.Format.{Format}
use Rattle.ga_image.specs.declared.field.Format.TheVariants.{One}
use Rattle.ga_image.specs.Fields.{fields_with_words, greatest_field_word, run_state_at_load, run_state_after_words, is_inconsistent_run_state}
use Rattle.ga_image.specs.Spelling.{LineForm, Node, Words, End, IsLineFormText, IsTextInFormat}
use Rattle.ga_image.specs.Grammar.{header_of_format, format_of_header, field_line_form, field_line_writes, IsRowWithinBank}

-- the number of a cause
abbrev pub image_cause_number : ImageFaultCause → ℕ
image_cause_number cause.WrongHeader = 11
image_cause_number cause.InvalidLine = 12
image_cause_number cause.UnknownNode = 13
image_cause_number cause.WordOutOfRange = 14
image_cause_number cause.RepeatedNodeOrField = 15
image_cause_number cause.Place = 16
image_cause_number cause.Truncated = 17
image_cause_number cause.LineTooLong = 18
image_cause_number cause.Memory = 19
image_cause_number cause.State = 20

-- the word of a cause
abbrev pub image_cause_word : ImageFaultCause → Text
image_cause_word cause.WrongHeader = codes "header"
image_cause_word cause.InvalidLine = codes "line"
image_cause_word cause.UnknownNode = codes "node"
image_cause_word cause.WordOutOfRange = codes "word"
image_cause_word cause.RepeatedNodeOrField = codes "repeated"
image_cause_word cause.Place = codes "place"
image_cause_word cause.Truncated = codes "truncated"
image_cause_word cause.LineTooLong = codes "long"
image_cause_word cause.Memory = codes "memory"
image_cause_word cause.State = codes "state"

-- out of memory, which is reported before the first line
abbrev pub out_of_memory_fault : ImageFault
out_of_memory_fault = record { line = 0; cause = cause.Memory }

-- ---- the first fault of a text that is no image, by its lines

-- P holds of one of some values
abbrev pub HoldsForSomeElement : {X : Type 0} → (X → Type 0) → List X → Type 0
HoldsForSomeElement P [] = ⊥
HoldsForSomeElement P (x ∷ xs) = P x ⊎ HoldsForSomeElement P xs

-- ---- what a line is

abbrev pub IsEndLine : Line → Type 0
IsEndLine line = IsLineFormText line End

-- a line begins the block of the node with this row and column
abbrev pub IsLineBeginningNode : ℕ → Line → Type 0
IsLineBeginningNode decimal_name line = IsLineFormText line (Node decimal_name)

-- a line begins a block
abbrev pub IsNodeLine : Line → Type 0
IsNodeLine line = (decimal_name : ℕ) × IsLineBeginningNode decimal_name line

-- a line is a field line
abbrev pub IsFieldTextLine : Line → Type 0
IsFieldTextLine line = (field : Field) × (words : List ℕ) × IsLineFormText line (Words field words)

-- a line gives a word for this field
abbrev pub HasWordForField : Field → Line → Type 0
HasWordForField field line = (first : Field) × (words : List ℕ) × IsLineFormText line (Words first words) × HoldsForSomeElement (λ w. w.0 ≡ field) (fields_with_words first words)

-- Whether one of these lines gives the field, and no block begins after it.
abbrev pub IsFieldGiven : List Line → Field → Type 0
IsFieldGiven [] field = ⊥
IsFieldGiven (line ∷ lines) field = IsFieldGiven lines field ⊎ (HasWordForField field line × ¬ HoldsForSomeElement IsNodeLine lines)

-- these lines are field lines, with these fields and words
abbrev pub AreTextsOfFieldLines : List Line → List (Field × List ℕ) → Type 0
AreTextsOfFieldLines [] [] = Unit {0}
AreTextsOfFieldLines (line ∷ lines) (field_line ∷ field_lines) = IsLineFormText line (field_line_form field_line) × AreTextsOfFieldLines lines field_lines
AreTextsOfFieldLines _ _ = ⊥

-- The last of these blocks has these field lines, up to the last line.
abbrev pub HasLastBlockFieldLines : List Line → List (Field × List ℕ) → Type 0
HasLastBlockFieldLines [] field_lines = ⊥
HasLastBlockFieldLines (line ∷ lines) field_lines = HasLastBlockFieldLines lines field_lines ⊎ (IsNodeLine line × AreTextsOfFieldLines lines field_lines)

-- the format that the first of these lines names
abbrev pub format_of_first_line : List Line → Format
format_of_first_line [] = One
format_of_first_line (line ∷ lines) = format_of_header line

-- ---- the faults of a line after the lines before it

-- a line has more than 200 bytes
abbrev pub IsTooLongLine : Line → Type 0
IsTooLongLine line = max_input_line < length line

-- a line is the first, and not the header of a format
abbrev pub IsWrongHeader : List Line → Line → Type 0
IsWrongHeader before line = (before ≡ []) × ((format : Format) → line ≢ header_of_format format)

-- a line has none of the format's forms
abbrev pub HasNoLineForm : Format → Line → Type 0
HasNoLineForm format line = (line_form : LineForm) → ¬ IsTextInFormat format line line_form

-- a line is a field line before the first block
abbrev pub IsFieldLineBeforeBlocks : List Line → Line → Type 0
IsFieldLineBeforeBlocks before line = IsFieldTextLine line × ¬ HoldsForSomeElement IsNodeLine before

-- whether a line after the header has no form, or is not allowed there
abbrev pub IsInvalidLine : List Line → Line → Type 0
IsInvalidLine before line = (before ≢ []) × (HasNoLineForm (format_of_first_line before) line ⊎ IsFieldLineBeforeBlocks before line ⊎ HoldsForSomeElement IsEndLine before)

-- whether a line ends a block whose wait, stop and slot are inconsistent
abbrev pub IsInconsistentBlockEnd : List Line → Line → Type 0
IsInconsistentBlockEnd before line =
    (IsNodeLine line ⊎ IsEndLine line)
    × ((field_lines : List (Field × List ℕ))
    × HasLastBlockFieldLines before field_lines
    × (is_inconsistent_run_state (run_state_after_words run_state_at_load (field_line_writes field_lines)) ≡ true))

-- a line begins the block of no node of the grid
abbrev pub HasUnknownNode : Line → Type 0
HasUnknownNode line = (decimal_name : ℕ) × IsLineBeginningNode decimal_name line × (node_number_of_name decimal_name ≡ None)

-- a line gives a cell past the last of its memory
abbrev pub HasCellOutOfRange : Line → Type 0
HasCellOutOfRange line = (field : Field) × (words : List ℕ) × IsLineFormText line (Words field words) × ¬ IsRowWithinBank field (length words)

-- a line gives a word past the greatest of its field
abbrev pub HasWordOutOfRange : Line → Type 0
HasWordOutOfRange line = (field : Field) × (words : List ℕ) × IsLineFormText line (Words field words) × HoldsForSomeElement (λ word. greatest_field_word field < word) words

-- a line begins a block of a node that has one
abbrev pub IsRepeatedNode : List Line → Line → Type 0
IsRepeatedNode before line = (decimal_name : ℕ) × IsLineBeginningNode decimal_name line × HoldsForSomeElement (IsLineBeginningNode decimal_name) before

-- a line gives a field that its block gave before
abbrev pub IsRepeatedField : List Line → Line → Type 0
IsRepeatedField before line = (field : Field) × HasWordForField field line × IsFieldGiven before field

-- ---- the first fault

-- whether a line has this cause of refusal, after the lines before it
abbrev pub HasRefusalCause : List Line → Line → ImageFaultCause → Type 0
HasRefusalCause before line cause.LineTooLong = IsTooLongLine line
HasRefusalCause before line cause.WrongHeader = IsWrongHeader before line
HasRefusalCause before line cause.InvalidLine = IsInvalidLine before line
HasRefusalCause before line cause.State = IsInconsistentBlockEnd before line
HasRefusalCause before line cause.UnknownNode = HasUnknownNode line
HasRefusalCause before line cause.Place = HasCellOutOfRange line
HasRefusalCause before line cause.WordOutOfRange = HasWordOutOfRange line
HasRefusalCause before line cause.RepeatedNodeOrField = IsRepeatedNode before line ⊎ IsRepeatedField before line
HasRefusalCause before line cause.Truncated = ⊥
HasRefusalCause before line cause.Memory = ⊥

-- the causes of one line, in the order in which they are answered
abbrev pub ordered_line_causes : List ImageFaultCause
ordered_line_causes =
    cause.LineTooLong ∷ cause.WrongHeader ∷ cause.InvalidLine ∷ cause.State ∷ cause.UnknownNode ∷ cause.Place ∷ cause.WordOutOfRange ∷ cause.RepeatedNodeOrField ∷ []

-- the first of these causes that a line has
abbrev pub IsFirstRefusalCause : List Line → Line → List ImageFaultCause → ImageFaultCause → Type 0
IsFirstRefusalCause before line [] first = ⊥
IsFirstRefusalCause before line (cause ∷ others) first = ((first ≡ cause) × HasRefusalCause before line cause) ⊎ (¬ HasRefusalCause before line cause × IsFirstRefusalCause before line others first)

-- a line has none of these causes
abbrev pub HasNoneOfRefusalCauses : List Line → Line → List ImageFaultCause → Type 0
HasNoneOfRefusalCauses before line others = AllByRecursion (λ cause. ¬ HasRefusalCause before line cause) others

-- whether none of these lines has a cause, each after those before it
abbrev pub AreLinesFaultless : List Line → List Line → Type 0
AreLinesFaultless before [] = Unit {0}
AreLinesFaultless before (line ∷ lines) = HasNoneOfRefusalCauses before line ordered_line_causes × AreLinesFaultless (before ++ line ∷ []) lines

-- The fault is the first cause of a line before which no line has a cause.
pub record IsLineFault (texts : List Line) (fault : ImageFault) : Type 0 where
  pub before : List Line
  pub line : Line
  pub after : List Line
  pub parts : texts ≡ before ++ line ∷ after
  pub faultless : AreLinesFaultless [] before
  pub cause : IsFirstRefusalCause before line ordered_line_causes fault.cause
  pub number : fault.line ≡ length before + 1

-- No line has a cause, and none is `end`.
pub record IsEndMissing (texts : List Line) (fault : ImageFault) : Type 0 where
  pub faultless : AreLinesFaultless [] texts
  pub unended : ¬ HoldsForSomeElement IsEndLine texts
  pub cause : fault.cause ≡ cause.Truncated
  pub number : fault.line ≡ length texts + 1

-- the first fault of a text, by its lines
abbrev pub IsFirstImageFault : List Line → ImageFault → Type 0
IsFirstImageFault texts fault = IsLineFault texts fault ⊎ IsEndMissing texts fault
