-- How many lines may still come: no more than there are nodes and places left.
-- How many bytes an image has.
-- Steps of reading an image.
use Rattle.std.proofs.Common.{◌≡◌, ◌≢◌, ℕ, zero, suc, ◌+◌, ◌*◌, ◌<◌, ◌≤◌, ◌⊎◌, inl, inr, Bool, true, false, List, [], ◌∷◌, length, get_or, set, Some, None, refl, sym, ◌∙◌, ap, subst, arith, length-set, lit≤, cond, Ok, Err}
use Rattle.ga_image.specs.declared.field.Field.{Field}
use Rattle.ga_image.specs.Reading.{ImageReadProgress, ImageReadStage, form_in_format, first_fault_of_line, progress_after_line, progress_after_line_form, fault_after_header, progress_with_block, initial_read_progress, no_fields_given, is_misplaced_line, read_result_of_lines, line_fault, Header, Open, Block, Ended, result_at_image_end}
use Rattle.ga_image.specs.Reading as stage
use Rattle.ga_image.specs.Spelling.{LineForm, Node, Words, End}
use Rattle.ga_image.specs.Fields.{run_state_at_load, fields_with_words, next_field, field_number}
use Rattle.ga_image.specs.Grammar.{format_of_header, IsImage}
use Rattle.ga_image.proofs.Meanings.{or_false, seen_twice, AreBelow, marked, line_later, past_later, short_past, numbers, repeats_numbers, field_below, all_written, image_read}
use Rattle.ga_image.proofs.Short.{some_spelled}
use Rattle.ga_image.proofs.Spellings.{kept_spelled}
use Rattle.ga_image.proofs.Found.{not_short, neither, some_form, node_ok, field_ok, yxx_of_node, passed}
use Rattle.std.specs.Prelude.{nat_lt, ◌==◌}
use Rattle.std.proofs.lemmas.Bool.Decides.{nat_tests}
use Rattle.ga_node.specs.Record.{NodeState}
use Rattle.ga_image.specs.declared.fault.ImageFaultCause.TheVariants.{LineTooLong, Truncated}
use Rattle.ga_text.specs.Lines.{max_input_line, lines_of_text, lines_with_added_front_byte}
use Rattle.ga_image.specs.declared.parser.ImageReadStage.{ImageReadStage as Expects}
use Rattle.ga_image.specs.declared.parser.ImageReadStage.TheVariants as expects
use Rattle.ga_image.specs.declared.fault.ImageFaultCause.{ImageFaultCause}
use Rattle.ga_image.specs.inner.{stage_of_parser}

-- how many flags aren't set
abbrev pub free : List Bool → ℕ
free [] = 0
free (true ∷ flags) = free flags
free (false ∷ flags) = 1 + free flags

free-set : (flags : List Bool) (n : ℕ) → free (set flags n true) ≤ free flags
free-set [] n = omega arith
free-set (true ∷ flags) zero = omega arith
free-set (false ∷ flags) zero = omega arith
free-set (true ∷ flags) (suc n) = free-set flags n
free-set (false ∷ flags) (suc n) = omega (arith, free-set flags n)

one_less : (flags : List Bool) (n : ℕ) → n < length flags → get_or flags n false ≡ false → free (set flags n true) < free flags
one_less [] n below is = absurd (omega arith)
one_less (true ∷ flags) zero below is = cc
one_less (false ∷ flags) zero below is = omega arith
one_less (true ∷ flags) (suc n) below is = one_less flags n (omega arith) is
one_less (false ∷ flags) (suc n) below is = omega (arith, one_less flags n (omega arith) is)

free-marked : (flags : List Bool) (ws : List (Field × ℕ)) → free (marked flags ws) ≤ free flags
free-marked flags [] = omega arith
free-marked flags (w ∷ ws) = omega (arith, free-marked (set flags (field_number w.0) true) ws, free-set flags (field_number w.0))

-- marking keeps the number of flags
pub length-marked : (flags : List Bool) (ws : List (Field × ℕ)) → length (marked flags ws) ≡ length flags
length-marked flags [] = refl
length-marked flags (w ∷ ws) = length-marked (set flags (field_number w.0) true) ws ∙ length-set flags (field_number w.0) true

field_less : (flags : List Bool) (field : Field) (words : List ℕ) → length flags ≡ 156 → 0 < length words → AreBelow 156 (numbers (fields_with_words field words)) → seen_twice flags (numbers (fields_with_words field words)) ≡ false → free (marked flags (fields_with_words field words)) < free flags
field_less flags field [] size some below once = absurd (omega arith)
field_less flags field (word ∷ words) size some below once =
    let parts = or_false (get_or flags (field_number field) false) _ once in
    omega (arith, one_less flags (field_number field) (omega (arith, below.0)) parts.0, free-marked (set flags (field_number field) true) (fields_with_words (next_field field) words))

-- the lines that a stage leaves room for, besides blocks and fields
abbrev pub stage_room : ImageReadStage → ℕ
stage_room stage.Header = 2
stage_room stage.Open = 1
stage_room (stage.Block node) = 1
stage_room stage.Ended = 0

-- the lines that may still come: each block can have as many as there are fields, and one that begins it
abbrev pub room : ImageReadProgress → ℕ
room progress = stage_room progress.stage + 157 * free progress.blocks + free progress.given

-- there is a flag for each node and each field
pub record IsSized (progress : ImageReadProgress) : Type 0 where
  pub blocks : length progress.blocks ≡ 144
  pub given : length progress.given ≡ 156

-- the next state leaves room for fewer lines, and has a flag for each node and each field
abbrev pub IsLess : ImageReadProgress → ImageReadProgress → Type 0
IsLess progress next = (room next < room progress) × IsSized next

unended : (s : ImageReadStage) (f : LineForm) → s ≢ stage.Header → is_misplaced_line s (Some f) ≡ false → stage_room s ≡ 1
unended stage.Header f later e = absurd (later refl)
unended stage.Open f later e = refl
unended (stage.Block node) f later e = refl
unended stage.Ended f later e = cc

form_less : (progress : ImageReadProgress) (f : LineForm) → IsSized progress → progress.stage ≢ stage.Header → ((at : Field) (ws : List ℕ) → f ≡ Words at ws → 0 < length ws) → fault_after_header progress (Some f) ≡ None → IsLess progress (progress_after_line_form progress (Some f))
form_less progress End sized later some none =
    let one = unended progress.stage End later (neither (is_misplaced_line progress.stage (Some End)) _ _ none).0 in
    (omega arith, record { blocks = sized.blocks; given = sized.given })
form_less progress (Node y) sized later some none =
    let one = unended progress.stage (Node y) later (neither (is_misplaced_line progress.stage (Some (Node y))) _ _ none).0 in
    let ok = node_ok progress y none in
    let at = yxx_of_node y ok.0 ok.1 in
    let begun : ImageReadProgress = record progress { stage = stage.Block ok.0; blocks = set progress.blocks ok.0 true; given = no_fields_given; held = run_state_at_load } in
    let less : free (set progress.blocks ok.0 true) < free progress.blocks = one_less progress.blocks ok.0 (omega (arith, at.1, sized.blocks)) ok.2 in
    let P : ImageReadProgress → Type 0 = IsLess progress in
    subst P (ap (progress_with_block progress) (sym ok.1)) (omega arith, record { blocks = length-set progress.blocks ok.0 true ∙ sized.blocks; given = refl })
form_less progress (Words field words) sized later some none =
    let one = unended progress.stage (Words field words) later (neither (is_misplaced_line progress.stage (Some (Words field words))) _ _ none).0 in
    let ok = field_ok progress field words none in
    let less = field_less progress.given field words sized.given (some field words refl) (field_below field words ok.0.0) (sym (repeats_numbers progress.given (fields_with_words field words)) ∙ ok.1) in
    let P : ImageReadProgress → Type 0 = IsLess progress in
    subst P (sym (all_written progress (fields_with_words field words))) (omega arith, record { blocks = sized.blocks; given = length-marked progress.given (fields_with_words field words) ∙ sized.given })

pub known : (s : ImageReadStage) → (s ≡ stage.Header) ⊎ (s ≢ stage.Header)
known stage.Header = inl refl
known stage.Open = inr (λ e. cc)
known (stage.Block node) = inr (λ e. cc)
known stage.Ended = inr (λ e. cc)

pub past_start : (progress : ImageReadProgress) (text : List ℕ) → progress.stage ≡ stage.Header → progress_after_line progress text ≡ record progress { format = format_of_header text; stage = stage.Open }
past_start progress text is = short_past progress text ∙ rw is refl

-- each line leaves less room for others
pub line_less : (progress : ImageReadProgress) (text : List ℕ) → IsSized progress → first_fault_of_line progress text ≡ None → IsLess progress (progress_after_line progress text)
line_less progress text sized none =
    let P : ImageReadProgress → Type 0 = IsLess progress in
    elim (known progress.stage) [
      | inl is ↦
          let two : stage_room progress.stage ≡ 2 = ap stage_room is in
          subst P (sym (past_start progress text is)) (omega arith, record { blocks = sized.blocks; given = sized.given })
      | inr later ↦
          let none_later : fault_after_header progress (form_in_format progress.format text) ≡ None = sym (line_later progress.stage progress text later) ∙ not_short progress text none in
          let placed = neither (is_misplaced_line progress.stage (form_in_format progress.format text)) _ _ none_later in
          let meaning = some_form progress.stage (form_in_format progress.format text) later placed.0 in
          let fault : fault_after_header progress (Some meaning.0) ≡ None = ap (fault_after_header progress) (sym meaning.1) ∙ none_later in
          let past : progress_after_line progress text ≡ progress_after_line_form progress (Some meaning.0) = short_past progress text ∙ past_later progress.stage progress text later ∙ ap (progress_after_line_form progress) meaning.1 in
          subst P (sym past) (form_less progress meaning.0 sized later (λ at ws is. some_spelled text at ws (kept_spelled progress.format text (Words at ws) (meaning.1 ∙ ap (λ f. Some f) is)).0) fault)
    ]

-- at the start
pub start_room : (room initial_read_progress ≤ 22766) × IsSized initial_read_progress
unfolding initial_read_progress
start_room = (lit≤ tt, record { blocks = refl; given = refl })

-- ---- how many bytes an image has

-- the bytes of lines, each with its line feed
abbrev pub size : List (List ℕ) → ℕ
size [] = 0
size (line ∷ lines) = length line + 1 + size lines

with_byte_size : (byte : ℕ) (lines : List (List ℕ)) → size lines + 1 ≤ size (lines_with_added_front_byte byte lines)
with_byte_size byte [] = omega arith
with_byte_size byte (line ∷ lines) = omega arith

byte_size : (is_line_feed : Bool) (byte : ℕ) (lines : List (List ℕ)) → size lines + 1 ≤ size (cond is_line_feed ([] ∷ lines) (lines_with_added_front_byte byte lines))
byte_size true byte lines = omega arith
byte_size false byte lines = with_byte_size byte lines

-- a text is no longer than its lines
pub text_size : (text : List ℕ) → length text ≤ size (lines_of_text text)
text_size [] = omega arith
text_size (byte ∷ text) = let more = byte_size (byte == 10) byte (lines_of_text text) in omega (arith, text_size text)

-- a line without fault has at most 200 bytes
pub short_line : (progress : ImageReadProgress) (text : List ℕ) → first_fault_of_line progress text ≡ None → length text ≤ 200
unfolding first_fault_of_line
short_line progress text none =
    let short = (neither (nat_lt max_input_line (length text)) LineTooLong (line_fault progress.stage progress text) none).0 in
    grind (arith, nat_tests)

-- lines that are read take up room, 201 bytes at most each
pub read_size : (lines : List (List ℕ)) (progress : ImageReadProgress) (line : ℕ) (chip : List NodeState) → IsSized progress → read_result_of_lines progress line lines ≡ Ok chip → size lines ≤ 201 * room progress
unfolding read_result_of_lines
read_size [] progress line chip sized read = omega arith
read_size (text ∷ lines) progress line chip sized read =
    let parts = passed (first_fault_of_line progress text) line (read_result_of_lines (progress_after_line progress text) (line + 1) lines) chip read in
    let less = line_less progress text sized parts.0 in
    let rest : size lines ≤ 201 * room (progress_after_line progress text) = read_size lines (progress_after_line progress text) (line + 1) chip less.1 parts.1 in
    let short = short_line progress text parts.0 in
    omega (arith, less.0)

-- an image is far shorter than the limit of an input
pub short_image : (text : List ℕ) (chip : List NodeState) → IsImage (lines_of_text text) chip → length text < 16777216
short_image text chip image =
    let begun = start_room in
    let bytes = read_size (lines_of_text text) initial_read_progress 1 chip begun.1 (image_read (lines_of_text text) chip image) in
    omega (arith, begun.0, text_size text)

-- ---- steps of reading an image

-- past a line without fault
pub reads_on : (progress : ImageReadProgress) (line : ℕ) (text first after : List ℕ) → lines_of_text text ≡ first ∷ lines_of_text after → first_fault_of_line progress first ≡ None → read_result_of_lines progress line (lines_of_text text) ≡ read_result_of_lines (progress_after_line progress first) (line + 1) (lines_of_text after)
unfolding read_result_of_lines
reads_on progress line text first after splits none = rw (splits, none) refl

-- at a line with a fault
pub reads_fault : (progress : ImageReadProgress) (line : ℕ) (text first after : List ℕ) (cause : ImageFaultCause) → lines_of_text text ≡ first ∷ lines_of_text after → first_fault_of_line progress first ≡ Some cause → read_result_of_lines progress line (lines_of_text text) ≡ Err (record { line = line; cause = cause })
unfolding read_result_of_lines
reads_fault progress line text first after cause splits is = rw (splits, is) refl

-- at the end of an image
pub reads_end : (progress : ImageReadProgress) (line : ℕ) → progress.stage ≡ Ended → read_result_of_lines progress line [] ≡ Ok progress.chip
unfolding read_result_of_lines
reads_end progress line ended = rw ended refl

from_low_bits : (stage : ImageReadStage) (chip : List NodeState) (line : ℕ) → stage ≢ Ended → result_at_image_end stage chip line ≡ Err (record { line = line; cause = Truncated })
from_low_bits Header chip line other = refl
from_low_bits Open chip line other = refl
from_low_bits (Block node) chip line other = refl
from_low_bits Ended chip line other = absurd (other refl)

-- at the end of a text that was cut off
pub reads_cut : (progress : ImageReadProgress) (line : ℕ) → progress.stage ≢ Ended → read_result_of_lines progress line [] ≡ Err (record { line = line; cause = Truncated })
unfolding read_result_of_lines
reads_cut progress line other = from_low_bits progress.stage progress.chip line other

-- the line `end` was not read
pub still_open : (stage : Expects) → stage ≢ expects.Ended → stage_of_parser stage ≢ Ended
still_open expects.Header other = λ e. cc
still_open expects.Open other = λ e. cc
still_open (expects.Block node) other = λ e. cc
still_open expects.Ended other = absurd (other refl)
