-- What an editor wrote into a text where it has no place, and the lines that report it (docs/REFERENCE.md, "Sessions"; this project's own).
use Rattle.std.specs.Prelude.{ℕ, ◌==◌, ◌&&◌, not, Bool, true, false, if◌then◌else◌, List, [], ◌∷◌, ◌++◌, codes, decimal, bytes_eq, Option, Some, None}
use Rattle.ga_text.specs.Lines.{Text}
use Rattle.ga_parser.specs.Saying.{next_line_number, byte_order_mark}
use Rattle.ga_parser.specs.Vocabulary.{has_prefix}
use Rattle.ga_debug_info.specs.declared.editor_artifact.StrayEditorCharacter.{StrayEditorCharacter}
use Rattle.ga_debug_info.specs.declared.editor_artifact.StrayEditorCharacter.TheVariants.{ByteOrderMark, CarriageReturn, CarriageReturnAfterEndWord}

-- the first line that ends with a return and a feed, where lines are counted from this one on, and whether a return is directly before the
-- text
unfoldable pub first_carriage_return : ℕ → Bool → List ℕ → Option StrayEditorCharacter
first_carriage_return line is_return [] = None
first_carriage_return line is_return (byte ∷ text) =
    if is_return && (byte == 10) then Some (CarriageReturn line) else first_carriage_return (if byte == 10 then next_line_number line else line) (byte == 13) text

abbrev pub stray_character_in_image : List ℕ → Option StrayEditorCharacter
stray_character_in_image image = if has_prefix image byte_order_mark then Some ByteOrderMark else first_carriage_return 1 false image

-- a line `end` with a return, followed by other lines than `end`
abbrev pub begins_with_hiding_end_line : List ℕ → Bool
begins_with_hiding_end_line text =
    has_prefix text (codes "end\r\n") && not (bytes_eq text (codes "end\r\n")) && not (bytes_eq text (codes "end\r\nend")) && not (bytes_eq text (codes "end\r\nend\n"))

-- the first of these lines, where lines are counted from this one on, and whether one begins here
unfoldable pub first_hiding_end_line : ℕ → Bool → List ℕ → Option StrayEditorCharacter
first_hiding_end_line line is_start [] = None
first_hiding_end_line line is_start (byte ∷ text) =
    if is_start && begins_with_hiding_end_line (byte ∷ text) then Some (CarriageReturnAfterEndWord line) else first_hiding_end_line (if byte == 10 then next_line_number line else line) (byte == 10) text

abbrev pub stray_character_in_source : List ℕ → Option StrayEditorCharacter
stray_character_in_source source = if has_prefix source (byte_order_mark ++ codes "ga144") then Some ByteOrderMark else first_hiding_end_line 1 true source

-- the lines that report it
abbrev pub byte_order_mark_report : Text
byte_order_mark_report = codes "ga144: a byte order mark stands before the image; leave it out\n"

abbrev pub stray_character_report : Option StrayEditorCharacter → Text
stray_character_report (Some ByteOrderMark) = byte_order_mark_report
stray_character_report (Some (CarriageReturn line)) = codes "ga144: line " ++ decimal line ++ codes ": a carriage return ends the line; end it with a line feed alone\n"
stray_character_report (Some (CarriageReturnAfterEndWord line)) = codes "ga144: line " ++ decimal line ++ codes ": a carriage return ends the line end; end it with a line feed alone\n"
stray_character_report None = []
