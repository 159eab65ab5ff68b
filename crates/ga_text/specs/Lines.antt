-- The lines of a text.
use Rattle.std.specs.Prelude.{ℕ, ◌≡◌, Bool, false, List, [], ◌∷◌, ◌++◌, ◌==◌, if◌then◌else◌, All, flat_map}

-- bytes as they are read or written
abbrev pub Bytes : Type 0
Bytes = List ℕ

-- bytes that are read as lines, or written as output
abbrev pub Text : Type 0
Text = Bytes

-- a line of a text, without its line feed
abbrev pub Line : Type 0
Line = Bytes

-- the lines, with one byte more at the front of the first
abbrev pub lines_with_added_front_byte : ℕ → List Line → List Line
lines_with_added_front_byte byte [] = (byte ∷ []) ∷ []
lines_with_added_front_byte byte (line ∷ lines) = (byte ∷ line) ∷ lines

-- Each line is ended by a line feed, which the last may lack. An empty text has no line.
abbrev pub lines_of_text : Text → List Line
lines_of_text [] = []
lines_of_text (byte ∷ text) = if byte == 10 then [] ∷ lines_of_text text else lines_with_added_front_byte byte (lines_of_text text)

-- the most bytes of a line, without its line feed
abbrev pub max_input_line : ℕ
max_input_line = 200

-- ---- lines that a line feed ends

abbrev pub is_line_end_byte : ℕ → Bool
is_line_end_byte b = b == 10

abbrev pub HasNoLineFeed : Bytes → Type 0
HasNoLineFeed part = All (λ b. is_line_end_byte b ≡ false) part

-- a line with its line feed
abbrev pub line_with_line_feed : Line → Text
line_with_line_feed line = line ++ 10 ∷ []

-- the text of lines, each with its line feed
abbrev pub text_of_lines : List Line → Text
text_of_lines lines = flat_map line_with_line_feed lines

-- a byte in front of the first line
abbrev pub terminated_lines_with_front_byte : ℕ → List Line → List Line
terminated_lines_with_front_byte b [] = []
terminated_lines_with_front_byte b (line ∷ lines) = (b ∷ line) ∷ lines

-- The lines of a text that are ended by a line feed. The bytes after the last line feed are none of them.
abbrev pub terminated_lines : Bytes → List Line
terminated_lines [] = []
terminated_lines (b ∷ text) = if is_line_end_byte b then [] ∷ terminated_lines text else terminated_lines_with_front_byte b (terminated_lines text)
