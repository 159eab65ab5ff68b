-- The image part: what of the input it is (docs/REFERENCE.md, "Sessions"; this project's own).
use Rattle.std.specs.Prelude.{◌≡◌, ◌≢◌, ℕ, ◌+◌, List, [], ◌∷◌, ◌++◌, length, codes}
use Rattle.std.specs.List.{AllByRecursion}
use Rattle.ga_text.specs.Lines.{Bytes, Text, Line, HasNoLineFeed, line_with_line_feed, text_of_lines}
use Rattle.ga_text.specs.Input.{UnreadInput, input_limit}
use Rattle.ga_text.specs.declared.image.ImageReadEnd.{ImageReadEnd}
use Rattle.ga_text.specs.declared.image.ImageReadEnd.TheVariants.{EndLine, EndOfInput, PastLimit, Failed}

abbrev pub image_end_line : Line
image_end_line = codes "end"

-- a line before the line `end`
pub record IsImageBodyLine (line : Line) : Type 0 where
  pub no_feed : HasNoLineFeed line
  pub not_end : line ≢ image_end_line

-- whether the text ends with its first line `end` and that line's line feed
pub record EndsWithEndLine (text : Text) : Type 0 where
  pub lines : List Line
  pub before : AllByRecursion IsImageBodyLine lines
  pub splits : text ≡ text_of_lines lines ++ line_with_line_feed image_end_line

-- no line of the text that a line feed ends is `end`
pub record HasNoEndLine (text : Text) : Type 0 where
  pub lines : List Line
  pub part : Bytes
  pub before : AllByRecursion IsImageBodyLine lines
  pub no_feed : HasNoLineFeed part
  pub splits : text ≡ text_of_lines lines ++ part

-- whether this text was taken from the input, where `left` is unread before and `more` after
pub record TakesImageText (old : UnreadInput) (left : Bytes) (text : Text) (new : UnreadInput) (more : Bytes) : Type 0 where
  pub splits : old.bytes ++ left ≡ text ++ more
  pub counts : new.taken ≡ old.taken + length text

-- the byte past the limit was read
pub record TakesImageTextPastLimit (old : UnreadInput) (left : Bytes) (text : Text) (new : UnreadInput) (rest : Bytes) : Type 0 where
  pub byte : ℕ
  pub takes : TakesImageText old left text new (byte ∷ rest)
  pub full : new.taken ≡ input_limit

-- What a call that reads the image may do: left is what the reader has left before it, rest what it has left afterwards.
abbrev pub ReadsImage : UnreadInput → Bytes → Text → UnreadInput → Bytes → ImageReadEnd → Type 0
ReadsImage old left text new rest EndLine = EndsWithEndLine text × TakesImageText old left text new (new.bytes ++ rest)
ReadsImage old left text new rest EndOfInput = HasNoEndLine text × TakesImageText old left text new [] × (new.bytes ≡ []) × (rest ≡ [])
ReadsImage old left text new rest PastLimit = HasNoEndLine text × TakesImageTextPastLimit old left text new rest × (new.bytes ≡ [])
ReadsImage old left text new rest Failed = HasNoEndLine text × (old.bytes ++ left ≡ text ++ rest)
