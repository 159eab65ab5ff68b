-- What only private contracts and proofs name.
use Rattle.std.specs.Prelude.{ℕ, ◌+◌, ◌/◌, ◌%◌, [], ◌∷◌, Bool, true, false, ◌≡◌, ◌<◌, length, ◌++◌, Option, Result}
use Rattle.ga_text.specs.Lines.{Text, Line, line_with_line_feed, Bytes, HasNoLineFeed}
use Rattle.ga_text.specs.declared.input.ReadStatus.{ReadStatus}
use Rattle.ga_text.specs.declared.input.ReadStatus.TheVariants.{HasBytes, End, PastLimit, Failed}
use Rattle.ga_text.specs.Input.{UnreadInput, input_limit}
use Rattle.ga_text.specs.declared.output.WriteError.{WriteError}
use Rattle.ga_text.specs.Output.{IsTextWrittenOrPending, IsTextWrittenOrTruncated}

-- ---- numbers in two and in four digits

-- the two digits of a number below 100
abbrev pub two_digits : ℕ → Text
two_digits n = (48 + n / 10) ∷ (48 + n % 10) ∷ []

-- the last four digits of a number
abbrev pub four_decimal_digits : ℕ → Text
four_decimal_digits n = (48 + n / 1000 % 10) ∷ (48 + n / 100 % 10) ∷ (48 + n / 10 % 10) ∷ (48 + n % 10) ∷ []

-- ---- what reading the image part does

-- a part with its line feed, if it has one
abbrev pub line_with_optional_feed : Line → Bool → Text
line_with_optional_feed part true = line_with_line_feed part
line_with_optional_feed part false = part

-- ---- what was read of an input and is not taken yet, and how more is read

-- What one read of more does: input is what the reader has left before it, rest what it has left afterwards, bytes what was read.
abbrev pub ReadsMoreInput : ℕ → Bytes → Bytes → Bytes → ReadStatus → Type 0
ReadsMoreInput taken input bytes rest HasBytes = input ≡ bytes ++ rest
ReadsMoreInput taken input bytes rest End = (input ≡ []) × (rest ≡ [])
ReadsMoreInput taken input bytes rest PastLimit = (taken ≡ input_limit) × ((b : ℕ) × (input ≡ b ∷ rest))
ReadsMoreInput taken input bytes rest Failed = rest ≡ input

-- after a read of more there are bytes, or none
abbrev pub HasReadBytes : Bytes → ReadStatus → Type 0
HasReadBytes bytes HasBytes = 0 < length bytes
HasReadBytes bytes End = bytes ≡ []
HasReadBytes bytes PastLimit = bytes ≡ []
HasReadBytes bytes Failed = bytes ≡ []

-- A part was taken: up to a line feed, which is taken too, or all that was read.
abbrev pub TakesLinePart : UnreadInput → Bytes → UnreadInput → Bool → Type 0
TakesLinePart old part new true = HasNoLineFeed part × (old.bytes ≡ part ++ 10 ∷ new.bytes) × (new.taken ≡ old.taken + length part + 1)
TakesLinePart old part new false = HasNoLineFeed part × (old.bytes ≡ part) × (new.bytes ≡ []) × (new.taken ≡ old.taken + length part)
