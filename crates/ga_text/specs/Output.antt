-- The first output of a session, and a text that was written in part.
use Rattle.std.specs.Prelude.{◌≡◌, ◌<◌, ◌⊎◌, [], ◌++◌, length, Option, Some, Result, Ok, Err, codes}
use Rattle.ga_text.specs.Lines.{Bytes, Text}
use Rattle.ga_text.specs.Input.{input_limit, input_block_size}
use Rattle.ga_text.specs.Image.{EndsWithEndLine, HasNoEndLine}
use Rattle.ga_text.specs.declared.whole.WholeInputResult.{WholeInputResult}
use Rattle.ga_text.specs.declared.whole.WholeInputResult.TheVariants.{Whole, TooLong, ReadFailed, NoMemory}
use Rattle.ga_text.specs.declared.output.WriteError.{WriteError}
use Rattle.ga_text.specs.declared.output.Writer.{Writer}

-- ---- what reading a whole input does (docs/REFERENCE.md, "Source"; this project's own)

-- Whether the source ends with its line `end`, and after it only what the same read brought was read; or it is all of an input
-- in which no line is `end`.
abbrev pub IsImageReadWhole : Text → Bytes → Bytes → Type 0
IsImageReadWhole source ahead rest = (EndsWithEndLine source × (length ahead < input_block_size)) ⊎ ((ahead ≡ []) × (rest ≡ []) × HasNoEndLine source)

-- whether the text is all that is within the limit, and the next byte was read after it
abbrev pub IsInputTooLong : Text → Bytes → Type 0
IsInputTooLong text ahead = (length text ≡ input_limit) × (length ahead ≡ 1) × HasNoEndLine text

-- the text was read whole, where read was read of the input and rest is left of it
abbrev pub IsWholeImageText : Bytes → Bytes → Text → Type 0
IsWholeImageText read rest text = (ahead : Bytes) × (read ≡ text ++ ahead) × IsImageReadWhole text ahead rest

-- What a call that reads a whole input may do: read was read of it, and rest is left.
abbrev pub ReadsWholeInput : Bytes → Bytes → WholeInputResult → Type 0
ReadsWholeInput read rest (Whole text) = IsWholeImageText read rest text.items
ReadsWholeInput read rest (TooLong text) = (ahead : Bytes) × (read ≡ text.items ++ ahead) × IsInputTooLong text.items ahead
ReadsWholeInput read rest ReadFailed = HasNoEndLine read
ReadsWholeInput read rest NoMemory = Unit {0}

-- the first output after an accepted image
abbrev pub ready_line_text : Text
ready_line_text = codes "ready\n"

-- front is a front of text
abbrev pub TextHasPrefix : Text → Text → Type 0
TextHasPrefix text front = (more : Text) × (text ≡ front ++ more)

-- Whether the stream holds a prefix of the output after what it held before, and the rest of the output is pending.
pub record IsTextWrittenOrPending (contents : Option Bytes) (before said pending : Text) : Type 0 where
  pub sent : Bytes
  pub held : contents ≡ Some (before ++ sent)
  pub splits : said ≡ sent ++ pending

-- Whether the stream holds a prefix of the output after what it held before, and nothing more is written.
pub record IsTextTruncated (contents : Option Bytes) (before said : Text) : Type 0 where
  pub sent : Bytes
  pub held : contents ≡ Some (before ++ sent)
  pub front : TextHasPrefix said sent

-- by whether the writes succeeded: a text is written, of which the rest is pending, or it is cut short
abbrev pub IsTextWrittenOrTruncated : {T : Type 0} → Result T WriteError → Option Bytes → Bytes → Text → Text → Type 0
IsTextWrittenOrTruncated (Ok done) contents before said pending = IsTextWrittenOrPending contents before said pending
IsTextWrittenOrTruncated (Err failed) contents before said pending = IsTextTruncated contents before said

-- A writer writes to the stream that it wrote to before.
abbrev pub IsSameStream : {W : Type 0} → Writer W → Writer W → Type 0
IsSameStream old new = new.stream.ghost_name ≡ old.stream.ghost_name

-- Whether the output doesn't grow between two states of a writer; a pending part of it may be sent to the stream.
abbrev pub WritesNothing : {T W : Type 0} → Result T WriteError → (W → Option Bytes) → Writer W → Writer W → Type 0
WritesNothing result contents old new =
    IsSameStream old new
    × ((before said : Text)
    → IsTextWrittenOrPending (contents old.stream.now) before said old.pending.items
    → IsTextWrittenOrTruncated result (contents new.stream.now) before said new.pending.items)

-- Whether exactly this text is written, or cut short by a failed write.
abbrev pub WritesExactly : {T W : Type 0} → Result T WriteError → Text → (W → Option Bytes) → Writer W → Writer W → Type 0
WritesExactly result text contents old new =
    IsSameStream old new
    × ((before said : Text)
    → IsTextWrittenOrPending (contents old.stream.now) before said old.pending.items
    → IsTextWrittenOrTruncated result (contents new.stream.now) before (said ++ text) new.pending.items)

-- Whether a text of this kind is written, or cut short by a failed write.
abbrev pub WritesSomeText : {T W : Type 0} → Result T WriteError → (Text → Type 0) → (W → Option Bytes) → Writer W → Writer W → Type 0
WritesSomeText result IsText contents old new =
    IsSameStream old new
    × ((before said : Text)
    → IsTextWrittenOrPending (contents old.stream.now) before said old.pending.items
    → (text : Text)
    × IsText text
    × IsTextWrittenOrTruncated result (contents new.stream.now) before (said ++ text) new.pending.items)

-- ---- what a call does with streams that tell their bytes

-- Whether a stream holds a text of this kind after what it held before.
abbrev pub WritesText : (Text → Type 0) → Option Bytes → Option Bytes → Type 0
WritesText IsText old new = (before : Bytes) → old ≡ Some before → (text : Text) × (new ≡ Some (before ++ text)) × IsText text

-- Whether some of an input, of which these bytes were taken ahead, is read and the rest is left, and a stream holds a text
-- after what it held before.
abbrev pub ReadsAheadAndWrites : Bytes → (Bytes → Bytes → Text → Type 0) → Option Bytes → Option Bytes → Option Bytes → Option Bytes → Type 0
ReadsAheadAndWrites ahead Does input left old new =
    (unread before : Bytes)
    → input ≡ Some unread
    → old ≡ Some before
    → (read rest text : Bytes)
    × (ahead ++ unread ≡ read ++ rest)
    × (left ≡ Some rest)
    × (new ≡ Some (before ++ text))
    × Does read rest text

-- Whether some of an input is read and the rest is left, and a stream holds a text after what it held before.
abbrev pub ReadsAndWrites : (Bytes → Bytes → Text → Type 0) → Option Bytes → Option Bytes → Option Bytes → Option Bytes → Type 0
ReadsAndWrites Does input left old new = ReadsAheadAndWrites [] Does input left old new
