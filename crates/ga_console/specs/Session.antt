-- What the command part of a session says, how it may end, and to which machine it leads (docs/REFERENCE.md, "Sessions"; this
-- project's own). A is how the session answers a line after which it goes on, and R one at which it ends.
use Rattle.std.specs.Prelude.{codes, ◌≡◌, ◌≢◌, ℕ, ◌+◌, ◌<◌, ◌≤◌, ◌⊎◌, List, [], ◌∷◌, ◌++◌, length, take, nat_le, if◌then◌else◌, Result, Ok, Err}
use Rattle.ga_text.specs.Lines.{Text, Line, Bytes, max_input_line, lines_of_text, terminated_lines}
use Rattle.std.specs.List.{AllByRecursion}
use Rattle.ga_text.specs.Output.{TextHasPrefix}
use Rattle.ga_display.specs.Texts.{input_limit_refusal}
use Rattle.ga_console.specs.declared.commands.CommandsEnd.{CommandsEnd}
use Rattle.ga_console.specs.declared.commands.CommandsEnd.TheVariants.{InputEnded, Quit, Refused, PastLimit, ReadFailed}
use Rattle.ga_console.specs.declared.responder.LineAction.{LineAction}
use Rattle.ga_console.specs.declared.responder.LineAction.TheVariants as turn
use Rattle.ga_text.specs.declared.output.WriteError.{WriteError}

-- ---- how a session answers one line, whatever its machine is (docs/REFERENCE.md, "Sessions"; this project's own)

-- the answers of a session: the machine before a line, the line, its answer, and the machine after it
abbrev pub AnswerRelation : Type 0 → Type 1
AnswerRelation M = M → Line → Text → M → Type 0

-- no answer ends the session
abbrev pub NeverAnswersAndEnds : {M : Type 0} → AnswerRelation M
NeverAnswersAndEnds m line answer new = ⊥

-- the line that ends a session
abbrev pub quit_line : Line
quit_line = codes "quit"

-- a line, of which the first `max_input_line + 1` bytes are here, is answered and isn't quit
abbrev pub AnswersLine : {M : Type 0} → AnswerRelation M → M → Line → Text → M → Type 0
AnswersLine A m line answer new = (part : Line) → line ≡ take (max_input_line + 1) part → A m part answer new × (part ≢ quit_line)

-- a line is answered, as far as the answer can be written, or is quit
abbrev pub AnswersOrQuitsLine : {M : Type 0} → AnswerRelation M → M → Line → M → Result LineAction WriteError → Text → Type 0
AnswersOrQuitsLine A m line new (Ok turn.Answered) answer = AnswersLine A m line answer new
AnswersOrQuitsLine A m line new (Ok turn.Refused) answer = ⊥
AnswersOrQuitsLine A m line new (Ok turn.Quit) answer = (line ≡ quit_line) × (new ≡ m) × (answer ≡ [])
AnswersOrQuitsLine A m line new (Err failed) answer = AnswersLine A m line answer new

abbrev pub HasNoQuit : List Line → Type 0
HasNoQuit lines = AllByRecursion (λ line. line ≢ quit_line) lines

-- From this machine the lines may be answered by this text, one after the other, and lead to that one.
abbrev pub AreLinesAnswered : {M : Type 0} → AnswerRelation M → M → List Line → Text → M → Type 0
AreLinesAnswered A m [] text last = (text ≡ []) × (last ≡ m)
AreLinesAnswered {M} A m (line ∷ lines) text last =
    (answer : Text)
    × (next : M)
    × (more : Text)
    × A m line answer next
    × AreLinesAnswered A next lines more last
    × (text ≡ answer ++ more)

-- The same, where the last line is answered so that the session ends.
abbrev pub AnswersLinesUntilRefusal : {M : Type 0} → AnswerRelation M → AnswerRelation M → M → List Line → Text → M → Type 0
AnswersLinesUntilRefusal {M} A R m lines text last =
    (before : List Line)
    × (line : Line)
    × (said answer : Text)
    × (next : M)
    × (lines ≡ before ++ line ∷ [])
    × AreLinesAnswered A m before said next
    × R next line answer last
    × (text ≡ said ++ answer)

-- The lines within the bound of what was read. Where that ends within the bound, a last line without a line feed is one of them.
abbrev pub lines_within_input_limit : ℕ → Bytes → List Line
lines_within_input_limit room read = if nat_le (length read) room then lines_of_text read else terminated_lines (take room read)

-- All that may be written for these lines: their answers, of which the last may end the session, and, if the input exceeds its bound
-- after them, the refusal of that.
abbrev pub WritesAnswersWithLimitRefusal : {M : Type 0} → Text → AnswerRelation M → AnswerRelation M → ℕ → M → Bytes → List Line → Text → M → Type 0
WritesAnswersWithLimitRefusal limit_refusal A R room m read lines text last = AreLinesAnswered A m lines text last
    ⊎ AnswersLinesUntilRefusal A R m lines text last
    ⊎ ((room < length read) × (lines ≡ terminated_lines (take room read)) × (said : Text) × AreLinesAnswered A m lines said last × (text ≡ said ++ limit_refusal))

-- A last line without a line feed is heard only where nothing is left to read.
abbrev pub AreLinesEndedUnlessInputEnds : ℕ → Bytes → Bytes → List Line → Type 0
AreLinesEndedUnlessInputEnds room read rest heard = (rest ≡ []) ⊎ ((more : List Line) × (terminated_lines (take room read) ≡ heard ++ more))

-- In what follows, read was read of the commands and rest is left of them, text was said, up to room bytes are within the bound,
-- and last is the machine after the lines that were answered.

-- the input ended: each line was answered
pub record ServesToEnd {M : Type 0} (A : AnswerRelation M) (room : ℕ) (m : M) (read rest : Bytes) (text : Text) (last : M) : Type 0 where
  pub within : length read ≤ room
  pub at_end : rest ≡ []
  pub no_quit : HasNoQuit (lines_of_text read)
  pub answers : AreLinesAnswered A m (lines_of_text read) text last

-- the line `quit` comes after these lines
abbrev pub QuitsAfterLines : Bytes → Bytes → List Line → List Line → Type 0
QuitsAfterLines read rest heard after =
    (terminated_lines read ≡ heard ++ quit_line ∷ after) ⊎ ((rest ≡ []) × (lines_of_text read ≡ heard ++ quit_line ∷ []))

-- a line `quit` came: each line before the first was answered
pub record ServesToQuit {M : Type 0} (A : AnswerRelation M) (room : ℕ) (m : M) (read rest : Bytes) (text : Text) (last : M) : Type 0 where
  pub within : length read ≤ room
  pub heard : List Line
  pub after : List Line
  pub no_quit : HasNoQuit heard
  pub answers : AreLinesAnswered A m heard text last
  pub quits : QuitsAfterLines read rest heard after

-- these lines come first
abbrev pub ReadsLinesFirst : Bytes → Bytes → List Line → List Line → Type 0
ReadsLinesFirst read rest heard after = (terminated_lines read ≡ heard ++ after) ⊎ ((rest ≡ []) × (lines_of_text read ≡ heard))

-- the line of this number, counted from 1, was refused: each line up to it was answered, and none after it
pub record ServesToRefusal {M : Type 0} (A R : AnswerRelation M) (number room : ℕ) (m : M) (read rest : Bytes) (text : Text) (last : M) : Type 0 where
  pub within : length read ≤ room
  pub heard : List Line
  pub after : List Line
  pub no_quit : HasNoQuit heard
  pub answers : AnswersLinesUntilRefusal A R m heard text last
  pub counts : number ≡ length heard
  pub front : ReadsLinesFirst read rest heard after

-- the input went past its bound in the line of this number: each line within it was answered, and then that was said
pub record ServesToInputLimit {M : Type 0} (limit_refusal : Text) (A : AnswerRelation M) (number room : ℕ) (m : M) (read rest : Bytes) (text : Text) (last : M) : Type 0 where
  pub over : length read ≡ room + 1
  pub no_quit : HasNoQuit (terminated_lines (take room read))
  pub said : Text
  pub answers : AreLinesAnswered A m (terminated_lines (take room read)) said last
  pub told : text ≡ said ++ limit_refusal
  pub counts : number ≡ length (terminated_lines (take room read)) + 1

-- a read failed: each line that was read whole was answered
pub record ServesToReadFailure {M : Type 0} (A : AnswerRelation M) (room : ℕ) (m : M) (read rest : Bytes) (text : Text) (last : M) : Type 0 where
  pub within : length read ≤ room
  pub no_quit : HasNoQuit (terminated_lines read)
  pub answers : AreLinesAnswered A m (terminated_lines read) text last

-- a write failed: some lines were answered, of which none was quit
pub record ServesToWriteFailure {M : Type 0} (limit_refusal : Text) (A R : AnswerRelation M) (room : ℕ) (m : M) (read rest : Bytes) (text : Text) (last : M) : Type 0 where
  pub heard : List Line
  pub after : List Line
  pub front : lines_within_input_limit room read ≡ heard ++ after
  pub no_quit : HasNoQuit heard
  pub script : WritesAnswersWithLimitRefusal limit_refusal A R room m read heard text last
  pub whole : AreLinesEndedUnlessInputEnds room read rest heard

-- This text may have been said at this ending, in a session with this refusal of an input past its bound.
abbrev pub ServesCommandsWithLimitRefusal : {M : Type 0} → Text → AnswerRelation M → AnswerRelation M → ℕ → M → Bytes → Bytes → Text → M → Result CommandsEnd WriteError → Type 0
ServesCommandsWithLimitRefusal limit_refusal A R room m read rest text last (Ok InputEnded) = ServesToEnd A room m read rest text last
ServesCommandsWithLimitRefusal limit_refusal A R room m read rest text last (Ok Quit) = ServesToQuit A room m read rest text last
ServesCommandsWithLimitRefusal limit_refusal A R room m read rest text last (Ok (Refused number)) = ServesToRefusal A R number room m read rest text last
ServesCommandsWithLimitRefusal limit_refusal A R room m read rest text last (Ok (PastLimit number)) = ServesToInputLimit limit_refusal A number room m read rest text last
ServesCommandsWithLimitRefusal limit_refusal A R room m read rest text last (Ok ReadFailed) = ServesToReadFailure A room m read rest text last
ServesCommandsWithLimitRefusal limit_refusal A R room m read rest text last (Err failed) = ServesToWriteFailure limit_refusal A R room m read rest text last

-- in one of text
abbrev pub ServesCommands : {M : Type 0} → AnswerRelation M → AnswerRelation M → ℕ → M → Bytes → Bytes → Text → M → Result CommandsEnd WriteError → Type 0
ServesCommands A R room m read rest text last ending = ServesCommandsWithLimitRefusal input_limit_refusal A R room m read rest text last ending

-- What is written of all that was said: the whole, or where a write failed, a front of it.
abbrev pub IsWholeOrPrefixOnWriteError : Result CommandsEnd WriteError → Text → Bytes → Type 0
IsWholeOrPrefixOnWriteError (Ok ending) said text = text ≡ said
IsWholeOrPrefixOnWriteError (Err failed) said text = TextHasPrefix said text
