-- How much of an input is taken, and in which blocks; what the reading of one line does.
use Rattle.std.specs.Prelude.{ℕ, ◌+◌, ◌≤◌, length, ◌≡◌, [], ◌∷◌, ◌++◌, take, Result, Ok, Err}
use Rattle.ga_text.specs.Lines.{Bytes, Line, max_input_line, HasNoLineFeed}
use Rattle.ga_text.specs.declared.output.WriteError.{WriteError}
use Rattle.ga_text.specs.declared.lines.LineEnd.{LineEnd}
use Rattle.ga_text.specs.declared.lines.LineEnd.TheVariants.{EndedByFeed, Last, PastLimit, ReadFailed}

-- what was read and is not taken yet, and how many bytes were taken
pub record UnreadInput : Type 0 where
  pub bytes : Bytes
  pub taken : ℕ

-- the most bytes that an input has
abbrev pub input_limit : ℕ
input_limit = 16777216

-- the most bytes that one read brings
abbrev pub input_block_size : ℕ
input_block_size = 65536

-- no byte past the limit was read
abbrev pub IsWithinInputLimit : UnreadInput → Type 0
IsWithinInputLimit u = u.taken + length u.bytes ≤ input_limit

-- ---- what the reading of one line does

-- whether the whole is the part and more, and the first `max_input_line + 1` bytes of the part are in line
pub record HoldsLinePartUpToLimit (whole line part more : Bytes) : Type 0 where
  pub splits : whole ≡ part ++ more
  pub no_feed : HasNoLineFeed part
  pub kept : line ≡ take (max_input_line + 1) part

-- whether a line was taken, with the line feed after it
pub record TakesInputLine (old : UnreadInput) (input : Bytes) (line : Line) (new : UnreadInput) (rest : Bytes) : Type 0 where
  pub part : Bytes
  pub is_line : HoldsLinePartUpToLimit (old.bytes ++ input) line part (10 ∷ (new.bytes ++ rest))
  pub counts : new.taken ≡ old.taken + length part + 1

-- all was taken that was read, and there is no line feed in it
pub record TakesAllUnreadInput (old : UnreadInput) (input : Bytes) (line : Line) (new : UnreadInput) (more : Bytes) : Type 0 where
  pub part : Bytes
  pub is_line : HoldsLinePartUpToLimit (old.bytes ++ input) line part more
  pub counts : new.taken ≡ old.taken + length part
  pub none_left : new.bytes ≡ []

-- the byte past the limit was read
pub record TakesInputLinePastLimit (old : UnreadInput) (input : Bytes) (line : Line) (new : UnreadInput) (rest : Bytes) : Type 0 where
  pub byte : ℕ
  pub takes : TakesAllUnreadInput old input line new (byte ∷ rest)
  pub full : new.taken ≡ input_limit

-- Input is what the reader has left before the call, rest what it has left afterwards.
abbrev pub ReadsLine : UnreadInput → Bytes → Line → UnreadInput → Bytes → Result LineEnd WriteError → Type 0
ReadsLine old input line new rest (Ok EndedByFeed) = TakesInputLine old input line new rest
ReadsLine old input line new rest (Ok Last) = TakesAllUnreadInput old input line new [] × (rest ≡ [])
ReadsLine old input line new rest (Ok PastLimit) = TakesInputLinePastLimit old input line new rest
ReadsLine old input line new rest (Ok ReadFailed) = TakesAllUnreadInput old input line new rest
ReadsLine old input line new rest (Err failed) = TakesAllUnreadInput old input line new rest
