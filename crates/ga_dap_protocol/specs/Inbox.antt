-- Messages taken from an input. `all` is what was read and not taken and what the reader has left, before a call, and `after`
-- the same after it.
use Rattle.std.specs.Prelude.{◌≡◌, ◌≤◌, ◌++◌, ℕ, List, [], length}
use Rattle.ga_dap_protocol.specs.declared.broken.FrameError.{FrameError}
use Rattle.ga_dap_protocol.specs.declared.broken.FrameError.TheVariants.{CutShort}
use Rattle.ga_dap_protocol.specs.Framing.{IsMessage, IsMessagePrefix, CanBeginNoMessage, IsFrameErrorOf}
use Rattle.ga_dap_protocol.specs.declared.inbox.NextMessage.{NextMessage}
use Rattle.ga_dap_protocol.specs.declared.inbox.NextMessage.TheVariants.{Message, End, NoMessage, Failed}

-- why an input that isn't at its end holds no further message: it ends within one, or begins with none whatever follows
abbrev pub IsFrameErrorOfInput : FrameError → List ℕ → Type 0
IsFrameErrorOfInput CutShort all = (1 ≤ length all) × IsMessagePrefix all
IsFrameErrorOfInput why all = CanBeginNoMessage all × IsFrameErrorOf why all

-- what comes next of an input, and what is left of it
abbrev pub IsNextMessage : List ℕ → NextMessage → List ℕ → Type 0
IsNextMessage all (Message content) after = (text : List ℕ) × IsMessage content.items text × (all ≡ text ++ after)
IsNextMessage all End after = (all ≡ []) × (after ≡ [])
IsNextMessage all (NoMessage why) after = (all ≡ after) × IsFrameErrorOfInput why all
IsNextMessage all Failed after = all ≡ after
