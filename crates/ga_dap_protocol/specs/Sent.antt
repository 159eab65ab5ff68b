-- What is to be written: messages, framed, in order.
use Rattle.std.specs.Prelude.{◌≡◌, ◌≤◌, ◌+◌, ◌%◌, ◌^◌, ◌++◌, ℕ, List, false, Some}
use Rattle.serde_json.specs.Data.{Data, depth}
use Rattle.serde_json.specs.Read.{max_depth, read}
use Rattle.serde_json.specs.Written.{has_float, compact_text}
use Rattle.ga_dap_protocol.specs.Framing.{framed_message}

-- messages that are to be written: the bytes, and the number of the last message
pub record OutboxContent : Type 0 where
  pub bytes : List ℕ
  pub seq : ℕ

-- the number of the next message
abbrev pub next_message_number : ℕ → ℕ
next_message_number seq = (seq + 1) % 2 ^ 64

-- a message is added: its text is that of the value, without a space where it has no float, and is read back as the value
pub record AddsMessage (old : OutboxContent) (seq : ℕ) (message : Data) (new : OutboxContent) : Type 0 where
  pub text : List ℕ
  pub bytes : new.bytes ≡ old.bytes ++ framed_message text
  pub compact : has_float message ≡ false → text ≡ compact_text message
  pub read_back : depth message ≤ max_depth → read text ≡ Some message
  pub number : new.seq ≡ seq
