-- What a whole session of exploring may write as JSON, and how it may end (docs/JSON.md; this project's own).
use Rattle.std.specs.Prelude.{◌≡◌, ◌&&◌, ℕ, ◌-◌, [], ◌∷◌, ◌++◌, length, codes, nat_eq, Bool, true, false, Option, Result}
use Rattle.std.specs.List.{starts_with}
use Rattle.ga_text.specs.Lines.{Bytes, Text}
use Rattle.ga_text.specs.Input.{input_limit}
use Rattle.ga_text.specs.declared.output.WriteError.{WriteError}
use Rattle.ga_json.specs.Values.{JsonValue, string}
use Rattle.ga_json.specs.Fields.{json_object}
use Rattle.ga_json.specs.Compact.{json_line}
use Rattle.ga_console.specs.Session.{AnswerRelation, ServesCommandsWithLimitRefusal, IsWholeOrPrefixOnWriteError}
use Rattle.ga_console.specs.declared.commands.CommandsEnd.{CommandsEnd}
use Rattle.ga_console.specs.declared.run.Status.{Status}
use Rattle.ga_check_report.specs.Opened.{HasRefusalJsonObjects}
use Rattle.ga_explorer.specs.Opening.{ExplorerState, OpensTextBeforeCommands, IsTextBeforeCommands}
use Rattle.ga_explorer.specs.Session.{session_status}
use Rattle.ga_explorer_json.specs.Answers.{AnswersJsonLine}
use Rattle.ga_explorer_json.specs.Refusals.{text_after_first_such_byte}

-- what begins a session
abbrev pub session_ready_json : JsonValue
session_ready_json = json_object ((codes "answer", string (codes "ready")) ∷ [])

-- what is written of an input past its bound: an object without a hint
abbrev pub long_input_refusal_line : Text
long_input_refusal_line = codes "{\"command\":null,\"refused\":33,\"why\":\"input\"}\n"

-- ---- a session that ends at its first refused command, if it is strict

-- the text after the first comma
abbrev pub text_after_comma : Text → Text
text_after_comma text = text_after_first_such_byte 44 text

-- the answer is a refusal: its second field is `refused`
abbrev pub is_json_refusal : Text → Bool
is_json_refusal answer = starts_with nat_eq (text_after_comma answer) (codes "\"refused\":")

-- the line is answered, and the session continues
abbrev pub AnswersJsonAndContinues : Bool → AnswerRelation ExplorerState
AnswersJsonAndContinues strict e line answer new = AnswersJsonLine e line answer new × ((strict && is_json_refusal answer) ≡ false)

-- the line is refused, and so the session ends
abbrev pub AnswersJsonAndEndsSession : Bool → AnswerRelation ExplorerState
AnswersJsonAndEndsSession strict e line answer new = AnswersJsonLine e line answer new × ((strict && is_json_refusal answer) ≡ true)

-- ---- the session

-- The text, an image or source, was accepted, and so was the image that gives its chip, if there is one; and the commands after
-- it were served to this ending.
pub record IsServedJsonSession (strict : Bool) (chip : Option Text) (limit : ℕ) (read rest : Bytes) (written : Text) (ending : Result CommandsEnd WriteError) : Type 0 where
  pub text : Text
  pub commands : Bytes
  pub begun : ExplorerState
  pub said : Text
  pub splits : read ≡ text ++ commands
  pub front : IsTextBeforeCommands text (commands ++ rest)
  pub opens : OpensTextBeforeCommands chip text limit begun
  pub last : ExplorerState
  pub serves : ServesCommandsWithLimitRefusal long_input_refusal_line (AnswersJsonAndContinues strict) (AnswersJsonAndEndsSession strict) (input_limit - length text) begun commands rest said last ending
  pub out : IsWholeOrPrefixOnWriteError ending (json_line session_ready_json ++ said) written

-- What a session may have written, where read was read of its input and rest is left of it, and its status.
pub data RunsJsonExplorer (strict : Bool) (file : Text) (chip : Option Text) (limit : ℕ) (read rest : Bytes) (written : Text) (status : Status) : Type 0 where
  served : (ending : Result CommandsEnd WriteError) → status ≡ session_status strict ending → IsServedJsonSession strict chip limit read rest written ending
      → RunsJsonExplorer strict file chip limit read rest written status
  unbegun : HasRefusalJsonObjects chip file read rest written status → RunsJsonExplorer strict file chip limit read rest written status
