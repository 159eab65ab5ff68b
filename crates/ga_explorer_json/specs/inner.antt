-- What only private contracts and proofs name.
use Rattle.std.specs.Prelude.{◌≡◌, ◌&&◌, if◌then◌else◌, List, [], ◌∷◌, ◌++◌, codes, Bool, true, false, Option, Result, Ok, Err}
use Rattle.ga_text.specs.Lines.{Bytes, Text, Line}
use Rattle.ga_text.specs.Output.{WritesSomeText}
use Rattle.ga_text.specs.declared.output.Writer.{Writer}
use Rattle.ga_text.specs.declared.output.WriteError.{WriteError}
use Rattle.ga_console.specs.declared.responder.LineAction.{LineAction}
use Rattle.ga_console.specs.declared.responder.LineAction.TheVariants as turn
use Rattle.ga_explorer.specs.Opening.{ExplorerState}
use Rattle.ga_explorer.specs.declared.commands.Query.{Query}
use Rattle.ga_json.specs.Fields.{NamedValue}
use Rattle.ga_explorer_json.specs.Refusals.{text_after_first_such_byte, text_before_first_such_byte}
use Rattle.ga_explorer_json.specs.Rows.{IsJsonLine}
use Rattle.ga_explorer_json.specs.Answers.{AnswersQueryJson, AnswersLineRequest}
use Rattle.ga_explorer_json.specs.Session.{is_json_refusal, AnswersJsonAndContinues, AnswersJsonAndEndsSession}
use Rattle.ga_explorer_json.specs.Source.{source_word_line_json, source_word_column_json, source_text_json}
use Rattle.ga_explorer_json.specs.declared.answers.LineRequest.{LineRequest}
use Rattle.ga_explorer_json.specs.declared.source.StepSource.{StepSource}

-- what is written is the answer of the query
pub record IsQueryJsonWritten {T W : Type 0} (result : Result T WriteError) (e : ExplorerState) (asked : Query) (contents : W → Option Bytes) (old new : Writer W) : Type 0 where
  pub meant : Query
  pub is : asked ≡ meant
  pub said : WritesSomeText result (IsJsonLine (AnswersQueryJson e meant)) contents old new

-- what a session does after an answer
abbrev pub json_action_after_answer : Bool → Text → LineAction
json_action_after_answer strict answer = if strict && is_json_refusal answer then turn.Refused else turn.Answered

-- what a line asks for is answered, as far as the answer can be written, and the session continues or ends
abbrev pub RespondsToLineRequest : Bool → ExplorerState → Line → LineRequest → ExplorerState → Result LineAction WriteError → Text → Type 0
RespondsToLineRequest strict e line request new (Ok turn.Answered) answer = AnswersLineRequest e line request answer new × ((strict && is_json_refusal answer) ≡ false)
RespondsToLineRequest strict e line request new (Ok turn.Refused) answer = AnswersLineRequest e line request answer new × ((strict && is_json_refusal answer) ≡ true)
RespondsToLineRequest strict e line request new (Ok turn.Quit) answer = ⊥
RespondsToLineRequest strict e line request new (Err failed) answer = AnswersLineRequest e line request answer new

-- ---- a session that may end at its first refused command, by what its machine has

abbrev pub JsonSessionGoesOn : Bool → ExplorerState → Line → Text → Bool → ExplorerState → Type 0
JsonSessionGoesOn strict e line answer strict_on new = AnswersJsonAndContinues strict e line answer new × (strict_on ≡ strict)

abbrev pub JsonSessionEnds : Bool → ExplorerState → Line → Text → Bool → ExplorerState → Type 0
JsonSessionEnds strict e line answer strict_on new = AnswersJsonAndEndsSession strict e line answer new × (strict_on ≡ strict)

-- ---- the text of a refusal, made from its object

-- number, word and hint of a refusal, of which the object has this text after its first comma
abbrev pub refusal_line_of_object : Text → Text
refusal_line_of_object rest =
    let number_on = text_after_first_such_byte 58 rest in
    let word_on = text_after_first_such_byte 34 (text_after_first_such_byte 58 number_on) in
    let hint_on = text_after_first_such_byte 34 (text_after_first_such_byte 58 word_on) in
    codes "no " ++ text_before_first_such_byte 44 number_on ++ codes " " ++ text_before_first_such_byte 34 word_on ++ codes ": " ++ text_before_first_such_byte 34 hint_on ++ codes "\n"

-- ---- the source of a step as fields

abbrev pub fields_of_step_source : StepSource → List NamedValue
fields_of_step_source source =
    (codes "line", source_word_line_json source.word)
    ∷ (codes "column", source_word_column_json source.word)
    ∷ (codes "source", source_text_json source.cell.now source.slot.now)
    ∷ []
