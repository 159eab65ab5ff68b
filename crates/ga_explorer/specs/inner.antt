-- What only private contracts and proofs name.
use Rattle.std.specs.Prelude.{codes, decimal, ◌++◌, if◌then◌else◌, take, Bool, Option, Some, None, ◌≡◌, ℕ, true, false, [], Result, Ok, Err}
use Rattle.ga_explorer.specs.Opening.{ExplorerState, begins_as_image, is_read_as_image, OpensTextBeforeCommands}
use Rattle.ga_explorer.specs.Forms.{CommandEntry}
use Rattle.ga_explorer.specs.declared.forms.Row.{Row}
use Rattle.ga_text.specs.Lines.{Text, Line, Bytes}
use Rattle.ga_image.specs.declared.fault.ImageFault.{ImageFault}
use Rattle.ga_console.specs.Run.{IsFaultOfImage, WritesImageRefusal}
use Rattle.ga_console.specs.declared.run.Status.{Status}
use Rattle.ga_console.specs.declared.run.Status.TheVariants.{ImageRefused}
use Rattle.ga_explorer.specs.declared.opening.OpenError.{OpenError}
use Rattle.ga_explorer.specs.declared.opening.OpenError.TheVariants.{Image, Source}
use Rattle.ga_text.specs.Output.{WritesSomeText}
use Rattle.ga_text.specs.declared.output.Writer.{Writer}
use Rattle.ga_text.specs.declared.output.WriteError.{WriteError}
use Rattle.ga_explorer.specs.Commands.{AnswersQuery}
use Rattle.ga_explorer.specs.Session.{AnswersWithPrompt, AnswersLineAndContinues, AnswersAndEndsSession, is_refusal_answer}
use Rattle.ga_console.specs.declared.responder.LineAction.{LineAction}
use Rattle.ga_console.specs.declared.responder.LineAction.TheVariants as turn
use Rattle.ga_explorer.specs.declared.commands.Query.{Query}

-- ---- A row of the code's table of commands

abbrev pub command_entry_of_row : Row → CommandEntry
command_entry_of_row row = record { name = row.name.now; class = row.class; form = row.form.now; does = row.does.now; more = row.more.now }

-- ---- what is written once an image or source was read

-- the image that has the chip has this fault: the text, or the one that is given
abbrev pub IsOpenedImageFault : Option Text → Text → ImageFault → Type 0
IsOpenedImageFault None text fault = (begins_as_image text ≡ true) × IsFaultOfImage text fault
IsOpenedImageFault (Some image) text fault = IsFaultOfImage image fault

-- why there is no machine that has the chip as its load
abbrev pub IsLabOpenError : Option Text → Text → OpenError → Type 0
IsLabOpenError chip text (Image fault) = IsOpenedImageFault chip text fault
IsLabOpenError chip text Source = is_read_as_image chip text ≡ false

-- a refusal is written, or standard error has the reason
abbrev pub WritesOpenRefusal : OpenError → Text → Status → Type 0
WritesOpenRefusal (Image fault) written status = WritesImageRefusal fault written status
WritesOpenRefusal Source written status = (written ≡ []) × (status ≡ ImageRefused)

-- a machine was opened on the text, or that was declined
abbrev pub IsExplorerOpenResult : Option Text → ℕ → Text → Text → Result ExplorerState Status → Type 0
IsExplorerOpenResult chip limit text written (Ok begun) = (written ≡ []) × OpensTextBeforeCommands chip text limit begun
IsExplorerOpenResult chip limit text written (Err status) = (why : OpenError) × IsLabOpenError chip text why × WritesOpenRefusal why written status

-- ---- the answer of a query, and what is written

-- what is written is the answer of the query
pub record IsQueryAnswerWritten {W : Type 0} (result : Result (Unit {0}) WriteError) (e : ExplorerState) (asked : Query) (contents : W → Option Bytes) (old new : Writer W) : Type 0 where
  pub meant : Query
  pub is : asked ≡ meant
  pub said : WritesSomeText result (AnswersQuery e meant) contents old new

-- ---- A session that may end at its first refused command, by what its machine has

abbrev pub StrictSessionGoesOn : Bool → ExplorerState → Line → Text → Bool → ExplorerState → Type 0
StrictSessionGoesOn strict e line answer strict_on new = AnswersLineAndContinues strict e line answer new × (strict_on ≡ strict)

abbrev pub StrictSessionEnds : Bool → ExplorerState → Line → Text → Bool → ExplorerState → Type 0
StrictSessionEnds strict e line answer strict_on new = AnswersAndEndsSession strict e line answer new × (strict_on ≡ strict)

-- what a strict session does after an answer
abbrev pub strict_action_after_answer : Text → LineAction
strict_action_after_answer answer = if is_refusal_answer answer then turn.Refused else turn.Answered

-- the refusal that ends the session is noted
abbrev pub IsRefusalNoted : LineAction → Text → Text → Type 0
IsRefusalNoted turn.Answered answer noted = Unit {0}
IsRefusalNoted turn.Refused answer noted = noted ≡ take 201 answer
IsRefusalNoted turn.Quit answer noted = Unit {0}

-- the line of standard error, with the number of the refused line
abbrev pub refused_line_text : ℕ → Text → Text
refused_line_text number refusal = codes "ga144: line " ++ decimal number ++ codes ": refused: " ++ refusal

-- ---- A session that may prompt for commands, by what its machine has

abbrev pub PromptingSessionGoesOn : Bool → Bool → ExplorerState → Line → Text → Bool → Bool → ExplorerState → Type 0
PromptingSessionGoesOn prompts strict e line written prompts_on strict_on new =
    AnswersWithPrompt prompts strict e line written new × (strict_on ≡ strict) × (prompts_on ≡ prompts)

abbrev pub PromptingSessionEnds : Bool → Bool → ExplorerState → Line → Text → Bool → Bool → ExplorerState → Type 0
PromptingSessionEnds prompts strict e line answer prompts_on strict_on new = AnswersAndEndsSession strict e line answer new × (strict_on ≡ strict) × (prompts_on ≡ prompts)
