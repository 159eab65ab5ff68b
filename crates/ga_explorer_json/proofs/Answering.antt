-- Answers to commands and queries.
use Rattle.std.proofs.Common.{◌≡◌, ℕ, List, refl, sym, subst, Result, Option}
use Rattle.ga_text.specs.Lines.{Bytes}
use Rattle.ga_text.specs.Output.{WritesExactly, WritesSomeText}
use Rattle.ga_text.specs.declared.output.WriteError.{WriteError}
use Rattle.ga_text.specs.declared.output.Writer.{Writer}
use Rattle.ga_lab.specs.Machine.{MachineState}
use Rattle.ga_console.specs.declared.command.DebuggerCommand.{DebuggerCommand}
use Rattle.ga_explorer.specs.Opening.{ExplorerState, explorer_state}
use Rattle.ga_explorer.specs.declared.commands.ExplorerCommand.{ExplorerCommand}
use Rattle.ga_explorer.specs.declared.commands.ExplorerCommand.TheVariants as command
use Rattle.ga_explorer.specs.Changes.{change_name, IsChangeResult}
use Rattle.ga_explorer.specs.declared.changes.Change.{Change}
use Rattle.ga_explorer.specs.declared.changes.ChangeResult.{ChangeResult}
use Rattle.ga_explorer.specs.declared.commands.Query.{Query}
use Rattle.ga_json.specs.Values.{JsonValue}
use Rattle.ga_json.specs.Compact.{json_line}
use Rattle.ga_explorer_json.specs.Rows.{IsJsonLine}
use Rattle.ga_explorer_json.specs.Changes.{change_result_json}
use Rattle.ga_explorer_json.specs.Answers.{AnswersCommandJson, AnswersQueryJson, AnswersExplorerJson, AnswersLineRequest}
use Rattle.ga_explorer_json.specs.inner.{IsQueryJsonWritten}
use Rattle.ga_explorer_json.specs.declared.answers.LineRequest.{LineRequest}

module _ {T W : Type 0} (contents : W → Option Bytes) (result : Result T WriteError) (old new : Writer W) where
  -- what is written of one kind is of another
  pub some_as : (P Q : List ℕ → Type 0) → ((text : List ℕ) → P text → Q text) → WritesSomeText result P contents old new → WritesSomeText result Q contents old new
  some_as P Q f h = (
    h.0,
    λ before said s.
        let done = h.1 before said s in (done.0, f done.0 done.1, done.2),
  )

  -- a text that is written is of a kind
  pub exact_as : (Q : List ℕ → Type 0) (text : List ℕ) → Q text → WritesExactly result text contents old new → WritesSomeText result Q contents old new
  exact_as Q text q h = (h.0, λ before said s. (text, q, h.1 before said s))

  -- the line of a value that is this one
  pub line_is : (value : JsonValue) → WritesExactly result (json_line value) contents old new → WritesSomeText result (IsJsonLine (λ answer. answer ≡ value)) contents old new
  line_is value h = (h.0, λ before said s. (json_line value, (value, refl, refl), h.1 before said s))

  -- the answer to the command that is meant
  pub commanded : (s : MachineState) (asked meant : DebuggerCommand) (now : MachineState) → asked ≡ meant → WritesSomeText result (λ text. AnswersCommandJson s meant text now) contents old new
      → WritesSomeText result (λ text. AnswersCommandJson s asked text now) contents old new
  commanded s asked meant now is h = subst (λ (z : DebuggerCommand). WritesSomeText result (λ text. AnswersCommandJson s z text now) contents old new) (sym is) h

  pub explored_as : (e : ExplorerState) (asked meant : ExplorerCommand) (now : ExplorerState) → asked ≡ meant → WritesSomeText result (λ text. AnswersExplorerJson e meant text now) contents old new
      → WritesSomeText result (λ text. AnswersExplorerJson e asked text now) contents old new
  explored_as e asked meant now is h = subst (λ (z : ExplorerCommand). WritesSomeText result (λ text. AnswersExplorerJson e z text now) contents old new) (sym is) h

  pub requested : (e : ExplorerState) (line : List ℕ) (asked meant : LineRequest) (now : ExplorerState) → asked ≡ meant
      → WritesSomeText result (λ text. AnswersLineRequest e line meant text now) contents old new → WritesSomeText result (λ text. AnswersLineRequest e line asked text now) contents old new
  requested e line asked meant now is h = subst (λ (z : LineRequest). WritesSomeText result (λ text. AnswersLineRequest e line z text now) contents old new) (sym is) h

  -- the answer of the query that is meant, after which nothing is changed
  pub queried : (e : ExplorerState) (asked : Query) (now : ExplorerState) → now ≡ e → IsQueryJsonWritten result e asked contents old new
      → WritesSomeText result (λ text. AnswersExplorerJson e (command.AnswerQuery asked) text now) contents old new
  queried e asked now same told =
      some_as (IsJsonLine (AnswersQueryJson e told.meant)) (λ text. AnswersExplorerJson e (command.AnswerQuery asked) text now)
      (λ text h. (subst (λ z. IsJsonLine (AnswersQueryJson e z) text) (sym told.is) h, same)) told.said

-- the line of what a change came to
pub changed : (e : ExplorerState) (asked : ExplorerCommand) (change : Change) (came : ChangeResult) (new : MachineState) → asked ≡ command.Change change → IsChangeResult e change came new
    → AnswersExplorerJson e asked (json_line (change_result_json (change_name change) came)) (explorer_state new e.notes)
changed e asked change came new is h =
    subst (λ (z : ExplorerCommand). AnswersExplorerJson e z (json_line (change_result_json (change_name change) came)) (explorer_state new e.notes)) (sym is) (came, h, refl, refl)
