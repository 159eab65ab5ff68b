-- A command of exploring that was carried out.
use Rattle.std.proofs.Common.{◌≡◌, ℕ, List, refl, sym, subst}
use Rattle.ga_lab.specs.Machine.{MachineState}
use Rattle.ga_explorer.specs.Opening.{ExplorerState, explorer_state}
use Rattle.ga_explorer.specs.Changes.{change_result_text, IsChangeResult}
use Rattle.ga_explorer.specs.Commands.{AnswersExplorerCommand}
use Rattle.ga_explorer.specs.declared.changes.Change.{Change}
use Rattle.ga_explorer.specs.declared.changes.ChangeResult.{ChangeResult}
use Rattle.ga_explorer.specs.declared.commands.ExplorerCommand.{ExplorerCommand}
use Rattle.ga_explorer.specs.declared.commands.ExplorerCommand.TheVariants as command

-- what is answered to the command that is meant
pub answered : (old new : ExplorerState) (asked meant : ExplorerCommand) (text : List ℕ) → asked ≡ meant → AnswersExplorerCommand old meant text new → AnswersExplorerCommand old asked text new
answered old new asked meant text e h = subst (λ z. AnswersExplorerCommand old z text new) (sym e) h

-- the text of what a change came to
pub changed : (old : ExplorerState) (asked : ExplorerCommand) (change : Change) (came : ChangeResult) (new : MachineState) → asked ≡ command.Change change → IsChangeResult old change came new
    → AnswersExplorerCommand old asked (change_result_text came) (explorer_state new old.notes)
changed old asked change came new e h = answered old (explorer_state new old.notes) asked (command.Change change) (change_result_text came) e (came, h, refl, refl)
