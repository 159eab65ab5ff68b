-- The changes of exploring: what each does to the machine, what it comes to, and the text of that (docs/REFERENCE.md, "Runs"; this project's own).
use Rattle.std.specs.Prelude.{◌≡◌, List, length, codes}
use Rattle.ga_text.specs.Lines.{Text}
use Rattle.ga_lab.specs.Machine.{MachineState}
use Rattle.ga_scheduler.specs.Conditions.{conditions_before_never}
use Rattle.ga_scheduler.specs.declared.condition.Condition.{Condition}
use Rattle.ga_explorer_text.specs.Texts.{run_end_text, back_until_result_text}
use Rattle.ga_explorer.specs.Opening.{ExplorerState}
use Rattle.ga_explorer.specs.Expecting.{IsRunOf, IsBackOf, IsRunRefused, expecting_refusal_text}
use Rattle.ga_explorer.specs.declared.changes.Change.{Change}
use Rattle.ga_explorer.specs.declared.changes.Change.TheVariants.{Run, BackUntil}
use Rattle.ga_explorer.specs.declared.changes.ChangeResult.{ChangeResult}
use Rattle.ga_explorer.specs.declared.changes.ChangeResult.TheVariants.{RunEnded, EventsRemoved, Refused}

-- the word with which a line spells a change
abbrev pub change_name : Change → Text
change_name (Run schedule most until) = codes "run"
change_name (BackUntil only until) = codes "back"

-- the conditions of a change
abbrev pub conditions_of_change : Change → List Condition
conditions_of_change (Run schedule most until) = conditions_before_never until
conditions_of_change (BackUntil only until) = conditions_before_never until

-- what a change comes to, and the machine then
abbrev pub IsChangeResult : ExplorerState → Change → ChangeResult → MachineState → Type 0
IsChangeResult e (Run schedule most until) (RunEnded ran conditions) new =
    IsRunOf e.notes e.lab schedule most (conditions_before_never until) ran new × (conditions ≡ length (conditions_before_never until))
IsChangeResult e (BackUntil only until) (EventsRemoved removed kept) new =
    IsBackOf e.notes e.lab (conditions_before_never until) only removed new × (kept ≡ length new.kept)
IsChangeResult e change (Refused why) new = IsRunRefused e.notes (conditions_of_change change) why × (new ≡ e.lab)
IsChangeResult e change other new = ⊥

-- the text of what a change came to
abbrev pub change_result_text : ChangeResult → Text
change_result_text (RunEnded ran conditions) = run_end_text conditions ran.events ran.end
change_result_text (EventsRemoved removed kept) = back_until_result_text removed kept
change_result_text (Refused why) = expecting_refusal_text why
