-- How exploring answers a line, of which the first bytes are here.
use Rattle.ga_console.specs.declared.responder.LineAction.TheVariants as turn
use Rattle.std.specs.Prelude.{Option}
use Rattle.std.proofs.Common.{◌≡◌, ℕ, List, None, refl, ◌≢◌, ◌≤◌, inl, inr, take, length, Some, sym, ap, ◌∙◌, subst, arith, rules, length-take, Result, Ok, Err}
use Rattle.ga_console.specs.Commands.{SpellsCommand}
use Rattle.ga_console.specs.declared.command.DebuggerCommand.{DebuggerCommand}
use Rattle.ga_console.specs.declared.command.DebuggerCommand.TheVariants.{Step, Back, Rewind, Node, Memory, Trace, Why, Count, Dump, Quit}
use Rattle.ga_debug_info.specs.declared.notes.DebugInfo.{DebugInfo}
use Rattle.ga_explorer.specs.Commands.{explorer_command_of_line, single_word_command, text_query_of_word, query_without_arguments, command_with_arguments, query_with_arguments, AnswersExplorerCommand}
use Rattle.std.specs.Result.{IsErr}
use Rattle.std.proofs.lemmas.List.{take_all}
use Rattle.ga_display.specs.declared.wording.RefusalWording.TheVariants.{Advised}
use Rattle.ga_console.specs.Replies.{IsAnswerInWording}
use Rattle.ga_console.specs.Session.{quit_line, AnswersOrQuitsLine, AnswersLine}
use Rattle.ga_lab.specs.Machine.{MachineState}
use Rattle.ga_text.specs.declared.output.WriteError.{WriteError}
use Rattle.ga_console.specs.declared.responder.LineAction.{LineAction}
use Rattle.ga_explorer.specs.Opening.{ExplorerState, explorer_state}
use Rattle.ga_explorer.specs.Answers.{AnswersExplorerLine, AnswersNonExplorerLine, IsDebuggerLine}
use Rattle.ga_explorer.specs.NoCommand.{unknown_command_text}
use Rattle.ga_explorer.specs.Answers.AnswersExplorerLine.{explored, debugged}
use Rattle.ga_explorer.specs.declared.commands.ExplorerCommand.{ExplorerCommand}

-- ---- A line that spells a command of the debugger spells none of exploring

pub debugger_alone : (notes : Option DebugInfo) (c : DebuggerCommand) (line : List ℕ) → SpellsCommand c line → explorer_command_of_line notes line ≡ None
unfolding single_word_command text_query_of_word query_without_arguments command_with_arguments query_with_arguments
debugger_alone notes (Step node) line is = rw is refl
debugger_alone notes Back line is = rw is refl
debugger_alone notes (Rewind node k) line is = rw is.1 refl
debugger_alone notes (Node node) line is = rw is refl
debugger_alone notes (Memory node address) line is = rw is.2 refl
debugger_alone notes (Trace node) line is = rw is refl
debugger_alone notes (Why from k to j) line is = rw is.2 refl
debugger_alone notes Count line is = rw is refl
debugger_alone notes Dump line is = rw is refl
debugger_alone notes Quit line is = rw is refl

whole : (line part : List ℕ) → line ≡ take 201 part → length line ≤ 200 → part ≡ line
whole line part e h = sym (e ∙ take_all 201 part (omega (arith, ap length e, length-take 201 part)))

short : (line part : List ℕ) → line ≡ take 201 part → length part ≤ 200 → length line ≤ 200
short line part e h = omega (arith, ap length e, length-take 201 part)

none_some : (asked : ExplorerCommand) → None ≡ Some asked → ⊥
none_some asked e = absurd cc

not_quit : (notes : Option DebugInfo) (line : List ℕ) (asked : ExplorerCommand) → explorer_command_of_line notes line ≡ Some asked → line ≢ quit_line
not_quit notes line asked found = λ q. none_some asked (sym (debugger_alone notes Quit line q) ∙ found)

-- a line of which the first bytes are of the debugger is itself
of_debugger : (line part : List ℕ) → line ≡ take 201 part → IsDebuggerLine line → IsDebuggerLine part
of_debugger line part e (inl long) = inl (omega (arith, long, ap length e, length-take 201 part))
of_debugger line part e (inr here) = let P : List ℕ → Type 0 = IsDebuggerLine in subst P (sym (whole line part e here.0)) (inr here)

other_line : (s : MachineState) (line answer : List ℕ) (new : MachineState) → IsDebuggerLine line → AnswersLine (IsAnswerInWording Advised) s line answer new → AnswersLine AnswersNonExplorerLine s line answer new
other_line s line answer new of done = λ part kept.
    let answered = done part kept in (inl (of_debugger line part kept of, answered.0), answered.1)

pub other_turn : (s : MachineState) (line : List ℕ) (new : MachineState) (result : Result LineAction WriteError) (answer : List ℕ) → IsDebuggerLine line
    → AnswersOrQuitsLine (IsAnswerInWording Advised) s line new result answer → AnswersOrQuitsLine AnswersNonExplorerLine s line new result answer
other_turn s line new (Ok turn.Answered) answer of done = other_line s line answer new of done
other_turn s line new (Ok turn.Refused) answer of done = absurd done
other_turn s line new (Ok turn.Quit) answer of done = done
other_turn s line new (Err failed) answer of done = other_line s line answer new of done

-- it spells no command at all
pub unread_line : (s : MachineState) (line answer : List ℕ) → length line ≤ 200 → ((c : DebuggerCommand) → ¬ SpellsCommand c line) → answer ≡ unknown_command_text line
    → AnswersLine AnswersNonExplorerLine s line answer s
unread_line s line answer fits none e = λ part kept.
    let same : part ≡ line = whole line part kept fits in
    let P : List ℕ → Type 0 = λ z. AnswersNonExplorerLine s z answer s × (z ≢ quit_line) in
    subst P (sym same) (inr ((fits, none), e, refl), λ q. none Quit q)

pub unread_err : (s : MachineState) (line : List ℕ) (result : Result LineAction WriteError) (answer : List ℕ) → IsErr result → AnswersLine AnswersNonExplorerLine s line answer s
    → AnswersOrQuitsLine AnswersNonExplorerLine s line s result answer
unread_err s line (Ok turn) answer is h = absurd (search rules)
unread_err s line (Err why) answer is h = h

-- it spells a command of exploring
pub explored_line : (s : ExplorerState) (line : List ℕ) (asked : ExplorerCommand) (answer : List ℕ) (new : ExplorerState) → length line ≤ 200 → explorer_command_of_line s.notes line ≡ Some asked
    → AnswersExplorerCommand s asked answer new → AnswersLine AnswersExplorerLine s line answer new
explored_line s line asked answer new fits found done = λ part kept.
    let same : part ≡ line = whole line part kept fits in
    let spelled : explorer_command_of_line s.notes part ≡ Some asked = ap (explorer_command_of_line s.notes) same ∙ found in
    (explored asked (omega (arith, fits, ap length same)) spelled done, not_quit s.notes part asked spelled)

-- it spells none
debugged_line : (s : ExplorerState) (line answer : List ℕ) (new : ExplorerState) → (length line ≤ 200 → explorer_command_of_line s.notes line ≡ None) → new.notes ≡ s.notes
    → AnswersLine AnswersNonExplorerLine s.lab line answer new.lab → AnswersLine AnswersExplorerLine s line answer new
debugged_line s line answer new none same done = λ part kept.
    let answered = done part kept in
    (debugged (λ fits. let within : length line ≤ 200 = short line part kept fits in ap (explorer_command_of_line s.notes) (whole line part kept within) ∙ none within) answered.0 same, answered.1)

pub same_explored : (s new : ExplorerState) → new.lab ≡ s.lab → new.notes ≡ s.notes → new ≡ s
same_explored s new e f = ap (λ lab. explorer_state lab new.notes) e ∙ ap (explorer_state s.lab) f

pub debugged_turn : (s : ExplorerState) (line : List ℕ) (new : ExplorerState) (result : Result LineAction WriteError) (answer : List ℕ) → (length line ≤ 200 → explorer_command_of_line s.notes line ≡ None)
    → new.notes ≡ s.notes → AnswersOrQuitsLine AnswersNonExplorerLine s.lab line new.lab result answer → AnswersOrQuitsLine AnswersExplorerLine s line new result answer
debugged_turn s line new (Ok turn.Answered) answer none same done = debugged_line s line answer new none same done
debugged_turn s line new (Ok turn.Refused) answer none same done = absurd done
debugged_turn s line new (Ok turn.Quit) answer none same done = (done.0, same_explored s new done.1 same, done.2)
debugged_turn s line new (Err failed) answer none same done = debugged_line s line answer new none same done

-- a failed write changes nothing of what the answer is
pub explored_err : (s : ExplorerState) (line : List ℕ) (new : ExplorerState) (result : Result LineAction WriteError) (answer : List ℕ) → IsErr result
    → AnswersLine AnswersExplorerLine s line answer new → AnswersOrQuitsLine AnswersExplorerLine s line new result answer
explored_err s line new (Ok turn) answer is h = absurd (search rules)
explored_err s line new (Err why) answer is h = h
