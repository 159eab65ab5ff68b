-- What a session of exploring answers to a line as JSON (docs/JSON.md; this project's own).
use Rattle.std.specs.Prelude.{◌≡◌, ℕ, ◌<◌, ◌≤◌, List, [], length, codes, Option, Some, None, option_and_then}
use Rattle.ga_text.specs.Lines.{Text, Line, max_input_line}
use Rattle.ga_event.specs.Told.{count_steps}
use Rattle.ga_lab.specs.Machine.{MachineState, undo_answer, rewind_answer, state_after_undo, state_after_rewind}
use Rattle.ga_debug_info.specs.declared.notes.DebugInfo.{DebugInfo}
use Rattle.ga_console.specs.Commands.{SpellsCommand}
use Rattle.ga_console.specs.declared.command.DebuggerCommand.{DebuggerCommand}
use Rattle.ga_console.specs.declared.command.DebuggerCommand.TheVariants.{Step, Back, Rewind, Node, Memory, Trace, Why, Count, Dump, Quit}
use Rattle.ga_console.specs.Selectors.{selected_step_number}
use Rattle.ga_explorer.specs.Reading.{part_of_node_value}
use Rattle.ga_explorer.specs.Changes.{change_name, IsChangeResult}
use Rattle.ga_explorer.specs.Commands.{explorer_command_of_line, text_query_name, text_query_text}
use Rattle.ga_explorer.specs.declared.changes.ChangeResult.{ChangeResult}
use Rattle.ga_explorer.specs.Opening.{ExplorerState}
use Rattle.ga_explorer.specs.declared.commands.ExplorerCommand.{ExplorerCommand}
use Rattle.ga_explorer.specs.declared.commands.ExplorerCommand.TheVariants as asked
use Rattle.ga_explorer.specs.declared.commands.Query.{Query}
use Rattle.ga_explorer.specs.declared.commands.Query.TheVariants as query
use Rattle.ga_json.specs.Values.{JsonValue}
use Rattle.ga_json.specs.Compact.{json_line}
use Rattle.ga_explorer_json.specs.Rows.{IsJsonLine}
use Rattle.ga_explorer_json.specs.Changes.{IsStepJson, undo_json, rewind_json, change_result_json}
use Rattle.ga_explorer_json.specs.NodeState.{node_json}
use Rattle.ga_explorer_json.specs.Readings.{memory_word_json, history_counts_json}
use Rattle.ga_explorer_json.specs.Steps.{IsTraceJson, IsWhyJson, IsDumpJson}
use Rattle.ga_explorer_json.specs.Effects.{IsRollbackEffectsJson}
use Rattle.ga_explorer_json.specs.Words.{link_words_answer_json}
use Rattle.ga_explorer_json.specs.Writes.{cell_writes_answer_json}
use Rattle.ga_explorer_json.specs.Around.{steps_around_answer_json}
use Rattle.ga_explorer_json.specs.Whence.{IsProvenanceJson}
use Rattle.ga_explorer_json.specs.Because.{decisions_answer_json}
use Rattle.ga_explorer_json.specs.Races.{IsRacesJson}
use Rattle.ga_explorer_json.specs.Who.{IsWaitingNodesJson}
use Rattle.ga_explorer_json.specs.Expected.{IsExpectationsJson}
use Rattle.ga_explorer_json.specs.Texts.{text_answer_json, long_line_refusal_json, syntax_refusal_of_line}
use Rattle.ga_explorer_json.specs.declared.answers.LineRequest.{LineRequest}
use Rattle.ga_explorer_json.specs.declared.answers.LineRequest.TheVariants as request

-- ---- a command of the debugger

abbrev pub AnswersCommandJson : MachineState → DebuggerCommand → Text → MachineState → Type 0
AnswersCommandJson s (Step node) answer new = IsJsonLine (IsStepJson s node new) answer
AnswersCommandJson s Back answer new = (answer ≡ json_line (undo_json (undo_answer s) (length new.kept))) × (new ≡ state_after_undo s)
AnswersCommandJson s (Rewind node k) answer new =
    (answer ≡ json_line (rewind_json node (count_steps node.number s.kept) (rewind_answer s node.number k) (length new.kept))) × (new ≡ state_after_rewind s node.number k)
AnswersCommandJson s (Node node) answer new = (answer ≡ json_line (node_json s node)) × (new ≡ s)
AnswersCommandJson s (Memory node address) answer new = (answer ≡ json_line (memory_word_json s node address)) × (new ≡ s)
AnswersCommandJson s (Trace node) answer new = IsJsonLine (IsTraceJson s node) answer × (new ≡ s)
AnswersCommandJson s (Why from k to j) answer new = IsJsonLine (IsWhyJson s from k to j) answer × (new ≡ s)
AnswersCommandJson s Count answer new = (answer ≡ json_line (history_counts_json s)) × (new ≡ s)
AnswersCommandJson s Dump answer new = IsJsonLine (IsDumpJson s) answer × (new ≡ s)
AnswersCommandJson s Quit answer new = (answer ≡ []) × (new ≡ s)

-- ---- a command of exploring

-- a query
abbrev pub AnswersQueryJson : ExplorerState → Query → JsonValue → Type 0
AnswersQueryJson e (query.Effects node which) answer = IsRollbackEffectsJson e.notes e.lab node (selected_step_number e.lab node which) answer
AnswersQueryJson e (query.Words from to) answer = answer ≡ link_words_answer_json e.lab from to
AnswersQueryJson e (query.Writes node address) answer = answer ≡ cell_writes_answer_json e.lab node address
AnswersQueryJson e (query.StepsAround node which around) answer = answer ≡ steps_around_answer_json e.notes e.lab node (selected_step_number e.lab node which) around
AnswersQueryJson e (query.Whence node which value first) answer =
    IsProvenanceJson e.notes e.lab node (selected_step_number e.lab node which) (option_and_then part_of_node_value value) first answer
AnswersQueryJson e (query.Because node which most) answer = answer ≡ decisions_answer_json e.notes e.lab node (selected_step_number e.lab node which) most
AnswersQueryJson e (query.Races only) answer = IsRacesJson e.lab only answer
AnswersQueryJson e query.Expectations answer = IsExpectationsJson e.notes e.lab answer
AnswersQueryJson e query.WaitingNodes answer = IsWaitingNodesJson e.lab answer
AnswersQueryJson e (query.Text asked) answer = answer ≡ text_answer_json (text_query_name asked) (text_query_text e.lab asked)

abbrev pub AnswersExplorerJson : ExplorerState → ExplorerCommand → Text → ExplorerState → Type 0
AnswersExplorerJson e (asked.Change change) answer new =
    (came : ChangeResult) × IsChangeResult e change came new.lab × (answer ≡ json_line (change_result_json (change_name change) came)) × (new.notes ≡ e.notes)
AnswersExplorerJson e (asked.AnswerQuery question) answer new = IsJsonLine (AnswersQueryJson e question) answer × (new ≡ e)

-- ---- a line

-- what the line asks for
abbrev pub IsRequestOfLine : Option DebugInfo → Line → LineRequest → Type 0
IsRequestOfLine notes line (request.Explore asked) = (length line ≤ max_input_line) × (explorer_command_of_line notes line ≡ Some asked)
IsRequestOfLine notes line (request.Debug command) = (length line ≤ max_input_line) × SpellsCommand command line
IsRequestOfLine notes line request.TooLongLine = max_input_line < length line
IsRequestOfLine notes line request.Unknown =
    (length line ≤ max_input_line) × (explorer_command_of_line notes line ≡ None) × ((command : DebuggerCommand) → ¬ SpellsCommand command line)

abbrev pub AnswersLineRequest : ExplorerState → Line → LineRequest → Text → ExplorerState → Type 0
AnswersLineRequest e line (request.Explore asked) answer new = AnswersExplorerJson e asked answer new
AnswersLineRequest e line (request.Debug command) answer new = AnswersCommandJson e.lab command answer new.lab × (new.notes ≡ e.notes)
AnswersLineRequest e line request.TooLongLine answer new = (answer ≡ json_line long_line_refusal_json) × (new ≡ e)
AnswersLineRequest e line request.Unknown answer new = (answer ≡ json_line (syntax_refusal_of_line line)) × (new ≡ e)

-- the line is answered by what it asks for
abbrev pub AnswersJsonLine : ExplorerState → Line → Text → ExplorerState → Type 0
AnswersJsonLine e line answer new = (request : LineRequest) × IsRequestOfLine e.notes line request × AnswersLineRequest e line request answer new
