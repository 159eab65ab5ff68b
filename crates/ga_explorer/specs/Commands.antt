-- The commands of exploring: of each how a line spells it, what it answers, and what `help` says of it (docs/REFERENCE.md, "Exploring";
-- this project's own).
use Rattle.std.specs.Prelude.{◌≡◌, ℕ, nat_eq, if◌then◌else◌, List, [], ◌∷◌, slice_get, codes, Option, Some, None, option_map, option_and_then}
use Rattle.std.specs.Cmp.Lexicographic.{pointwise}
use Rattle.ga_text.specs.Lines.{Text, Line}
use Rattle.ga_text.specs.Parsing.{split_at_space, parse_node}
use Rattle.ga_ports.specs.Steps.{◌>>=◌}
use Rattle.ga_scheduler.specs.Schedules.{round_robin_schedule}
use Rattle.ga_debug_info.specs.declared.notes.DebugInfo.{DebugInfo}
use Rattle.ga_lab.specs.Machine.{MachineState}
use Rattle.ga_explorer_text.specs.Texts.{link_words_text, chip_text}
use Rattle.ga_explorer_text.specs.Effects.{IsRollbackEffectsAnswer}
use Rattle.ga_explorer_text.specs.Expected.{IsExpectationsAnswer}
use Rattle.ga_explorer_text.specs.Telling.{IsWaitingNodesAnswer}
use Rattle.ga_explorer_text.specs.Saved.{saved_session_text}
use Rattle.ga_explorer_text.specs.Writing.{cell_writes_answer_text}
use Rattle.ga_explorer_text.specs.Around.{steps_around_text}
use Rattle.ga_explorer_text.specs.Whence.{IsValueOriginsAnswer}
use Rattle.ga_explorer_text.specs.Because.{decisions_before_step_text}
use Rattle.ga_explorer_text.specs.Races.{IsRacesAnswer}
use Rattle.ga_console.specs.Selectors.{selected_step_number}
use Rattle.ga_explorer.specs.Reading.{part_of_node_value, parse_run_arguments, parse_back_arguments, default_max_run_events, parse_node_and_step, parse_two_nodes, parse_node_and_cell, parse_node_and_value, parse_node_and_steps}
use Rattle.ga_conditions.specs.Conditions.{never_holding_conditions}
use Rattle.ga_explorer.specs.Forms.{CommandEntry, entry_of_query_command, entry_of_changing_command, command_index_from_place, command_rows_text, optional_command_details_text}
use Rattle.ga_explorer.specs.Opening.{ExplorerState}
use Rattle.ga_explorer.specs.Changes.{change_result_text, IsChangeResult}
use Rattle.ga_explorer.specs.declared.changes.Change.TheVariants as change
use Rattle.ga_explorer.specs.declared.changes.ChangeResult.{ChangeResult}
use Rattle.ga_explorer.specs.declared.commands.ExplorerCommand.{ExplorerCommand}
use Rattle.ga_explorer.specs.declared.commands.ExplorerCommand.TheVariants as asked
use Rattle.ga_explorer.specs.declared.commands.Query.{Query}
use Rattle.ga_explorer.specs.declared.commands.Query.TheVariants as told
use Rattle.ga_explorer.specs.declared.command_table.TextQuery.{TextQuery}
use Rattle.ga_explorer.specs.declared.command_table.TextQuery.TheVariants as plain

-- ---- what `help` says of them

-- the commands of exploring and those of the debugger, in the order of `help`
unfoldable pub command_table : List CommandEntry
command_table =
    entry_of_changing_command (codes "run") (codes "run [greedy|random SEED] [N] [until COND]") (codes "\n                      make up to N events, in rounds or in this order\nCOND: NNN VALUE OP N, pass NNN MMM OP N, pass NNN MMM J, step NNN K, stop, stop NNN,\n      wait NNN, mem NNN HH = N, p NNN X, reach NNN X, change NNN HH [= N], broken, COND or COND\nVALUE: t s r p a b i, d2 to d9, r1 to r8, io, slot, carry, step, [HH]\nOP: = != < <= > >=   N: a number, a port, a label   X: an address, a label, line N\n") (codes "answers: reached M EVENT, made M, quiet M or full M: how many events, and why no more\nexample: run 1000 until stop or 001 t = 0x150\n")
    ∷ entry_of_query_command (codes "chip") (codes "chip") (codes "                  what each node does\n") (codes "answers: rows 7 to 0 of nodes: . made no step, * runs, x stopped, @ waits for code, ? reads, ! writes\nexample: chip\n")
    ∷ entry_of_query_command (codes "who") (codes "who") (codes "                   who waits for whom, and which nodes can never go on\n") (codes "answers: for each that waits what it does, and the nodes that it awaits; then stuck, ring, ended and idle\nexample: who\n")
    ∷ entry_of_query_command (codes "effects") (codes "effects NNN K") (codes "         what rewind NNN K would remove\n") (codes "answers: effects X N, and for each of N nodes its first step that it would remove, and their number\nexample: effects 001 last\n")
    ∷ entry_of_query_command (codes "words") (codes "words NNN MMM") (codes "         the words transferred from NNN to MMM\n") (codes "answers: words NNN MMM C, and for each of C words its number, the steps of both nodes and the word\nexample: words 000 001\n")
    ∷ entry_of_query_command (codes "writes") (codes "writes NNN HH") (codes "         the steps that wrote the cell HH of NNN, the newest first\n") (codes "answers: for each the step, the opcode and the word\nexample: writes 001 20\n")
    ∷ entry_of_query_command (codes "at") (codes "at NNN K [N]") (codes "          N steps before and after step K of NNN, with registers\n") (codes "answers: for each the step, what it did, and the registers t, s, r, a, b and p after it\nexample: at 001 last 5\n")
    ∷ entry_of_query_command (codes "whence") (codes "whence NNN K [VALUE] [from L]") (codes "\n                      the steps whose values went into what step K of NNN made, or\n                      into a register, a word of a stack or a cell as it is after step K\n") (codes "answers: the nearest 100, each with its number and > the number of the step that used its value\nexample: whence 001 last, or whence 001 last r\n")
    ∷ entry_of_query_command (codes "because") (codes "because NNN K [N]") (codes "     N steps before step K at which a value decided where NNN continued\nK of effects, at, whence, because: a step's number, or last\n") (codes "answers: for each the step and the word that it tested, and below it the step that made that word\nexample: because 001 last\n")
    ∷ entry_of_query_command (codes "races") (codes "races [NNN]") (codes "           steps that yield another word in another order, and how\n") (codes "answers: races N, and for each of N steps the other word, and two commands that lead there\nexample: races 001\n")
    ∷ entry_of_query_command (codes "expectations") (codes "expectations") (codes "          the status of each line expect of the source\n") (codes "answers: for each whether it is held, broken and by what, or pending: it depends on what comes or on other orders\nexample: expectations\n")
    ∷ entry_of_query_command (codes "save") (codes "save") (codes "                  the history as lines of debug\n") (codes "answers: step NNN for each event, the oldest first\nexample: save\n")
    ∷ entry_of_query_command (codes "help") (codes "help [COMMAND]") (codes "        these lines, or more of one command\n") (codes "answers: the command's form and what it does, what it answers, and an example\nexample: help why\n")
    ∷ entry_of_changing_command (codes "step") (codes "step NNN") (codes "              make the next event of NNN\n") (codes "answers: NNN K and what the step did, or pass WWW K RRR J W: it moved the word W from WWW to RRR\nexample: step 001\n")
    ∷ entry_of_changing_command (codes "back") (codes "back [[NNN] until COND]") (codes "\n                      undo the newest event; or the newest after which COND held, and all\n                      later ones; or such a step of NNN, with its dependents\n") (codes "answers: removed X kept M: X events were removed, and M are left; or none if there is no such event\nexample: back until change 001 20\n")
    ∷ entry_of_changing_command (codes "rewind") (codes "rewind NNN K") (codes "          remove step K of NNN, with its dependents\n") (codes "answers: removed X kept M: X events were removed, and M are left\nexample: rewind 001 4\n")
    ∷ entry_of_query_command (codes "node") (codes "node NNN") (codes "              the state of NNN\n") (codes "answers: the state, the registers and both stacks, the top first\nexample: node 001\n")
    ∷ entry_of_query_command (codes "mem") (codes "mem NNN HH") (codes "            the word at HH of the memory of NNN\n") (codes "answers: mem NNN HH W: RAM below 80, ROM from there on\nexample: mem 001 20\n")
    ∷ entry_of_query_command (codes "trace") (codes "trace NNN") (codes "             the steps of NNN\n") (codes "answers: trace NNN C, and C events, the oldest first\nexample: trace 001\n")
    ∷ entry_of_query_command (codes "why") (codes "why NNN K MMM J") (codes "       by which events step K of NNN led to step J of MMM\n") (codes "answers: chain C, and C events from the cause to its effect; or independent\nexample: why 000 3 001 7, did step 3 of 000 lead to step 7 of 001?\n")
    ∷ entry_of_query_command (codes "count") (codes "count") (codes "                 how many events the history has, and how many were made\n") (codes "answers: kept K made M limit L\nexample: count\n")
    ∷ entry_of_query_command (codes "dump") (codes "dump") (codes "                  the chip as an image\n") (codes "answers: an image of format 2, which every command reads\nexample: dump\n")
    ∷ entry_of_query_command (codes "quit") (codes "quit") (codes "                  end\n") (codes "answers: nothing\nexample: quit\n")
    ∷ []

-- the place of the command of this name
abbrev pub command_index_of_name : Line → Option ℕ
command_index_of_name word = command_index_from_place word 0 command_table

-- the text of the command at a place
abbrev pub command_help_text : ℕ → Text
command_help_text place = optional_command_details_text (slice_get command_table place)

-- ---- how a line spells one of exploring

-- a query of one word that only a text answers
unfoldable pub text_query_of_word : Line → Option TextQuery
text_query_of_word name =
    if pointwise nat_eq name (codes "chip") then Some plain.Chip
    else if pointwise nat_eq name (codes "save") then Some plain.Save
    else if pointwise nat_eq name (codes "help") then Some plain.Help
    else None

-- a command that changes nothing, of one word
unfoldable pub query_without_arguments : Line → Option Query
query_without_arguments name =
    if pointwise nat_eq name (codes "expectations") then Some told.Expectations
    else if pointwise nat_eq name (codes "who") then Some told.WaitingNodes
    else if pointwise nat_eq name (codes "races") then Some (told.Races None)
    else option_map told.Text (text_query_of_word name)

-- a query, of a word and what follows it
unfoldable pub query_with_arguments : Line → Line → Option Query
query_with_arguments name text =
    if pointwise nat_eq name (codes "effects") then (do
      it ← parse_node_and_step text
      Some (told.Effects it.0 it.1))
    else if pointwise nat_eq name (codes "words") then (do
      it ← parse_two_nodes text
      Some (told.Words it.0 it.1))
    else if pointwise nat_eq name (codes "writes") then (do
      it ← parse_node_and_cell text
      Some (told.Writes it.0 it.1))
    else if pointwise nat_eq name (codes "at") then (do
      it ← parse_node_and_steps text
      Some (told.StepsAround it.0 it.1 it.2))
    else if pointwise nat_eq name (codes "whence") then (do
      it ← parse_node_and_value text
      Some (told.Whence it.0 it.1 it.2 it.3))
    else if pointwise nat_eq name (codes "because") then (do
      it ← parse_node_and_steps text
      Some (told.Because it.0 it.1 it.2))
    else if pointwise nat_eq name (codes "races") then option_map (λ node. told.Races (Some node)) (parse_node text)
    else if pointwise nat_eq name (codes "help") then option_map (λ place. told.Text (plain.CommandHelp place)) (command_index_of_name text)
    else None

-- a command of one word
unfoldable pub single_word_command : Line → Option ExplorerCommand
single_word_command name =
    if pointwise nat_eq name (codes "run") then Some (asked.Change (change.Run round_robin_schedule default_max_run_events never_holding_conditions))
    else option_map asked.AnswerQuery (query_without_arguments name)

-- a command of a word and what follows it
unfoldable pub command_with_arguments : Option DebugInfo → Line → Line → Option ExplorerCommand
command_with_arguments notes name text =
    if pointwise nat_eq name (codes "run") then option_map asked.Change (parse_run_arguments notes text)
    else if pointwise nat_eq name (codes "back") then option_map asked.Change (parse_back_arguments notes text)
    else option_map asked.AnswerQuery (query_with_arguments name text)

abbrev pub explorer_command_of_split_line : Option DebugInfo → Option (Line × Line) → Line → Option ExplorerCommand
explorer_command_of_split_line notes None line = single_word_command line
explorer_command_of_split_line notes (Some parts) line = command_with_arguments notes parts.0 parts.1

-- the command of exploring that a line spells, where it spells one
abbrev pub explorer_command_of_line : Option DebugInfo → Line → Option ExplorerCommand
explorer_command_of_line notes line = explorer_command_of_split_line notes (split_at_space line) line

-- ---- what one of exploring answers

-- the word with which a line spells a query that only a text answers
abbrev pub text_query_name : TextQuery → Text
text_query_name plain.Chip = codes "chip"
text_query_name plain.Save = codes "save"
text_query_name plain.Help = codes "help"
text_query_name (plain.CommandHelp place) = codes "help"

-- its text
abbrev pub text_query_text : MachineState → TextQuery → Text
text_query_text s plain.Chip = chip_text s
text_query_text s plain.Save = saved_session_text s
text_query_text s plain.Help = command_rows_text command_table
text_query_text s (plain.CommandHelp place) = command_help_text place

-- the text of a query's answer
abbrev pub AnswersQuery : ExplorerState → Query → Text → Type 0
AnswersQuery e (told.Effects node which) answer = IsRollbackEffectsAnswer e.notes e.lab node (selected_step_number e.lab node which) answer
AnswersQuery e (told.Words from to) answer = answer ≡ link_words_text e.lab from to
AnswersQuery e (told.Writes node address) answer = answer ≡ cell_writes_answer_text e.lab node address
AnswersQuery e (told.StepsAround node which around) answer = answer ≡ steps_around_text e.notes e.lab node (selected_step_number e.lab node which) around
AnswersQuery e (told.Whence node which value first) answer = IsValueOriginsAnswer e.notes e.lab node (selected_step_number e.lab node which) (option_and_then part_of_node_value value) first answer
AnswersQuery e (told.Because node which most) answer = answer ≡ decisions_before_step_text e.notes e.lab node (selected_step_number e.lab node which) most
AnswersQuery e (told.Races only) answer = IsRacesAnswer e.lab only answer
AnswersQuery e told.Expectations answer = IsExpectationsAnswer e.notes e.lab answer
AnswersQuery e told.WaitingNodes answer = IsWaitingNodesAnswer e.lab answer
AnswersQuery e (told.Text query) answer = answer ≡ text_query_text e.lab query

-- what is answered to a command of exploring, and what is explored then
abbrev pub AnswersExplorerCommand : ExplorerState → ExplorerCommand → Text → ExplorerState → Type 0
AnswersExplorerCommand e (asked.Change change) answer new =
    (came : ChangeResult) × IsChangeResult e change came new.lab × (answer ≡ change_result_text came) × (new.notes ≡ e.notes)
AnswersExplorerCommand e (asked.AnswerQuery question) answer new = AnswersQuery e question answer × (new ≡ e)
