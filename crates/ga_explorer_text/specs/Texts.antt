-- The texts of exploring's answers, each line ended by a line feed (docs/REFERENCE.md, "Exploring"; this project's own).
use Rattle.std.specs.Prelude.{ℕ, zero, suc, ◌+◌, ◌*◌, ◌==◌, nat_lt, if◌then◌else◌, [], ◌++◌, flat_map, codes, decimal, Option, Some, None}
use Rattle.ga_text.specs.Lines.{Text}
use Rattle.ga_word.specs.Word.{hex_digits_of_word}
use Rattle.ga_ports.specs.Address.{single_side_set}
use Rattle.ga_node.specs.declared.wait.Wait.{Wait}
use Rattle.ga_node.specs.declared.wait.Wait.TheVariants as wait
use Rattle.ga_grid.specs.Chip.{node_record_at}
use Rattle.ga_grid.specs.declared.node_id.NodeId.{NodeId}
use Rattle.ga_event.specs.Told.{count_steps}
use Rattle.ga_lab.specs.Machine.{MachineState, chip_of_machine}
use Rattle.ga_lab.specs.declared.fault.LabFault.{LabFault}
use Rattle.ga_lab.specs.declared.fault.LabFault.TheVariants.{Waiting, Stopped, Full, Memory, Empty, NoStep, EventNumbersSpent}
use Rattle.ga_races.specs.HappensBefore.{are_neighbours}
use Rattle.ga_scheduler.specs.Words.{link_transfers, link_transfer_count}
use Rattle.ga_scheduler.specs.declared.words.Transfer.{Transfer}
use Rattle.ga_scheduler.specs.declared.running.RunEnd.{RunEnd}
use Rattle.ga_scheduler.specs.declared.running.RunEnd.TheVariants.{ConditionHeld, MadeRequestedEvents, Quiet, Refused}
use Rattle.ga_display.specs.Texts.{event_text, removed_events_text, refusal_advice_text}
use Rattle.ga_text.specs.Digits.{name_of_node, step_text}

-- ---- `run`

-- why a step was refused
abbrev pub fault_name_text : LabFault → Text
fault_name_text Waiting = codes "waiting "
fault_name_text Stopped = codes "stopped "
fault_name_text Full = codes "full "
fault_name_text Memory = codes "memory "
fault_name_text Empty = codes "empty "
fault_name_text NoStep = codes "nostep "
fault_name_text EventNumbersSpent = codes "spent "

-- which of several conditions held, counted from 1; nothing of one alone
abbrev pub which_condition_held_text : ℕ → ℕ → Text
which_condition_held_text conditions which = if nat_lt 1 conditions then codes " by " ++ decimal (which + 1) else []

-- how many events were made until one of the conditions held, why the run ended, and what to do if there is no room for more
abbrev pub run_end_text : ℕ → ℕ → RunEnd → Text
run_end_text conditions events (ConditionHeld made which) = codes "reached " ++ decimal events ++ which_condition_held_text conditions which ++ codes " " ++ event_text made
run_end_text conditions events MadeRequestedEvents = codes "made " ++ decimal events ++ codes "\n"
run_end_text conditions events Quiet = codes "quiet " ++ decimal events ++ codes "\n"
run_end_text conditions events (Refused why) = fault_name_text why ++ decimal events ++ refusal_advice_text why

-- ---- `chip`

-- the letter of a set's side, where it has one alone
abbrev pub single_side_letter : ℕ → Text
single_side_letter sides =
    if sides == 8 then codes "r"
    else if sides == 4 then codes "d"
    else if sides == 2 then codes "l"
    else if sides == 1 then codes "u"
    else codes "+"

-- what a node does: it waits for code, reads or writes, by the side; runs; or is stopped
abbrev pub activity_symbol : Wait → ℕ → Text
activity_symbol (wait.Fetch sides) stop = codes " @" ++ single_side_letter sides
activity_symbol (wait.Read sides) stop = codes " ?" ++ single_side_letter sides
activity_symbol (wait.Write side) stop = codes " !" ++ single_side_letter (single_side_set side)
activity_symbol wait.Nothing stop = if stop == 0 then codes "  *" else codes "  x"

-- what a node does; of one that made no step, that it is as at load
abbrev pub node_symbol_text : MachineState → ℕ → Text
node_symbol_text s n =
    if nat_lt (count_steps n s.kept) 1 then codes "  ."
    else activity_symbol (node_record_at (chip_of_machine s) n).wait (node_record_at (chip_of_machine s) n).stop

-- `n` nodes of a row, from this one on
unfoldable pub node_symbols_text : MachineState → ℕ → ℕ → Text
node_symbols_text s n zero = []
node_symbols_text s n (suc more) = node_symbol_text s n ++ node_symbols_text s (n + 1) more

-- a row: its number and its eighteen nodes
abbrev pub chip_row_text : MachineState → ℕ → Text
chip_row_text s row = decimal row ++ node_symbols_text s (18 * row) 18 ++ codes "\n"

-- the rows below this one, the upmost first
unfoldable pub chip_rows_text : MachineState → ℕ → Text
chip_rows_text s zero = []
chip_rows_text s (suc row) = chip_row_text s row ++ chip_rows_text s row

abbrev pub chip_text : MachineState → Text
chip_text s = chip_rows_text s 8

-- ---- `back until`

-- how many events went, and how many are kept then; or that none went
abbrev pub back_until_result_text : Option ℕ → ℕ → Text
back_until_result_text (Some gone) kept = removed_events_text gone kept
back_until_result_text None kept = codes "none\n"

-- ---- `words`

-- a word: its number, the steps of both ends and itself
abbrev pub transfer_line_text : NodeId → NodeId → Transfer → Text
transfer_line_text from to sent =
    decimal sent.number ++ codes " " ++ step_text from sent.writer_step ++ codes " " ++ step_text to sent.reader_step ++ codes " " ++ hex_digits_of_word sent.word
    ++ codes "\n"

-- the link, and how many words of it are kept
abbrev pub link_words_head_line : NodeId → NodeId → ℕ → Text
link_words_head_line from to count = codes "words " ++ name_of_node from ++ codes " " ++ name_of_node to ++ codes " " ++ decimal count ++ codes "\n"

-- the nodes are no neighbours
abbrev pub no_link_refusal : Text
no_link_refusal = codes "no 34 nolink: only neighbours pass words\n"

-- the link between two neighbours, and the words of it that are kept
abbrev pub transfers_text : MachineState → NodeId → NodeId → Text
transfers_text s from to = link_words_head_line from to (link_transfer_count s from.number to.number) ++ flat_map (transfer_line_text from to) (link_transfers s from.number to.number)

abbrev pub link_words_text : MachineState → NodeId → NodeId → Text
link_words_text s from to = if are_neighbours from.number to.number then transfers_text s from to else no_link_refusal
