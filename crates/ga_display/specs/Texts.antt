-- The texts of answers, each ended by a line feed (docs/REFERENCE.md, "Sessions"; this project's own).
use Rattle.std.specs.Prelude.{ℕ, ◌==◌, if◌then◌else◌, List, [], ◌∷◌, ◌++◌, codes, decimal}
use Rattle.std.specs.Int.{from_bool}
use Rattle.ga_text.specs.Lines.{Text}
use Rattle.ga_word.specs.Word.{hex_digits_of_word}
use Rattle.ga_ports.specs.Address.{single_side_set, has_side}
use Rattle.ga_ports.specs.declared.side.Side.{Side}
use Rattle.ga_ports.specs.declared.side.Side.TheVariants.{Right, Down, Left, Up}
use Rattle.ga_node.specs.Record.{NodeRecord}
use Rattle.ga_node.specs.declared.wait.Wait.{Wait}
use Rattle.ga_node.specs.declared.wait.Wait.TheVariants as wait
use Rattle.ga_node.specs.declared.kind.OwnEventKind.{OwnEventKind}
use Rattle.ga_node.specs.declared.kind.OwnEventKind.TheVariants as kind
use Rattle.ga_grid.specs.declared.node_id.NodeId.{NodeId}
use Rattle.ga_image.specs.FirstFault.{image_cause_number, image_cause_word}
use Rattle.ga_text.specs.Digits.{two_hex_digits_text, spaced_words_text, name_of_node, step_text}
use Rattle.ga_image.specs.declared.fault.ImageFault.{ImageFault}
use Rattle.ga_event.specs.declared.made.MadeEvent.{MadeEvent}
use Rattle.ga_event.specs.declared.made.MadeEvent.TheVariants.{Own, Pass}
use Rattle.ga_lab.specs.declared.fault.LabFault.{LabFault}
use Rattle.ga_lab.specs.declared.fault.LabFault.TheVariants.{Waiting, Stopped, Full, Memory, Empty, NoStep, EventNumbersSpent}
use Rattle.ga_display.specs.declared.wording.RefusalWording.{RefusalWording}
use Rattle.ga_display.specs.declared.wording.RefusalWording.TheVariants.{Brief, Advised}

-- words with one space between two of them
abbrev pub join_with_spaces : List Text → Text
join_with_spaces [] = []
join_with_spaces (word ∷ []) = word
join_with_spaces (word ∷ more) = word ++ 32 ∷ join_with_spaces more

-- ---- events

abbrev pub own_event_kind_text : OwnEventKind → Text
own_event_kind_text kind.Fetch = codes " fetch"
own_event_kind_text (kind.Run code) = codes " run " ++ two_hex_digits_text code
own_event_kind_text kind.Wait = codes " wait"
own_event_kind_text (kind.Stop number) = codes " stop " ++ decimal number

-- a node's own event, or a word that was transferred from its writer to its reader
abbrev pub event_text : MadeEvent → Text
event_text (Own node step kind) = step_text node step ++ own_event_kind_text kind ++ codes "\n"
event_text (Pass writer writer_step reader reader_step word) =
    codes "pass " ++ step_text writer writer_step ++ codes " " ++ step_text reader reader_step ++ codes " " ++ hex_digits_of_word word ++ codes "\n"

-- ---- the counts of the history

-- how many events were removed, and how many are kept
abbrev pub removed_events_text : ℕ → ℕ → Text
removed_events_text removed kept = codes "removed " ++ decimal removed ++ codes " kept " ++ decimal kept ++ codes "\n"

abbrev pub event_counts_text : ℕ → ℕ → ℕ → Text
event_counts_text kept made limit = codes "kept " ++ decimal kept ++ codes " made " ++ decimal made ++ codes " limit " ++ decimal limit ++ codes "\n"

-- the line before the texts of a node's steps
abbrev pub trace_header_text : NodeId → ℕ → Text
trace_header_text node count = codes "trace " ++ name_of_node node ++ codes " " ++ decimal count ++ codes "\n"

-- the line before the texts of a chain's events
abbrev pub chain_header_text : ℕ → Text
chain_header_text count = codes "chain " ++ decimal count ++ codes "\n"

-- no chain leads from the one step to the other
abbrev pub independent_steps_text : Text
independent_steps_text = codes "independent\n"

-- ---- a node

-- the side's letter, if the set has it, else a hyphen
abbrev pub side_letter_or_dash : ℕ → Side → Text → Text
side_letter_or_dash sides side letter = if has_side sides side then letter else codes "-"

-- right, down, left, up
abbrev pub side_letters_text : ℕ → Text
side_letters_text sides =
    side_letter_or_dash sides Right (codes "r")
    ++ side_letter_or_dash sides Down (codes "d")
    ++ side_letter_or_dash sides Left (codes "l")
    ++ side_letter_or_dash sides Up (codes "u")

abbrev pub wait_or_stop_text : Wait → ℕ → Text
wait_or_stop_text (wait.Fetch sides) stop = codes "fetch " ++ side_letters_text sides
wait_or_stop_text (wait.Read sides) stop = codes "read " ++ side_letters_text sides
wait_or_stop_text (wait.Write side) stop = codes "write " ++ side_letters_text (single_side_set side)
wait_or_stop_text wait.Nothing stop = if stop == 0 then codes "run" else codes "stop " ++ decimal stop

-- a register: its name and its value
abbrev pub register_text : Text → ℕ → Text
register_text name value = codes " " ++ name ++ (codes " " ++ hex_digits_of_word value)

abbrev pub registers_text : NodeRecord → Text
registers_text node =
    register_text (codes "p") node.p
    ++ register_text (codes "a") node.a
    ++ register_text (codes "b") node.b
    ++ register_text (codes "i") node.i

abbrev pub slot_carry_io_text : NodeRecord → Text
slot_carry_io_text node = codes " slot " ++ decimal node.slot ++ codes " carry " ++ decimal (from_bool node.carry) ++ codes " io " ++ hex_digits_of_word node.io

-- the words of data and those of returns, the top of each first
abbrev pub stacks_text : NodeRecord → Text
stacks_text node = codes " d" ++ spaced_words_text node.d ++ codes " r" ++ spaced_words_text node.r

abbrev pub node_text : NodeId → NodeRecord → Text
node_text node at =
    codes "node " ++ name_of_node node ++ codes " " ++ wait_or_stop_text at.wait at.stop ++ registers_text at ++ slot_carry_io_text at ++ stacks_text at ++ codes "\n"

-- the word at an address of a node's memory
abbrev pub memory_word_text : NodeId → ℕ → ℕ → Text
memory_word_text node address word = codes "mem " ++ name_of_node node ++ codes " " ++ two_hex_digits_text address ++ codes " " ++ hex_digits_of_word word ++ codes "\n"

-- ---- refusals

abbrev pub refusal_text : LabFault → Text
refusal_text Waiting = codes "no 1 waiting\n"
refusal_text Stopped = codes "no 2 stopped\n"
refusal_text Full = codes "no 3 full\n"
refusal_text Memory = codes "no 4 memory\n"
refusal_text Empty = codes "no 5 empty\n"
refusal_text NoStep = codes "no 6 nostep\n"
refusal_text EventNumbersSpent = codes "no 7 spent\n"

-- what is the case or what to do, and the line's end (docs/REFERENCE.md, "Exploring")
abbrev pub refusal_advice_text : LabFault → Text
refusal_advice_text Waiting = codes ": who shows for whom it waits\n"
refusal_advice_text Stopped = codes ": whence NNN last shows why\n"
refusal_advice_text Full = codes ": give a greater --limit; or save, dump, and go on from the dump\n"
refusal_advice_text Memory = codes ": save, dump, and go on from the dump\n"
refusal_advice_text Empty = codes ": the history has no event\n"
refusal_advice_text NoStep = codes ": trace NNN lists the steps\n"
refusal_advice_text EventNumbersSpent = codes ": dump, and go on from the dump\n"

-- a refusal in a session of exploring
abbrev pub advised_refusal_text : LabFault → Text
advised_refusal_text Waiting = codes "no 1 waiting" ++ refusal_advice_text Waiting
advised_refusal_text Stopped = codes "no 2 stopped" ++ refusal_advice_text Stopped
advised_refusal_text Full = codes "no 3 full" ++ refusal_advice_text Full
advised_refusal_text Memory = codes "no 4 memory" ++ refusal_advice_text Memory
advised_refusal_text Empty = codes "no 5 empty" ++ refusal_advice_text Empty
advised_refusal_text NoStep = codes "no 6 nostep" ++ refusal_advice_text NoStep
advised_refusal_text EventNumbersSpent = codes "no 7 spent" ++ refusal_advice_text EventNumbersSpent

-- the word after a number of steps, and the line's end
abbrev pub step_or_steps_word : ℕ → Text
step_or_steps_word count = if count == 1 then codes " step\n" else codes " steps\n"

-- a refusal of a step that a node doesn't have, in a session of exploring: how many steps it has
abbrev pub missing_step_text : NodeId → ℕ → Text
missing_step_text node count = codes "no 6 nostep: " ++ name_of_node node ++ codes " has " ++ decimal count ++ step_or_steps_word count

-- a refused call about a step of a node that has `count` steps, in a session of exploring
abbrev pub advised_step_refusal_text : NodeId → ℕ → LabFault → Text
advised_step_refusal_text node count Waiting = advised_refusal_text Waiting
advised_step_refusal_text node count Stopped = advised_refusal_text Stopped
advised_step_refusal_text node count Full = advised_refusal_text Full
advised_step_refusal_text node count Memory = advised_refusal_text Memory
advised_step_refusal_text node count Empty = advised_refusal_text Empty
advised_step_refusal_text node count NoStep = missing_step_text node count
advised_step_refusal_text node count EventNumbersSpent = advised_refusal_text EventNumbersSpent

-- the same in a session of this kind
abbrev pub worded_step_refusal_text : RefusalWording → NodeId → ℕ → LabFault → Text
worded_step_refusal_text Brief node count why = refusal_text why
worded_step_refusal_text Advised node count why = advised_step_refusal_text node count why

-- a refusal in a session of this kind
abbrev pub worded_refusal_text : RefusalWording → LabFault → Text
worded_refusal_text Brief why = refusal_text why
worded_refusal_text Advised why = advised_refusal_text why

-- the line parses as no command
abbrev pub syntax_refusal : Text
syntax_refusal = codes "no 31 syntax\n"

-- the line has more than 200 bytes
abbrev pub long_line_refusal : Text
long_line_refusal = codes "no 32 long\n"

-- the same in a session of this kind
abbrev pub worded_long_line_refusal : RefusalWording → Text
worded_long_line_refusal Brief = long_line_refusal
worded_long_line_refusal Advised = codes "no 32 long: a command has at most 200 bytes\n"

-- the input exceeds its limit
abbrev pub input_limit_refusal : Text
input_limit_refusal = codes "no 33 input\n"

-- how an image is refused
abbrev pub image_fault_text : ImageFault → Text
image_fault_text fault = codes "no " ++ decimal (image_cause_number fault.cause) ++ codes " " ++ image_cause_word fault.cause ++ codes " line " ++ decimal fault.line ++ codes "\n"
