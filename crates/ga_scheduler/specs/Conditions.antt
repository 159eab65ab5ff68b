-- Conditions on what an event was and on the machine right after it (F18A Technology Reference DB001, opcodes and memory map). Two are
-- edges: they hold where an event makes something so, and not as long as it is.
use Rattle.std.specs.Prelude.{ℕ, suc, ◌%◌, ◌==◌, nat_lt, Bool, true, false, ◌&&◌, ◌||◌, if◌then◌else◌, is_none, List, [], ◌∷◌, Option, Some, None, option_map}
use Rattle.ga_ports.specs.Address.{address_target}
use Rattle.ga_ports.specs.declared.address.AddressTarget.{AddressTarget}
use Rattle.ga_ports.specs.declared.address.AddressTarget.TheVariants as target
use Rattle.ga_grid.specs.Chip.{node_record_at}
use Rattle.ga_node.specs.Record.{NodeRecord}
use Rattle.ga_node.specs.Table.{refusal_of_own_event}
use Rattle.ga_node.specs.declared.kind.OwnEventKind.{OwnEventKind}
use Rattle.ga_node.specs.declared.kind.OwnEventKind.TheVariants as kind
use Rattle.ga_event.specs.Told.{count_steps}
use Rattle.ga_event.specs.declared.made.MadeEvent.{MadeEvent}
use Rattle.ga_event.specs.declared.made.MadeEvent.TheVariants as made
use Rattle.ga_lab.specs.Machine.{MachineState, chip_of_machine, state_after_undo, memory_word_at_address}
use Rattle.ga_scheduler.specs.Words.{is_transfer_over_link, link_transfer_count}
use Rattle.ga_scheduler.specs.Values.{is_comparison_satisfied, is_value_test_passed}
use Rattle.ga_scheduler.specs.declared.value_test.Comparison.{Comparison}
use Rattle.ga_scheduler.specs.declared.condition.Condition.{Condition}
use Rattle.ga_scheduler.specs.declared.condition.Condition.TheVariants.{Never, PassesWord, PassesNthWord, MakesNumberedStep, AnyNodeStops, GivenNodeStops, GivenNodeWaits, HoldsPlaceValue, ReachesAddress, WritesRamCell, Broken}

-- the event passed a word from the writer to the reader that compares so with this one
abbrev pub passes_matching_word : ℕ → ℕ → Comparison → ℕ → MadeEvent → Bool
passes_matching_word writer reader comparison word (made.Own n k what) = false
passes_matching_word writer reader comparison word (made.Pass w k r j carried) = (w.number == writer) && (r.number == reader) && is_comparison_satisfied comparison carried word

-- the event was this step of the node
abbrev pub is_numbered_step_of_node : ℕ → ℕ → MadeEvent → Bool
is_numbered_step_of_node node step (made.Own n k what) = (n.number == node) && (k == step)
is_numbered_step_of_node node step (made.Pass w k r j carried) = ((w.number == node) && (k == step)) || ((r.number == node) && (j == step))

abbrev pub is_stop_event_kind : OwnEventKind → Bool
is_stop_event_kind kind.Fetch = false
is_stop_event_kind (kind.Run code) = false
is_stop_event_kind kind.Wait = false
is_stop_event_kind (kind.Stop code) = true

abbrev pub is_wait_event_kind : OwnEventKind → Bool
is_wait_event_kind kind.Fetch = false
is_wait_event_kind (kind.Run code) = false
is_wait_event_kind kind.Wait = true
is_wait_event_kind (kind.Stop code) = false

-- a node's own event of a kind
abbrev pub is_own_event_of_kind : (OwnEventKind → Bool) → MadeEvent → Bool
is_own_event_of_kind test (made.Own n k what) = test what
is_own_event_of_kind test (made.Pass w k r j carried) = false

abbrev pub is_node_own_event_of_kind : ℕ → (OwnEventKind → Bool) → MadeEvent → Bool
is_node_own_event_of_kind node test (made.Own n k what) = (n.number == node) && test what
is_node_own_event_of_kind node test (made.Pass w k r j carried) = false

-- the event was a step of the node
abbrev pub is_step_of_node : ℕ → MadeEvent → Bool
is_step_of_node node (made.Own n k what) = n.number == node
is_step_of_node node (made.Pass w k r j carried) = (w.number == node) || (r.number == node)

-- what the node does next is to fetch the word at this address
abbrev pub is_about_to_fetch_at : ℕ → NodeRecord → Bool
is_about_to_fetch_at address n = (n.slot == 4) && (n.p == address) && is_none (refusal_of_own_event n)

-- the address at which an opcode with this code stores: `!p` at P, `!+` and `!` at A, `!b` at B
abbrev pub store_address_of_opcode : ℕ → NodeRecord → Option ℕ
store_address_of_opcode code n =
    if code == 0x0c then Some n.p
    else if (code == 0x0d) || (code == 0x0f) then Some n.a
    else if code == 0x0e then Some n.b
    else None

-- the target is this cell of RAM
abbrev pub is_target_cell : ℕ → AddressTarget → Bool
is_target_cell cell (target.Ram k) = k == cell
is_target_cell cell (target.Rom k) = false
is_target_cell cell target.Io = false
is_target_cell cell (target.Ports sides) = false
is_target_cell cell target.Bad = false

abbrev pub is_address_of_ram_cell : ℕ → Option ℕ → Bool
is_address_of_ram_cell cell None = false
is_address_of_ram_cell cell (Some address) = is_target_cell cell (address_target address)

-- an event of this kind of a node that was so before it stored in the cell
abbrev pub stores_in_cell : ℕ → NodeRecord → OwnEventKind → Bool
stores_in_cell cell before kind.Fetch = false
stores_in_cell cell before (kind.Run code) = is_address_of_ram_cell cell (store_address_of_opcode code before)
stores_in_cell cell before kind.Wait = false
stores_in_cell cell before (kind.Stop code) = false

-- a node as it was before the newest event
abbrev pub node_before_newest_event : MachineState → ℕ → NodeRecord
node_before_newest_event s node = node_record_at (chip_of_machine (state_after_undo s)) node

-- the word is the requested one, if one is
abbrev pub is_requested_word : Option ℕ → ℕ → Bool
is_requested_word None word = true
is_requested_word (Some asked) word = word == asked

-- The condition holds right after this was made, where the machine is this. Memory from address 80 hexadecimal on is ROM, where no
-- event stores. Which expectations an event broke, only a test that has them knows.
abbrev pub holds_after_made_event : Condition → MadeEvent → MachineState → Bool
holds_after_made_event Never told s = false
holds_after_made_event Broken told s = false
holds_after_made_event (PassesWord writer reader comparison word) told s = passes_matching_word writer.number reader.number comparison word told
holds_after_made_event (PassesNthWord writer reader number) told s = is_transfer_over_link writer.number reader.number told && (link_transfer_count s writer.number reader.number == number)
holds_after_made_event (MakesNumberedStep node step) told s = is_numbered_step_of_node node.number step told
holds_after_made_event AnyNodeStops told s = is_own_event_of_kind is_stop_event_kind told
holds_after_made_event (GivenNodeStops node) told s = is_node_own_event_of_kind node.number is_stop_event_kind told
holds_after_made_event (GivenNodeWaits node) told s = is_node_own_event_of_kind node.number is_wait_event_kind told
holds_after_made_event (HoldsPlaceValue node test) told s = is_value_test_passed test (node_record_at (chip_of_machine s) node.number) (count_steps node.number s.kept)
holds_after_made_event (ReachesAddress node address) told s = is_step_of_node node.number told && is_about_to_fetch_at address (node_record_at (chip_of_machine s) node.number)
holds_after_made_event (WritesRamCell node address word) told s =
    nat_lt address 128 && is_node_own_event_of_kind node.number (stores_in_cell (address % 64) (node_before_newest_event s node.number)) told
    && is_requested_word word (memory_word_at_address (node_record_at (chip_of_machine s) node.number) address)

-- the place of the first of some conditions that holds right after this was made, where the machine is this
unfoldable pub first_holding_condition : List Condition → MadeEvent → MachineState → Option ℕ
first_holding_condition [] told s = None
first_holding_condition (until ∷ others) told s = if holds_after_made_event until told s then Some 0 else option_map suc (first_holding_condition others told s)

-- the condition holds never
abbrev pub never_holds : Condition → Bool
never_holds Never = true
never_holds Broken = false
never_holds (PassesWord writer reader comparison word) = false
never_holds (PassesNthWord writer reader number) = false
never_holds (MakesNumberedStep node step) = false
never_holds AnyNodeStops = false
never_holds (GivenNodeStops node) = false
never_holds (GivenNodeWaits node) = false
never_holds (HoldsPlaceValue node test) = false
never_holds (ReachesAddress node address) = false
never_holds (WritesRamCell node address word) = false

-- the conditions before the first one that holds never
unfoldable pub conditions_before_never : List Condition → List Condition
conditions_before_never [] = []
conditions_before_never (until ∷ others) = if never_holds until then [] else until ∷ conditions_before_never others
