-- What private contracts, invariants and bridges cite.
use Rattle.std.specs.Prelude.{ℕ, ◌+◌, ◌-◌, ◌==◌, ◌||◌, nat_lt, if◌then◌else◌, Bool, true, false, not, Option, Some, None, ◌/◌, ◌≡◌, ◌≤◌, ◌<◌, ◌^◌, ◌&&◌, List, length, slice_index}
use Rattle.ga_ports.specs.Address.{address_target}
use Rattle.ga_ports.specs.declared.address.AddressTarget.{AddressTarget}
use Rattle.ga_ports.specs.declared.address.AddressTarget.TheVariants as target
use Rattle.ga_slots.specs.declared.op.Op.{Op}
use Rattle.ga_slots.specs.declared.op.Op.TheVariants as op
use Rattle.ga_slots.specs.Codes.{opcode_of_code}
use Rattle.ga_node.specs.declared.kind.OwnEventKind.{OwnEventKind}
use Rattle.ga_node.specs.declared.kind.OwnEventKind.TheVariants as kind
use Rattle.ga_event.specs.declared.made.MadeEvent.{MadeEvent}
use Rattle.ga_event.specs.declared.made.MadeEvent.TheVariants.{Own, Pass}
use Rattle.ga_event.specs.declared.flow.part.NodePart.{NodePart}
use Rattle.ga_event.specs.declared.flow.part.NodePart.TheVariants.{Data, Return, Ram, Rom, A, B, P, I, Io, Carry, Slot, Wait, Stop, OutsideWord}
use Rattle.ga_event.specs.Flow.{top_data_part, second_data_part, top_return_part, IsNodePartInRange}
use Rattle.ga_provenance.specs.declared.kept.Registers.{Registers}
use Rattle.ga_provenance.specs.declared.moving.StackEffect.{StackEffect}
use Rattle.ga_provenance.specs.declared.moving.StackEffect.TheVariants.{Stays, Replaces, Pushes, Pops, Combines, Unsure}
use Rattle.ga_node.specs.declared.place.NodePlace.TheVariants as place
use Rattle.ga_node.specs.declared.due.NextAction.TheVariants as due
use Rattle.ga_node.specs.declared.place.NodePlace.{NodePlace}
use Rattle.ga_node.specs.Record.{NodeRecord}
use Rattle.ga_event.specs.Told.{count_steps}
use Rattle.ga_lab.specs.Machine.{MachineState, NodeAtStep, node_at_step, history_of_node}
use Rattle.ga_provenance.specs.declared.kept.TrackedPlace.{TrackedPlace}
use Rattle.ga_provenance.specs.declared.kept.TrackedPlace.TheVariants as hand
use Rattle.ga_provenance.specs.Origins.{node_after_steps, origin_of_value}
use Rattle.ga_provenance.specs.declared.value.PartValue.{PartValue}
use Rattle.std.specs.List.{All, slice_get}
use Rattle.ga_grid.specs.declared.node_id.NodeId.{NodeId}
use Rattle.ga_provenance.specs.declared.writes.Reached.{Reached}
use Rattle.ga_provenance.specs.Writes.{newest_cell_write}
use Rattle.ga_node.specs.declared.due.NextAction.{NextAction}
use Rattle.ga_provenance.specs.declared.asked.QueriedPart.{QueriedPart}
use Rattle.ga_provenance.specs.declared.asked.QueriedPart.TheVariants.{PartAfter, PartBefore, Nothing}
use Rattle.ga_provenance.specs.declared.lines.ProvenanceLine.{ProvenanceLine}
use Rattle.ga_provenance.specs.declared.lines.UsedValue.{UsedValue}
use Rattle.ga_provenance.specs.declared.source_search.TracedValue.{TracedValue}
use Rattle.ga_provenance.specs.Sources.{value_sources}
use Rattle.ga_provenance.specs.Lines.{source_origins, is_value_listed}

-- ---- the part from which a step moved a value to another part of the node, if the step as made determines it, whatever the
-- node's values were (F18A Technology Reference DB001, opcodes, by their codes; Flow.antt of ga_event has each row in full). If
-- it doesn't, there is none.

-- what an opcode does to the data stack
abbrev pub data_stack_effect_of_opcode : Op → StackEffect
data_stack_effect_of_opcode op.FetchP = Pushes  -- 08 @p
data_stack_effect_of_opcode op.FetchPlus = Pushes  -- 09 @+
data_stack_effect_of_opcode op.FetchB = Pushes  -- 0a @b
data_stack_effect_of_opcode op.Fetch = Pushes  -- 0b @
data_stack_effect_of_opcode op.StoreP = Pops  -- 0c !p
data_stack_effect_of_opcode op.StorePlus = Pops  -- 0d !+
data_stack_effect_of_opcode op.StoreB = Pops  -- 0e !b
data_stack_effect_of_opcode op.Store = Pops  -- 0f !
data_stack_effect_of_opcode op.MultiplyStep = Replaces  -- 10 +*
data_stack_effect_of_opcode op.TwoStar = Replaces  -- 11 2*
data_stack_effect_of_opcode op.TwoSlash = Replaces  -- 12 2/
data_stack_effect_of_opcode op.Invert = Replaces  -- 13 invert
data_stack_effect_of_opcode op.Plus = Combines  -- 14 +
data_stack_effect_of_opcode op.And = Combines  -- 15 and
data_stack_effect_of_opcode op.Or = Combines  -- 16 or
data_stack_effect_of_opcode op.Drop = Pops  -- 17 drop
data_stack_effect_of_opcode op.Dup = Pushes  -- 18 dup
data_stack_effect_of_opcode op.Pop = Pushes  -- 19 pop
data_stack_effect_of_opcode op.Over = Pushes  -- 1a over
data_stack_effect_of_opcode op.A = Pushes  -- 1b a
data_stack_effect_of_opcode op.Push = Pops  -- 1d push
data_stack_effect_of_opcode op.BStore = Pops  -- 1e b!
data_stack_effect_of_opcode op.AStore = Pops  -- 1f a!
data_stack_effect_of_opcode _ = Stays

-- what an opcode does to the return stack
abbrev pub return_effect_of_opcode : Op → StackEffect
return_effect_of_opcode op.Return = Pops  -- 00 ;
return_effect_of_opcode op.Execute = Replaces  -- 01 ex
return_effect_of_opcode op.Call = Pushes  -- 03 call
return_effect_of_opcode op.Unext = Unsure  -- 04 unext
return_effect_of_opcode op.Next = Unsure  -- 05 next
return_effect_of_opcode op.Pop = Pops  -- 19 pop
return_effect_of_opcode op.Push = Pushes  -- 1d push
return_effect_of_opcode _ = Stays

-- the part whose word an opcode pushes; what it reads is that of none
abbrev pub pushed_source_part : Op → Option NodePart
pushed_source_part op.Call = Some P  -- 03 call
pushed_source_part op.Dup = Some top_data_part  -- 18 dup
pushed_source_part op.Pop = Some top_return_part  -- 19 pop
pushed_source_part op.Over = Some second_data_part  -- 1a over
pushed_source_part op.A = Some A  -- 1b a
pushed_source_part op.Push = Some top_data_part  -- 1d push
pushed_source_part _ = None

-- the part of a word before a pop, which copies the third word of data and the second return to the last place
abbrev pub data_part_before_pop : ℕ → NodePart
data_part_before_pop k = if k == 9 then Data 2 else Data (k + 1)

abbrev pub return_part_before_pop : ℕ → NodePart
return_part_before_pop k = if k == 8 then Return 1 else Return (k + 1)

-- the part whose word an opcode leaves at a place of a stack
abbrev pub shifted_data_source : StackEffect → Option NodePart → ℕ → Option NodePart
shifted_data_source Stays new k = Some (Data k)
shifted_data_source Replaces new k = if k == 0 then None else Some (Data k)
shifted_data_source Pushes new k = if k == 0 then new else Some (Data (k - 1))
shifted_data_source Pops new k = Some (data_part_before_pop k)
shifted_data_source Combines new k = if k == 0 then None else Some (data_part_before_pop k)
shifted_data_source Unsure new k = None

abbrev pub data_word_source_part : Op → ℕ → Option NodePart
data_word_source_part o k = shifted_data_source (data_stack_effect_of_opcode o) (pushed_source_part o) k

abbrev pub shifted_return_source : StackEffect → Option NodePart → ℕ → Option NodePart
shifted_return_source Stays new k = Some (Return k)
shifted_return_source Replaces new k = if k == 0 then None else Some (Return k)
shifted_return_source Pushes new k = if k == 0 then new else Some (Return (k - 1))
shifted_return_source Pops new k = Some (return_part_before_pop k)
shifted_return_source Combines new k = None
shifted_return_source Unsure new k = None

abbrev pub part_moved_to_return_place : Op → ℕ → Option NodePart
part_moved_to_return_place o k = shifted_return_source (return_effect_of_opcode o) (pushed_source_part o) k

-- the part whose word an opcode leaves in A, in B and in the carry
abbrev pub source_part_of_a : Op → Option NodePart
source_part_of_a op.FetchPlus = None
source_part_of_a op.StorePlus = None
source_part_of_a op.MultiplyStep = None
source_part_of_a op.AStore = Some top_data_part
source_part_of_a _ = Some A

abbrev pub source_part_of_b : Op → Option NodePart
source_part_of_b op.BStore = None
source_part_of_b _ = Some B

abbrev pub source_part_of_carry : Op → Option NodePart
source_part_of_carry op.Plus = None
source_part_of_carry _ = Some Carry

-- what a store may write stays under every other opcode
abbrev pub source_part_unless_stored : Op → NodePart → Option NodePart
source_part_unless_stored op.StoreP at = None
source_part_unless_stored op.StorePlus at = None
source_part_unless_stored op.StoreB at = None
source_part_unless_stored op.Store at = None
source_part_unless_stored _ at = Some at

-- the part whose value an opcode leaves in a part, and the one whose value a fetch leaves in it
abbrev pub source_part_by_opcode : Op → NodePart → Option NodePart
source_part_by_opcode o (Data k) = data_word_source_part o k
source_part_by_opcode o (Return k) = part_moved_to_return_place o k
source_part_by_opcode o (Ram k) = source_part_unless_stored o (Ram k)
source_part_by_opcode o (Rom k) = Some (Rom k)
source_part_by_opcode o A = source_part_of_a o
source_part_by_opcode o B = source_part_of_b o
source_part_by_opcode o P = None
source_part_by_opcode o I = Some I
source_part_by_opcode o Io = source_part_unless_stored o Io
source_part_by_opcode o Carry = source_part_of_carry o
source_part_by_opcode o Slot = None
source_part_by_opcode o Wait = None
source_part_by_opcode o Stop = None
source_part_by_opcode o OutsideWord = None

abbrev pub source_part_by_fetch : NodePart → Option NodePart
source_part_by_fetch P = None
source_part_by_fetch I = None
source_part_by_fetch Slot = None
source_part_by_fetch Wait = None
source_part_by_fetch Stop = None
source_part_by_fetch OutsideWord = None
source_part_by_fetch at = Some at

-- the part whose value a wait or a stop, which replaces the whole event, leaves in a part
abbrev pub source_of_part_after_wait_or_stop : NodePart → Option NodePart
source_of_part_after_wait_or_stop Wait = None
source_of_part_after_wait_or_stop Stop = None
source_of_part_after_wait_or_stop OutsideWord = None
source_of_part_after_wait_or_stop at = Some at

-- the part whose value an event leaves in a part: an own event by its kind, and any event as made
abbrev pub source_part_by_event_kind : OwnEventKind → NodePart → Option NodePart
source_part_by_event_kind kind.Fetch at = source_part_by_fetch at
source_part_by_event_kind (kind.Run code) at = if nat_lt code 32 then source_part_by_opcode (opcode_of_code code) at else None
source_part_by_event_kind kind.Wait at = source_of_part_after_wait_or_stop at
source_part_by_event_kind (kind.Stop code) at = source_of_part_after_wait_or_stop at

abbrev pub source_part_by_event : Option MadeEvent → NodePart → Option NodePart
source_part_by_event None at = None
source_part_by_event (Some (Own node step kind)) at = source_part_by_event_kind kind at
source_part_by_event (Some (Pass writer i reader j word)) at = None

-- what the address of a store by A or B names, of the opcode with this code: !+, !b and !
abbrev pub store_target : ℕ → Registers → Option AddressTarget
store_target code before =
    if code == 13 || code == 15 then Some (address_target before.a)
    else if code == 14 then Some (address_target before.b)
    else None

-- the address of a store is known to name something else than this cell
abbrev pub store_misses_cell : Option AddressTarget → ℕ → Bool
store_misses_cell None cell = false
store_misses_cell (Some (target.Ram other)) cell = not (other == cell)
store_misses_cell (Some named) cell = true

-- whether an opcode with this code stored elsewhere than in the cell, where A and B were these before it; and whether a step,
-- as made, did
abbrev pub opcode_stores_outside_part : ℕ → Registers → NodePart → Bool
opcode_stores_outside_part code before (Ram cell) = store_misses_cell (store_target code before) cell
opcode_stores_outside_part code before at = false

abbrev pub event_stores_outside_part : Option MadeEvent → Registers → NodePart → Bool
event_stores_outside_part (Some (Own node step (kind.Run code))) before at = opcode_stores_outside_part code before at
event_stores_outside_part told before at = false

-- ---- a cell that is followed back over the steps of its node

-- ---- the tracked words of a node that is followed back: a register that addresses, or a cell of RAM (F18A Technology
-- Reference DB001, opcodes: which of them write there).

-- the place in a node of a tracked word, and the word there
abbrev pub tracked_place_in_node : TrackedPlace → NodePlace
tracked_place_in_node hand.A = place.A
tracked_place_in_node hand.B = place.B
tracked_place_in_node (hand.Ram cell) = place.Ram cell

abbrev pub tracked_word_in_node : TrackedPlace → NodeRecord → ℕ
tracked_word_in_node hand.A node = node.a
tracked_word_in_node hand.B node = node.b
tracked_word_in_node (hand.Ram cell) node = slice_index node.ram cell

-- the codes of the opcodes that may write A: @+, !+, +* and a!; B: b!; and a cell: the stores, 0c to 0f
abbrev pub may_opcode_write_tracked_place : TrackedPlace → ℕ → Bool
may_opcode_write_tracked_place hand.A code = code == 9 || code == 13 || code == 16 || code == 31
may_opcode_write_tracked_place hand.B code = code == 30
may_opcode_write_tracked_place (hand.Ram cell) code = code / 4 == 3

-- whether an own event of this kind, or in `is_unchanged_by_step` a step as made, left the register or the cell as it was, whatever the node's
-- values were
abbrev pub is_unchanged_by_own_event : TrackedPlace → OwnEventKind → Bool
is_unchanged_by_own_event kept (kind.Run code) = not (may_opcode_write_tracked_place kept code)
is_unchanged_by_own_event kept _ = true

abbrev pub is_unchanged_by_step : TrackedPlace → Option MadeEvent → Bool
is_unchanged_by_step kept None = false
is_unchanged_by_step kept (Some (Own node step kind)) = is_unchanged_by_own_event kept kind
is_unchanged_by_step kept (Some (Pass writer i reader j word)) = false

-- a machine of all nodes
abbrev pub HasMachineAllNodes : MachineState → Type 0
HasMachineAllNodes s = length s.load ≡ 144

-- A and B of a node after a number of its steps
pub record AreRegistersAfterSteps (s : MachineState) (n step : ℕ) (registers : Registers) : Type 0 where
  pub whole : HasMachineAllNodes s
  pub within : step ≤ count_steps n s.kept
  pub a : (node_after_steps s n step).a ≡ registers.a
  pub b : (node_after_steps s n step).b ≡ registers.b
  pub a_fits : registers.a < 2 ^ 18
  pub b_fits : registers.b < 2 ^ 18

-- A, B and the word in a cell of a node after the steps that are still to be searched
pub record IsCellStateAfterSteps (s : MachineState) (n cell : ℕ) (reached : Reached) : Type 0 where
  pub registers : AreRegistersAfterSteps s n reached.step reached.registers
  pub word : slice_index (node_after_steps s n reached.step).ram cell ≡ reached.word
  pub fits : reached.word < 2 ^ 18

-- A, B and the word in a cell of a node, followed back over no step that wrote the cell
pub record IsCellStateFollowedBack (s : MachineState) (n cell : ℕ) (from back : Reached) : Type 0 where
  pub held : IsCellStateAfterSteps s n cell back
  pub same : newest_cell_write s n cell back.step ≡ newest_cell_write s n cell from.step
  pub within : back.step ≤ from.step

-- A, B and the word in a cell after the steps that are still to be searched, and a trail of the node that has not been walked
-- back past them
pub record IsCellWriteSearchState (s : MachineState) (node : NodeId) (cell : ℕ) (walk : NodeAtStep) (reached : Reached) : Type 0 where
  pub of_ram : cell < 64
  pub trail : walk ≡ node_at_step s node walk.step
  pub order : reached.step ≤ walk.step
  pub held : IsCellStateAfterSteps s node.number cell reached

-- ---- what came next in a node, by the kind of its event (F18A Technology Reference DB001, opcodes, by their codes)

-- what came next if the event was of this kind: a fetch or an opcode; none by a wait or a stop, which replaces either
abbrev pub IsNextActionOfKind : OwnEventKind → NextAction → Type 0
IsNextActionOfKind kind.Fetch what = what ≡ due.Fetch
IsNextActionOfKind (kind.Run code) what = what ≡ due.Run (opcode_of_code code)
IsNextActionOfKind _ what = ⊥

-- ---- searched and selected values

-- a value is that of a part of a node, and one after a step that the node made
abbrev pub HasValuePartInRange : PartValue → Type 0
HasValuePartInRange value = IsNodePartInRange value.part

pub record IsValueInHistory (s : MachineState) (value : PartValue) : Type 0 where
  pub part : HasValuePartInRange value
  pub within : value.step ≤ count_steps value.node.number s.kept

-- a used value as the step made it
abbrev pub origin_of_used_value : MachineState → UsedValue → PartValue
origin_of_used_value s usage = origin_of_value s usage.used

-- a value with those from which it was made
abbrev pub part_value_of_traced_value : TracedValue → PartValue
part_value_of_traced_value traced = traced.value

pub record IsValueTraced (s : MachineState) (traced : TracedValue) : Type 0 where
  pub used : traced.used.items ≡ value_sources s traced.value
  pub origins : traced.origins.items ≡ source_origins s traced.value
  pub parts : All HasValuePartInRange traced.used.items
  pub kept : All (IsValueInHistory s) traced.origins.items

-- the value that follows the oldest of a run in it: the next one, unless it is listed or as many steps before as no other
abbrev pub follows_oldest_in_run : List ProvenanceLine → ProvenanceLine → PartValue → PartValue → Bool
follows_oldest_in_run lines line oldest next = ((line.count == 1) || (oldest.step - next.step == line.period)) && not (is_value_listed lines next)

abbrev pub following_value_in_run : List ProvenanceLine → ProvenanceLine → PartValue → Option PartValue → Option PartValue
following_value_in_run lines line oldest None = None
following_value_in_run lines line oldest (Some next) = if follows_oldest_in_run lines line oldest next then Some next else None

-- the selected value is that of a part of a node, or there is none
abbrev pub IsNodePartIfAnyQueried : QueriedPart → Type 0
IsNodePartIfAnyQueried (PartAfter part) = IsNodePartInRange part
IsNodePartIfAnyQueried (PartBefore part) = IsNodePartInRange part
IsNodePartIfAnyQueried Nothing = Unit {0}

-- ---- whether a step, as made, ran a store (F18A Technology Reference DB001, opcodes): nothing else writes memory

-- the step ran a store: the codes of the stores are 0c to 0f
abbrev pub is_store_event_kind : OwnEventKind → Bool
is_store_event_kind kind.Fetch = false
is_store_event_kind (kind.Run code) = code / 4 == 3
is_store_event_kind kind.Wait = false
is_store_event_kind (kind.Stop code) = false

abbrev pub ran_store_opcode : Option MadeEvent → Bool
ran_store_opcode None = false
ran_store_opcode (Some (Own node step kind)) = is_store_event_kind kind
ran_store_opcode (Some (Pass writer i reader j word)) = false

-- ---- a part by which a step is decided, and a node whose steps are looked at (F18A Technology Reference DB001, opcodes)

-- a part by which a step is decided: T, R or the instruction word
abbrev pub IsDecidingPart : NodePart → Type 0
IsDecidingPart (Data k) = k ≡ 0
IsDecidingPart (Return k) = k ≡ 0
IsDecidingPart I = Unit {0}
IsDecidingPart _ = ⊥

-- the event as made is an own event of this kind
abbrev pub IsMadeOwnEventOfKind : OwnEventKind → MadeEvent → Type 0
IsMadeOwnEventOfKind what (Own node step other) = other ≡ what
IsMadeOwnEventOfKind what (Pass writer i reader j word) = ⊥

-- a trail that has not come past the steps that are still to be looked at
pub record IsDecisionSearchState (s : MachineState) (node : NodeId) (walk : NodeAtStep) (step : ℕ) : Type 0 where
  pub trail : walk ≡ node_at_step s node walk.step
  pub order : step ≤ walk.step
  pub within : step ≤ count_steps node.number s.kept

-- ---- a value that is followed back, and the trail by which it is

-- A value leads to another one: that has the same origin, it was in the same node and no later, and the step that left it
-- there, as made, doesn't determine from where.
pub record IsValueFollowedBack (s : MachineState) (from to : PartValue) : Type 0 where
  pub same : origin_of_value s to ≡ origin_of_value s from
  pub part : IsNodePartInRange to.part
  pub node : to.node ≡ from.node
  pub within : to.step ≤ from.step
  pub ends : 0 < to.step → source_part_by_event (slice_get (history_of_node s from.node.number) (to.step - 1)) to.part ≡ None

-- a trail of the node that has not been walked back past a step
pub record IsTrailNotPastStep (s : MachineState) (node : NodeId) (trail : NodeAtStep) (step : ℕ) : Type 0 where
  pub stands : trail ≡ node_at_step s node trail.step
  pub order : step ≤ trail.step
