-- Where the values come from that an event leaves in a node: the table of ga_node's Table.antt once more, with the sources of
-- each word in place of the word.
use Rattle.std.specs.Prelude.{ℕ, ◌+◌, ◌-◌, ◌/◌, ◌^◌, ◌==◌, ◌≡◌, ◌<◌, Bool, false, ◌&&◌, if◌then◌else◌, List, [], ◌∷◌, slice_index}
use Rattle.ga_word.specs.Word.{carry_value}
use Rattle.ga_slots.specs.declared.op.Op.{Op}
use Rattle.ga_slots.specs.declared.op.Op.TheVariants.{Return, Execute, Jump, Call, Unext, Next, If, MinusIf, FetchP, FetchPlus, FetchB, Fetch, StoreP, StorePlus, StoreB, Store, MultiplyStep, TwoStar, TwoSlash, Invert, Plus, And, Or, Drop, Dup, Pop, Over, A, Nop, Push, BStore, AStore}
use Rattle.ga_ports.specs.Address.{address_target, is_single_side_set}
use Rattle.ga_ports.specs.declared.address.AddressTarget.{AddressTarget}
use Rattle.ga_ports.specs.declared.address.AddressTarget.TheVariants.{Ram, Rom, Io, Ports, Bad}
use Rattle.ga_node.specs.Record.{NodeRecord}
use Rattle.ga_node.specs.State.{wait_code}
use Rattle.ga_node.specs.Table.{register_t, register_r, has_extended_arithmetic, next_action_of_node}
use Rattle.ga_event.specs.declared.flow.choice.DecidingTestOrTarget.{DecidingTestOrTarget}
use Rattle.ga_event.specs.declared.flow.choice.DecidingTestOrTarget.TheVariants.{Plain, TestResult, TargetChoice}
use Rattle.ga_event.specs.declared.flow.part.NodePart.{NodePart}
use Rattle.ga_event.specs.declared.flow.part.NodePart.TheVariants.{Data as OfD, Return as OfR, Ram as OfRam, Rom as OfRom, A as OfA, B as OfB, P as OfP, I as OfI, Io as OfIo, Carry as OfCarry, Slot as OfSlot, Wait as OfWait, Stop as OfStop, OutsideWord}
use Rattle.ga_event.specs.declared.flow.ValueFlow.{ValueFlow as KeptFlow}
use Rattle.ga_event.specs.declared.flow.ValueFlow.TheVariants as flow
use Rattle.ga_node.specs.declared.due.NextAction.{NextAction}
use Rattle.ga_node.specs.declared.due.NextAction.TheVariants as due
use Rattle.ga_node.specs.declared.wait.Wait.{Wait}
use Rattle.ga_node.specs.declared.wait.Wait.TheVariants as wait

-- ---- the parts of a node

-- T, S and R
abbrev pub top_data_part : NodePart
top_data_part = OfD 0

abbrev pub second_data_part : NodePart
second_data_part = OfD 1

abbrev pub top_return_part : NodePart
top_return_part = OfR 0

-- the value of a part of a node, where this word comes from outside
abbrev pub node_part_value : ℕ → NodeRecord → NodePart → ℕ
node_part_value word n (OfD k) = slice_index n.d k
node_part_value word n (OfR k) = slice_index n.r k
node_part_value word n (OfRam k) = slice_index n.ram k
node_part_value word n (OfRom k) = slice_index n.rom k
node_part_value word n OfA = n.a
node_part_value word n OfB = n.b
node_part_value word n OfP = n.p
node_part_value word n OfI = n.i
node_part_value word n OfIo = n.io
node_part_value word n OfCarry = carry_value n.carry
node_part_value word n OfSlot = n.slot
node_part_value word n OfWait = wait_code n.wait
node_part_value word n OfStop = n.stop
node_part_value word n OutsideWord = word

-- a part that each node has
abbrev pub IsNodePartInRange : NodePart → Type 0
IsNodePartInRange (OfD k) = k < 10
IsNodePartInRange (OfR k) = k < 9
IsNodePartInRange (OfRam k) = k < 64
IsNodePartInRange (OfRom k) = k < 64
IsNodePartInRange OutsideWord = ⊥
IsNodePartInRange _ = Unit {0}

-- Where a value comes from: it is that of a part before, or it is computed from these parts alone, given what decides the event.
pub data ValueFlow : Type 0 where
  CopiedFromPart : NodePart → ValueFlow
  From : List NodePart → ValueFlow

-- ---- the changes of Changes.antt, each with the flow of its word

pub data FlowChange : Type 0 where
  PushData : ValueFlow → FlowChange
  PopData : FlowChange
  SetTop : ValueFlow → FlowChange
  PopThenSetTop : ValueFlow → FlowChange
  PushReturn : ValueFlow → FlowChange
  PopReturn : FlowChange
  SetTopReturn : ValueFlow → FlowChange
  SetP : ValueFlow → FlowChange
  SetA : ValueFlow → FlowChange
  SetB : ValueFlow → FlowChange
  SetI : ValueFlow → FlowChange
  SetIo : ValueFlow → FlowChange
  SetCarry : ValueFlow → FlowChange
  SetRam : ℕ → ValueFlow → FlowChange
  AdvanceSlot : FlowChange
  SkipRestOfWord : FlowChange
  ReturnToFirstSlot : FlowChange
  SetWait : FlowChange
  SetStop : FlowChange

-- where the value of each part comes from
abbrev pub PartFlows : Type 0
PartFlows = NodePart → ValueFlow

-- the number of a kind of part, and the place or the cell
abbrev pub kind_of_node_part : NodePart → ℕ
kind_of_node_part (OfD k) = 0
kind_of_node_part (OfR k) = 1
kind_of_node_part (OfRam k) = 2
kind_of_node_part (OfRom k) = 3
kind_of_node_part OfA = 4
kind_of_node_part OfB = 5
kind_of_node_part OfP = 6
kind_of_node_part OfI = 7
kind_of_node_part OfIo = 8
kind_of_node_part OfCarry = 9
kind_of_node_part OfSlot = 10
kind_of_node_part OfWait = 11
kind_of_node_part OfStop = 12
kind_of_node_part OutsideWord = 13

abbrev pub index_of_node_part : NodePart → ℕ
index_of_node_part (OfD k) = k
index_of_node_part (OfR k) = k
index_of_node_part (OfRam k) = k
index_of_node_part (OfRom k) = k
index_of_node_part _ = 0

abbrev pub is_same_node_part : NodePart → NodePart → Bool
is_same_node_part part other = kind_of_node_part part == kind_of_node_part other && index_of_node_part part == index_of_node_part other

-- another flow at a part; and each stack's words after a push, and after a pop, which copies the third word of data and the second
-- return to the last place
abbrev pub flows_with_replaced_part : NodePart → ValueFlow → PartFlows → PartFlows
flows_with_replaced_part at flow f part = if is_same_node_part part at then flow else f part

abbrev pub flows_after_data_push : ValueFlow → PartFlows → PartFlows
flows_after_data_push flow f (OfD k) = if k == 0 then flow else f (OfD (k - 1))
flows_after_data_push flow f part = f part

abbrev pub flows_after_data_pop : PartFlows → PartFlows
flows_after_data_pop f (OfD k) = if k == 9 then f (OfD 2) else f (OfD (k + 1))
flows_after_data_pop f part = f part

abbrev pub flows_after_return_push : ValueFlow → PartFlows → PartFlows
flows_after_return_push flow f (OfR k) = if k == 0 then flow else f (OfR (k - 1))
flows_after_return_push flow f part = f part

abbrev pub flows_after_return_pop : PartFlows → PartFlows
flows_after_return_pop f (OfR k) = if k == 8 then f (OfR 1) else f (OfR (k + 1))
flows_after_return_pop f part = f part

-- the flow of what is computed from a value of this flow
abbrev pub computed_flow : ValueFlow → ValueFlow
computed_flow (CopiedFromPart part) = From (part ∷ [])
computed_flow (From parts) = From parts

abbrev pub flows_after_change : FlowChange → PartFlows → PartFlows
flows_after_change (PushData flow) f = flows_after_data_push flow f
flows_after_change PopData f = flows_after_data_pop f
flows_after_change (SetTop flow) f = flows_with_replaced_part top_data_part flow f
flows_after_change (PopThenSetTop flow) f = flows_with_replaced_part top_data_part flow (flows_after_data_pop f)
flows_after_change (PushReturn flow) f = flows_after_return_push flow f
flows_after_change PopReturn f = flows_after_return_pop f
flows_after_change (SetTopReturn flow) f = flows_with_replaced_part top_return_part flow f
flows_after_change (SetP flow) f = flows_with_replaced_part OfP flow f
flows_after_change (SetA flow) f = flows_with_replaced_part OfA flow f
flows_after_change (SetB flow) f = flows_with_replaced_part OfB flow f
flows_after_change (SetI flow) f = flows_with_replaced_part OfI flow f
flows_after_change (SetIo flow) f = flows_with_replaced_part OfIo flow f
flows_after_change (SetCarry flow) f = flows_with_replaced_part OfCarry flow f
flows_after_change (SetRam cell flow) f = flows_with_replaced_part (OfRam cell) flow f
flows_after_change AdvanceSlot f = flows_with_replaced_part OfSlot (computed_flow (f OfSlot)) f
flows_after_change SkipRestOfWord f = flows_with_replaced_part OfSlot (From []) f
flows_after_change ReturnToFirstSlot f = flows_with_replaced_part OfSlot (From []) f
flows_after_change SetWait f = flows_with_replaced_part OfWait (From []) f
flows_after_change SetStop f = flows_with_replaced_part OfStop (From []) f

abbrev pub flows_after_changes : List FlowChange → PartFlows → PartFlows
flows_after_changes [] f = f
flows_after_changes (move ∷ rest) f = flows_after_changes rest (flows_after_change move f)

-- ---- what decides an event

-- what decides an event besides its opcode: a test, or the target of an address
abbrev pub deciding_test_or_target : NextAction → NodeRecord → DecidingTestOrTarget
deciding_test_or_target due.Fetch n = TargetChoice (address_target n.p)
deciding_test_or_target (due.Run Unext) n = TestResult (register_r n == 0)
deciding_test_or_target (due.Run Next) n = TestResult (register_r n == 0)
deciding_test_or_target (due.Run If) n = TestResult (register_t n == 0)
deciding_test_or_target (due.Run MinusIf) n = TestResult (register_t n / 2 ^ 17 == 0)
deciding_test_or_target (due.Run Plus) n = TestResult (has_extended_arithmetic n)
deciding_test_or_target (due.Run FetchP) n = TargetChoice (address_target n.p)
deciding_test_or_target (due.Run FetchPlus) n = TargetChoice (address_target n.a)
deciding_test_or_target (due.Run FetchB) n = TargetChoice (address_target n.b)
deciding_test_or_target (due.Run Fetch) n = TargetChoice (address_target n.a)
deciding_test_or_target (due.Run StoreP) n = TargetChoice (address_target n.p)
deciding_test_or_target (due.Run StorePlus) n = TargetChoice (address_target n.a)
deciding_test_or_target (due.Run StoreB) n = TargetChoice (address_target n.b)
deciding_test_or_target (due.Run Store) n = TargetChoice (address_target n.a)
deciding_test_or_target (due.Run _) n = Plain

-- the parts that decide an event besides its opcode
abbrev pub deciding_parts : NextAction → List NodePart
deciding_parts due.Fetch = OfP ∷ []
deciding_parts (due.Run Unext) = top_return_part ∷ []
deciding_parts (due.Run Next) = top_return_part ∷ []
deciding_parts (due.Run If) = top_data_part ∷ []
deciding_parts (due.Run MinusIf) = top_data_part ∷ []
deciding_parts (due.Run Plus) = OfP ∷ []
deciding_parts (due.Run FetchP) = OfP ∷ []
deciding_parts (due.Run FetchPlus) = OfA ∷ []
deciding_parts (due.Run FetchB) = OfB ∷ []
deciding_parts (due.Run Fetch) = OfA ∷ []
deciding_parts (due.Run StoreP) = OfP ∷ []
deciding_parts (due.Run StorePlus) = OfA ∷ []
deciding_parts (due.Run StoreB) = OfB ∷ []
deciding_parts (due.Run Store) = OfA ∷ []
deciding_parts (due.Run _) = []

-- what the address of a choice names, and whether its test held
abbrev pub deciding_target : DecidingTestOrTarget → AddressTarget
deciding_target (TargetChoice target) = target
deciding_target _ = Bad

abbrev pub deciding_test_holds : DecidingTestOrTarget → Bool
deciding_test_holds (TestResult held) = held
deciding_test_holds _ = false

-- ---- the table

-- what a read gives, and what comes after it
abbrev pub read_flow_changes : AddressTarget → (ValueFlow → List FlowChange) → List FlowChange
read_flow_changes (Ram k) more = more (CopiedFromPart (OfRam k))
read_flow_changes (Rom k) more = more (CopiedFromPart (OfRom k))
read_flow_changes Io more = more (CopiedFromPart OutsideWord)
read_flow_changes (Ports sides) more = SetWait ∷ []
read_flow_changes Bad more = SetStop ∷ []

-- what a write of T changes, and what comes after it
abbrev pub write_flow_changes : AddressTarget → List FlowChange → List FlowChange
write_flow_changes (Ram k) more = SetRam k (CopiedFromPart top_data_part) ∷ more
write_flow_changes (Rom k) more = more
write_flow_changes Io more = SetIo (CopiedFromPart top_data_part) ∷ more
write_flow_changes (Ports sides) more = if is_single_side_set sides then SetWait ∷ [] else SetStop ∷ []
write_flow_changes Bad more = SetStop ∷ []

abbrev pub flow_from_part : NodePart → ValueFlow
flow_from_part part = From (part ∷ [])

abbrev pub flow_from_operands : ValueFlow
flow_from_operands = From (top_data_part ∷ second_data_part ∷ [])

abbrev pub execute_flow_changes : List FlowChange
execute_flow_changes = SetP (flow_from_part top_return_part) ∷ SetTopReturn (CopiedFromPart OfP) ∷ SkipRestOfWord ∷ []

abbrev pub jump_flow_changes : List FlowChange
jump_flow_changes = SetP (From (OfP ∷ OfI ∷ OfSlot ∷ [])) ∷ SkipRestOfWord ∷ []

abbrev pub plus_flow_changes : Bool → List FlowChange
plus_flow_changes extended =
    let sum = From (top_data_part ∷ second_data_part ∷ OfCarry ∷ []) in
    if extended then SetCarry sum ∷ PopThenSetTop sum ∷ AdvanceSlot ∷ [] else PopThenSetTop flow_from_operands ∷ AdvanceSlot ∷ []

abbrev pub multiply_flow_changes : List FlowChange
multiply_flow_changes = let sum = From (top_data_part ∷ second_data_part ∷ OfA ∷ []) in SetA sum ∷ SetTop sum ∷ AdvanceSlot ∷ []

-- the moves of a fetch, by what P names
abbrev pub fetch_flow_changes : AddressTarget → List FlowChange
fetch_flow_changes target = read_flow_changes target (λ word. SetI word ∷ SetP (flow_from_part OfP) ∷ ReturnToFirstSlot ∷ [])

-- the moves of what comes next in their order, by the opcode and what else decides the event
abbrev pub flow_changes_by_test_or_target : NextAction → DecidingTestOrTarget → List FlowChange
flow_changes_by_test_or_target due.Fetch c = fetch_flow_changes (deciding_target c)
flow_changes_by_test_or_target (due.Run Return) c = SetP (flow_from_part top_return_part) ∷ PopReturn ∷ SkipRestOfWord ∷ []
flow_changes_by_test_or_target (due.Run Execute) c = execute_flow_changes
flow_changes_by_test_or_target (due.Run Jump) c = jump_flow_changes
flow_changes_by_test_or_target (due.Run Call) c = PushReturn (CopiedFromPart OfP) ∷ jump_flow_changes
flow_changes_by_test_or_target (due.Run Unext) c = if deciding_test_holds c then PopReturn ∷ AdvanceSlot ∷ [] else SetTopReturn (flow_from_part top_return_part) ∷ ReturnToFirstSlot ∷ []
flow_changes_by_test_or_target (due.Run Next) c = if deciding_test_holds c then PopReturn ∷ SkipRestOfWord ∷ [] else SetTopReturn (flow_from_part top_return_part) ∷ jump_flow_changes
flow_changes_by_test_or_target (due.Run If) c = if deciding_test_holds c then jump_flow_changes else SkipRestOfWord ∷ []
flow_changes_by_test_or_target (due.Run MinusIf) c = if deciding_test_holds c then jump_flow_changes else SkipRestOfWord ∷ []
flow_changes_by_test_or_target (due.Run FetchP) c = read_flow_changes (deciding_target c) (λ word. PushData word ∷ SetP (flow_from_part OfP) ∷ AdvanceSlot ∷ [])
flow_changes_by_test_or_target (due.Run FetchPlus) c = read_flow_changes (deciding_target c) (λ word. PushData word ∷ SetA (flow_from_part OfA) ∷ AdvanceSlot ∷ [])
flow_changes_by_test_or_target (due.Run FetchB) c = read_flow_changes (deciding_target c) (λ word. PushData word ∷ AdvanceSlot ∷ [])
flow_changes_by_test_or_target (due.Run Fetch) c = read_flow_changes (deciding_target c) (λ word. PushData word ∷ AdvanceSlot ∷ [])
flow_changes_by_test_or_target (due.Run StoreP) c = write_flow_changes (deciding_target c) (PopData ∷ SetP (flow_from_part OfP) ∷ AdvanceSlot ∷ [])
flow_changes_by_test_or_target (due.Run StorePlus) c = write_flow_changes (deciding_target c) (PopData ∷ SetA (flow_from_part OfA) ∷ AdvanceSlot ∷ [])
flow_changes_by_test_or_target (due.Run StoreB) c = write_flow_changes (deciding_target c) (PopData ∷ AdvanceSlot ∷ [])
flow_changes_by_test_or_target (due.Run Store) c = write_flow_changes (deciding_target c) (PopData ∷ AdvanceSlot ∷ [])
flow_changes_by_test_or_target (due.Run MultiplyStep) c = multiply_flow_changes
flow_changes_by_test_or_target (due.Run TwoStar) c = SetTop (flow_from_part top_data_part) ∷ AdvanceSlot ∷ []
flow_changes_by_test_or_target (due.Run TwoSlash) c = SetTop (flow_from_part top_data_part) ∷ AdvanceSlot ∷ []
flow_changes_by_test_or_target (due.Run Invert) c = SetTop (flow_from_part top_data_part) ∷ AdvanceSlot ∷ []
flow_changes_by_test_or_target (due.Run Plus) c = plus_flow_changes (deciding_test_holds c)
flow_changes_by_test_or_target (due.Run And) c = PopThenSetTop flow_from_operands ∷ AdvanceSlot ∷ []
flow_changes_by_test_or_target (due.Run Or) c = PopThenSetTop flow_from_operands ∷ AdvanceSlot ∷ []
flow_changes_by_test_or_target (due.Run Drop) c = PopData ∷ AdvanceSlot ∷ []
flow_changes_by_test_or_target (due.Run Dup) c = PushData (CopiedFromPart top_data_part) ∷ AdvanceSlot ∷ []
flow_changes_by_test_or_target (due.Run Pop) c = PushData (CopiedFromPart top_return_part) ∷ PopReturn ∷ AdvanceSlot ∷ []
flow_changes_by_test_or_target (due.Run Over) c = PushData (CopiedFromPart second_data_part) ∷ AdvanceSlot ∷ []
flow_changes_by_test_or_target (due.Run A) c = PushData (CopiedFromPart OfA) ∷ AdvanceSlot ∷ []
flow_changes_by_test_or_target (due.Run Nop) c = AdvanceSlot ∷ []
flow_changes_by_test_or_target (due.Run Push) c = PushReturn (CopiedFromPart top_data_part) ∷ PopData ∷ AdvanceSlot ∷ []
flow_changes_by_test_or_target (due.Run BStore) c = SetB (flow_from_part top_data_part) ∷ PopData ∷ AdvanceSlot ∷ []
flow_changes_by_test_or_target (due.Run AStore) c = SetA (CopiedFromPart top_data_part) ∷ PopData ∷ AdvanceSlot ∷ []

-- the moves of an opcode in a node, and those of what comes next in a node
abbrev pub opcode_flow_changes : Op → NodeRecord → List FlowChange
opcode_flow_changes op n = flow_changes_by_test_or_target (due.Run op) (deciding_test_or_target (due.Run op) n)

abbrev pub action_flow_changes : NextAction → NodeRecord → List FlowChange
action_flow_changes due.Fetch n = fetch_flow_changes (address_target n.p)
action_flow_changes (due.Run op) n = opcode_flow_changes op n

-- the moves of the two halves of a transfer
abbrev pub send_flow_changes : List FlowChange
send_flow_changes = SetWait ∷ PopData ∷ AdvanceSlot ∷ []

abbrev pub take_flow_changes : Wait → List FlowChange
take_flow_changes (wait.Fetch sides) = SetWait ∷ SetI (CopiedFromPart OutsideWord) ∷ ReturnToFirstSlot ∷ []
take_flow_changes (wait.Read sides) = SetWait ∷ PushData (CopiedFromPart OutsideWord) ∷ AdvanceSlot ∷ []
take_flow_changes wait.Nothing = []
take_flow_changes (wait.Write side) = []

-- where the value of a part comes from after what comes next, where this decides it
unfoldable pub flow_by_test_or_target : NextAction → DecidingTestOrTarget → NodePart → ValueFlow
flow_by_test_or_target due deciding_test_or_target = flows_after_changes (flow_changes_by_test_or_target due deciding_test_or_target) CopiedFromPart

-- where the value of a part comes from after a node's own event, after it sent a word, and after it took one
unfoldable pub flow_of_own_event : NodeRecord → NodePart → ValueFlow
flow_of_own_event n = flows_after_changes (action_flow_changes (next_action_of_node n) n) CopiedFromPart

unfoldable pub flow_after_send : NodePart → ValueFlow
flow_after_send = flows_after_changes send_flow_changes CopiedFromPart

unfoldable pub flow_after_take : Wait → NodePart → ValueFlow
flow_after_take wait = flows_after_changes (take_flow_changes wait) CopiedFromPart

-- ---- two runs

-- whether what comes next is the same in two nodes, and so is what decides it besides the opcode
pub record HaveSameNextAction (n m : NodeRecord) : Type 0 where
  pub due : next_action_of_node n ≡ next_action_of_node m
  pub choice : deciding_test_or_target (next_action_of_node n) n ≡ deciding_test_or_target (next_action_of_node m) m

-- two nodes hold the same in these parts, where these words come from outside
abbrev pub AreNodesAlikeAtParts : ℕ → NodeRecord → ℕ → NodeRecord → List NodePart → Type 0
AreNodesAlikeAtParts word n other m [] = Unit {0}
AreNodesAlikeAtParts word n other m (part ∷ rest) = (node_part_value word n part ≡ node_part_value other m part) × AreNodesAlikeAtParts word n other m rest

-- Two values come from a flow, in two nodes before an event: each is that of a part, or they are the same where the nodes agree.
abbrev pub AreBothValuesFromFlow : ℕ → NodeRecord → ℕ → NodeRecord → ValueFlow → ℕ → ℕ → Type 0
AreBothValuesFromFlow word n other m (CopiedFromPart part) x y = (x ≡ node_part_value word n part) × (y ≡ node_part_value other m part)
AreBothValuesFromFlow word n other m (From parts) x y = AreNodesAlikeAtParts word n other m parts → x ≡ y

-- ---- the flows of the code

-- the flow that a stored flow represents
abbrev pub flow_of_stored_flow : KeptFlow → ValueFlow
flow_of_stored_flow (flow.CopiedFromPart part) = CopiedFromPart part
flow_of_stored_flow (flow.ComputedFromParts parts) = From parts.items

-- a part that each node has, or the word from outside
abbrev pub IsPartInRangeOrOutsideWord : NodePart → Type 0
IsPartInRangeOrOutsideWord OutsideWord = Unit {0}
IsPartInRangeOrOutsideWord part = IsNodePartInRange part

abbrev pub AreNodePartsInRange : List NodePart → Type 0
AreNodePartsInRange [] = Unit {0}
AreNodePartsInRange (part ∷ rest) = IsNodePartInRange part × AreNodePartsInRange rest

-- Whether the word from outside occurs in a flow only as the new value of a part: nothing is computed from it in the event that
-- brings it.
abbrev pub ComputesNothingFromOutsideWord : ValueFlow → Type 0
ComputesNothingFromOutsideWord (CopiedFromPart part) = IsPartInRangeOrOutsideWord part
ComputesNothingFromOutsideWord (From parts) = AreNodePartsInRange parts
