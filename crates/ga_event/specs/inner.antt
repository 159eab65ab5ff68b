-- What private contracts alone name: a node's own event before it is made, and a part followed back over the moves of one event.
use Rattle.ga_event.specs.declared.flow.sought.TracedPart.TheVariants as sought
use Rattle.ga_ports.specs.declared.address.AddressTarget.TheVariants as target
use Rattle.std.specs.Prelude.{◌≡◌, ◌+◌, ◌-◌, ◌==◌, Bool, None, if◌then◌else◌, List, [], ◌∷◌}
use Rattle.ga_event.specs.declared.flow.part.NodePart.{NodePart}
use Rattle.ga_event.specs.declared.flow.part.NodePart.TheVariants.{Data, Return, Ram, Rom, A, B, P, I, Io, Carry, Slot, Wait, Stop, OutsideWord}
use Rattle.ga_event.specs.declared.flow.sought.TracedPart.{TracedPart}
use Rattle.ga_ports.specs.Address.{is_single_side_set}
use Rattle.ga_node.specs.Record.{NodeRecord}
use Rattle.ga_node.specs.Table.{refusal_of_own_event, next_action_of_node, is_look_action}
use Rattle.ga_node.specs.Ready.{CanExecuteAction}
use Rattle.ga_node.specs.declared.due.NextAction.{NextAction}
use Rattle.ga_ports.specs.declared.address.AddressTarget.{AddressTarget}
use Rattle.ga_event.specs.Flow.{ValueFlow, CopiedFromPart, From, FlowChange, PushData, PopData, SetTop, PopThenSetTop, PushReturn, PopReturn, SetTopReturn, SetP, SetA, SetB, SetI, SetIo, SetCarry, SetRam, AdvanceSlot, SkipRestOfWord, ReturnToFirstSlot, SetWait, SetStop, top_data_part, top_return_part, is_same_node_part, IsNodePartInRange, flow_of_stored_flow, ComputesNothingFromOutsideWord}

-- the node makes this next, looking at its neighbours or not
pub record IsNextOwnEvent (due : NextAction) (looks : Bool) (n : NodeRecord) : Type 0 where
  pub ready : refusal_of_own_event n ≡ None
  pub due_is : due ≡ next_action_of_node n
  pub can : CanExecuteAction due n
  pub looks_is : is_look_action due n ≡ looks

-- a part before some changes, or where the value was found to come from
pub data ValueOriginTrace : Type 0 where
  At : NodePart → ValueOriginTrace
  Found : ValueFlow → ValueOriginTrace

abbrev pub trace_of_traced_part : TracedPart → ValueOriginTrace
trace_of_traced_part (sought.At part) = At part
trace_of_traced_part (sought.Found flow) = Found (flow_of_stored_flow flow)

abbrev pub IsValidOriginTrace : ValueOriginTrace → Type 0
IsValidOriginTrace (At part) = IsNodePartInRange part
IsValidOriginTrace (Found flow) = ComputesNothingFromOutsideWord flow

-- a part followed back over another word in a part, and over a push and a pop of either stack
abbrev pub trace_before_set : NodePart → ValueFlow → ValueOriginTrace → ValueOriginTrace
trace_before_set at flow (At part) = if is_same_node_part part at then Found flow else At part
trace_before_set at flow (Found found) = Found found

abbrev pub push_data : ValueFlow → ValueOriginTrace → ValueOriginTrace
push_data flow (At (Data k)) = if k == 0 then Found flow else At (Data (k - 1))
push_data flow trace = trace

abbrev pub pop_data : ValueOriginTrace → ValueOriginTrace
pop_data (At (Data k)) = if k == 9 then At (Data 2) else At (Data (k + 1))
pop_data trace = trace

abbrev pub push_return : ValueFlow → ValueOriginTrace → ValueOriginTrace
push_return flow (At (Return k)) = if k == 0 then Found flow else At (Return (k - 1))
push_return flow trace = trace

abbrev pub pop_return : ValueOriginTrace → ValueOriginTrace
pop_return (At (Return k)) = if k == 8 then At (Return 1) else At (Return (k + 1))
pop_return trace = trace

-- a part followed back over a move
abbrev pub before : FlowChange → ValueOriginTrace → ValueOriginTrace
before (PushData flow) trace = push_data flow trace
before PopData trace = pop_data trace
before (SetTop flow) trace = trace_before_set top_data_part flow trace
before (PopThenSetTop flow) trace = pop_data (trace_before_set top_data_part flow trace)
before (PushReturn flow) trace = push_return flow trace
before PopReturn trace = pop_return trace
before (SetTopReturn flow) trace = trace_before_set top_return_part flow trace
before (SetP flow) trace = trace_before_set P flow trace
before (SetA flow) trace = trace_before_set A flow trace
before (SetB flow) trace = trace_before_set B flow trace
before (SetI flow) trace = trace_before_set I flow trace
before (SetIo flow) trace = trace_before_set Io flow trace
before (SetCarry flow) trace = trace_before_set Carry flow trace
before (SetRam cell flow) trace = trace_before_set (Ram cell) flow trace
before AdvanceSlot trace = trace_before_set Slot (From (Slot ∷ [])) trace
before SkipRestOfWord trace = trace_before_set Slot (From []) trace
before ReturnToFirstSlot trace = trace_before_set Slot (From []) trace
before SetWait trace = trace_before_set Wait (From []) trace
before SetStop trace = trace_before_set Stop (From []) trace

-- a part followed back over some moves, the last of them first
abbrev pub trace_before_changes : List FlowChange → ValueOriginTrace → ValueOriginTrace
trace_before_changes [] trace = trace
trace_before_changes (move ∷ rest) trace = before move (trace_before_changes rest trace)

-- a part followed back over a read whose word is pushed, and over a write; what came after is followed back already
abbrev pub trace_before_read : AddressTarget → NodePart → ValueOriginTrace → ValueOriginTrace
trace_before_read (target.Ram k) part later = push_data (CopiedFromPart (Ram k)) later
trace_before_read (target.Rom k) part later = push_data (CopiedFromPart (Rom k)) later
trace_before_read target.Io part later = push_data (CopiedFromPart OutsideWord) later
trace_before_read (target.Ports sides) part later = before SetWait (At part)
trace_before_read target.Bad part later = before SetStop (At part)

abbrev pub trace_before_write : AddressTarget → NodePart → ValueOriginTrace → ValueOriginTrace
trace_before_write (target.Ram k) part later = trace_before_set (Ram k) (CopiedFromPart top_data_part) later
trace_before_write (target.Rom k) part later = later
trace_before_write target.Io part later = trace_before_set Io (CopiedFromPart top_data_part) later
trace_before_write (target.Ports sides) part later = if is_single_side_set sides then before SetWait (At part) else before SetStop (At part)
trace_before_write target.Bad part later = before SetStop (At part)

-- a part followed back over R popped or counted down; what came after each is followed back already
abbrev pub trace_before_count_down : Bool → ValueOriginTrace → ValueOriginTrace → ValueOriginTrace
trace_before_count_down ends last again = if ends then pop_return last else trace_before_set top_return_part (From (top_return_part ∷ [])) again

-- where the value of a part comes from that was followed back over an event
abbrev pub flow_of_trace : ValueOriginTrace → ValueFlow
flow_of_trace (At part) = CopiedFromPart part
flow_of_trace (Found flow) = flow
