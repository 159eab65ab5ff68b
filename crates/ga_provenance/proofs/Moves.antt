-- A step moved a value from the part that follows from the step as made.
use Rattle.std.proofs.Common.{◌≡◌, ◌≢◌, ◌+◌, ◌-◌, ◌==◌, ◌/◌, ◌^◌, ℕ, suc, Bool, true, false, cond, List, [], ◌∷◌, ◌++◌, Option, Some, None, refl, sym, ap, ◌∙◌, arith}
use Rattle.std.specs.List.{slice_get}
use Rattle.ga_slots.specs.declared.op.Op.{Op}
use Rattle.ga_slots.specs.declared.op.Op.TheVariants as op
use Rattle.ga_ports.specs.Address.{address_target, is_single_side_set, side_of_single_set}
use Rattle.ga_ports.specs.declared.address.AddressTarget.{AddressTarget}
use Rattle.ga_ports.specs.declared.address.AddressTarget.TheVariants as target
use Rattle.ga_node.specs.Record.{NodeRecord}
use Rattle.ga_node.specs.Changes.{NodeChange}
use Rattle.ga_node.specs.Table.{register_t, register_r, has_extended_arithmetic, next_action_of_node, target_read_result, target_write_result, access_with_following_changes, wait_effect, stop_effect, own_event_after_access, event_kind_and_changes_of_action, own_event, own}
use Rattle.ga_node.specs.declared.kind.OwnEventKind.{OwnEventKind}
use Rattle.ga_node.specs.declared.kind.OwnEventKind.TheVariants as kind
use Rattle.ga_node.specs.declared.seen.SeenNeighbours.{SeenNeighbours}
use Rattle.ga_node.specs.declared.due.NextAction.{NextAction}
use Rattle.ga_node.specs.declared.due.NextAction.TheVariants as due
use Rattle.ga_node.specs.declared.wait.Wait.TheVariants as wait
use Rattle.ga_node.specs.declared.wait.ReadKind.{ReadKind}
use Rattle.ga_node.specs.declared.wait.ReadKind.TheVariants.{Instruction, Stack}
use Rattle.ga_grid.specs.declared.node_id.NodeId.{NodeId}
use Rattle.ga_event.specs.declared.made.MadeEvent.{MadeEvent}
use Rattle.ga_event.specs.declared.made.MadeEvent.TheVariants as made
use Rattle.ga_lab.specs.Machine.{MachineState, history_of_node}
use Rattle.ga_event.specs.declared.flow.part.NodePart.{NodePart}
use Rattle.ga_event.specs.declared.flow.part.NodePart.TheVariants.{Data, Return, Ram, Rom, A, P, Wait, Stop, OutsideWord}
use Rattle.ga_event.specs.Flow.{ValueFlow, CopiedFromPart, FlowChange, PushData, PopData, SetP, SetA, SetI, SetIo, SetRam, SetWait, SetStop, AdvanceSlot, ReturnToFirstSlot, top_data_part, flow_from_part, read_flow_changes, write_flow_changes, opcode_flow_changes, action_flow_changes, flows_after_changes, flow_of_own_event}
use Rattle.ga_provenance.specs.declared.value.PartValue.{PartValue}
use Rattle.ga_provenance.specs.Origins.{node_after_steps, optional_event_part_flow, moved_source_part, moved_source_part_at, origin_after_steps, origin_of_value}
use Rattle.ga_provenance.specs.inner.{source_part_by_opcode, source_part_by_fetch, source_of_part_after_wait_or_stop, source_part_by_event_kind, source_part_by_event}
use Rattle.ga_provenance.proofs.Made.{back_on}
use Rattle.ga_provenance.proofs.Ran.{WasNext, ran_so}
use Rattle.std.proofs.lemmas.Option.{none-some}

-- with these moves the value came from there
abbrev Moved : List FlowChange → NodePart → NodePart → Type 0
Moved some at start = moved_source_part (flows_after_changes some CopiedFromPart at) at ≡ Some start

by_test : (test : Bool) (some others : List FlowChange) (at start : NodePart) → Moved some at start → Moved others at start → Moved (cond test some others) at start
by_test true some others at start first second = first
by_test false some others at start first second = second

-- a place of a stack: the top, or one below it
by_place : (test : Bool) (first others : Option NodePart) (flow other : ValueFlow) (at start : NodePart) → (first ≡ Some start → moved_source_part flow at ≡ Some start) → (others ≡ Some start → moved_source_part other at ≡ Some start)
    → cond test first others ≡ Some start → moved_source_part (cond test flow other) at ≡ Some start
by_place true first others flow other at start above below h = above h
by_place false first others flow other at start above below h = below h

-- a stack that is popped
up_data : (test : Bool) (k next : ℕ) (start : NodePart) → Some (cond test (Data 2) (Data next)) ≡ Some start → moved_source_part (cond test (CopiedFromPart (Data 2)) (CopiedFromPart (Data next))) (Data k) ≡ Some start
up_data true k next start h = h
up_data false k next start h = h

up_return : (test : Bool) (k next : ℕ) (start : NodePart) → Some (cond test (Return 1) (Return next)) ≡ Some start → moved_source_part (cond test (CopiedFromPart (Return 1)) (CopiedFromPart (Return next))) (Return k) ≡ Some start
up_return true k next start h = h
up_return false k next start h = h

-- a wait and a stop
waits : (at start : NodePart) → source_of_part_after_wait_or_stop at ≡ Some start → Moved (SetWait ∷ []) at start
waits Wait start h = absurd (none-some _ h)
waits at start h = cc

stops : (at start : NodePart) → source_of_part_after_wait_or_stop at ≡ Some start → Moved (SetStop ∷ []) at start
stops Stop start h = absurd (none-some _ h)
stops at start h = cc

-- a read that gave a word
by_read : (ran : OwnEventKind) (target : AddressTarget) (reader : ReadKind) (seen : SeenNeighbours) (n : NodeRecord) (at start : NodePart) (changes : ℕ → List NodeChange) (more : ValueFlow → List FlowChange)
    → ((word : ValueFlow) → source_part_by_event_kind ran at ≡ Some start → Moved (more word) at start) → source_part_by_event_kind (own_event_after_access ran (access_with_following_changes (target_read_result target reader seen n) changes)).0 at ≡ Some start → Moved (read_flow_changes target more) at start
unfolding target_read_result access_with_following_changes
by_read ran (target.Ram c) reader seen n at start changes more gave h = gave (CopiedFromPart (Ram c)) h
by_read ran (target.Rom c) reader seen n at start changes more gave h = gave (CopiedFromPart (Rom c)) h
by_read ran target.Io reader seen n at start changes more gave h = gave (CopiedFromPart OutsideWord) h
by_read ran (target.Ports sides) reader seen n at start changes more gave h = waits at start h
by_read ran target.Bad reader seen n at start changes more gave h = stops at start h

fetch_p : (word : ValueFlow) (at start : NodePart) → source_part_by_opcode op.FetchP at ≡ Some start → Moved (PushData word ∷ SetP (flow_from_part P) ∷ AdvanceSlot ∷ []) at start
fetch_p word (Data k) start h = by_place (k == 0) _ _ _ _ (Data k) start (λ g. absurd (none-some _ g)) (λ g. g) h
fetch_p word at start h = cc

fetch_plus : (word : ValueFlow) (at start : NodePart) → source_part_by_opcode op.FetchPlus at ≡ Some start → Moved (PushData word ∷ SetA (flow_from_part A) ∷ AdvanceSlot ∷ []) at start
fetch_plus word (Data k) start h = by_place (k == 0) _ _ _ _ (Data k) start (λ g. absurd (none-some _ g)) (λ g. g) h
fetch_plus word at start h = cc

fetch_b : (word : ValueFlow) (at start : NodePart) → source_part_by_opcode op.FetchB at ≡ Some start → Moved (PushData word ∷ AdvanceSlot ∷ []) at start
fetch_b word (Data k) start h = by_place (k == 0) _ _ _ _ (Data k) start (λ g. absurd (none-some _ g)) (λ g. g) h
fetch_b word at start h = cc

-- a write that was made: in RAM, in ROM or in `io`
record Wrote (rest : List FlowChange) (at start : NodePart) : Type 0 where
  in_ram : (c : ℕ) → Moved (SetRam c (CopiedFromPart top_data_part) ∷ rest) at start
  in_rom : Moved rest at start
  in_io : Moved (SetIo (CopiedFromPart top_data_part) ∷ rest) at start

by_write : (ran : OwnEventKind) (target : AddressTarget) (n : NodeRecord) (at start : NodePart) (more : List NodeChange) (rest : List FlowChange)
    → (source_part_by_event_kind ran at ≡ Some start → Wrote rest at start) → source_part_by_event_kind (own_event_after_access ran (access_with_following_changes (target_write_result target n) (λ changes. changes ++ more))).0 at ≡ Some start → Moved (write_flow_changes target rest) at start
unfolding target_write_result access_with_following_changes
by_write ran (target.Ram c) n at start more rest wrote h = (wrote h).in_ram c
by_write ran (target.Rom c) n at start more rest wrote h = (wrote h).in_rom
by_write ran target.Io n at start more rest wrote h = (wrote h).in_io
by_write ran (target.Ports sides) n at start more rest wrote h = at_port (is_single_side_set sides) h
  where
    at_port : (single : Bool) → source_part_by_event_kind (cond single (wait_effect (wait.Write (side_of_single_set sides))) (stop_effect 1)).0 at ≡ Some start
        → Moved (cond single (SetWait ∷ []) (SetStop ∷ [])) at start
    at_port true g = waits at start g
    at_port false g = stops at start g
by_write ran target.Bad n at start more rest wrote h = stops at start h

store_p : (at start : NodePart) → source_part_by_opcode op.StoreP at ≡ Some start → Wrote (PopData ∷ SetP (flow_from_part P) ∷ AdvanceSlot ∷ []) at start
store_p (Data k) start h = let up = up_data (k == 9) k (k + 1) start h in record { in_ram = λ c. up; in_rom = up; in_io = up }
store_p at start h = record { in_ram = λ c. cc; in_rom = cc; in_io = cc }

store_plus : (at start : NodePart) → source_part_by_opcode op.StorePlus at ≡ Some start → Wrote (PopData ∷ SetA (flow_from_part A) ∷ AdvanceSlot ∷ []) at start
store_plus (Data k) start h = let up = up_data (k == 9) k (k + 1) start h in record { in_ram = λ c. up; in_rom = up; in_io = up }
store_plus at start h = record { in_ram = λ c. cc; in_rom = cc; in_io = cc }

store_b : (at start : NodePart) → source_part_by_opcode op.StoreB at ≡ Some start → Wrote (PopData ∷ AdvanceSlot ∷ []) at start
store_b (Data k) start h = let up = up_data (k == 9) k (k + 1) start h in record { in_ram = λ c. up; in_rom = up; in_io = up }
store_b at start h = record { in_ram = λ c. cc; in_rom = cc; in_io = cc }

op_moves : (o : Op) (seen : SeenNeighbours) (n : NodeRecord) (at start : NodePart) → source_part_by_event_kind (event_kind_and_changes_of_action (due.Run o) seen n).0 at ≡ Some start → Moved (opcode_flow_changes o n) at start
op_moves op.Return seen n (Data k) start h = h
op_moves op.Return seen n (Return k) start h = up_return (k == 8) k (k + 1) start h
op_moves op.Return seen n at start h = cc
op_moves op.Execute seen n (Data k) start h = h
op_moves op.Execute seen n (Return k) start h = by_place (k == 0) _ _ _ _ (Return k) start (λ g. absurd (none-some _ g)) (λ g. g) h
op_moves op.Execute seen n at start h = cc
op_moves op.Jump seen n (Data k) start h = h
op_moves op.Jump seen n at start h = cc
op_moves op.Call seen n (Data k) start h = h
op_moves op.Call seen n (Return k) start h = by_place (k == 0) _ _ _ _ (Return k) start (λ g. g) (λ g. g) h
op_moves op.Call seen n at start h = cc
op_moves op.Unext seen n (Data k) start h = by_test (register_r n == 0) _ _ (Data k) start h h
op_moves op.Unext seen n at start h = by_test (register_r n == 0) _ _ at start (cc) (cc)
op_moves op.Next seen n (Data k) start h = by_test (register_r n == 0) _ _ (Data k) start h h
op_moves op.Next seen n at start h = by_test (register_r n == 0) _ _ at start (cc) (cc)
op_moves op.If seen n (Data k) start h = by_test (register_t n == 0) _ _ (Data k) start h h
op_moves op.If seen n at start h = by_test (register_t n == 0) _ _ at start (cc) (cc)
op_moves op.MinusIf seen n (Data k) start h = by_test (register_t n / 2 ^ 17 == 0) _ _ (Data k) start h h
op_moves op.MinusIf seen n at start h = by_test (register_t n / 2 ^ 17 == 0) _ _ at start (cc) (cc)
op_moves op.FetchP seen n at start h = by_read (kind.Run 8) (address_target n.p) Stack seen n at start _ (λ word. PushData word ∷ SetP (flow_from_part P) ∷ AdvanceSlot ∷ []) (λ word g. fetch_p word at start g) h
op_moves op.FetchPlus seen n at start h = by_read (kind.Run 9) (address_target n.a) Stack seen n at start _ (λ word. PushData word ∷ SetA (flow_from_part A) ∷ AdvanceSlot ∷ []) (λ word g. fetch_plus word at start g) h
op_moves op.FetchB seen n at start h = by_read (kind.Run 10) (address_target n.b) Stack seen n at start _ (λ word. PushData word ∷ AdvanceSlot ∷ []) (λ word g. fetch_b word at start g) h
op_moves op.Fetch seen n at start h = by_read (kind.Run 11) (address_target n.a) Stack seen n at start _ (λ word. PushData word ∷ AdvanceSlot ∷ []) (λ word g. fetch_b word at start g) h
op_moves op.StoreP seen n at start h = by_write (kind.Run 12) (address_target n.p) n at start _ _ (λ g. store_p at start g) h
op_moves op.StorePlus seen n at start h = by_write (kind.Run 13) (address_target n.a) n at start _ _ (λ g. store_plus at start g) h
op_moves op.StoreB seen n at start h = by_write (kind.Run 14) (address_target n.b) n at start _ _ (λ g. store_b at start g) h
op_moves op.Store seen n at start h = by_write (kind.Run 15) (address_target n.a) n at start _ _ (λ g. store_b at start g) h
op_moves op.MultiplyStep seen n (Data k) start h = by_place (k == 0) _ _ _ _ (Data k) start (λ g. absurd (none-some _ g)) (λ g. g) h
op_moves op.MultiplyStep seen n at start h = cc
op_moves op.TwoStar seen n (Data k) start h = by_place (k == 0) _ _ _ _ (Data k) start (λ g. absurd (none-some _ g)) (λ g. g) h
op_moves op.TwoStar seen n at start h = cc
op_moves op.TwoSlash seen n (Data k) start h = by_place (k == 0) _ _ _ _ (Data k) start (λ g. absurd (none-some _ g)) (λ g. g) h
op_moves op.TwoSlash seen n at start h = cc
op_moves op.Invert seen n (Data k) start h = by_place (k == 0) _ _ _ _ (Data k) start (λ g. absurd (none-some _ g)) (λ g. g) h
op_moves op.Invert seen n at start h = cc
op_moves op.Plus seen n (Data k) start h = by_test (has_extended_arithmetic n) _ _ (Data k) start (by_place (k == 0) _ _ _ _ (Data k) start (λ g. absurd (none-some _ g)) (λ g. up_data (k == 9) k (k + 1) start g) h) (by_place (k == 0) _ _ _ _ (Data k) start (λ g. absurd (none-some _ g)) (λ g. up_data (k == 9) k (k + 1) start g) h)
op_moves op.Plus seen n at start h = by_test (has_extended_arithmetic n) _ _ at start (cc) (cc)
op_moves op.And seen n (Data k) start h = by_place (k == 0) _ _ _ _ (Data k) start (λ g. absurd (none-some _ g)) (λ g. up_data (k == 9) k (k + 1) start g) h
op_moves op.And seen n at start h = cc
op_moves op.Or seen n (Data k) start h = by_place (k == 0) _ _ _ _ (Data k) start (λ g. absurd (none-some _ g)) (λ g. up_data (k == 9) k (k + 1) start g) h
op_moves op.Or seen n at start h = cc
op_moves op.Drop seen n (Data k) start h = up_data (k == 9) k (k + 1) start h
op_moves op.Drop seen n at start h = cc
op_moves op.Dup seen n (Data k) start h = by_place (k == 0) _ _ _ _ (Data k) start (λ g. g) (λ g. g) h
op_moves op.Dup seen n at start h = cc
op_moves op.Pop seen n (Data k) start h = by_place (k == 0) _ _ _ _ (Data k) start (λ g. g) (λ g. g) h
op_moves op.Pop seen n (Return k) start h = up_return (k == 8) k (k + 1) start h
op_moves op.Pop seen n at start h = cc
op_moves op.Over seen n (Data k) start h = by_place (k == 0) _ _ _ _ (Data k) start (λ g. g) (λ g. g) h
op_moves op.Over seen n at start h = cc
op_moves op.A seen n (Data k) start h = by_place (k == 0) _ _ _ _ (Data k) start (λ g. g) (λ g. g) h
op_moves op.A seen n at start h = cc
op_moves op.Nop seen n (Data k) start h = h
op_moves op.Nop seen n at start h = cc
op_moves op.Push seen n (Data k) start h = up_data (k == 9) k (k + 1) start h
op_moves op.Push seen n (Return k) start h = by_place (k == 0) _ _ _ _ (Return k) start (λ g. g) (λ g. g) h
op_moves op.Push seen n at start h = cc
op_moves op.BStore seen n (Data k) start h = up_data (k == 9) k (k + 1) start h
op_moves op.BStore seen n at start h = cc
op_moves op.AStore seen n (Data k) start h = up_data (k == 9) k (k + 1) start h
op_moves op.AStore seen n at start h = cc

fetch_flow_changes : (word : ValueFlow) (at start : NodePart) → source_part_by_fetch at ≡ Some start → Moved (SetI word ∷ SetP (flow_from_part P) ∷ ReturnToFirstSlot ∷ []) at start
fetch_flow_changes word (Data k) start h = h
fetch_flow_changes word at start h = cc

due_moves : (what : NextAction) (seen : SeenNeighbours) (n : NodeRecord) (at start : NodePart) → source_part_by_event_kind (event_kind_and_changes_of_action what seen n).0 at ≡ Some start → Moved (action_flow_changes what n) at start
due_moves due.Fetch seen n at start h = by_read kind.Fetch (address_target n.p) Instruction seen n at start _ (λ word. SetI word ∷ SetP (flow_from_part P) ∷ ReturnToFirstSlot ∷ []) (λ word g. fetch_flow_changes word at start g) h
due_moves (due.Run o) seen n at start h = op_moves o seen n at start h

own_moves : (seen : SeenNeighbours) (n : NodeRecord) (at start : NodePart) → source_part_by_event_kind (own seen n).0 at ≡ Some start → moved_source_part (flow_of_own_event n at) at ≡ Some start
unfolding flow_of_own_event own own_event
own_moves seen n at start h = due_moves (next_action_of_node n) seen n at start h

told_moves : (told : Option MadeEvent) (before : NodeRecord) (n : ℕ) (at start : NodePart) → ((m : NodeId) (step : ℕ) (ran : OwnEventKind) → told ≡ Some (made.Own m step ran) → WasNext before ran)
    → source_part_by_event told at ≡ Some start → moved_source_part (optional_event_part_flow told before n at) at ≡ Some start
told_moves None before n at start next h = absurd (cc)
told_moves (Some (made.Own m step ran)) before n at start next h = let was = next m step ran refl in own_moves was.seen before at start (ap (λ (z : OwnEventKind). source_part_by_event_kind z at) was.is ∙ h)
told_moves (Some (made.Pass writer i reader j word)) before n at start next h = absurd (cc)

-- of a step of a node
moves_as_told : (s : MachineState) (n k : ℕ) (at start : NodePart) (told : Option MadeEvent) → told ≡ slice_get (history_of_node s n) k → Some start ≡ source_part_by_event told at → Some start ≡ moved_source_part_at s n k at
moves_as_told s n k at start told tells is =
    sym (told_moves (slice_get (history_of_node s n) k) (node_after_steps s n k) n at start (λ m step ran h. ran_so s n k step m ran h) (ap (λ (z : Option MadeEvent). source_part_by_event z at) (sym tells) ∙ sym is))

-- so a value that is followed back over it stays the same
pub one_back : (s : MachineState) (value : PartValue) (step : ℕ) (at from : NodePart) (told : Option MadeEvent) → step ≢ 0 → told ≡ slice_get (history_of_node s value.node.number) (step - 1) → Some from ≡ source_part_by_event told at
    → origin_after_steps s value.node step at ≡ origin_of_value s value → origin_after_steps s value.node (step - 1) from ≡ origin_of_value s value
one_back s value step at from told some tells moved same =
    let is : suc (step - 1) ≡ step = omega (arith, some) in
    back_on s value.node step (step - 1) at from (origin_of_value s value) is (moves_as_told s value.node.number (step - 1) at from told tells moved) same
