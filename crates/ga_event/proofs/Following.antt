-- Following a part back through the moves of an event finds where its value comes from.
use Rattle.std.proofs.Common.{◌≡◌, ◌==◌, ◌+◌, ◌-◌, Bool, true, false, cond, List, [], ◌∷◌, refl, sym, ap, ◌∙◌, ℕ, zero, suc, ◌&&◌}
use Rattle.ga_slots.specs.declared.op.Op.{Op}
use Rattle.ga_slots.specs.declared.op.Op.TheVariants as op
use Rattle.ga_ports.specs.Address.{is_single_side_set}
use Rattle.ga_ports.specs.declared.address.AddressTarget.{AddressTarget}
use Rattle.ga_ports.specs.declared.address.AddressTarget.TheVariants as target
use Rattle.ga_node.specs.Record.{NodeRecord}
use Rattle.ga_node.specs.Table.{next_action_of_node}
use Rattle.ga_node.specs.declared.due.NextAction.{NextAction}
use Rattle.ga_node.specs.declared.due.NextAction.TheVariants as due
use Rattle.ga_node.specs.declared.wait.Wait.{Wait}
use Rattle.ga_node.specs.declared.wait.Wait.TheVariants as wait
use Rattle.ga_event.specs.declared.flow.choice.DecidingTestOrTarget.{DecidingTestOrTarget}
use Rattle.ga_event.specs.declared.flow.part.NodePart.{NodePart}
use Rattle.ga_event.specs.declared.flow.part.NodePart.TheVariants.{Data, Return, Ram, Rom, A, B, P, I, Io, Carry, Slot, Wait as WaitPart, Stop, OutsideWord}
use Rattle.ga_event.specs.Flow.{ValueFlow, CopiedFromPart, From, PartFlows, FlowChange, PushData, PopData, SetTop, PopThenSetTop, PushReturn, PopReturn, SetTopReturn, SetP, SetA, SetB, SetI, SetIo, SetCarry, SetRam, AdvanceSlot, SkipRestOfWord, ReturnToFirstSlot, SetWait, SetStop, is_same_node_part, flows_with_replaced_part, flows_after_data_push, flows_after_data_pop, flows_after_return_push, flows_after_return_pop, computed_flow, flows_after_change, flows_after_changes, top_data_part, top_return_part, deciding_test_or_target, deciding_target, deciding_test_holds, read_flow_changes, write_flow_changes, flow_changes_by_test_or_target, action_flow_changes, send_flow_changes, take_flow_changes, flow_by_test_or_target, flow_of_own_event, flow_after_send, flow_after_take, kind_of_node_part, index_of_node_part}
use Rattle.ga_event.specs.inner.{ValueOriginTrace, At, Found, trace_before_set, push_data, pop_data, push_return, pop_return, before, trace_before_changes, flow_of_trace, trace_before_read, trace_before_write, trace_before_count_down}
use Rattle.std.specs.Prelude.{◌↔◌, IsTrue}
use Rattle.std.proofs.lemmas.Bool.{eq-eqb, eqb-true}

-- the flow of a trace: that of its part, or the one already found
abbrev resolved : PartFlows → ValueOriginTrace → ValueFlow
resolved f (At part) = f part
resolved f (Found flow) = flow

by_test : (f : PartFlows) (b : Bool) (x y : ValueOriginTrace) → resolved f (cond b x y) ≡ cond b (resolved f x) (resolved f y)
by_test f true x y = refl
by_test f false x y = refl

set_back : (at : NodePart) (flow : ValueFlow) (f : PartFlows) (trace : ValueOriginTrace) → resolved f (trace_before_set at flow trace) ≡ resolved (flows_with_replaced_part at flow f) trace
set_back at flow f (At part) = by_test f (is_same_node_part part at) (Found flow) (At part)
set_back at flow f (Found found) = refl

push_data_back : (flow : ValueFlow) (f : PartFlows) (trace : ValueOriginTrace) → resolved f (push_data flow trace) ≡ resolved (flows_after_data_push flow f) trace
push_data_back flow f (At (Data k)) = by_test f (k == 0) (Found flow) (At (Data (k - 1)))
push_data_back flow f (At (Return k)) = refl
push_data_back flow f (At (Ram k)) = refl
push_data_back flow f (At (Rom k)) = refl
push_data_back flow f (At A) = refl
push_data_back flow f (At B) = refl
push_data_back flow f (At P) = refl
push_data_back flow f (At I) = refl
push_data_back flow f (At Io) = refl
push_data_back flow f (At Carry) = refl
push_data_back flow f (At Slot) = refl
push_data_back flow f (At WaitPart) = refl
push_data_back flow f (At Stop) = refl
push_data_back flow f (At OutsideWord) = refl
push_data_back flow f (Found found) = refl

pop_data_back : (f : PartFlows) (trace : ValueOriginTrace) → resolved f (pop_data trace) ≡ resolved (flows_after_data_pop f) trace
pop_data_back f (At (Data k)) = by_test f (k == 9) (At (Data 2)) (At (Data (k + 1)))
pop_data_back f (At (Return k)) = refl
pop_data_back f (At (Ram k)) = refl
pop_data_back f (At (Rom k)) = refl
pop_data_back f (At A) = refl
pop_data_back f (At B) = refl
pop_data_back f (At P) = refl
pop_data_back f (At I) = refl
pop_data_back f (At Io) = refl
pop_data_back f (At Carry) = refl
pop_data_back f (At Slot) = refl
pop_data_back f (At WaitPart) = refl
pop_data_back f (At Stop) = refl
pop_data_back f (At OutsideWord) = refl
pop_data_back f (Found found) = refl

push_return_back : (flow : ValueFlow) (f : PartFlows) (trace : ValueOriginTrace) → resolved f (push_return flow trace) ≡ resolved (flows_after_return_push flow f) trace
push_return_back flow f (At (Data k)) = refl
push_return_back flow f (At (Return k)) = by_test f (k == 0) (Found flow) (At (Return (k - 1)))
push_return_back flow f (At (Ram k)) = refl
push_return_back flow f (At (Rom k)) = refl
push_return_back flow f (At A) = refl
push_return_back flow f (At B) = refl
push_return_back flow f (At P) = refl
push_return_back flow f (At I) = refl
push_return_back flow f (At Io) = refl
push_return_back flow f (At Carry) = refl
push_return_back flow f (At Slot) = refl
push_return_back flow f (At WaitPart) = refl
push_return_back flow f (At Stop) = refl
push_return_back flow f (At OutsideWord) = refl
push_return_back flow f (Found found) = refl

pop_return_back : (f : PartFlows) (trace : ValueOriginTrace) → resolved f (pop_return trace) ≡ resolved (flows_after_return_pop f) trace
pop_return_back f (At (Data k)) = refl
pop_return_back f (At (Return k)) = by_test f (k == 8) (At (Return 1)) (At (Return (k + 1)))
pop_return_back f (At (Ram k)) = refl
pop_return_back f (At (Rom k)) = refl
pop_return_back f (At A) = refl
pop_return_back f (At B) = refl
pop_return_back f (At P) = refl
pop_return_back f (At I) = refl
pop_return_back f (At Io) = refl
pop_return_back f (At Carry) = refl
pop_return_back f (At Slot) = refl
pop_return_back f (At WaitPart) = refl
pop_return_back f (At Stop) = refl
pop_return_back f (At OutsideWord) = refl
pop_return_back f (Found found) = refl

-- a move, where the slot is still the one before the event
move_back : (move : FlowChange) (f : PartFlows) (trace : ValueOriginTrace) → f Slot ≡ CopiedFromPart Slot → resolved f (before move trace) ≡ resolved (flows_after_change move f) trace
move_back (PushData flow) f trace slot = push_data_back flow f trace
move_back PopData f trace slot = pop_data_back f trace
move_back (SetTop flow) f trace slot = set_back top_data_part flow f trace
move_back (PopThenSetTop flow) f trace slot = pop_data_back f (trace_before_set top_data_part flow trace) ∙ set_back top_data_part flow (flows_after_data_pop f) trace
move_back (PushReturn flow) f trace slot = push_return_back flow f trace
move_back PopReturn f trace slot = pop_return_back f trace
move_back (SetTopReturn flow) f trace slot = set_back top_return_part flow f trace
move_back (SetP flow) f trace slot = set_back P flow f trace
move_back (SetA flow) f trace slot = set_back A flow f trace
move_back (SetB flow) f trace slot = set_back B flow f trace
move_back (SetI flow) f trace slot = set_back I flow f trace
move_back (SetIo flow) f trace slot = set_back Io flow f trace
move_back (SetCarry flow) f trace slot = set_back Carry flow f trace
move_back (SetRam cell flow) f trace slot = set_back (Ram cell) flow f trace
move_back AdvanceSlot f trace slot = set_back Slot (From (Slot ∷ [])) f trace ∙ ap (λ flow. resolved (flows_with_replaced_part Slot (computed_flow flow) f) trace) (sym slot)
move_back SkipRestOfWord f trace slot = set_back Slot (From []) f trace
move_back ReturnToFirstSlot f trace slot = set_back Slot (From []) f trace
move_back SetWait f trace slot = set_back WaitPart (From []) f trace
move_back SetStop f trace slot = set_back Stop (From []) f trace

-- moves of which the last alone may move the slot
abbrev LeavesSlot : FlowChange → Type 0
LeavesSlot AdvanceSlot = ⊥
LeavesSlot SkipRestOfWord = ⊥
LeavesSlot ReturnToFirstSlot = ⊥
LeavesSlot _ = Unit {0}

abbrev SlotLast : List FlowChange → Type 0
SlotLast [] = Unit {0}
SlotLast (move ∷ []) = Unit {0}
SlotLast (move ∷ (next ∷ rest)) = LeavesSlot move × SlotLast (next ∷ rest)

slot_left : (move : FlowChange) (f : PartFlows) → LeavesSlot move → flows_after_change move f Slot ≡ f Slot
slot_left (PushData flow) f leaves = refl
slot_left PopData f leaves = refl
slot_left (SetTop flow) f leaves = refl
slot_left (PopThenSetTop flow) f leaves = refl
slot_left (PushReturn flow) f leaves = refl
slot_left PopReturn f leaves = refl
slot_left (SetTopReturn flow) f leaves = refl
slot_left (SetP flow) f leaves = refl
slot_left (SetA flow) f leaves = refl
slot_left (SetB flow) f leaves = refl
slot_left (SetI flow) f leaves = refl
slot_left (SetIo flow) f leaves = refl
slot_left (SetCarry flow) f leaves = refl
slot_left (SetRam cell flow) f leaves = refl
slot_left AdvanceSlot f leaves = absurd leaves
slot_left SkipRestOfWord f leaves = absurd leaves
slot_left ReturnToFirstSlot f leaves = absurd leaves
slot_left SetWait f leaves = refl
slot_left SetStop f leaves = refl

all_back : (moves : List FlowChange) (f : PartFlows) (trace : ValueOriginTrace) → f Slot ≡ CopiedFromPart Slot → SlotLast moves → resolved f (trace_before_changes moves trace) ≡ resolved (flows_after_changes moves f) trace
all_back [] f trace slot last = refl
all_back (move ∷ []) f trace slot last = move_back move f trace slot
all_back (move ∷ (next ∷ rest)) f trace slot last =
    move_back move f (trace_before_changes (next ∷ rest) trace) slot
    ∙ all_back (next ∷ rest) (flows_after_change move f) trace (slot_left move f last.0 ∙ slot) last.1

settled_back : (trace : ValueOriginTrace) → flow_of_trace trace ≡ resolved CopiedFromPart trace
settled_back (At part) = refl
settled_back (Found flow) = refl

pub found_flow : (moves : List FlowChange) (part : NodePart) → SlotLast moves → flow_of_trace (trace_before_changes moves (At part)) ≡ flows_after_changes moves CopiedFromPart part
found_flow moves part last = settled_back (trace_before_changes moves (At part)) ∙ all_back moves CopiedFromPart (At part) refl last

-- ---- the rows

either_last : (b : Bool) (x y : List FlowChange) → SlotLast x → SlotLast y → SlotLast (cond b x y)
either_last true x y p q = p
either_last false x y p q = q

read_last : (target : AddressTarget) (more : ValueFlow → List FlowChange) → ((flow : ValueFlow) → SlotLast (more flow)) → SlotLast (read_flow_changes target more)
read_last (target.Ram k) more last = last _
read_last (target.Rom k) more last = last _
read_last target.Io more last = last _
read_last (target.Ports sides) more last = tt
read_last target.Bad more last = tt

write_last : (target : AddressTarget) (next : FlowChange) (rest : List FlowChange) → SlotLast (next ∷ rest) → SlotLast (write_flow_changes target (next ∷ rest))
write_last (target.Ram k) next rest last = (tt, last)
write_last (target.Rom k) next rest last = last
write_last target.Io next rest last = (tt, last)
write_last (target.Ports sides) next rest last = either_last (is_single_side_set sides) _ _ tt tt
write_last target.Bad next rest last = tt

op_last : (op : Op) (c : DecidingTestOrTarget) → SlotLast (flow_changes_by_test_or_target (due.Run op) c)
op_last op.Return c = (tt, (tt, tt))
op_last op.Execute c = (tt, (tt, tt))
op_last op.Jump c = (tt, tt)
op_last op.Call c = (tt, (tt, tt))
op_last op.Unext c = either_last (deciding_test_holds c) _ _ (tt, tt) (tt, tt)
op_last op.Next c = either_last (deciding_test_holds c) _ _ (tt, tt) (tt, (tt, tt))
op_last op.If c = either_last (deciding_test_holds c) _ _ (tt, tt) tt
op_last op.MinusIf c = either_last (deciding_test_holds c) _ _ (tt, tt) tt
op_last op.FetchP c = read_last (deciding_target c) _ (λ flow. (tt, (tt, tt)))
op_last op.FetchPlus c = read_last (deciding_target c) _ (λ flow. (tt, (tt, tt)))
op_last op.FetchB c = read_last (deciding_target c) _ (λ flow. (tt, tt))
op_last op.Fetch c = read_last (deciding_target c) _ (λ flow. (tt, tt))
op_last op.StoreP c = write_last (deciding_target c) _ _ (tt, (tt, tt))
op_last op.StorePlus c = write_last (deciding_target c) _ _ (tt, (tt, tt))
op_last op.StoreB c = write_last (deciding_target c) _ _ (tt, tt)
op_last op.Store c = write_last (deciding_target c) _ _ (tt, tt)
op_last op.MultiplyStep c = (tt, (tt, tt))
op_last op.TwoStar c = (tt, tt)
op_last op.TwoSlash c = (tt, tt)
op_last op.Invert c = (tt, tt)
op_last op.Plus c = either_last (deciding_test_holds c) _ _ (tt, (tt, tt)) (tt, tt)
op_last op.And c = (tt, tt)
op_last op.Or c = (tt, tt)
op_last op.Drop c = (tt, tt)
op_last op.Dup c = (tt, tt)
op_last op.Pop c = (tt, (tt, tt))
op_last op.Over c = (tt, tt)
op_last op.A c = (tt, tt)
op_last op.Nop c = tt
op_last op.Push c = (tt, (tt, tt))
op_last op.BStore c = (tt, (tt, tt))
op_last op.AStore c = (tt, (tt, tt))

-- what is found before what comes next in a node, and before the halves of a transfer
due_last : (d : NextAction) (c : DecidingTestOrTarget) → SlotLast (flow_changes_by_test_or_target d c)
due_last due.Fetch c = read_last (deciding_target c) _ (λ flow. (tt, (tt, tt)))
due_last (due.Run op) c = op_last op c

pub where_found : (d : NextAction) (c : DecidingTestOrTarget) (part : NodePart) → flow_of_trace (trace_before_changes (flow_changes_by_test_or_target d c) (At part)) ≡ flow_by_test_or_target d c part
unfolding flow_by_test_or_target
where_found d c part = found_flow (flow_changes_by_test_or_target d c) part (due_last d c)

in_node : (d : NextAction) (n : NodeRecord) → flow_changes_by_test_or_target d (deciding_test_or_target d n) ≡ action_flow_changes d n
in_node due.Fetch n = refl
in_node (due.Run op) n = refl

pub own_found : (d : NextAction) (c : DecidingTestOrTarget) (n : NodeRecord) (part : NodePart) → d ≡ next_action_of_node n → c ≡ deciding_test_or_target d n → flow_by_test_or_target d c part ≡ flow_of_own_event n part
unfolding flow_by_test_or_target flow_of_own_event
own_found d c n part is so =
    ap (λ (moves : List FlowChange). flows_after_changes moves CopiedFromPart part) (ap (flow_changes_by_test_or_target d) so ∙ in_node d n) ∙ ap (λ d. flows_after_changes (action_flow_changes d n) CopiedFromPart part) is

pub send_found : (part : NodePart) → flow_of_trace (trace_before_changes send_flow_changes (At part)) ≡ flow_after_send part
unfolding flow_after_send
send_found part = found_flow send_flow_changes part (tt, (tt, tt))

pub take_found : (w : Wait) (part : NodePart) → flow_of_trace (trace_before_changes (take_flow_changes w) (At part)) ≡ flow_after_take w part
unfolding flow_after_take
take_found (wait.Fetch sides) part = found_flow (take_flow_changes (wait.Fetch sides)) part (tt, (tt, tt))
take_found (wait.Read sides) part = found_flow (take_flow_changes (wait.Read sides)) part (tt, (tt, tt))
take_found wait.Nothing part = refl
take_found (wait.Write side) part = refl

-- ---- reads and writes

pub read_found : (target : AddressTarget) (part : NodePart) (more : List FlowChange) → trace_before_read target part (trace_before_changes more (At part)) ≡ trace_before_changes (read_flow_changes target (λ word. PushData word ∷ more)) (At part)
read_found (target.Ram k) part more = refl
read_found (target.Rom k) part more = refl
read_found target.Io part more = refl
read_found (target.Ports sides) part more = refl
read_found target.Bad part more = refl

pub write_found : (target : AddressTarget) (part : NodePart) (more : List FlowChange) → trace_before_write target part (trace_before_changes more (At part)) ≡ trace_before_changes (write_flow_changes target more) (At part)
write_found (target.Ram k) part more = refl
write_found (target.Rom k) part more = refl
write_found target.Io part more = refl
write_found (target.Ports sides) part more = by_single (is_single_side_set sides)
  where
    by_single : (b : Bool) → cond b (before SetWait (At part)) (before SetStop (At part)) ≡ trace_before_changes (cond b (SetWait ∷ []) (SetStop ∷ [])) (At part)
    by_single true = refl
    by_single false = refl
write_found target.Bad part more = refl

pub count_found : (ends : Bool) (part : NodePart) (last again : List FlowChange) → trace_before_count_down ends (trace_before_changes last (At part)) (trace_before_changes again (At part)) ≡ trace_before_changes (cond ends (PopReturn ∷ last) (SetTopReturn (From (top_return_part ∷ [])) ∷ again)) (At part)
count_found true part last again = refl
count_found false part last again = refl

-- ---- parts of one kind and index are one part

-- the part of a kind at an index
part_at : ℕ → ℕ → NodePart
part_at zero k = Data k
part_at (suc zero) k = Return k
part_at (suc (suc zero)) k = Ram k
part_at (suc (suc (suc zero))) k = Rom k
part_at (suc (suc (suc (suc zero)))) k = A
part_at (suc (suc (suc (suc (suc zero))))) k = B
part_at (suc (suc (suc (suc (suc (suc zero)))))) k = P
part_at (suc (suc (suc (suc (suc (suc (suc zero))))))) k = I
part_at (suc (suc (suc (suc (suc (suc (suc (suc zero)))))))) k = Io
part_at (suc (suc (suc (suc (suc (suc (suc (suc (suc zero))))))))) k = Carry
part_at (suc (suc (suc (suc (suc (suc (suc (suc (suc (suc zero)))))))))) k = Slot
part_at (suc (suc (suc (suc (suc (suc (suc (suc (suc (suc (suc zero))))))))))) k = WaitPart
part_at (suc (suc (suc (suc (suc (suc (suc (suc (suc (suc (suc (suc zero)))))))))))) k = Stop
part_at (suc (suc (suc (suc (suc (suc (suc (suc (suc (suc (suc (suc (suc n))))))))))))) k = OutsideWord

decoded : (p : NodePart) → part_at (kind_of_node_part p) (index_of_node_part p) ≡ p
unfolding part_at
decoded (Data k) = refl
decoded (Return k) = refl
decoded (Ram k) = refl
decoded (Rom k) = refl
decoded A = refl
decoded B = refl
decoded P = refl
decoded I = refl
decoded Io = refl
decoded Carry = refl
decoded Slot = refl
decoded WaitPart = refl
decoded Stop = refl
decoded OutsideWord = refl

both : (a b : Bool) → (a && b) ≡ true → (a ≡ true) × (b ≡ true)
both true b h = (refl, h)
both false b h = absurd (cc)

pub same_part : (p q : NodePart) → is_same_node_part p q ≡ true → p ≡ q
same_part p q h =
    let tests = both (kind_of_node_part p == kind_of_node_part q) (index_of_node_part p == index_of_node_part q) h in
    sym (decoded p)
    ∙ ap (λ (k : ℕ). part_at k (index_of_node_part p)) (eqb-true (kind_of_node_part p) (kind_of_node_part q) tests.0)
    ∙ ap (part_at (kind_of_node_part q)) (eqb-true (index_of_node_part p) (index_of_node_part q) tests.1)
    ∙ decoded q

and_true : (a b : Bool) → a ≡ true → b ≡ true → (a && b) ≡ true
and_true true b p q = q
and_true false b p q = p

-- the test of the indices, where the kinds are the same, and that of the kinds, where they aren't
pub then_same : (p q : NodePart) (i j : ℕ) → kind_of_node_part p ≡ kind_of_node_part q → i ≡ index_of_node_part p → j ≡ index_of_node_part q → IsTrue (i == j) ↔ (p ≡ q)
then_same p q i j kinds left right = (
  λ h. same_part p q (and_true (kind_of_node_part p == kind_of_node_part q) (index_of_node_part p == index_of_node_part q) (eq-eqb (kind_of_node_part p) (kind_of_node_part q) kinds) (eq-eqb (index_of_node_part p) (index_of_node_part q) (sym left ∙ eqb-true i j h ∙ right))),
  λ e. eq-eqb i j (left ∙ ap index_of_node_part e ∙ sym right),
)

pub else_same : (p q : NodePart) (a b : ℕ) → (a ≡ b → ⊥) → a ≡ kind_of_node_part p → b ≡ kind_of_node_part q → IsTrue (a == b) ↔ (p ≡ q)
else_same p q a b differ left right = (
  λ h. absurd (differ (eqb-true a b h)),
  λ e. absurd (differ (left ∙ ap kind_of_node_part e ∙ sym right)),
)
