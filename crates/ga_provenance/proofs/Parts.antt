-- A value was moved from a part that each node has; and the steps that make T with A or the carry.
use Rattle.std.proofs.Common.{◌≡◌, ℕ, ◌+◌, ◌-◌, ◌<◌, ◌==◌, ◌/◌, ◌^◌, Bool, true, false, cond, List, [], ◌∷◌, not, Some, None, refl, sym, subst, ap, ◌∙◌, arith}
use Rattle.std.specs.Prelude.{Option}
use Rattle.std.specs.List.{slice_get}
use Rattle.std.proofs.lemmas.Option.{same_Some, none-some}
use Rattle.std.proofs.lemmas.Bool.{eq-eqb}
use Rattle.ga_slots.specs.declared.op.Op.{Op}
use Rattle.ga_slots.specs.declared.op.Op.TheVariants as op
use Rattle.ga_ports.specs.Address.{address_target, is_single_side_set}
use Rattle.ga_ports.specs.declared.address.AddressTarget.{AddressTarget}
use Rattle.ga_ports.specs.declared.address.AddressTarget.TheVariants as target
use Rattle.ga_node.specs.Record.{NodeRecord}
use Rattle.ga_node.specs.Table.{register_t, register_r, has_extended_arithmetic, next_action_of_node, event_kind_and_changes_of_action, own_event, own}
use Rattle.ga_node.specs.declared.seen.SeenNeighbours.{SeenNeighbours}
use Rattle.ga_node.specs.declared.due.NextAction.{NextAction}
use Rattle.ga_node.specs.declared.due.NextAction.TheVariants as due
use Rattle.ga_node.specs.declared.wait.Wait.{Wait}
use Rattle.ga_node.specs.declared.wait.Wait.TheVariants as wait
use Rattle.ga_event.specs.declared.made.MadeEvent.{MadeEvent}
use Rattle.ga_event.specs.declared.made.MadeEvent.TheVariants as made
use Rattle.ga_event.specs.declared.flow.part.NodePart.{NodePart}
use Rattle.ga_event.specs.declared.flow.part.NodePart.TheVariants.{Data, Return, Ram, Rom, A, B, P, I, Io, Carry, Slot, Wait as OfWait, Stop as OfStop, OutsideWord}
use Rattle.ga_event.specs.Flow.{ValueFlow, CopiedFromPart, From, top_data_part, IsNodePartInRange, FlowChange, PushData, PopData, SetTop, PopThenSetTop, PushReturn, PopReturn, SetTopReturn, SetP, SetA, SetB, SetI, SetIo, SetCarry, SetRam, AdvanceSlot, SkipRestOfWord, ReturnToFirstSlot, SetWait, SetStop, computed_flow, read_flow_changes, write_flow_changes, opcode_flow_changes, action_flow_changes, take_flow_changes, flows_after_change, flows_after_changes, flow_of_own_event, flow_after_send, flow_after_take}
use Rattle.ga_lab.specs.Machine.{MachineState, history_of_node}
use Rattle.ga_provenance.specs.Origins.{node_after_steps, optional_event_part_flow, value_flow_at_step, is_memory_part, moved_source_part, moved_source_part_at, is_three_part_flow, makes_t_with_a_or_carry, is_made_with_a_or_carry}
use Rattle.ga_provenance.proofs.Ran.{ran_so}

-- ---- flows whose values come from parts that each node has, where they weren't read from memory

abbrev Fine : Bool → ValueFlow → Type 0
Fine memory (CopiedFromPart (Data k)) = k < 10
Fine memory (CopiedFromPart (Return k)) = k < 9
Fine true (CopiedFromPart (Ram k)) = k < 64
Fine true (CopiedFromPart (Rom k)) = k < 64
Fine memory flow = Unit {0}

abbrev AreFine : (NodePart → ValueFlow) → Type 0
AreFine f = (part : NodePart) → IsNodePartInRange part → Fine (is_memory_part part) (f part)

-- a change whose value has such a flow
abbrev IsFineMove : FlowChange → Type 0
IsFineMove (PushData flow) = Fine false flow
IsFineMove (SetTop flow) = Fine false flow
IsFineMove (PopThenSetTop flow) = Fine false flow
IsFineMove (PushReturn flow) = Fine false flow
IsFineMove (SetTopReturn flow) = Fine false flow
IsFineMove (SetP flow) = Fine false flow
IsFineMove (SetA flow) = Fine false flow
IsFineMove (SetB flow) = Fine false flow
IsFineMove (SetI flow) = Fine false flow
IsFineMove (SetIo flow) = Fine false flow
IsFineMove (SetCarry flow) = Fine false flow
IsFineMove (SetRam cell flow) = Fine true flow
IsFineMove move = Unit {0}

abbrev AreFineMoves : List FlowChange → Type 0
AreFineMoves [] = Unit {0}
AreFineMoves (move ∷ rest) = IsFineMove move × AreFineMoves rest

either : (b memory : Bool) (flow other : ValueFlow) → Fine memory flow → Fine memory other → Fine memory (cond b flow other)
either true memory flow other is not = is
either false memory flow other is not = not

computed_fine : (memory : Bool) (flow : ValueFlow) → Fine memory (computed_flow flow)
computed_fine true (CopiedFromPart part) = tt
computed_fine true (From parts) = tt
computed_fine false (CopiedFromPart part) = tt
computed_fine false (From parts) = tt

-- a place of a stack after a pop
popped_fine : (last k : ℕ) (b : Bool) (flow other : ValueFlow) → (k == last) ≡ b → Fine false flow → ((k ≡ last → ⊥) → Fine false other) → Fine false (cond b flow other)
popped_fine last k true flow other is first others = first
popped_fine last k false flow other is first others = others (λ e. true_false (sym (eq-eqb k last e) ∙ is))
  where
    true_false : true ≡ false → ⊥
    true_false h = cc

data_popped : (f : NodePart → ValueFlow) (k : ℕ) → AreFine f → k < 10 → Fine false (cond (k == 9) (f (Data 2)) (f (Data (k + 1))))
data_popped f k fine is = popped_fine 9 k (k == 9) (f (Data 2)) (f (Data (k + 1))) refl (fine (Data 2) (omega arith)) (λ other. fine (Data (k + 1)) (omega (arith, is, other)))

return_popped : (f : NodePart → ValueFlow) (k : ℕ) → AreFine f → k < 9 → Fine false (cond (k == 8) (f (Return 1)) (f (Return (k + 1))))
return_popped f k fine is = popped_fine 8 k (k == 8) (f (Return 1)) (f (Return (k + 1))) refl (fine (Return 1) (omega arith)) (λ other. fine (Return (k + 1)) (omega (arith, is, other)))

move_fine : (move : FlowChange) (f : NodePart → ValueFlow) → IsFineMove move → AreFine f → AreFine (flows_after_change move f)
move_fine (PushData flow) f ok fine (Data k) is = either (k == 0) false flow (f (Data (k - 1))) ok (fine (Data (k - 1)) (omega (arith, is)))
move_fine PopData f ok fine (Data k) is = data_popped f k fine is
move_fine (SetTop flow) f ok fine (Data k) is = either (k == 0) false flow (f (Data k)) ok (fine (Data k) is)
move_fine (PopThenSetTop flow) f ok fine (Data k) is = either (k == 0) false flow (cond (k == 9) (f (Data 2)) (f (Data (k + 1)))) ok (data_popped f k fine is)
move_fine (PushReturn flow) f ok fine (Return k) is = either (k == 0) false flow (f (Return (k - 1))) ok (fine (Return (k - 1)) (omega (arith, is)))
move_fine PopReturn f ok fine (Return k) is = return_popped f k fine is
move_fine (SetTopReturn flow) f ok fine (Return k) is = either (k == 0) false flow (f (Return k)) ok (fine (Return k) is)
move_fine (SetP flow) f ok fine P is = ok
move_fine (SetA flow) f ok fine A is = ok
move_fine (SetB flow) f ok fine B is = ok
move_fine (SetI flow) f ok fine I is = ok
move_fine (SetIo flow) f ok fine Io is = ok
move_fine (SetCarry flow) f ok fine Carry is = ok
move_fine (SetRam cell flow) f ok fine (Ram k) is = either (k == cell) true flow (f (Ram k)) ok (fine (Ram k) is)
move_fine AdvanceSlot f ok fine Slot is = computed_fine false (f Slot)
move_fine SkipRestOfWord f ok fine Slot is = tt
move_fine ReturnToFirstSlot f ok fine Slot is = tt
move_fine SetWait f ok fine OfWait is = tt
move_fine SetStop f ok fine OfStop is = tt
move_fine move f ok fine part is = fine part is

moves_fine : (rest : List FlowChange) (f : NodePart → ValueFlow) → AreFineMoves rest → AreFine f → AreFine (flows_after_changes rest f)
moves_fine [] f ok fine part is = fine part is
moves_fine (move ∷ rest) f ok fine part is = moves_fine rest (flows_after_change move f) ok.1 (move_fine move f ok.0 fine) part is

same_fine : AreFine CopiedFromPart
same_fine (Data k) is = is
same_fine (Return k) is = is
same_fine (Ram k) is = is
same_fine (Rom k) is = is
same_fine part is = tt

-- ---- of each opcode

by_test : (b : Bool) (some others : List FlowChange) → AreFineMoves some → AreFineMoves others → AreFineMoves (cond b some others)
by_test true some others is not = is
by_test false some others is not = not

by_read : (at : AddressTarget) (more : ValueFlow → List FlowChange) → ((word : ValueFlow) → Fine false word → AreFineMoves (more word)) → AreFineMoves (read_flow_changes at more)
by_read (target.Ram k) more ok = ok (CopiedFromPart (Ram k)) tt
by_read (target.Rom k) more ok = ok (CopiedFromPart (Rom k)) tt
by_read target.Io more ok = ok (CopiedFromPart OutsideWord) tt
by_read (target.Ports sides) more ok = (tt, tt)
by_read target.Bad more ok = (tt, tt)

by_write : (at : AddressTarget) (more : List FlowChange) → AreFineMoves more → AreFineMoves (write_flow_changes at more)
by_write (target.Ram k) more ok = (omega arith, ok)
by_write (target.Rom k) more ok = ok
by_write target.Io more ok = (omega arith, ok)
by_write (target.Ports sides) more ok = by_test (is_single_side_set sides) _ _ (tt, tt) (tt, tt)
by_write target.Bad more ok = (tt, tt)

op_fine : (o : Op) (n : NodeRecord) → AreFineMoves (opcode_flow_changes o n)
op_fine op.Return n = (tt, (tt, (tt, tt)))
op_fine op.Execute n = (tt, (tt, (tt, tt)))
op_fine op.Jump n = (tt, (tt, tt))
op_fine op.Call n = (tt, (tt, (tt, tt)))
op_fine op.Unext n = by_test (register_r n == 0) _ _ (tt, (tt, tt)) (tt, (tt, tt))
op_fine op.Next n = by_test (register_r n == 0) _ _ (tt, (tt, tt)) (tt, (tt, (tt, tt)))
op_fine op.If n = by_test (register_t n == 0) _ _ (tt, (tt, tt)) (tt, tt)
op_fine op.MinusIf n = by_test (register_t n / 2 ^ 17 == 0) _ _ (tt, (tt, tt)) (tt, tt)
op_fine op.FetchP n = by_read (address_target n.p) _ (λ word ok. (ok, (tt, (tt, tt))))
op_fine op.FetchPlus n = by_read (address_target n.a) _ (λ word ok. (ok, (tt, (tt, tt))))
op_fine op.FetchB n = by_read (address_target n.b) _ (λ word ok. (ok, (tt, tt)))
op_fine op.Fetch n = by_read (address_target n.a) _ (λ word ok. (ok, (tt, tt)))
op_fine op.StoreP n = by_write (address_target n.p) _ (tt, (tt, (tt, tt)))
op_fine op.StorePlus n = by_write (address_target n.a) _ (tt, (tt, (tt, tt)))
op_fine op.StoreB n = by_write (address_target n.b) _ (tt, (tt, tt))
op_fine op.Store n = by_write (address_target n.a) _ (tt, (tt, tt))
op_fine op.MultiplyStep n = (tt, (tt, (tt, tt)))
op_fine op.TwoStar n = (tt, (tt, tt))
op_fine op.TwoSlash n = (tt, (tt, tt))
op_fine op.Invert n = (tt, (tt, tt))
op_fine op.Plus n = by_test (has_extended_arithmetic n) _ _ (tt, (tt, (tt, tt))) (tt, (tt, tt))
op_fine op.And n = (tt, (tt, tt))
op_fine op.Or n = (tt, (tt, tt))
op_fine op.Drop n = (tt, (tt, tt))
op_fine op.Dup n = (omega arith, (tt, tt))
op_fine op.Pop n = (omega arith, (tt, (tt, tt)))
op_fine op.Over n = (omega arith, (tt, tt))
op_fine op.A n = (tt, (tt, tt))
op_fine op.Nop n = (tt, tt)
op_fine op.Push n = (omega arith, (tt, (tt, tt)))
op_fine op.BStore n = (tt, (tt, (tt, tt)))
op_fine op.AStore n = (omega arith, (tt, (tt, tt)))

due_fine : (what : NextAction) (n : NodeRecord) → AreFineMoves (action_flow_changes what n)
due_fine due.Fetch n = by_read (address_target n.p) _ (λ word ok. (ok, (tt, (tt, tt))))
due_fine (due.Run o) n = op_fine o n

own_fine : (n : NodeRecord) → AreFine (flow_of_own_event n)
unfolding flow_of_own_event
own_fine n = moves_fine (action_flow_changes (next_action_of_node n) n) CopiedFromPart (due_fine (next_action_of_node n) n) same_fine

send_fine : AreFine flow_after_send
unfolding flow_after_send
send_fine = moves_fine (SetWait ∷ PopData ∷ AdvanceSlot ∷ []) CopiedFromPart (tt, (tt, (tt, tt))) same_fine

take_fine : (w : Wait) → AreFine (flow_after_take w)
unfolding flow_after_take
take_fine (wait.Fetch sides) = moves_fine (take_flow_changes (wait.Fetch sides)) CopiedFromPart (tt, (tt, (tt, tt))) same_fine
take_fine (wait.Read sides) = moves_fine (take_flow_changes (wait.Read sides)) CopiedFromPart (tt, (tt, (tt, tt))) same_fine
take_fine wait.Nothing = same_fine
take_fine (wait.Write side) = same_fine

-- of a step of a node, and past its steps
told_fine : (told : Option MadeEvent) (before : NodeRecord) (n : ℕ) → AreFine (optional_event_part_flow told before n)
told_fine None before n part is = same_fine part is
told_fine (Some (made.Own m step kind)) before n part is = own_fine before part is
told_fine (Some (made.Pass w i register_r j word)) before n part is =
    either (n == register_r.number) (is_memory_part part) (flow_after_take before.wait part) (flow_after_send part) (take_fine before.wait part is) (send_fine part is)

-- so a moved value comes from a part of the node
picked : (b : Bool) (part from : NodePart) → cond b None (Some part) ≡ Some from → IsNodePartInRange part → IsNodePartInRange from
picked true part from h is = absurd (none-some _ h)
picked false part from h is = subst IsNodePartInRange (same_Some _ _ h) is

of_memory : (b : Bool) (part from : NodePart) → cond (not b) None (Some part) ≡ Some from → (b ≡ true → IsNodePartInRange part) → IsNodePartInRange from
of_memory true part from h is = subst IsNodePartInRange (same_Some _ _ h) (is refl)
of_memory false part from h is = absurd (none-some _ h)

ram_fine : (b : Bool) (k : ℕ) → Fine b (CopiedFromPart (Ram k)) → b ≡ true → k < 64
ram_fine true k fine is = fine
ram_fine false k fine is = absurd (cc)

rom_fine : (b : Bool) (k : ℕ) → Fine b (CopiedFromPart (Rom k)) → b ≡ true → k < 64
rom_fine true k fine is = fine
rom_fine false k fine is = absurd (cc)

source_part : (flow : ValueFlow) (at from : NodePart) → Fine (is_memory_part at) flow → moved_source_part flow at ≡ Some from → IsNodePartInRange from
source_part (CopiedFromPart (Data k)) at from fine h = picked (is_memory_part at) (Data k) from h fine
source_part (CopiedFromPart (Return k)) at from fine h = picked (is_memory_part at) (Return k) from h fine
source_part (CopiedFromPart (Ram k)) at from fine h = of_memory (is_memory_part at) (Ram k) from h (ram_fine (is_memory_part at) k fine)
source_part (CopiedFromPart (Rom k)) at from fine h = of_memory (is_memory_part at) (Rom k) from h (rom_fine (is_memory_part at) k fine)
source_part (CopiedFromPart A) at from fine h = picked (is_memory_part at) A from h tt
source_part (CopiedFromPart B) at from fine h = picked (is_memory_part at) B from h tt
source_part (CopiedFromPart P) at from fine h = picked (is_memory_part at) P from h tt
source_part (CopiedFromPart I) at from fine h = picked (is_memory_part at) I from h tt
source_part (CopiedFromPart Io) at from fine h = picked (is_memory_part at) Io from h tt
source_part (CopiedFromPart Carry) at from fine h = picked (is_memory_part at) Carry from h tt
source_part (CopiedFromPart Slot) at from fine h = picked (is_memory_part at) Slot from h tt
source_part (CopiedFromPart OfWait) at from fine h = picked (is_memory_part at) OfWait from h tt
source_part (CopiedFromPart OfStop) at from fine h = picked (is_memory_part at) OfStop from h tt
source_part (CopiedFromPart OutsideWord) at from fine h = absurd (none-some _ h)
source_part (From parts) at from fine h = absurd (none-some _ h)

pub moved_part : (s : MachineState) (n k : ℕ) (at from : NodePart) → IsNodePartInRange at → moved_source_part_at s n k at ≡ Some from → IsNodePartInRange from
moved_part s n k at from is h = source_part (value_flow_at_step s n k at) at from (told_fine (slice_get (history_of_node s n) k) (node_after_steps s n k) n at is) h

-- ---- the steps that make A or the carry of three parts

abbrev IsThree : List FlowChange → NodePart → Type 0
IsThree some at = is_three_part_flow (flows_after_changes some CopiedFromPart at) ≡ true

abbrev IsNone : List FlowChange → NodePart → Type 0
IsNone some at = is_three_part_flow (flows_after_changes some CopiedFromPart at) ≡ false

false_true : (b : Bool) → b ≡ false → b ≡ true → ⊥
false_true b is held = cc

no_test : (b : Bool) (some others : List FlowChange) (at : NodePart) → IsNone some at → IsNone others at → IsThree (cond b some others) at → ⊥
no_test true some others at first second h = false_true _ first h
no_test false some others at first second h = false_true _ second h

no_read : (named : AddressTarget) (more : ValueFlow → List FlowChange) (at : NodePart) → IsNone (SetWait ∷ []) at → IsNone (SetStop ∷ []) at → ((word : ValueFlow) → IsNone (more word) at) → IsThree (read_flow_changes named more) at → ⊥
no_read (target.Ram k) more at waits stops spares h = false_true _ (spares (CopiedFromPart (Ram k))) h
no_read (target.Rom k) more at waits stops spares h = false_true _ (spares (CopiedFromPart (Rom k))) h
no_read target.Io more at waits stops spares h = false_true _ (spares (CopiedFromPart OutsideWord)) h
no_read (target.Ports sides) more at waits stops spares h = false_true _ waits h
no_read target.Bad more at waits stops spares h = false_true _ stops h

no_write : (named : AddressTarget) (more : List FlowChange) (at : NodePart) → IsNone (SetWait ∷ []) at → IsNone (SetStop ∷ []) at → ((k : ℕ) → IsNone (SetRam k (CopiedFromPart top_data_part) ∷ more) at) → IsNone (SetIo (CopiedFromPart top_data_part) ∷ more) at → IsNone more at
    → IsThree (write_flow_changes named more) at → ⊥
no_write (target.Ram k) more at waits stops ram io rom h = false_true _ (ram k) h
no_write (target.Rom k) more at waits stops ram io rom h = false_true _ rom h
no_write target.Io more at waits stops ram io rom h = false_true _ io h
no_write (target.Ports sides) more at waits stops ram io rom h = no_test (is_single_side_set sides) (SetWait ∷ []) (SetStop ∷ []) at waits stops h
no_write target.Bad more at waits stops ram io rom h = false_true _ stops h

-- ---- A

due_a : (what : NextAction) (seen : SeenNeighbours) (n : NodeRecord) → IsThree (action_flow_changes what n) A → makes_t_with_a_or_carry (event_kind_and_changes_of_action what seen n).0 ≡ true
due_a due.Fetch seen n h = absurd (no_read (address_target n.p) _ A refl refl (λ word. refl) h)
due_a (due.Run op.Unext) seen n h = absurd (no_test (register_r n == 0) _ _ A refl refl h)
due_a (due.Run op.Next) seen n h = absurd (no_test (register_r n == 0) _ _ A refl refl h)
due_a (due.Run op.If) seen n h = absurd (no_test (register_t n == 0) _ _ A refl refl h)
due_a (due.Run op.MinusIf) seen n h = absurd (no_test (register_t n / 2 ^ 17 == 0) _ _ A refl refl h)
due_a (due.Run op.FetchP) seen n h = absurd (no_read (address_target n.p) _ A refl refl (λ word. refl) h)
due_a (due.Run op.FetchPlus) seen n h = absurd (no_read (address_target n.a) _ A refl refl (λ word. refl) h)
due_a (due.Run op.FetchB) seen n h = absurd (no_read (address_target n.b) _ A refl refl (λ word. refl) h)
due_a (due.Run op.Fetch) seen n h = absurd (no_read (address_target n.a) _ A refl refl (λ word. refl) h)
due_a (due.Run op.StoreP) seen n h = absurd (no_write (address_target n.p) _ A refl refl (λ k. refl) refl refl h)
due_a (due.Run op.StorePlus) seen n h = absurd (no_write (address_target n.a) _ A refl refl (λ k. refl) refl refl h)
due_a (due.Run op.StoreB) seen n h = absurd (no_write (address_target n.b) _ A refl refl (λ k. refl) refl refl h)
due_a (due.Run op.Store) seen n h = absurd (no_write (address_target n.a) _ A refl refl (λ k. refl) refl refl h)
due_a (due.Run op.MultiplyStep) seen n h = refl
due_a (due.Run op.Plus) seen n h = refl
due_a (due.Run o) seen n h = absurd (false_true _ refl h)

own_a : (seen : SeenNeighbours) (n : NodeRecord) → is_three_part_flow (flow_of_own_event n A) ≡ true → makes_t_with_a_or_carry (own seen n).0 ≡ true
unfolding own own_event flow_of_own_event
own_a seen n h = due_a (next_action_of_node n) seen n h

send_a : is_three_part_flow (flow_after_send A) ≡ false
unfolding flow_after_send
send_a = refl

take_a : (w : Wait) → is_three_part_flow (flow_after_take w A) ≡ false
unfolding flow_after_take
take_a (wait.Fetch sides) = refl
take_a (wait.Read sides) = refl
take_a wait.Nothing = refl
take_a (wait.Write side) = refl

told_a : (s : MachineState) (n k : ℕ) (x : MadeEvent) → slice_get (history_of_node s n) k ≡ Some x → is_three_part_flow (optional_event_part_flow (Some x) (node_after_steps s n k) n A) ≡ true → is_made_with_a_or_carry (Some x) ≡ true
told_a s n k (made.Own m step kind) told h =
    let was = ran_so s n k step m kind told in ap makes_t_with_a_or_carry (sym was.is) ∙ own_a was.seen (node_after_steps s n k) h
told_a s n k (made.Pass w i register_r j word) told h = absurd (go (n == register_r.number) h)
  where
    go : (b : Bool) → is_three_part_flow (cond b (flow_after_take (node_after_steps s n k).wait A) (flow_after_send A)) ≡ true → ⊥
    go true three = false_true _ (take_a (node_after_steps s n k).wait) three
    go false three = false_true _ send_a three

pub sums_a : (s : MachineState) (n k : ℕ) (x : MadeEvent) → slice_get (history_of_node s n) k ≡ Some x → is_three_part_flow (value_flow_at_step s n k A) ≡ true → is_made_with_a_or_carry (slice_get (history_of_node s n) k) ≡ true
sums_a s n k x told h =
    ap is_made_with_a_or_carry told
    ∙ told_a s n k x told (ap (λ (o : Option MadeEvent). is_three_part_flow (optional_event_part_flow o (node_after_steps s n k) n A)) (sym told) ∙ h)

-- ---- the carry

due_carry : (what : NextAction) (seen : SeenNeighbours) (n : NodeRecord) → IsThree (action_flow_changes what n) Carry → makes_t_with_a_or_carry (event_kind_and_changes_of_action what seen n).0 ≡ true
due_carry due.Fetch seen n h = absurd (no_read (address_target n.p) _ Carry refl refl (λ word. refl) h)
due_carry (due.Run op.Unext) seen n h = absurd (no_test (register_r n == 0) _ _ Carry refl refl h)
due_carry (due.Run op.Next) seen n h = absurd (no_test (register_r n == 0) _ _ Carry refl refl h)
due_carry (due.Run op.If) seen n h = absurd (no_test (register_t n == 0) _ _ Carry refl refl h)
due_carry (due.Run op.MinusIf) seen n h = absurd (no_test (register_t n / 2 ^ 17 == 0) _ _ Carry refl refl h)
due_carry (due.Run op.FetchP) seen n h = absurd (no_read (address_target n.p) _ Carry refl refl (λ word. refl) h)
due_carry (due.Run op.FetchPlus) seen n h = absurd (no_read (address_target n.a) _ Carry refl refl (λ word. refl) h)
due_carry (due.Run op.FetchB) seen n h = absurd (no_read (address_target n.b) _ Carry refl refl (λ word. refl) h)
due_carry (due.Run op.Fetch) seen n h = absurd (no_read (address_target n.a) _ Carry refl refl (λ word. refl) h)
due_carry (due.Run op.StoreP) seen n h = absurd (no_write (address_target n.p) _ Carry refl refl (λ k. refl) refl refl h)
due_carry (due.Run op.StorePlus) seen n h = absurd (no_write (address_target n.a) _ Carry refl refl (λ k. refl) refl refl h)
due_carry (due.Run op.StoreB) seen n h = absurd (no_write (address_target n.b) _ Carry refl refl (λ k. refl) refl refl h)
due_carry (due.Run op.Store) seen n h = absurd (no_write (address_target n.a) _ Carry refl refl (λ k. refl) refl refl h)
due_carry (due.Run op.MultiplyStep) seen n h = refl
due_carry (due.Run op.Plus) seen n h = refl
due_carry (due.Run o) seen n h = absurd (false_true _ refl h)

own_carry : (seen : SeenNeighbours) (n : NodeRecord) → is_three_part_flow (flow_of_own_event n Carry) ≡ true → makes_t_with_a_or_carry (own seen n).0 ≡ true
unfolding own own_event flow_of_own_event
own_carry seen n h = due_carry (next_action_of_node n) seen n h

send_carry : is_three_part_flow (flow_after_send Carry) ≡ false
unfolding flow_after_send
send_carry = refl

take_carry : (w : Wait) → is_three_part_flow (flow_after_take w Carry) ≡ false
unfolding flow_after_take
take_carry (wait.Fetch sides) = refl
take_carry (wait.Read sides) = refl
take_carry wait.Nothing = refl
take_carry (wait.Write side) = refl

told_carry : (s : MachineState) (n k : ℕ) (x : MadeEvent) → slice_get (history_of_node s n) k ≡ Some x → is_three_part_flow (optional_event_part_flow (Some x) (node_after_steps s n k) n Carry) ≡ true → is_made_with_a_or_carry (Some x) ≡ true
told_carry s n k (made.Own m step kind) told h =
    let was = ran_so s n k step m kind told in ap makes_t_with_a_or_carry (sym was.is) ∙ own_carry was.seen (node_after_steps s n k) h
told_carry s n k (made.Pass w i register_r j word) told h = absurd (go (n == register_r.number) h)
  where
    go : (b : Bool) → is_three_part_flow (cond b (flow_after_take (node_after_steps s n k).wait Carry) (flow_after_send Carry)) ≡ true → ⊥
    go true three = false_true _ (take_carry (node_after_steps s n k).wait) three
    go false three = false_true _ send_carry three

pub sums_carry : (s : MachineState) (n k : ℕ) (x : MadeEvent) → slice_get (history_of_node s n) k ≡ Some x → is_three_part_flow (value_flow_at_step s n k Carry) ≡ true → is_made_with_a_or_carry (slice_get (history_of_node s n) k) ≡ true
sums_carry s n k x told h =
    ap is_made_with_a_or_carry told
    ∙ told_carry s n k x told (ap (λ (o : Option MadeEvent). is_three_part_flow (optional_event_part_flow o (node_after_steps s n k) n Carry)) (sym told) ∙ h)
