-- A step, as made, determines its effect on the entries of the return stack.
use Rattle.std.proofs.Common.{◌≡◌, ◌+◌, ◌-◌, ◌==◌, ◌%◌, ◌/◌, ◌^◌, ◌++◌, ℕ, suc, Bool, true, false, ◌&&◌, cond, List, [], ◌∷◌, Option, Some, None, refl, sym, ap, ◌∙◌, arith}
use Rattle.std.specs.List.{slice_get}
use Rattle.std.proofs.lemmas.Bool.{eqb-true}
use Rattle.ga_slots.specs.Codes.{code_of_opcode, opcode_of_code}
use Rattle.ga_slots.specs.declared.op.Op.{Op}
use Rattle.ga_slots.specs.declared.op.Op.TheVariants as op
use Rattle.ga_ports.specs.Address.{address_target, is_single_side_set, side_of_single_set}
use Rattle.ga_ports.specs.declared.address.AddressTarget.{AddressTarget}
use Rattle.ga_ports.specs.declared.address.AddressTarget.TheVariants as target
use Rattle.ga_node.specs.Record.{NodeRecord}
use Rattle.ga_node.specs.Changes.{NodeChange}
use Rattle.ga_node.specs.Table.{AddressAccess, Plain, Reads, Writes, register_t, register_r, has_extended_arithmetic, target_read_result, target_write_result, access_with_following_changes, changes_or_event_of_access, opcode_effect, fetch_access, next_action_of_node, wait_effect, stop_effect, own_event_after_access, event_kind_and_changes_of_action, own_event, own}
use Rattle.ga_node.specs.declared.kind.OwnEventKind.{OwnEventKind}
use Rattle.ga_node.specs.declared.kind.OwnEventKind.TheVariants as kind
use Rattle.ga_node.specs.declared.seen.SeenNeighbours.{SeenNeighbours}
use Rattle.ga_node.specs.declared.due.NextAction.{NextAction}
use Rattle.ga_node.specs.declared.due.NextAction.TheVariants as due
use Rattle.ga_node.specs.declared.wait.Wait.{Wait}
use Rattle.ga_node.specs.declared.wait.Wait.TheVariants as wait
use Rattle.ga_node.specs.declared.wait.ReadKind.{ReadKind}
use Rattle.ga_node.specs.declared.wait.ReadKind.TheVariants.{Instruction, Stack}
use Rattle.ga_grid.specs.declared.node_id.NodeId.{NodeId}
use Rattle.ga_event.specs.declared.made.MadeEvent.{MadeEvent}
use Rattle.ga_event.specs.declared.made.MadeEvent.TheVariants as made
use Rattle.ga_lab.specs.Machine.{MachineState, history_of_node}
use Rattle.ga_event.specs.declared.flow.part.NodePart.TheVariants.{Return, Ram, Rom, A, P, OutsideWord}
use Rattle.ga_event.specs.Flow.{ValueFlow, PartFlows, CopiedFromPart, FlowChange, PushData, PopData, PushReturn, PopReturn, SetTopReturn, SetP, SetA, SetI, SetWait, SetStop, AdvanceSlot, SkipRestOfWord, ReturnToFirstSlot, top_data_part, top_return_part, flow_from_part, jump_flow_changes, plus_flow_changes, read_flow_changes, write_flow_changes, opcode_flow_changes, action_flow_changes, flows_after_change, flows_after_changes, send_flow_changes, take_flow_changes, flow_of_own_event, flow_after_send, flow_after_take}
use Rattle.ga_provenance.specs.Origins.{node_after_steps, optional_event_part_flow, value_flow_at_step}
use Rattle.ga_provenance.proofs.Ran.{WasNext, ran_so}
use Rattle.ga_dap_views.specs.Calls.{previous_return_entry_index, is_call_op, is_call_event, is_call_step}
use Rattle.ga_dap_views.specs.declared.calls.ReturnStackEffect.{ReturnStackEffect}
use Rattle.ga_dap_views.specs.declared.calls.ReturnStackEffect.TheVariants as shift
use Rattle.ga_dap_views.specs.inner.{return_stack_effect_of_opcode, return_stack_effect_by_kind, return_stack_effect_of_event, return_stack_effect_of_step, return_entry_index_before_effect, is_call_return_stack_effect}

-- ---- one entry

never : (p from : ℕ) → (p ≡ 8 → from ≡ 1 → ⊥) → (p == 8 && from == 1) ≡ false
never p from other = go (p == 8) (from == 1) refl refl
  where
    go : (a b : Bool) → (p == 8) ≡ a → (from == 1) ≡ b → (a && b) ≡ false
    go true true last second = absurd (other (eqb-true p 8 last) (eqb-true from 1 second))
    go true false last second = refl
    go false b last second = refl

kept_so : (p from : ℕ) → (p ≡ 8 → from ≡ 1 → ⊥) → previous_return_entry_index (CopiedFromPart (Return from)) p ≡ Some from
kept_so p from other = ap (λ (b : Bool). cond b None (Some from)) (never p from other)

stays : (p : ℕ) → previous_return_entry_index (CopiedFromPart (Return p)) p ≡ Some p
stays p = kept_so p p (λ last second. omega arith)

pushed : (flow : ValueFlow) (p : ℕ) → previous_return_entry_index flow p ≡ None → previous_return_entry_index (cond (p == 0) flow (CopiedFromPart (Return (p - 1)))) p ≡ cond (p == 0) None (Some (p - 1))
pushed flow p new = go (p == 0)
  where
    go : (top : Bool) → previous_return_entry_index (cond top flow (CopiedFromPart (Return (p - 1)))) p ≡ cond top None (Some (p - 1))
    go true = new
    go false = kept_so p (p - 1) (λ last second. omega arith)

popped : (p : ℕ) → previous_return_entry_index (cond (p == 8) (CopiedFromPart (Return 1)) (CopiedFromPart (Return (p + 1)))) p ≡ cond (p == 8) None (Some (p + 1))
popped p = go (p == 8) refl
  where
    go : (last : Bool) → (p == 8) ≡ last → previous_return_entry_index (cond last (CopiedFromPart (Return 1)) (CopiedFromPart (Return (p + 1)))) p ≡ cond last None (Some (p + 1))
    go true is = ap (λ (b : Bool). cond (b && (1 == 1)) None (Some 1)) is
    go false is = kept_so p (p + 1) (λ last second. omega arith)

replaced : (flow : ValueFlow) (p : ℕ) → previous_return_entry_index flow p ≡ None → previous_return_entry_index (cond (p == 0) flow (CopiedFromPart (Return p))) p ≡ cond (p == 0) None (Some p)
replaced flow p new = go (p == 0)
  where
    go : (top : Bool) → previous_return_entry_index (cond top flow (CopiedFromPart (Return p))) p ≡ cond top None (Some p)
    go true = new
    go false = stays p

-- ---- moves that leave the return stack

keeps : FlowChange → Bool
keeps (PushReturn word) = false
keeps PopReturn = false
keeps (SetTopReturn word) = false
keeps _ = true

all_keep : List FlowChange → Bool
all_keep [] = true
all_keep (move ∷ rest) = cond (keeps move) (all_keep rest) false

stays_over : (some : List FlowChange) (f : PartFlows) (p : ℕ) → all_keep some ≡ true → flows_after_changes some f (Return p) ≡ f (Return p)
unfolding keeps all_keep
stays_over [] f p keep = refl
stays_over (PushReturn word ∷ rest) f p keep = absurd (cc)
stays_over (PopReturn ∷ rest) f p keep = absurd (cc)
stays_over (SetTopReturn word ∷ rest) f p keep = absurd (cc)
stays_over (move ∷ rest) f p keep = stays_over rest (flows_after_change move f) p keep

keep_test : (test : Bool) (some others : List FlowChange) → all_keep some ≡ true → all_keep others ≡ true → all_keep (cond test some others) ≡ true
keep_test true some others first second = first
keep_test false some others first second = second

keep_read : (at : AddressTarget) (more : ValueFlow → List FlowChange) → ((word : ValueFlow) → all_keep (more word) ≡ true) → all_keep (read_flow_changes at more) ≡ true
unfolding keeps all_keep
keep_read (target.Ram c) more keep = keep (CopiedFromPart (Ram c))
keep_read (target.Rom c) more keep = keep (CopiedFromPart (Rom c))
keep_read target.Io more keep = keep (CopiedFromPart OutsideWord)
keep_read (target.Ports sides) more keep = refl
keep_read target.Bad more keep = refl

keep_write : (at : AddressTarget) (rest : List FlowChange) → all_keep rest ≡ true → all_keep (write_flow_changes at rest) ≡ true
unfolding keeps all_keep
keep_write (target.Ram c) rest keep = keep
keep_write (target.Rom c) rest keep = keep
keep_write target.Io rest keep = keep
keep_write (target.Ports sides) rest keep = keep_test (is_single_side_set sides) (SetWait ∷ []) (SetStop ∷ []) refl refl
keep_write target.Bad rest keep = refl

keep_jump : (test : Bool) → all_keep (cond test jump_flow_changes (SkipRestOfWord ∷ [])) ≡ true
unfolding keeps all_keep
keep_jump true = refl
keep_jump false = refl

keep_add : (extended : Bool) → all_keep (plus_flow_changes extended) ≡ true
unfolding keeps all_keep
keep_add true = refl
keep_add false = refl

-- ---- the kind of an access that leaves the return stack alone

read_told : (ran : OwnEventKind) (at : AddressTarget) (reader : ReadKind) (seen : SeenNeighbours) (n : NodeRecord) (more : ℕ → List NodeChange) (last : Bool) → return_stack_effect_by_kind ran last ≡ shift.Stays
    → return_stack_effect_by_kind (own_event_after_access ran (access_with_following_changes (target_read_result at reader seen n) more)).0 last ≡ shift.Stays
unfolding target_read_result access_with_following_changes
read_told ran (target.Ram c) reader seen n more last is = is
read_told ran (target.Rom c) reader seen n more last is = is
read_told ran target.Io reader seen n more last is = is
read_told ran (target.Ports sides) reader seen n more last is = refl
read_told ran target.Bad reader seen n more last is = refl

write_told : (ran : OwnEventKind) (at : AddressTarget) (n : NodeRecord) (more : List NodeChange) (last : Bool) → return_stack_effect_by_kind ran last ≡ shift.Stays
    → return_stack_effect_by_kind (own_event_after_access ran (access_with_following_changes (target_write_result at n) (λ changes. changes ++ more))).0 last ≡ shift.Stays
unfolding target_write_result access_with_following_changes
write_told ran (target.Ram c) n more last is = is
write_told ran (target.Rom c) n more last is = is
write_told ran target.Io n more last is = is
write_told ran (target.Ports sides) n more last is = at_port (is_single_side_set sides)
  where
    at_port : (single : Bool) → return_stack_effect_by_kind (cond single (wait_effect (wait.Write (side_of_single_set sides))) (stop_effect 1)).0 last ≡ shift.Stays
    at_port true = refl
    at_port false = refl
write_told ran target.Bad n more last is = refl

all_told : (ran : OwnEventKind) (reader : ReadKind) (access : AddressAccess) (seen : SeenNeighbours) (n : NodeRecord) (last : Bool) → return_stack_effect_by_kind ran last ≡ shift.Stays
    → return_stack_effect_by_kind (own_event_after_access ran (changes_or_event_of_access reader access seen n)).0 last ≡ shift.Stays
all_told ran reader (Plain changes) seen n last is = is
all_told ran reader (Reads address more) seen n last is = read_told ran (address_target address) reader seen n more last is
all_told ran reader (Writes address more) seen n last is = write_told ran (address_target address) n more last is

-- ---- each opcode

abbrev Shifts : NextAction → SeenNeighbours → NodeRecord → ℕ → Type 0
Shifts what seen n p = previous_return_entry_index (flows_after_changes (action_flow_changes what n) CopiedFromPart (Return p)) p ≡ return_entry_index_before_effect (return_stack_effect_by_kind (event_kind_and_changes_of_action what seen n).0 (register_r n == 0)) p

rests : (o : Op) (seen : SeenNeighbours) (n : NodeRecord) (p : ℕ) → all_keep (opcode_flow_changes o n) ≡ true → return_stack_effect_by_kind (kind.Run (code_of_opcode o)) (register_r n == 0) ≡ shift.Stays → Shifts (due.Run o) seen n p
rests o seen n p keep is =
    ap (λ (f : ValueFlow). previous_return_entry_index f p) (stays_over (opcode_flow_changes o n) CopiedFromPart p keep) ∙ stays p
    ∙ sym (ap (λ (z : ReturnStackEffect). return_entry_index_before_effect z p) (all_told (kind.Run (code_of_opcode o)) Stack (opcode_effect o n) seen n (register_r n == 0) is))

counts : (last : Bool) (p : ℕ) (ends goes : List FlowChange) → previous_return_entry_index (flows_after_changes ends CopiedFromPart (Return p)) p ≡ return_entry_index_before_effect shift.Pops p
    → previous_return_entry_index (flows_after_changes goes CopiedFromPart (Return p)) p ≡ return_entry_index_before_effect shift.Replaces p
    → previous_return_entry_index (flows_after_changes (cond last ends goes) CopiedFromPart (Return p)) p ≡ return_entry_index_before_effect (return_stack_effect_of_opcode op.Unext last) p
counts true p ends goes first second = first
counts false p ends goes first second = second

op_shifts : (o : Op) (seen : SeenNeighbours) (n : NodeRecord) (p : ℕ) → Shifts (due.Run o) seen n p
unfolding keeps all_keep
op_shifts op.Return seen n p = popped p
op_shifts op.Execute seen n p = replaced (CopiedFromPart P) p refl
op_shifts op.Call seen n p = pushed (CopiedFromPart P) p refl
op_shifts op.Unext seen n p = counts (register_r n == 0) p (PopReturn ∷ AdvanceSlot ∷ []) (SetTopReturn (flow_from_part top_return_part) ∷ ReturnToFirstSlot ∷ []) (popped p) (replaced (flow_from_part top_return_part) p refl)
op_shifts op.Next seen n p = counts (register_r n == 0) p (PopReturn ∷ SkipRestOfWord ∷ []) (SetTopReturn (flow_from_part top_return_part) ∷ jump_flow_changes) (popped p) (replaced (flow_from_part top_return_part) p refl)
op_shifts op.Pop seen n p = popped p
op_shifts op.Push seen n p = pushed (CopiedFromPart top_data_part) p refl
op_shifts op.If seen n p = rests op.If seen n p (keep_jump (register_t n == 0)) refl
op_shifts op.MinusIf seen n p = rests op.MinusIf seen n p (keep_jump (register_t n / 2 ^ 17 == 0)) refl
op_shifts op.Plus seen n p = rests op.Plus seen n p (keep_add (has_extended_arithmetic n)) refl
op_shifts op.FetchP seen n p = rests op.FetchP seen n p (keep_read (address_target n.p) (λ word. PushData word ∷ SetP (flow_from_part P) ∷ AdvanceSlot ∷ []) (λ word. refl)) refl
op_shifts op.FetchPlus seen n p = rests op.FetchPlus seen n p (keep_read (address_target n.a) (λ word. PushData word ∷ SetA (flow_from_part A) ∷ AdvanceSlot ∷ []) (λ word. refl)) refl
op_shifts op.FetchB seen n p = rests op.FetchB seen n p (keep_read (address_target n.b) (λ word. PushData word ∷ AdvanceSlot ∷ []) (λ word. refl)) refl
op_shifts op.Fetch seen n p = rests op.Fetch seen n p (keep_read (address_target n.a) (λ word. PushData word ∷ AdvanceSlot ∷ []) (λ word. refl)) refl
op_shifts op.StoreP seen n p = rests op.StoreP seen n p (keep_write (address_target n.p) (PopData ∷ SetP (flow_from_part P) ∷ AdvanceSlot ∷ []) refl) refl
op_shifts op.StorePlus seen n p = rests op.StorePlus seen n p (keep_write (address_target n.a) (PopData ∷ SetA (flow_from_part A) ∷ AdvanceSlot ∷ []) refl) refl
op_shifts op.StoreB seen n p = rests op.StoreB seen n p (keep_write (address_target n.b) (PopData ∷ AdvanceSlot ∷ []) refl) refl
op_shifts op.Store seen n p = rests op.Store seen n p (keep_write (address_target n.a) (PopData ∷ AdvanceSlot ∷ []) refl) refl
op_shifts o seen n p = rests o seen n p refl refl

due_shifts : (what : NextAction) (seen : SeenNeighbours) (n : NodeRecord) (p : ℕ) → Shifts what seen n p
unfolding keeps all_keep
due_shifts due.Fetch seen n p =
    ap (λ (f : ValueFlow). previous_return_entry_index f p) (stays_over (action_flow_changes due.Fetch n) CopiedFromPart p (keep_read (address_target n.p) (λ word. SetI word ∷ SetP (flow_from_part P) ∷ ReturnToFirstSlot ∷ []) (λ word. refl))) ∙ stays p
    ∙ sym (ap (λ (z : ReturnStackEffect). return_entry_index_before_effect z p) (all_told kind.Fetch Instruction (fetch_access n) seen n (register_r n == 0) refl))
due_shifts (due.Run o) seen n p = op_shifts o seen n p

own_shifts : (seen : SeenNeighbours) (n : NodeRecord) (p : ℕ) → previous_return_entry_index (flow_of_own_event n (Return p)) p ≡ return_entry_index_before_effect (return_stack_effect_by_kind (own seen n).0 (register_r n == 0)) p
unfolding flow_of_own_event own own_event
own_shifts seen n p = due_shifts (next_action_of_node n) seen n p

-- ---- both ends of a pass

keep_taken : (at : Wait) → all_keep (take_flow_changes at) ≡ true
unfolding keeps all_keep
keep_taken (wait.Fetch sides) = refl
keep_taken (wait.Read sides) = refl
keep_taken (wait.Write side) = refl
keep_taken wait.Nothing = refl

pass_shifts : (taken : Bool) (at : Wait) (p : ℕ) → previous_return_entry_index (cond taken (flow_after_take at (Return p)) (flow_after_send (Return p))) p ≡ Some p
unfolding keeps all_keep flow_after_take flow_after_send
pass_shifts true at p = ap (λ (f : ValueFlow). previous_return_entry_index f p) (stays_over (take_flow_changes at) CopiedFromPart p (keep_taken at)) ∙ stays p
pass_shifts false at p = ap (λ (f : ValueFlow). previous_return_entry_index f p) (stays_over send_flow_changes CopiedFromPart p refl) ∙ stays p

-- ---- a step of a node

told_shifts : (told : Option MadeEvent) (before : NodeRecord) (n p : ℕ) → ((m : NodeId) (step : ℕ) (ran : OwnEventKind) → told ≡ Some (made.Own m step ran) → WasNext before ran)
    → previous_return_entry_index (optional_event_part_flow told before n (Return p)) p ≡ return_entry_index_before_effect (return_stack_effect_of_event told (register_r before == 0)) p
told_shifts None before n p next = stays p
told_shifts (Some (made.Own m step ran)) before n p next =
    let was = next m step ran refl in own_shifts was.seen before p ∙ ap (λ (z : OwnEventKind). return_entry_index_before_effect (return_stack_effect_by_kind z (register_r before == 0)) p) was.is
told_shifts (Some (made.Pass writer i reader j word)) before n p next = pass_shifts (n == reader.number) before.wait p

pub shifted : (s : MachineState) (n k p : ℕ) → previous_return_entry_index (value_flow_at_step s n k (Return p)) p ≡ return_entry_index_before_effect (return_stack_effect_of_step s n k) p
shifted s n k p = told_shifts (slice_get (history_of_node s n) k) (node_after_steps s n k) n p (λ m step ran h. ran_so s n k step m ran h)

op_calls : (o : Op) (last : Bool) → is_call_op o ≡ is_call_return_stack_effect (return_stack_effect_of_opcode o last)
op_calls op.Unext true = refl
op_calls op.Unext false = refl
op_calls op.Next true = refl
op_calls op.Next false = refl
op_calls o last = refl

told_calls : (told : Option MadeEvent) (last : Bool) → is_call_event told ≡ is_call_return_stack_effect (return_stack_effect_of_event told last)
told_calls None last = refl
told_calls (Some (made.Own m step (kind.Run code))) last = op_calls (opcode_of_code (code % 32)) last
told_calls (Some (made.Own m step ran)) last = refl
told_calls (Some (made.Pass writer i reader j word)) last = refl

pub calls_so : (s : MachineState) (node : NodeId) (k : ℕ) → is_call_step s node (suc k) ≡ is_call_return_stack_effect (return_stack_effect_of_step s node.number k)
calls_so s node k = told_calls (slice_get (history_of_node s node.number) k) (register_r (node_after_steps s node.number k) == 0)
