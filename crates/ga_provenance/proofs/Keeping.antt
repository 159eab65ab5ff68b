-- Steps that leave each cell as it was, and the newest step that wrote one.
use Rattle.std.proofs.Common.{◌≡◌, ◌<◌, Bool, false, List, [], ◌∷◌, Some, refl, arith, ℕ, zero, suc, ◌+◌, ◌≤◌, true, cond, None, sym, ◌∙◌, ap, ◌==◌, ◌/◌, ◌^◌, ◌++◌, ◌||◌, not}
use Rattle.std.specs.List.{slice_get}
use Rattle.ga_lab.specs.Machine.{MachineState, history_of_node}
use Rattle.ga_provenance.specs.Origins.{node_after_steps, value_flow_at_step, optional_event_part_flow, moved_source_part, moved_source_part_at}
use Rattle.std.specs.Prelude.{Option, option_map, slice_index}
use Rattle.std.proofs.lemmas.Option.{same_Some}
use Rattle.ga_event.specs.declared.made.MadeEvent.{MadeEvent}
use Rattle.ga_event.specs.declared.flow.part.NodePart.TheVariants.{Ram, P, A}
use Rattle.ga_provenance.specs.declared.writes.CellWrite.{CellWrite}
use Rattle.ga_provenance.specs.Writes.{is_cell_written_by_flow, cell_write_of_step, cell_write_at, newer_cell_write, newest_cell_write}
use Rattle.ga_slots.specs.declared.op.Op.{Op}
use Rattle.ga_slots.specs.declared.op.Op.TheVariants as op
use Rattle.ga_ports.specs.Address.{address_target, is_single_side_set}
use Rattle.ga_ports.specs.declared.address.AddressTarget.{AddressTarget}
use Rattle.ga_ports.specs.declared.address.AddressTarget.TheVariants as target
use Rattle.ga_node.specs.Record.{NodeRecord}
use Rattle.ga_node.specs.Changes.{NodeChange}
use Rattle.ga_node.specs.Table.{register_t, register_r, has_extended_arithmetic, next_action_of_node, target_write_result, access_with_following_changes, own_event_after_access, event_kind_and_changes_of_action, own_event, own}
use Rattle.ga_node.specs.declared.kind.OwnEventKind.{OwnEventKind}
use Rattle.ga_node.specs.declared.kind.OwnEventKind.TheVariants as kind
use Rattle.ga_node.specs.declared.seen.SeenNeighbours.{SeenNeighbours}
use Rattle.ga_node.specs.declared.due.NextAction.{NextAction}
use Rattle.ga_node.specs.declared.due.NextAction.TheVariants as due
use Rattle.ga_node.specs.declared.wait.Wait.{Wait}
use Rattle.ga_node.specs.declared.wait.Wait.TheVariants as wait
use Rattle.ga_grid.specs.declared.node_id.NodeId.{NodeId}
use Rattle.ga_event.specs.declared.made.MadeEvent.TheVariants as made
use Rattle.ga_event.specs.Flow.{ValueFlow, CopiedFromPart, FlowChange, PushData, SetP, SetA, SetI, AdvanceSlot, ReturnToFirstSlot, flow_from_part, read_flow_changes, write_flow_changes, opcode_flow_changes, action_flow_changes, flows_after_changes, flow_of_own_event, flow_after_send, flow_after_take, PopData, SetWait, SetStop, top_data_part}
use Rattle.ga_provenance.specs.inner.{is_store_event_kind, ran_store_opcode, store_target, store_misses_cell, event_stores_outside_part}
use Rattle.ga_provenance.proofs.Ran.{WasNext, ran_so, due_told}
use Rattle.std.proofs.lemmas.Bool.{eqb-true, eq-eqb}
use Rattle.ga_slots.specs.Codes.{opcode_of_code}
use Rattle.ga_event.specs.declared.flow.part.NodePart.{NodePart}
use Rattle.ga_provenance.specs.declared.kept.Registers.{Registers}

-- ---- the newest step that wrote a cell

-- the last of some steps wrote it, or an earlier one
pub wrote_last : (s : MachineState) (n cell left k : ℕ) (wrote : CellWrite) → suc k ≡ left → Some wrote ≡ cell_write_at s n cell k → Some wrote ≡ newest_cell_write s n cell left
wrote_last s n cell left k wrote is e = ap (λ (o : Option CellWrite). newer_cell_write o (newest_cell_write s n cell k)) e ∙ ap (newest_cell_write s n cell) is

pub wrote_before : (s : MachineState) (n cell left k : ℕ) → suc k ≡ left → None ≡ cell_write_at s n cell k → newest_cell_write s n cell k ≡ newest_cell_write s n cell left
wrote_before s n cell left k is e = ap (λ (o : Option CellWrite). newer_cell_write o (newest_cell_write s n cell k)) e ∙ ap (newest_cell_write s n cell) is

-- a found write has the number of its step
step_of : (s : MachineState) (n cell k : ℕ) (b : Bool) (o : Option MadeEvent) (wrote : CellWrite)
    → Some wrote ≡ cond b (option_map (cell_write_of_step (k + 1) (slice_index (node_after_steps s n (k + 1)).ram cell)) o) None → wrote.step ≡ k + 1
step_of s n cell k true (Some made) wrote h = ap (λ (w : CellWrite). w.step) (same_Some _ _ h)
step_of s n cell k true None wrote h = absurd (cc)
step_of s n cell k false o wrote h = absurd (cc)

pub written_step : (s : MachineState) (n cell k : ℕ) (wrote : CellWrite) → Some wrote ≡ cell_write_at s n cell k → wrote.step ≡ k + 1
written_step s n cell k wrote h = step_of s n cell k (is_cell_written_by_flow (value_flow_at_step s n k (Ram cell))) (slice_get (history_of_node s n) k) wrote h

-- it is one of them
pub newest_within : (s : MachineState) (n cell left : ℕ) (wrote : CellWrite) → Some wrote ≡ newest_cell_write s n cell left → (0 < wrote.step) × (wrote.step ≤ left)
newest_within s n cell zero wrote h = absurd (cc)
newest_within s n cell (suc k) wrote h = go (cell_write_at s n cell k) refl (λ before. newest_within s n cell k wrote before) h
  where
    go : (o : Option CellWrite) → cell_write_at s n cell k ≡ o → (Some wrote ≡ newest_cell_write s n cell k → (0 < wrote.step) × (wrote.step ≤ k)) → Some wrote ≡ newer_cell_write o (newest_cell_write s n cell k)
        → (0 < wrote.step) × (wrote.step ≤ suc k)
    go None is before e = let earlier = before e in (earlier.0, let less = earlier.1 in omega (arith, less))
    go (Some other) is before e = let step = written_step s n cell k wrote (e ∙ sym is) in (omega (arith, step), omega (arith, step))

-- ---- steps that leave each cell as it was

-- after these moves the cell holds what it held
abbrev Keep : ℕ → List FlowChange → Type 0
Keep k opcode_flow_changes = flows_after_changes opcode_flow_changes CopiedFromPart (Ram k) ≡ CopiedFromPart (Ram k)

by_test : (k : ℕ) (test : Bool) (some others : List FlowChange) → Keep k some → Keep k others → Keep k (cond test some others)
by_test k true some others first second = first
by_test k false some others first second = second

by_read : (k : ℕ) (target : AddressTarget) (more : ValueFlow → List FlowChange) → ((word : ValueFlow) → Keep k (more word)) → Keep k (read_flow_changes target more)
by_read k (target.Ram c) more rest = rest (CopiedFromPart (Ram c))
by_read k (target.Rom c) more rest = rest _
by_read k target.Io more rest = rest _
by_read k (target.Ports sides) more rest = refl
by_read k target.Bad more rest = refl

-- a store that came to write left another kind
by_write : (code k : ℕ) (target : AddressTarget) (n : NodeRecord) (more : List NodeChange) (rest : List FlowChange) → (code / 4 == 3) ≡ true
    → is_store_event_kind (own_event_after_access (kind.Run code) (access_with_following_changes (target_write_result target n) (λ changes. changes ++ more))).0 ≡ false → Keep k (write_flow_changes target rest)
unfolding target_write_result access_with_following_changes
by_write code k (target.Ram c) n more rest first second = absurd (cc)
by_write code k (target.Rom c) n more rest first second = absurd (cc)
by_write code k target.Io n more rest first second = absurd (cc)
by_write code k (target.Ports sides) n more rest first second = by_test k (is_single_side_set sides) _ _ refl refl
by_write code k target.Bad n more rest first second = refl

op_keeps : (o : Op) (seen : SeenNeighbours) (n : NodeRecord) (k : ℕ) → is_store_event_kind (event_kind_and_changes_of_action (due.Run o) seen n).0 ≡ false → Keep k (opcode_flow_changes o n)
op_keeps op.Return seen n k is = refl
op_keeps op.Execute seen n k is = refl
op_keeps op.Jump seen n k is = refl
op_keeps op.Call seen n k is = refl
op_keeps op.Unext seen n k is = by_test k (register_r n == 0) _ _ refl refl
op_keeps op.Next seen n k is = by_test k (register_r n == 0) _ _ refl refl
op_keeps op.If seen n k is = by_test k (register_t n == 0) _ _ refl refl
op_keeps op.MinusIf seen n k is = by_test k (register_t n / 2 ^ 17 == 0) _ _ refl refl
op_keeps op.FetchP seen n k is = by_read k (address_target n.p) (λ word. PushData word ∷ SetP (flow_from_part P) ∷ AdvanceSlot ∷ []) (λ word. refl)
op_keeps op.FetchPlus seen n k is = by_read k (address_target n.a) (λ word. PushData word ∷ SetA (flow_from_part A) ∷ AdvanceSlot ∷ []) (λ word. refl)
op_keeps op.FetchB seen n k is = by_read k (address_target n.b) (λ word. PushData word ∷ AdvanceSlot ∷ []) (λ word. refl)
op_keeps op.Fetch seen n k is = by_read k (address_target n.a) (λ word. PushData word ∷ AdvanceSlot ∷ []) (λ word. refl)
op_keeps op.StoreP seen n k is = by_write 12 k (address_target n.p) n _ _ refl is
op_keeps op.StorePlus seen n k is = by_write 13 k (address_target n.a) n _ _ refl is
op_keeps op.StoreB seen n k is = by_write 14 k (address_target n.b) n _ _ refl is
op_keeps op.Store seen n k is = by_write 15 k (address_target n.a) n _ _ refl is
op_keeps op.MultiplyStep seen n k is = refl
op_keeps op.TwoStar seen n k is = refl
op_keeps op.TwoSlash seen n k is = refl
op_keeps op.Invert seen n k is = refl
op_keeps op.Plus seen n k is = by_test k (has_extended_arithmetic n) _ _ refl refl
op_keeps op.And seen n k is = refl
op_keeps op.Or seen n k is = refl
op_keeps op.Drop seen n k is = refl
op_keeps op.Dup seen n k is = refl
op_keeps op.Pop seen n k is = refl
op_keeps op.Over seen n k is = refl
op_keeps op.A seen n k is = refl
op_keeps op.Nop seen n k is = refl
op_keeps op.Push seen n k is = refl
op_keeps op.BStore seen n k is = refl
op_keeps op.AStore seen n k is = refl

due_keeps : (what : NextAction) (seen : SeenNeighbours) (n : NodeRecord) (k : ℕ) → is_store_event_kind (event_kind_and_changes_of_action what seen n).0 ≡ false → Keep k (action_flow_changes what n)
due_keeps due.Fetch seen n k is = by_read k (address_target n.p) (λ word. SetI word ∷ SetP (flow_from_part P) ∷ ReturnToFirstSlot ∷ []) (λ word. refl)
due_keeps (due.Run o) seen n k is = op_keeps o seen n k is

own_keeps : (seen : SeenNeighbours) (n : NodeRecord) (k : ℕ) → is_store_event_kind (own seen n).0 ≡ false → flow_of_own_event n (Ram k) ≡ CopiedFromPart (Ram k)
unfolding flow_of_own_event own own_event
own_keeps seen n k is = due_keeps (next_action_of_node n) seen n k is

send_keeps : (k : ℕ) → flow_after_send (Ram k) ≡ CopiedFromPart (Ram k)
unfolding flow_after_send
send_keeps k = refl

take_keeps : (waits : Wait) (k : ℕ) → flow_after_take waits (Ram k) ≡ CopiedFromPart (Ram k)
unfolding flow_after_take
take_keeps wait.Nothing k = refl
take_keeps (wait.Fetch sides) k = refl
take_keeps (wait.Read sides) k = refl
take_keeps (wait.Write side) k = refl

by_end : (test : Bool) (some others : ValueFlow) (k : ℕ) → some ≡ CopiedFromPart (Ram k) → others ≡ CopiedFromPart (Ram k) → cond test some others ≡ CopiedFromPart (Ram k)
by_end true some others k first second = first
by_end false some others k first second = second

told_keeps : (told : Option MadeEvent) (before : NodeRecord) (n k : ℕ) → ((m : NodeId) (step : ℕ) (kind : OwnEventKind) → told ≡ Some (made.Own m step kind) → WasNext before kind) → ran_store_opcode told ≡ false
    → optional_event_part_flow told before n (Ram k) ≡ CopiedFromPart (Ram k)
told_keeps None before n k ran is = refl
told_keeps (Some (made.Own m step kind)) before n k ran is = let was = ran m step kind refl in own_keeps was.seen before k (ap is_store_event_kind was.is ∙ is)
told_keeps (Some (made.Pass writer i reader j word)) before n k ran is = by_end (n == reader.number) _ _ k (take_keeps before.wait k) (send_keeps k)

-- a step that ran no store wrote no cell
pub none_written : (s : MachineState) (n cell k : ℕ) (told : Option MadeEvent) → told ≡ slice_get (history_of_node s n) k → ran_store_opcode told ≡ false → None ≡ cell_write_at s n cell k
none_written s n cell k told tells is =
    let none : ran_store_opcode (slice_get (history_of_node s n) k) ≡ false = ap ran_store_opcode (sym tells) ∙ is in
    let same : value_flow_at_step s n k (Ram cell) ≡ CopiedFromPart (Ram cell) = told_keeps (slice_get (history_of_node s n) k) (node_after_steps s n k) n cell (λ m step kind at. ran_so s n k step m kind at) none in
    ap (λ (b : Bool). cond b (option_map (cell_write_of_step (k + 1) (slice_index (node_after_steps s n (k + 1)).ram cell)) (slice_get (history_of_node s n) k)) None) (sym (ap is_cell_written_by_flow same))

-- ---- a store that names another cell leaves a cell as it was

-- a cell keeps its own word where what came after the store leaves it
abbrev Keeps : List FlowChange → ℕ → Type 0
Keeps opcode_flow_changes cell = flows_after_changes opcode_flow_changes CopiedFromPart (Ram cell) ≡ CopiedFromPart (Ram cell)

apart : (other cell : ℕ) → not (other == cell) ≡ true → (cell == other) ≡ false
apart other cell h = go (cell == other) refl
  where
    go : (b : Bool) → (cell == other) ≡ b → b ≡ false
    go false is = refl
    go true is = absurd (wrong (sym (eqb-true cell other is)))
      where
        wrong : other ≡ cell → ⊥
        wrong e = let same : (other == cell) ≡ true = eq-eqb other cell e in cc

plain : (at : AddressTarget) (cell : ℕ) → store_misses_cell (Some at) cell ≡ true → Keeps (write_flow_changes at (PopData ∷ AdvanceSlot ∷ [])) cell
plain (target.Ram other) cell h = ap (λ (b : Bool). cond b (CopiedFromPart top_data_part) (CopiedFromPart (Ram cell))) (apart other cell h)
plain (target.Rom other) cell h = refl
plain target.Io cell h = refl
plain (target.Ports sides) cell h = single (is_single_side_set sides)
  where
    single : (b : Bool) → Keeps (cond b (SetWait ∷ []) (SetStop ∷ [])) cell
    single true = refl
    single false = refl
plain target.Bad cell h = refl

plus : (at : AddressTarget) (cell : ℕ) → store_misses_cell (Some at) cell ≡ true → Keeps (write_flow_changes at (PopData ∷ SetA (flow_from_part A) ∷ AdvanceSlot ∷ [])) cell
plus (target.Ram other) cell h = ap (λ (b : Bool). cond b (CopiedFromPart top_data_part) (CopiedFromPart (Ram cell))) (apart other cell h)
plus (target.Rom other) cell h = refl
plus target.Io cell h = refl
plus (target.Ports sides) cell h = single (is_single_side_set sides)
  where
    single : (b : Bool) → Keeps (cond b (SetWait ∷ []) (SetStop ∷ [])) cell
    single true = refl
    single false = refl
plus target.Bad cell h = refl

-- what comes next in a node that is a store
abbrev Stays : NodeRecord → ℕ → Type 0
Stays n cell = flow_of_own_event n (Ram cell) ≡ CopiedFromPart (Ram cell)

by_due : (n : NodeRecord) (cell : ℕ) (what : NextAction) → next_action_of_node n ≡ what → Keeps (action_flow_changes what n) cell → Stays n cell
unfolding flow_of_own_event
by_due n cell what is keeps = ap (λ (d : NextAction). flows_after_changes (action_flow_changes d n) CopiedFromPart (Ram cell)) is ∙ keeps

named_so : (address other cell : ℕ) → address ≡ other → store_misses_cell (Some (address_target other)) cell ≡ true → store_misses_cell (Some (address_target address)) cell ≡ true
named_so address other cell is h = ap (λ (z : ℕ). store_misses_cell (Some (address_target z)) cell) is ∙ h

own_misses : (n : NodeRecord) (code cell : ℕ) (before : Registers) → n.a ≡ before.a → n.b ≡ before.b → next_action_of_node n ≡ due.Run (opcode_of_code code) → store_misses_cell (store_target code before) cell ≡ true → Stays n cell
own_misses n code cell before a b comes h = go (code == 13) (code == 15) (code == 14) refl refl refl h
  where
    so : (k : ℕ) → (code == k) ≡ true → next_action_of_node n ≡ due.Run (opcode_of_code k)
    so k is = comes ∙ ap (λ (z : ℕ). due.Run (opcode_of_code z)) (eqb-true code k is)

    go : (x y z : Bool) → (code == 13) ≡ x → (code == 15) ≡ y → (code == 14) ≡ z
        → store_misses_cell (cond (x || y) (Some (address_target before.a)) (cond z (Some (address_target before.b)) None)) cell ≡ true → Stays n cell
    go true y z first second third g = by_due n cell (due.Run op.StorePlus) (so 13 first) (plus (address_target n.a) cell (named_so n.a before.a cell a g))
    go false true z first second third g = by_due n cell (due.Run op.Store) (so 15 second) (plain (address_target n.a) cell (named_so n.a before.a cell a g))
    go false false true first second third g = by_due n cell (due.Run op.StoreB) (so 14 third) (plain (address_target n.b) cell (named_so n.b before.b cell b g))
    go false false false first second third g = absurd (cc)

false_true : false ≡ true → ⊥
false_true h = cc

-- of a step of a node
misses_flow : (s : MachineState) (n k cell : ℕ) (told : Option MadeEvent) (before : Registers) → told ≡ slice_get (history_of_node s n) k
    → (node_after_steps s n k).a ≡ before.a → (node_after_steps s n k).b ≡ before.b → event_stores_outside_part told before (Ram cell) ≡ true → value_flow_at_step s n k (Ram cell) ≡ CopiedFromPart (Ram cell)
misses_flow s n k cell (Some (made.Own m step (kind.Run code))) before tells a b h =
    ap (λ (o : Option MadeEvent). optional_event_part_flow o (node_after_steps s n k) n (Ram cell)) (sym tells)
    ∙ own_misses (node_after_steps s n k) code cell before a b (due_told s n k step m (kind.Run code) (due.Run (opcode_of_code code)) (sym tells) refl) h
misses_flow s n k cell (Some (made.Own m step kind.Fetch)) before tells a b h = absurd (false_true h)
misses_flow s n k cell (Some (made.Own m step kind.Wait)) before tells a b h = absurd (false_true h)
misses_flow s n k cell (Some (made.Own m step (kind.Stop code))) before tells a b h = absurd (false_true h)
misses_flow s n k cell (Some (made.Pass writer i reader j word)) before tells a b h = absurd (false_true h)
misses_flow s n k cell None before tells a b h = absurd (false_true h)

pub misses_stays : (s : MachineState) (n k : ℕ) (at : NodePart) (told : Option MadeEvent) (before : Registers) → told ≡ slice_get (history_of_node s n) k
    → (node_after_steps s n k).a ≡ before.a → (node_after_steps s n k).b ≡ before.b → event_stores_outside_part told before at ≡ true → moved_source_part_at s n k at ≡ Some at
misses_stays s n k (Ram cell) told before tells a b h = ap (λ z. moved_source_part z (Ram cell)) (misses_flow s n k cell told before tells a b h)
misses_stays s n k at (Some (made.Own m step (kind.Run code))) before tells a b h = absurd (false_true h)
misses_stays s n k at (Some (made.Own m step kind.Fetch)) before tells a b h = absurd (false_true h)
misses_stays s n k at (Some (made.Own m step kind.Wait)) before tells a b h = absurd (false_true h)
misses_stays s n k at (Some (made.Own m step (kind.Stop code))) before tells a b h = absurd (false_true h)
misses_stays s n k at (Some (made.Pass writer i reader j word)) before tells a b h = absurd (false_true h)
misses_stays s n k at None before tells a b h = absurd (false_true h)

-- and the cell was not written
pub misses_writes : (s : MachineState) (n k cell : ℕ) (told : Option MadeEvent) (before : Registers) → told ≡ slice_get (history_of_node s n) k
    → (node_after_steps s n k).a ≡ before.a → (node_after_steps s n k).b ≡ before.b → event_stores_outside_part told before (Ram cell) ≡ true → None ≡ cell_write_at s n cell k
misses_writes s n k cell told before tells a b h =
    ap (λ (z : Bool). cond z (option_map (cell_write_of_step (k + 1) (slice_index (node_after_steps s n (k + 1)).ram cell)) (slice_get (history_of_node s n) k)) None)
    (sym (ap is_cell_written_by_flow (misses_flow s n k cell told before tells a b h)))
