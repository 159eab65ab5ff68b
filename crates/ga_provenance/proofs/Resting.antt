-- A register or a cell: what it held right before a step, and the steps that leave it as it was.
use Rattle.std.proofs.Common.{◌≡◌, ℕ, ◌+◌, ◌<◌, ◌≤◌, take, arith, ◌==◌, ◌/◌, ◌^◌, Bool, true, false, cond, List, [], ◌∷◌, ◌++◌, Option, Some, None, refl, sym, ap, ◌∙◌}
use Rattle.ga_node.specs.declared.place.NodePlace.{NodePlace}
use Rattle.ga_node.specs.Record.{NodeRecord}
use Rattle.ga_grid.specs.Chip.{node_record_at}
use Rattle.ga_event.specs.Told.{count_steps}
use Rattle.ga_lab.specs.Machine.{MachineState, chip_of_machine, earlier_state, history_of_node}
use Rattle.ga_lab.specs.Holding.{HoldsPlaceValue}
use Rattle.ga_provenance.specs.declared.kept.TrackedPlace.{TrackedPlace}
use Rattle.ga_provenance.specs.declared.kept.TrackedPlace.TheVariants.{A, B, Ram}
use Rattle.ga_provenance.specs.Origins.{event_count_through_steps, node_after_steps}
use Rattle.ga_provenance.specs.inner.{tracked_place_in_node, tracked_word_in_node, may_opcode_write_tracked_place, is_unchanged_by_own_event, is_unchanged_by_step, HasMachineAllNodes}
use Rattle.ga_provenance.proofs.Made.{place_holds}
use Rattle.std.specs.List.{slice_get}
use Rattle.ga_slots.specs.declared.op.Op.{Op}
use Rattle.ga_slots.specs.declared.op.Op.TheVariants as op
use Rattle.ga_ports.specs.Address.{address_target, is_single_side_set, side_of_single_set}
use Rattle.ga_ports.specs.declared.address.AddressTarget.{AddressTarget}
use Rattle.ga_ports.specs.declared.address.AddressTarget.TheVariants as target
use Rattle.ga_node.specs.Changes.{NodeChange, SetA, SetB, SetRam, SetIo, SetWait, SetStop, node_after_change, node_after_changes}
use Rattle.ga_node.specs.Table.{register_t, register_r, has_extended_arithmetic, next_action_of_node, target_read_result, target_write_result, access_with_following_changes, wait_effect, stop_effect, reader_wait, own_event_after_access, event_kind_and_changes_of_action, own_event, own}
use Rattle.ga_node.specs.declared.kind.OwnEventKind.{OwnEventKind}
use Rattle.ga_node.specs.declared.kind.OwnEventKind.TheVariants as kind
use Rattle.ga_node.specs.declared.seen.SeenNeighbours.{SeenNeighbours}
use Rattle.ga_node.specs.declared.due.NextAction.{NextAction}
use Rattle.ga_node.specs.declared.due.NextAction.TheVariants as due
use Rattle.ga_node.specs.declared.wait.Wait.TheVariants as wait
use Rattle.ga_node.specs.declared.wait.ReadKind.{ReadKind}
use Rattle.ga_node.specs.declared.wait.ReadKind.TheVariants.{Instruction, Stack}
use Rattle.ga_event.specs.declared.made.MadeEvent.{MadeEvent}
use Rattle.ga_event.specs.declared.made.MadeEvent.TheVariants as made
use Rattle.ga_provenance.proofs.Ran.{became_so}

-- ---- a node's value right before a step, by the step's entry

-- the old value, if the step's entry has it
pub held_old : (s : MachineState) (n at old : ℕ) (what : NodePlace) → at < count_steps n s.kept
    → ((place : ℕ) → count_steps n (take place s.kept) ≡ at → HoldsPlaceValue (node_record_at (chip_of_machine (earlier_state s place)) n) what old) → HoldsPlaceValue (node_after_steps s n at) what old
held_old s n at old what within there = there (event_count_through_steps s.kept n at) (place_holds s.kept n at (omega (arith, within)))

-- and where the step left it
pub held_left : (s : MachineState) (n at value : ℕ) (what : NodePlace) → at + 1 ≤ count_steps n s.kept
    → ((before behind v : ℕ) → count_steps n (take before s.kept) ≡ at → count_steps n (take behind s.kept) ≡ at + 1
    → HoldsPlaceValue (node_record_at (chip_of_machine (earlier_state s behind)) n) what v → HoldsPlaceValue (node_record_at (chip_of_machine (earlier_state s before)) n) what v)
    → HoldsPlaceValue (node_after_steps s n (at + 1)) what value → HoldsPlaceValue (node_after_steps s n at) what value
held_left s n at value what within left held =
    left (event_count_through_steps s.kept n at) (event_count_through_steps s.kept n (at + 1)) value (place_holds s.kept n at (omega (arith, within))) (place_holds s.kept n (at + 1) within) held

-- a tracked word is the value of its place
pub word_held : (kept : TrackedPlace) (node : NodeRecord) (word : ℕ) → HoldsPlaceValue node (tracked_place_in_node kept) word → tracked_word_in_node kept node ≡ word
word_held A node word h = h
word_held B node word h = h
word_held (Ram cell) node word h = h

pub held_word : (kept : TrackedPlace) (node : NodeRecord) (word : ℕ) → tracked_word_in_node kept node ≡ word → HoldsPlaceValue node (tracked_place_in_node kept) word
held_word A node word h = h
held_word B node word h = h
held_word (Ram cell) node word h = h

-- ---- steps that leave a register or a cell as it was

-- a change of something else
abbrev Spares : NodeChange → TrackedPlace → Type 0
Spares (SetA word) A = ⊥
Spares (SetB word) B = ⊥
Spares (SetRam other word) (Ram cell) = ⊥
Spares change kept = Unit {0}

abbrev Spare : List NodeChange → TrackedPlace → Type 0
Spare [] kept = Unit {0}
Spare (change ∷ rest) kept = Spares change kept × Spare rest kept

stays : (change : NodeChange) (kept : TrackedPlace) (n : NodeRecord) → Spares change kept → tracked_word_in_node kept (node_after_change change n) ≡ tracked_word_in_node kept n
stays (SetA word) A n spares = absurd spares
stays (SetB word) B n spares = absurd spares
stays (SetRam other word) (Ram cell) n spares = absurd spares
stays change A n spares = refl
stays change B n spares = refl
stays change (Ram cell) n spares = refl

-- after these changes it holds what it held
abbrev Rest : TrackedPlace → List NodeChange → NodeRecord → Type 0
Rest kept changes n = tracked_word_in_node kept (node_after_changes changes n) ≡ tracked_word_in_node kept n

spared : (kept : TrackedPlace) (n : NodeRecord) (changes : List NodeChange) → Spare changes kept → Rest kept changes n
spared kept n [] spares = refl
spared kept n (change ∷ rest) spares = spared kept (node_after_change change n) rest spares.1 ∙ stays change kept n spares.0

-- so after an event that came out as this
abbrev RestBy : TrackedPlace → OwnEventKind × List NodeChange → NodeRecord → Type 0
RestBy kept event n = is_unchanged_by_own_event kept event.0 ≡ true → Rest kept event.1 n

by_test : (kept : TrackedPlace) (test : Bool) (some others : List NodeChange) (n : NodeRecord) → Spare some kept → Spare others kept → Rest kept (cond test some others) n
by_test kept true some others n first second = spared kept n some first
by_test kept false some others n first second = spared kept n others second

by_read : (kept : TrackedPlace) (ran : OwnEventKind) (target : AddressTarget) (reader : ReadKind) (seen : SeenNeighbours) (n : NodeRecord) (more : ℕ → List NodeChange)
    → ((word : ℕ) → is_unchanged_by_own_event kept ran ≡ true → Spare (more word) kept) → RestBy kept (own_event_after_access ran (access_with_following_changes (target_read_result target reader seen n) more)) n
unfolding target_read_result access_with_following_changes
by_read kept ran (target.Ram c) reader seen n more gave h = spared kept n _ (gave _ h)
by_read kept ran (target.Rom c) reader seen n more gave h = spared kept n _ (gave _ h)
by_read kept ran target.Io reader seen n more gave h = spared kept n _ (gave _ h)
by_read kept ran (target.Ports sides) reader seen n more gave h = spared kept n (SetWait (reader_wait reader sides) ∷ []) (tt, tt)
by_read kept ran target.Bad reader seen n more gave h = spared kept n (SetStop 2 ∷ []) (tt, tt)

by_write : (kept : TrackedPlace) (ran : OwnEventKind) (target : AddressTarget) (n : NodeRecord) (more : List NodeChange)
    → ((cell : ℕ) → is_unchanged_by_own_event kept ran ≡ true → Spares (SetRam cell (register_t n)) kept) → (is_unchanged_by_own_event kept ran ≡ true → Spare more kept)
    → RestBy kept (own_event_after_access ran (access_with_following_changes (target_write_result target n) (λ changes. changes ++ more))) n
unfolding target_write_result access_with_following_changes
by_write kept ran (target.Ram c) n more ram rest h = spared kept n (SetRam c (register_t n) ∷ more) (ram c h, rest h)
by_write kept ran (target.Rom c) n more ram rest h = spared kept n more (rest h)
by_write kept ran target.Io n more ram rest h = spared kept n (SetIo (register_t n) ∷ more) (tt, rest h)
by_write kept ran (target.Ports sides) n more ram rest h = at_port (is_single_side_set sides)
  where
    at_port : (single : Bool) → Rest kept (cond single (wait_effect (wait.Write (side_of_single_set sides))) (stop_effect 1)).1 n
    at_port true = spared kept n (SetWait (wait.Write (side_of_single_set sides)) ∷ []) (tt, tt)
    at_port false = spared kept n (SetStop 1 ∷ []) (tt, tt)
by_write kept ran target.Bad n more ram rest h = spared kept n (SetStop 2 ∷ []) (tt, tt)

-- an opcode that may write there is none that leaves it
no_a : (kept : TrackedPlace) (code : ℕ) → may_opcode_write_tracked_place A code ≡ true → is_unchanged_by_own_event kept (kind.Run code) ≡ true → Spares (SetA 0) kept
no_a A code is h = absurd (cc)
no_a B code is h = tt
no_a (Ram cell) code is h = tt

no_b : (kept : TrackedPlace) (code : ℕ) → may_opcode_write_tracked_place B code ≡ true → is_unchanged_by_own_event kept (kind.Run code) ≡ true → Spares (SetB 0) kept
no_b A code is h = tt
no_b B code is h = absurd (cc)
no_b (Ram cell) code is h = tt

no_ram : (kept : TrackedPlace) (code cell : ℕ) → code / 4 ≡ 3 → is_unchanged_by_own_event kept (kind.Run code) ≡ true → Spares (SetRam cell 0) kept
no_ram A code cell is h = tt
no_ram B code cell is h = tt
no_ram (Ram other) code cell is h = absurd (cc)

op_rests : (o : Op) (seen : SeenNeighbours) (n : NodeRecord) (kept : TrackedPlace) → RestBy kept (event_kind_and_changes_of_action (due.Run o) seen n) n
op_rests op.Return seen n kept h = spared kept n (event_kind_and_changes_of_action (due.Run op.Return) seen n).1 (tt, (tt, (tt, tt)))
op_rests op.Execute seen n kept h = spared kept n (event_kind_and_changes_of_action (due.Run op.Execute) seen n).1 (tt, (tt, (tt, tt)))
op_rests op.Jump seen n kept h = spared kept n (event_kind_and_changes_of_action (due.Run op.Jump) seen n).1 (tt, (tt, tt))
op_rests op.Call seen n kept h = spared kept n (event_kind_and_changes_of_action (due.Run op.Call) seen n).1 (tt, (tt, (tt, tt)))
op_rests op.Unext seen n kept h = by_test kept (register_r n == 0) _ _ n (tt, (tt, tt)) (tt, (tt, tt))
op_rests op.Next seen n kept h = by_test kept (register_r n == 0) _ _ n (tt, (tt, tt)) (tt, (tt, (tt, tt)))
op_rests op.If seen n kept h = by_test kept (register_t n == 0) _ _ n (tt, (tt, tt)) (tt, tt)
op_rests op.MinusIf seen n kept h = by_test kept (register_t n / 2 ^ 17 == 0) _ _ n (tt, (tt, tt)) (tt, tt)
op_rests op.FetchP seen n kept h = by_read kept (kind.Run 8) (address_target n.p) Stack seen n _ (λ word g. (tt, (tt, (tt, tt)))) h
op_rests op.FetchPlus seen n kept h = by_read kept (kind.Run 9) (address_target n.a) Stack seen n _ (λ word g. (tt, (no_a kept 9 refl g, (tt, tt)))) h
op_rests op.FetchB seen n kept h = by_read kept (kind.Run 10) (address_target n.b) Stack seen n _ (λ word g. (tt, (tt, tt))) h
op_rests op.Fetch seen n kept h = by_read kept (kind.Run 11) (address_target n.a) Stack seen n _ (λ word g. (tt, (tt, tt))) h
op_rests op.StoreP seen n kept h = by_write kept (kind.Run 12) (address_target n.p) n _ (λ c g. no_ram kept 12 c refl g) (λ g. (tt, (tt, (tt, tt)))) h
op_rests op.StorePlus seen n kept h = by_write kept (kind.Run 13) (address_target n.a) n _ (λ c g. no_ram kept 13 c refl g) (λ g. (tt, (no_a kept 13 refl g, (tt, tt)))) h
op_rests op.StoreB seen n kept h = by_write kept (kind.Run 14) (address_target n.b) n _ (λ c g. no_ram kept 14 c refl g) (λ g. (tt, (tt, tt))) h
op_rests op.Store seen n kept h = by_write kept (kind.Run 15) (address_target n.a) n _ (λ c g. no_ram kept 15 c refl g) (λ g. (tt, (tt, tt))) h
op_rests op.MultiplyStep seen n kept h = spared kept n (event_kind_and_changes_of_action (due.Run op.MultiplyStep) seen n).1 (no_a kept 16 refl h, (tt, (tt, tt)))
op_rests op.TwoStar seen n kept h = spared kept n (event_kind_and_changes_of_action (due.Run op.TwoStar) seen n).1 (tt, (tt, tt))
op_rests op.TwoSlash seen n kept h = spared kept n (event_kind_and_changes_of_action (due.Run op.TwoSlash) seen n).1 (tt, (tt, tt))
op_rests op.Invert seen n kept h = spared kept n (event_kind_and_changes_of_action (due.Run op.Invert) seen n).1 (tt, (tt, tt))
op_rests op.Plus seen n kept h = by_test kept (has_extended_arithmetic n) _ _ n (tt, (tt, (tt, tt))) (tt, (tt, tt))
op_rests op.And seen n kept h = spared kept n (event_kind_and_changes_of_action (due.Run op.And) seen n).1 (tt, (tt, tt))
op_rests op.Or seen n kept h = spared kept n (event_kind_and_changes_of_action (due.Run op.Or) seen n).1 (tt, (tt, tt))
op_rests op.Drop seen n kept h = spared kept n (event_kind_and_changes_of_action (due.Run op.Drop) seen n).1 (tt, (tt, tt))
op_rests op.Dup seen n kept h = spared kept n (event_kind_and_changes_of_action (due.Run op.Dup) seen n).1 (tt, (tt, tt))
op_rests op.Pop seen n kept h = spared kept n (event_kind_and_changes_of_action (due.Run op.Pop) seen n).1 (tt, (tt, (tt, tt)))
op_rests op.Over seen n kept h = spared kept n (event_kind_and_changes_of_action (due.Run op.Over) seen n).1 (tt, (tt, tt))
op_rests op.A seen n kept h = spared kept n (event_kind_and_changes_of_action (due.Run op.A) seen n).1 (tt, (tt, tt))
op_rests op.Nop seen n kept h = spared kept n (event_kind_and_changes_of_action (due.Run op.Nop) seen n).1 (tt, tt)
op_rests op.Push seen n kept h = spared kept n (event_kind_and_changes_of_action (due.Run op.Push) seen n).1 (tt, (tt, (tt, tt)))
op_rests op.BStore seen n kept h = spared kept n (event_kind_and_changes_of_action (due.Run op.BStore) seen n).1 (no_b kept 30 refl h, (tt, (tt, tt)))
op_rests op.AStore seen n kept h = spared kept n (event_kind_and_changes_of_action (due.Run op.AStore) seen n).1 (no_a kept 31 refl h, (tt, (tt, tt)))

due_rests : (what : NextAction) (seen : SeenNeighbours) (n : NodeRecord) (kept : TrackedPlace) → RestBy kept (event_kind_and_changes_of_action what seen n) n
due_rests due.Fetch seen n kept h = by_read kept kind.Fetch (address_target n.p) Instruction seen n _ (λ word g. (tt, (tt, (tt, tt)))) h
due_rests (due.Run o) seen n kept h = op_rests o seen n kept h

own_rests : (seen : SeenNeighbours) (n : NodeRecord) (kept : TrackedPlace) → is_unchanged_by_own_event kept (own seen n).0 ≡ true → tracked_word_in_node kept (own seen n).1 ≡ tracked_word_in_node kept n
unfolding own own_event
own_rests seen n kept h = due_rests (next_action_of_node n) seen n kept h

-- ---- of a step of a node

told_rests : (s : MachineState) (n k : ℕ) (kept : TrackedPlace) (told : Option MadeEvent) → HasMachineAllNodes s → slice_get (history_of_node s n) k ≡ told → is_unchanged_by_step kept told ≡ true
    → tracked_word_in_node kept (node_after_steps s n (k + 1)) ≡ tracked_word_in_node kept (node_after_steps s n k)
told_rests s n k kept None whole is h = absurd (cc)
told_rests s n k kept (Some (made.Own m step ran)) whole is h =
    let became = became_so s n k step m ran whole is in
    ap (tracked_word_in_node kept) became.next ∙ own_rests became.seen (node_after_steps s n k) kept (ap (is_unchanged_by_own_event kept) became.ran ∙ h)
told_rests s n k kept (Some (made.Pass writer i reader j word)) whole is h = absurd (cc)

pub word_rests : (s : MachineState) (n k word : ℕ) (kept : TrackedPlace) (told : Option MadeEvent) → HasMachineAllNodes s → told ≡ slice_get (history_of_node s n) k → is_unchanged_by_step kept told ≡ true
    → tracked_word_in_node kept (node_after_steps s n (k + 1)) ≡ word → tracked_word_in_node kept (node_after_steps s n k) ≡ word
word_rests s n k word kept told whole tells h behind = sym (told_rests s n k kept told whole (sym tells) h) ∙ behind
