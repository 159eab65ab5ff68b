-- A node followed back to where a line of its source began.
use Rattle.std.proofs.Common.{◌≡◌, ◌<◌, ◌+◌, ◌-◌, ℕ, zero, suc, Bool, true, false, cond, Option, refl, sym, ap, ◌∙◌, arith}
use Rattle.ga_slots.specs.declared.op.Op.{Op}
use Rattle.ga_grid.specs.declared.node_id.NodeId.{NodeId}
use Rattle.ga_lab.specs.Machine.{MachineState}
use Rattle.ga_debug_info.specs.declared.notes.DebugInfo.{DebugInfo}
use Rattle.ga_dap_views.specs.declared.spots.SlotAddress.{SlotAddress}
use Rattle.ga_dap_views.specs.Spots.{slot_address_after_steps}
use Rattle.ga_dap_breakpoints.specs.Lines.{op_of_step, previous_step_count_over_calls, line_of_slot_address, enters_line, begins_line_after_step, nearest_line_start}

abbrev ArrivesAtSlot : DebugInfo → MachineState → NodeId → ℕ → Option SlotAddress → Option SlotAddress → Option Op → Bool → Type 0
ArrivesAtSlot notes s node place before spot op begins = begins ≡ enters_line notes node before spot op (line_of_slot_address notes node spot)

began_so : (notes : DebugInfo) (s : MachineState) (node : NodeId) (place left : ℕ) (there spot : Option SlotAddress) (op : Option Op) (begins : Bool) → 0 < place → 0 < left
    → there ≡ slot_address_after_steps s node (previous_step_count_over_calls 0 s node (place - 1)) → spot ≡ slot_address_after_steps s node place → op ≡ op_of_step s node (place - 1) → ArrivesAtSlot notes s node place there spot op begins
    → nearest_line_start notes s node place left ≡ cond begins place (nearest_line_start notes s node (previous_step_count_over_calls 0 s node (place - 1)) (left - 1))
unfolding nearest_line_start
began_so notes s node place left there spot op begins some more there_is spot_is op_is comes =
    let k : ℕ = place - 1 in
    let m : ℕ = left - 1 in
    let at : place ≡ suc k = omega arith in
    let room : left ≡ suc m = omega arith in
    let next : place ≡ k + 1 = omega arith in
    let begins_is : begins ≡ begins_line_after_step 0 notes s node k =
    comes
    ∙ ap (λ (z : Option SlotAddress). enters_line notes node z spot op (line_of_slot_address notes node spot)) there_is
    ∙ ap (λ (z : Option SlotAddress). enters_line notes node (slot_address_after_steps s node (previous_step_count_over_calls 0 s node k)) z op (line_of_slot_address notes node z)) (spot_is ∙ ap (slot_address_after_steps s node) next)
    ∙ ap (λ (z : Option Op). enters_line notes node (slot_address_after_steps s node (previous_step_count_over_calls 0 s node k)) (slot_address_after_steps s node (k + 1)) z (line_of_slot_address notes node (slot_address_after_steps s node (k + 1)))) op_is in
    ap (λ (z : ℕ). nearest_line_start notes s node z left) at
    ∙ ap (nearest_line_start notes s node (suc k)) room
    ∙ ap (λ (b : Bool). cond b (suc k) (nearest_line_start notes s node (previous_step_count_over_calls 0 s node k) m)) (sym begins_is)
    ∙ ap (λ (z : ℕ). cond begins z (nearest_line_start notes s node (previous_step_count_over_calls 0 s node k) m)) (sym at)

pub began_here : (notes : DebugInfo) (s : MachineState) (node : NodeId) (place left : ℕ) (there spot : Option SlotAddress) (op : Option Op) (begins : Bool) → 0 < place → 0 < left
    → there ≡ slot_address_after_steps s node (previous_step_count_over_calls 0 s node (place - 1)) → spot ≡ slot_address_after_steps s node place → op ≡ op_of_step s node (place - 1) → ArrivesAtSlot notes s node place there spot op begins
    → begins ≡ true → nearest_line_start notes s node place left ≡ place
began_here notes s node place left there spot op begins some more there_is spot_is op_is comes is =
    began_so notes s node place left there spot op begins some more there_is spot_is op_is comes
    ∙ ap (λ (b : Bool). cond b place (nearest_line_start notes s node (previous_step_count_over_calls 0 s node (place - 1)) (left - 1))) is

pub began_before : (notes : DebugInfo) (s : MachineState) (node : NodeId) (place left : ℕ) (there spot : Option SlotAddress) (op : Option Op) (begins : Bool) → 0 < place → 0 < left
    → there ≡ slot_address_after_steps s node (previous_step_count_over_calls 0 s node (place - 1)) → spot ≡ slot_address_after_steps s node place → op ≡ op_of_step s node (place - 1) → ArrivesAtSlot notes s node place there spot op begins
    → begins ≡ false → nearest_line_start notes s node place left ≡ nearest_line_start notes s node (previous_step_count_over_calls 0 s node (place - 1)) (left - 1)
began_before notes s node place left there spot op begins some more there_is spot_is op_is comes is =
    began_so notes s node place left there spot op begins some more there_is spot_is op_is comes
    ∙ ap (λ (b : Bool). cond b place (nearest_line_start notes s node (previous_step_count_over_calls 0 s node (place - 1)) (left - 1))) is

pub began_at_load : (notes : DebugInfo) (s : MachineState) (node : NodeId) (place left : ℕ) → place ≡ 0 → nearest_line_start notes s node place left ≡ 0
unfolding nearest_line_start
began_at_load notes s node place left first = ap (λ (z : ℕ). nearest_line_start notes s node z left) first

pub none_looked_at : (notes : DebugInfo) (s : MachineState) (node : NodeId) (place left : ℕ) → left ≡ 0 → nearest_line_start notes s node place left ≡ 0
unfolding nearest_line_start
none_looked_at notes s node zero left none = refl
none_looked_at notes s node (suc k) left none = ap (nearest_line_start notes s node (suc k)) none
