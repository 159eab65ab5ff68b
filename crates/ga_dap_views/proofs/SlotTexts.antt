-- The opcodes of a word, written slot by slot.
use Rattle.std.proofs.Common.{◌≡◌, ◌<◌, ◌≤◌, ◌+◌, ◌-◌, ◌++◌, ℕ, suc, Bool, true, false, cond, List, [], sym, ap, ◌∙◌, append_assoc, append-nil, arith}
use Rattle.ga_slots.specs.Codes.{name_of_opcode}
use Rattle.ga_slots.specs.Slots.{opcode}
use Rattle.ga_grid.specs.declared.node_id.NodeId.{NodeId}
use Rattle.ga_debug_info.specs.declared.notes.DebugInfo.{DebugInfo}
use Rattle.ga_dap_views.specs.Disassembly.{opcode_with_leading_blank, slot_target_text, ends_instruction_word, slots_text}

-- a slot, and what follows it
slot_then : (notes : DebugInfo) (node : NodeId) (p word slot : ℕ) (ends : Bool) (t t1 t2 : List ℕ) → slot < 4 → t1 ≡ t ++ opcode_with_leading_blank slot (name_of_opcode (opcode word slot)) → t2 ≡ t1 ++ slot_target_text notes node p word slot
    → ends_instruction_word (opcode word slot) ≡ ends → t ++ slots_text notes node p word slot (4 - slot) ≡ t2 ++ cond ends [] (slots_text notes node p word (slot + 1) (4 - (slot + 1)))
unfolding slots_text
slot_then notes node p word slot ends t t1 t2 here first second is =
    let a : List ℕ = opcode_with_leading_blank slot (name_of_opcode (opcode word slot)) in
    let b : List ℕ = slot_target_text notes node p word slot in
    let more : List ℕ = slots_text notes node p word (slot + 1) (4 - (slot + 1)) in
    ap (λ (k : ℕ). t ++ slots_text notes node p word slot k) (let e : 4 - slot ≡ suc (4 - (slot + 1)) = omega arith in e)
    ∙ ap (λ (z : Bool). t ++ ((a ++ b) ++ cond z [] more)) is
    ∙ sym (append_assoc t (a ++ b) (cond ends [] more))
    ∙ ap (λ (z : List ℕ). z ++ cond ends [] more) (sym (append_assoc t a b) ∙ ap (λ (z : List ℕ). z ++ b) (sym first) ∙ sym second)

pub slot_on : (notes : DebugInfo) (node : NodeId) (p word slot : ℕ) (t t1 t2 : List ℕ) → slot < 4 → t1 ≡ t ++ opcode_with_leading_blank slot (name_of_opcode (opcode word slot)) → t2 ≡ t1 ++ slot_target_text notes node p word slot
    → ends_instruction_word (opcode word slot) ≡ false → t ++ slots_text notes node p word slot (4 - slot) ≡ t2 ++ slots_text notes node p word (slot + 1) (4 - (slot + 1))
slot_on notes node p word slot t t1 t2 here first second is = slot_then notes node p word slot false t t1 t2 here first second is

pub slot_last : (notes : DebugInfo) (node : NodeId) (p word slot : ℕ) (t t1 t2 : List ℕ) → slot < 4 → t1 ≡ t ++ opcode_with_leading_blank slot (name_of_opcode (opcode word slot)) → t2 ≡ t1 ++ slot_target_text notes node p word slot
    → ends_instruction_word (opcode word slot) ≡ true → t ++ slots_text notes node p word slot (4 - slot) ≡ t2
slot_last notes node p word slot t t1 t2 here first second is = slot_then notes node p word slot true t t1 t2 here first second is ∙ append-nil t2

pub no_slot : (notes : DebugInfo) (node : NodeId) (p word slot : ℕ) (t : List ℕ) → 4 ≤ slot → t ++ slots_text notes node p word slot (4 - slot) ≡ t
unfolding slots_text
no_slot notes node p word slot t past = ap (λ (k : ℕ). t ++ slots_text notes node p word slot k) (let e : 4 - slot ≡ 0 = omega arith in e) ∙ append-nil t
