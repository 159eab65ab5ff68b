-- The effect of a step, as made, on the entries of the return stack (F18A Technology Reference DB001, opcodes), and a window of
-- entries that are followed back.
use Rattle.ga_slots.specs.declared.op.Op.TheVariants as op
use Rattle.ga_node.specs.declared.kind.OwnEventKind.TheVariants as kind
use Rattle.ga_event.specs.declared.made.MadeEvent.TheVariants as made
use Rattle.ga_dap_views.specs.declared.calls.ReturnStackEffect.TheVariants as shift
use Rattle.std.specs.Prelude.{ℕ, ◌+◌, ◌-◌, ◌%◌, ◌==◌, Bool, true, false, ◌&&◌, if◌then◌else◌, List, [], ◌∷◌, ◌++◌, map, filter, Option, Some, None, option_map, unwrap_or, ◌≡◌}
use Rattle.std.specs.List.{range_with_len, slice_get}
use Rattle.ga_slots.specs.declared.op.Op.{Op}
use Rattle.ga_slots.specs.Codes.{opcode_of_code}
use Rattle.ga_node.specs.Table.{register_r}
use Rattle.ga_node.specs.declared.kind.OwnEventKind.{OwnEventKind}
use Rattle.ga_event.specs.declared.made.MadeEvent.{MadeEvent}
use Rattle.ga_lab.specs.Machine.{MachineState, history_of_node}
use Rattle.ga_provenance.specs.Origins.{node_after_steps}
use Rattle.ga_dap_views.specs.declared.calls.ReturnStackEffect.{ReturnStackEffect}
use Rattle.ga_dap_views.specs.declared.calls.Window.{Window}

-- what an opcode that counts R down does to the entries, where R is 0 before it or not
abbrev pub count_down_return_stack_effect : Bool → ReturnStackEffect
count_down_return_stack_effect true = shift.Pops
count_down_return_stack_effect false = shift.Replaces

abbrev pub return_stack_effect_of_opcode : Op → Bool → ReturnStackEffect
return_stack_effect_of_opcode op.Return last = shift.Pops  -- 00 ;
return_stack_effect_of_opcode op.Execute last = shift.Replaces  -- 01 ex
return_stack_effect_of_opcode op.Call last = shift.Calls  -- 03 call
return_stack_effect_of_opcode op.Unext last = count_down_return_stack_effect last  -- 04 unext
return_stack_effect_of_opcode op.Next last = count_down_return_stack_effect last  -- 05 next
return_stack_effect_of_opcode op.Pop last = shift.Pops  -- 19 pop
return_stack_effect_of_opcode op.Push last = shift.Pushes  -- 1d push
return_stack_effect_of_opcode _ last = shift.Stays

-- the effect of an event of a node's own on the entries, and in `return_stack_effect_of_event` that of a step as made
abbrev pub return_stack_effect_by_kind : OwnEventKind → Bool → ReturnStackEffect
return_stack_effect_by_kind (kind.Run code) last = return_stack_effect_of_opcode (opcode_of_code (code % 32)) last
return_stack_effect_by_kind _ last = shift.Stays

abbrev pub return_stack_effect_of_event : Option MadeEvent → Bool → ReturnStackEffect
return_stack_effect_of_event (Some (made.Own node step kind)) last = return_stack_effect_by_kind kind last
return_stack_effect_of_event _ last = shift.Stays

abbrev pub return_stack_effect_of_step : MachineState → ℕ → ℕ → ReturnStackEffect
return_stack_effect_of_step s n k = return_stack_effect_of_event (slice_get (history_of_node s n) k) (register_r (node_after_steps s n k) == 0)

-- the place of an entry before a step, by its place after it; none if it is new, or a copy in the last place
abbrev pub return_entry_index_before_effect : ReturnStackEffect → ℕ → Option ℕ
return_entry_index_before_effect shift.Stays place = Some place
return_entry_index_before_effect shift.Calls place = if place == 0 then None else Some (place - 1)
return_entry_index_before_effect shift.Pushes place = if place == 0 then None else Some (place - 1)
return_entry_index_before_effect shift.Pops place = if place == 8 then None else Some (place + 1)
return_entry_index_before_effect shift.Replaces place = if place == 0 then None else Some place

abbrev pub is_call_return_stack_effect : ReturnStackEffect → Bool
is_call_return_stack_effect shift.Calls = true
is_call_return_stack_effect _ = false

-- the values of f at `left` places from one on, those that are calls
abbrev pub mapped_values_that_are_calls : (ℕ → Bool) → (ℕ → ℕ) → ℕ → ℕ → List ℕ
mapped_values_that_are_calls calls f place left = filter calls (map f (range_with_len place left))

-- the new entry, if it is first in the window and that of a call
abbrev pub new_call_entry_at_window_start : ReturnStackEffect → ℕ → ℕ → List ℕ
new_call_entry_at_window_start by place new = if is_call_return_stack_effect by && place == 0 then new ∷ [] else []

-- the entries of a window after a step are the new one, if that is a call's, and those of this window before it
abbrev pub IsCallWindowBeforeStep : ReturnStackEffect → Window → Window → Type 0
IsCallWindowBeforeStep by behind before =
    (calls : ℕ → Bool) (f : ℕ → ℕ) (new : ℕ) → calls new ≡ is_call_return_stack_effect by
    → mapped_values_that_are_calls calls (λ place. unwrap_or (option_map f (return_entry_index_before_effect by place)) new) behind.place behind.left ≡ new_call_entry_at_window_start by behind.place new ++ mapped_values_that_are_calls calls f before.place before.left
