-- Entries of the return stack, followed back.
use Rattle.std.proofs.Common.{◌≡◌, ◌<◌, ◌-◌, ℕ, suc, List, [], ◌∷◌, map, Option, Some, None, refl, sym, ap, ◌∙◌, arith}
use Rattle.std.specs.Prelude.{option_map, unwrap_or}
use Rattle.std.specs.List.{range_with_len}
use Rattle.ga_grid.specs.declared.node_id.NodeId.{NodeId}
use Rattle.ga_lab.specs.Machine.{MachineState}
use Rattle.ga_event.specs.declared.flow.part.NodePart.TheVariants as part
use Rattle.ga_provenance.specs.Origins.{value_flow_at_step}
use Rattle.ga_dap_views.specs.declared.calls.ReturnStackEffect.{ReturnStackEffect}
use Rattle.ga_dap_views.specs.Calls.{step_pushing_return_entry, previous_return_entry_index, previous_return_entry_indices}
use Rattle.ga_dap_views.specs.inner.{return_stack_effect_of_step, return_entry_index_before_effect}
use Rattle.ga_dap_views.proofs.Shifts.{shifted}

same_map : {A : Type 0} {B : Type 0} (f g : A → B) → ((x : A) → f x ≡ g x) → (xs : List A) → map f xs ≡ map g xs
same_map f g same [] = refl
same_map {A} {B} f g same (x ∷ xs) = ap (λ (z : B). z ∷ map f xs) (same x) ∙ ap (λ (z : List B). g x ∷ z) (same_map f g same xs)

pub entries_so : (s : MachineState) (node : NodeId) (k : ℕ) (by : ReturnStackEffect) → by ≡ return_stack_effect_of_step s node.number k → map (return_entry_index_before_effect by) (range_with_len 0 9) ≡ previous_return_entry_indices s node k
entries_so s node k by is =
    ap (λ (z : ReturnStackEffect). map (return_entry_index_before_effect z) (range_with_len 0 9)) is
    ∙ same_map (return_entry_index_before_effect (return_stack_effect_of_step s node.number k)) (λ p. previous_return_entry_index (value_flow_at_step s node.number k (part.Return p)) p) (λ p. sym (shifted s node.number k p)) (range_with_len 0 9)

put_so : (s : MachineState) (node : NodeId) (left place : ℕ) (by : ReturnStackEffect) (came : Option ℕ) → 0 < left → by ≡ return_stack_effect_of_step s node.number (left - 1) → came ≡ return_entry_index_before_effect by place
    → step_pushing_return_entry s node left place ≡ unwrap_or (option_map (step_pushing_return_entry s node (left - 1)) came) left
put_so s node left place by came some is flows_after_change =
    let k : ℕ = left - 1 in
    let here : left ≡ suc k = omega arith in
    ap (λ (z : ℕ). step_pushing_return_entry s node z place) here
    ∙ ap (λ (o : Option ℕ). unwrap_or (option_map (step_pushing_return_entry s node k) o) (suc k)) (shifted s node.number k place ∙ ap (λ (z : ReturnStackEffect). return_entry_index_before_effect z place) (sym is) ∙ sym flows_after_change)
    ∙ ap (λ (z : ℕ). unwrap_or (option_map (step_pushing_return_entry s node k) came) z) (sym here)

pub put_before : (s : MachineState) (node : NodeId) (left place from : ℕ) (by : ReturnStackEffect) → 0 < left → by ≡ return_stack_effect_of_step s node.number (left - 1) → Some from ≡ return_entry_index_before_effect by place
    → step_pushing_return_entry s node left place ≡ step_pushing_return_entry s node (left - 1) from
put_before s node left place from by some is flows_after_change = put_so s node left place by (Some from) some is flows_after_change

pub put_here : (s : MachineState) (node : NodeId) (left place : ℕ) (by : ReturnStackEffect) → 0 < left → by ≡ return_stack_effect_of_step s node.number (left - 1) → None ≡ return_entry_index_before_effect by place
    → step_pushing_return_entry s node left place ≡ left
put_here s node left place by some is flows_after_change = put_so s node left place by None some is flows_after_change

pub put_at_load : (s : MachineState) (node : NodeId) (left place : ℕ) → left ≡ 0 → step_pushing_return_entry s node left place ≡ 0
put_at_load s node left place first = ap (λ (z : ℕ). step_pushing_return_entry s node z place) first
