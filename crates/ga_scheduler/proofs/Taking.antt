-- Telling what a rollback would take.
use Rattle.std.proofs.Common.{◌≡◌, ◌≢◌, ℕ, zero, suc, ◌+◌, ◌-◌, ◌<◌, ◌≤◌, List, [], ◌∷◌, ◌++◌, refl, sym, ◌∙◌, ap, arith, append-nil, add-one, eq-eqb}
use Rattle.std.specs.Prelude.{◌==◌, slice_index}
use Rattle.std.proofs.lemmas.Bool.{cond-true, cond-false, ne_eqb}
use Rattle.ga_grid.specs.Grid.{node_id}
use Rattle.ga_grid.specs.declared.node_id.NodeId.{NodeId}
use Rattle.ga_grid.proofs.NodeIds.{node_id-number}
use Rattle.ga_event.specs.Told.{count_steps}
use Rattle.ga_lab.specs.Machine.{MachineState}
use Rattle.ga_scheduler.specs.declared.effects.RollbackEffect.{RollbackEffect}
use Rattle.ga_scheduler.specs.Effects.{step_count_in_history, rollback_effect_on_node, rollback_effects_below_node}

-- a node of which no step would be removed isn't listed
pub told_none : (left all : ℕ → ℕ) (m : ℕ) → left m ≡ all m → (items : List RollbackEffect) → items ≡ items ++ rollback_effect_on_node left all m
told_none left all m e items =
    sym (append-nil items) ∙ ap (λ z. items ++ z) (sym (cond-true (left m == all m) [] _ (eq-eqb (left m) (all m) e)))

-- one node more
pub effects_more : (left all : ℕ → ℕ) (m : ℕ) → rollback_effects_below_node left all (m + 1) ≡ rollback_effects_below_node left all m ++ rollback_effect_on_node left all m
unfolding rollback_effects_below_node
effects_more left all m = rw add-one refl

pub effects_none : (left all : ℕ → ℕ) → rollback_effects_below_node left all 0 ≡ []
unfolding rollback_effects_below_node
effects_none left all = refl

-- the entry of a node of which some steps would be removed
pub told_some : (left all : ℕ → ℕ) (node : NodeId) (steps first : ℕ) → steps + left node.number ≡ all node.number → 0 < steps → first ≡ all node.number - steps + 1
    → record { node = node; first = first; steps = steps } ∷ [] ≡ rollback_effect_on_node left all node.number
told_some left all node steps first e some f =
    let ne : left node.number ≢ all node.number = λ q. absurd (omega (arith, e, some, q)) in
    let a : first ≡ left node.number + 1 = omega (arith, e, f) in
    let b : steps ≡ all node.number - left node.number = omega (arith, e) in
    let same : node ≡ node_id node.number = sym (node_id-number node) in
    ap (λ (z : NodeId). let r : List RollbackEffect = record { node = z; first = first; steps = steps } ∷ [] in r) same
    ∙ ap (λ (z : ℕ). let r : List RollbackEffect = record { node = node_id node.number; first = z; steps = steps } ∷ [] in r) a
    ∙ ap (λ (z : ℕ). let r : List RollbackEffect = record { node = node_id node.number; first = left node.number + 1; steps = z } ∷ [] in r) b
    ∙ sym (cond-false (left node.number == all node.number) [] _ (ne_eqb (left node.number) (all node.number) ne))

-- one more node is listed
pub effects_step : (left all : ℕ → ℕ) (m n : ℕ) (items new : List RollbackEffect) → n ≡ m → items ≡ rollback_effects_below_node left all m → new ≡ items ++ rollback_effect_on_node left all n → new ≡ rollback_effects_below_node left all (m + 1)
effects_step left all m n items new e h g =
    g ∙ ap (λ z. z ++ rollback_effect_on_node left all n) h ∙ ap (λ (z : ℕ). rollback_effects_below_node left all m ++ rollback_effect_on_node left all z) e ∙ sym (effects_more left all m)

-- nodes of which all would be left
idle_one : (left all : ℕ → ℕ) (m : ℕ) → left m ≡ all m → rollback_effects_below_node left all (suc m) ≡ rollback_effects_below_node left all m
unfolding rollback_effects_below_node
idle_one left all m e = sym (told_none left all m e (rollback_effects_below_node left all m))

idle_from : (left all : ℕ → ℕ) (a d : ℕ) → ((m : ℕ) → a ≤ m → left m ≡ all m) → rollback_effects_below_node left all (d + a) ≡ rollback_effects_below_node left all a
idle_from left all a zero idle = ap (rollback_effects_below_node left all) (let q : 0 + a ≡ a = omega arith in q)
idle_from left all a (suc d) idle =
    ap (rollback_effects_below_node left all) (let q : suc d + a ≡ suc (d + a) = omega arith in q)
    ∙ idle_one left all (d + a) (idle (d + a) (omega arith)) ∙ idle_from left all a d idle

idle_below : (left all : ℕ → ℕ) (a : ℕ) → ((m : ℕ) → m < a → left m ≡ all m) → rollback_effects_below_node left all a ≡ []
idle_below left all zero idle = effects_none left all
idle_below left all (suc a) idle = idle_one left all a (idle a (omega arith)) ∙ idle_below left all a (λ m l. idle m (omega arith))

-- of a node of which no step would go all would be left
all_left : (left : ℕ → ℕ) (steps : List ℕ) (s : MachineState) (m : ℕ) → slice_index steps m + left m ≡ count_steps m s.kept → slice_index steps m ≡ 0 → left m ≡ step_count_in_history s m
all_left left steps s m e none = omega (arith, e, none)

-- so no node below the first of which a step would be removed is listed
pub told_below : (left : ℕ → ℕ) (steps : List ℕ) (s : MachineState) (first : ℕ) → ((m : ℕ) → m < first → slice_index steps m ≡ 0) → ((m : ℕ) → slice_index steps m + left m ≡ count_steps m s.kept)
    → rollback_effects_below_node left (step_count_in_history s) first ≡ []
told_below left steps s first none each = idle_below left (step_count_in_history s) first (λ m l. all_left left steps s m (each m) (none m l))

-- and of none past the last
pub told_past : (left : ℕ → ℕ) (steps : List ℕ) (s : MachineState) (past n : ℕ) → past ≤ 144 → past ≤ n → ((m : ℕ) → past ≤ m → slice_index steps m ≡ 0) → ((m : ℕ) → slice_index steps m + left m ≡ count_steps m s.kept)
    → rollback_effects_below_node left (step_count_in_history s) n ≡ rollback_effects_below_node left (step_count_in_history s) 144
told_past left steps s past n fits beyond none each =
    let idle : (m : ℕ) → past ≤ m → left m ≡ step_count_in_history s m = λ m l. all_left left steps s m (each m) (none m l) in
    ap (rollback_effects_below_node left (step_count_in_history s)) (let q : n ≡ (n - past) + past = omega (arith, beyond) in q)
    ∙ idle_from left (step_count_in_history s) past (n - past) idle
    ∙ sym (idle_from left (step_count_in_history s) past (144 - past) idle)
    ∙ ap (rollback_effects_below_node left (step_count_in_history s)) (let q : (144 - past) + past ≡ 144 = omega (arith, fits) in q)
