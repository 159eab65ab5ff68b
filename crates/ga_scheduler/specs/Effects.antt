-- What a rollback would take of each node (Danos and Krivine, "Reversible Communicating Systems", 2004): its steps from one on.
use Rattle.std.specs.Prelude.{ℕ, zero, suc, ◌+◌, ◌-◌, ◌==◌, if◌then◌else◌, List, [], ◌∷◌, ◌++◌}
use Rattle.ga_grid.specs.Grid.{node_id}
use Rattle.ga_event.specs.Told.{count_steps}
use Rattle.ga_lab.specs.Machine.{MachineState, state_after_rewind}
use Rattle.ga_scheduler.specs.declared.effects.RollbackEffect.{RollbackEffect}

-- how many steps of each node are kept, and how many a rollback of node n to its step k would leave
abbrev pub step_count_in_history : MachineState → ℕ → ℕ
step_count_in_history s m = count_steps m s.kept

abbrev pub step_count_after_rollback : MachineState → ℕ → ℕ → ℕ → ℕ
step_count_after_rollback s n k m = count_steps m (state_after_rewind s n k).kept

-- what would be removed of a node, given how many steps would remain and how many there are; nothing if all would remain
abbrev pub rollback_effect_on_node : (ℕ → ℕ) → (ℕ → ℕ) → ℕ → List RollbackEffect
rollback_effect_on_node left all m =
    if left m == all m then [] else record { node = node_id m; first = left m + 1; steps = all m - left m } ∷ []

-- what would go of the first nodes
unfoldable pub rollback_effects_below_node : (ℕ → ℕ) → (ℕ → ℕ) → ℕ → List RollbackEffect
rollback_effects_below_node left all zero = []
rollback_effects_below_node left all (suc m) = rollback_effects_below_node left all m ++ rollback_effect_on_node left all m

-- what a rollback would take of each node, in the order of the numbers
abbrev pub rollback_effects : MachineState → ℕ → ℕ → List RollbackEffect
rollback_effects s n k = rollback_effects_below_node (step_count_after_rollback s n k) (step_count_in_history s) 144
