-- Machines that calls lead to, and machines that differ in the order of independent events alone.
use Rattle.std.specs.Prelude.{◌≡◌, ℕ, List, [], ◌∷◌}
use Rattle.ga_grid.specs.declared.node_id.NodeId.{NodeId}
use Rattle.ga_causal.specs.Equivalence.{AreEquivalentLists}
use Rattle.ga_lab.specs.Machine.{MachineState, initial_state, state_after_step, state_after_undo, state_after_rewind}

pub data MachineCall : Type 0 where
  step : NodeId → MachineCall
  undo : MachineCall
  rewind : ℕ → ℕ → MachineCall

-- the machine after a call
abbrev pub state_after_machine_call : MachineState → MachineCall → MachineState
state_after_machine_call s (step n) = state_after_step s n
state_after_machine_call s undo = state_after_undo s
state_after_machine_call s (rewind n k) = state_after_rewind s n k

-- the machine after these calls, one after another
abbrev pub state_after_machine_calls : MachineState → List MachineCall → MachineState
state_after_machine_calls s [] = s
state_after_machine_calls s (call ∷ calls) = state_after_machine_calls (state_after_machine_call s call) calls

-- calls lead to the machine from its load
pub record IsReachableState (s : MachineState) : Type 0 where
  pub calls : List MachineCall
  pub is : state_after_machine_calls (initial_state s.load s.limit) calls ≡ s

-- one machine keeps what the other keeps, but for the order of independent events
pub record AreEquivalentStates (s z : MachineState) : Type 0 where
  pub load : s.load ≡ z.load
  pub limit : s.limit ≡ z.limit
  pub made : s.made ≡ z.made
  pub kept : AreEquivalentLists s.load s.kept z.kept
