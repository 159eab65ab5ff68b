-- The steps around one, one after another.
use Rattle.std.proofs.Common.{◌≡◌, ◌<◌, ◌≤◌, ℕ, zero, suc, ◌+◌, ◌-◌, Option, ap, ◌∙◌, refl, arith}
use Rattle.ga_grid.specs.declared.node_id.NodeId.{NodeId}
use Rattle.ga_debug_info.specs.declared.notes.DebugInfo.{DebugInfo}
use Rattle.ga_lab.specs.Machine.{MachineState}
use Rattle.ga_json.specs.Values.{no_items}
use Rattle.ga_explorer_json.specs.Rows.{rows_if_first_present}
use Rattle.ga_explorer_json.specs.Around.{step_json_at, step_rows}

none_more : (notes : Option DebugInfo) (s : MachineState) (node : NodeId) (k : ℕ) → step_rows notes s node k zero ≡ no_items
unfolding step_rows
none_more notes s node k = refl

one_more : (notes : Option DebugInfo) (s : MachineState) (node : NodeId) (k more : ℕ) → step_rows notes s node k (suc more) ≡ rows_if_first_present (step_json_at notes s node (k + 1)) (step_rows notes s node (k + 1) more)
unfolding step_rows
one_more notes s node k more = refl

pub next_step : (notes : Option DebugInfo) (s : MachineState) (node : NodeId) (k last : ℕ) → k < last → step_rows notes s node k (last - k) ≡ rows_if_first_present (step_json_at notes s node (k + 1)) (step_rows notes s node (k + 1) (last - (k + 1)))
next_step notes s node k last below = ap (step_rows notes s node k) (let e : last - k ≡ suc (last - (k + 1)) = omega (arith, below) in e) ∙ one_more notes s node k (last - (k + 1))

pub no_step : (notes : Option DebugInfo) (s : MachineState) (node : NodeId) (k last : ℕ) → last ≤ k → step_rows notes s node k (last - k) ≡ no_items
no_step notes s node k last past = ap (step_rows notes s node k) (let e : last - k ≡ zero = omega (arith, past) in e) ∙ none_more notes s node k
