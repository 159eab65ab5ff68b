-- Steps that a value decided, one after another from the newest on.
use Rattle.std.proofs.Common.{◌≡◌, ℕ, zero, suc, ◌+◌, ◌-◌, Option, Some, None, refl, sym, ap, ◌∙◌, arith}
use Rattle.ga_grid.specs.declared.node_id.NodeId.{NodeId}
use Rattle.ga_debug_info.specs.declared.notes.DebugInfo.{DebugInfo}
use Rattle.ga_lab.specs.Machine.{MachineState}
use Rattle.ga_provenance.specs.declared.deciding.BranchDecision.{BranchDecision}
use Rattle.ga_provenance.specs.Deciding.{newest_decision}
use Rattle.ga_json.specs.Values.{no_items, item}
use Rattle.ga_explorer_json.specs.Because.{decision_json, decision_and_older_rows, decision_rows}

one_more : (notes : Option DebugInfo) (s : MachineState) (node : NodeId) (more k : ℕ) → decision_rows notes s node (suc more) k ≡ decision_and_older_rows notes s node (decision_rows notes s node more) (newest_decision s node k)
unfolding decision_rows
one_more notes s node more k = refl

-- no more may be written, or none is left
pub no_more : (notes : Option DebugInfo) (s : MachineState) (node : NodeId) (left k : ℕ) → left ≡ zero → decision_rows notes s node left k ≡ no_items
unfolding decision_rows
no_more notes s node zero k e = refl
no_more notes s node (suc left) k e = absurd (omega (arith, e))

pub no_decision : (notes : Option DebugInfo) (s : MachineState) (node : NodeId) (less left k : ℕ) → left ≡ suc less → None ≡ newest_decision s node k → decision_rows notes s node left k ≡ no_items
no_decision notes s node less left k some e =
    ap (λ (n : ℕ). decision_rows notes s node n k) some ∙ one_more notes s node less k ∙ ap (decision_and_older_rows notes s node (decision_rows notes s node less)) (sym e)

-- the newest is first, and then those before it
pub next_decision : (notes : Option DebugInfo) (s : MachineState) (node : NodeId) (less left k rest : ℕ) (decision : BranchDecision) → left ≡ suc less → Some decision ≡ newest_decision s node k → rest + 1 ≡ decision.step
    → decision_rows notes s node left k ≡ item (decision_json notes s node decision) (decision_rows notes s node less rest)
next_decision notes s node less left k rest decision some is step =
    ap (λ (n : ℕ). decision_rows notes s node n k) some
    ∙ one_more notes s node less k
    ∙ ap (decision_and_older_rows notes s node (decision_rows notes s node less)) (sym is)
    ∙ ap (λ (n : ℕ). item (decision_json notes s node decision) (decision_rows notes s node less n)) (let f : decision.step - 1 ≡ rest = omega (arith, step) in f)
