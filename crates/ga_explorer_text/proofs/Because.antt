-- Steps that a value decided, one after another from the newest on.
use Rattle.std.proofs.Common.{◌≡◌, ℕ, zero, suc, ◌+◌, ◌-◌, ◌<◌, Bool, true, false, [], ◌++◌, Option, Some, None, refl, sym, ap, ◌∙◌, arith}
use Rattle.std.specs.Prelude.{if◌then◌else◌}
use Rattle.ga_grid.specs.declared.node_id.NodeId.{NodeId}
use Rattle.ga_event.specs.Told.{count_steps}
use Rattle.ga_lab.specs.Machine.{MachineState, has_step}
use Rattle.ga_lab.specs.declared.fault.LabFault.TheVariants.{NoStep}
use Rattle.ga_provenance.specs.declared.deciding.BranchDecision.{BranchDecision}
use Rattle.ga_provenance.specs.Deciding.{newest_decision}
use Rattle.ga_display.specs.Texts.{missing_step_text}
use Rattle.ga_debug_info.specs.declared.notes.DebugInfo.{DebugInfo}
use Rattle.ga_explorer_text.specs.Because.{branch_decision_text, decisions_text_from_newest, decisions_text, decisions_or_none_text, decisions_before_step_text}

one_more : (notes : Option DebugInfo) (s : MachineState) (node : NodeId) (more k : ℕ)
    → decisions_text notes s node (suc more) k ≡ decisions_text_from_newest notes s node (decisions_text notes s node more) (newest_decision s node k)
unfolding decisions_text
one_more notes s node more k = refl

-- no more may be written, or none is left
pub no_more : (notes : Option DebugInfo) (s : MachineState) (node : NodeId) (left k : ℕ) → left ≡ zero → decisions_text notes s node left k ≡ []
unfolding decisions_text
no_more notes s node zero k e = refl
no_more notes s node (suc left) k e = absurd (omega (arith, e))

pub none_left : (notes : Option DebugInfo) (s : MachineState) (node : NodeId) (left k : ℕ) → 0 < left → None ≡ newest_decision s node k → decisions_text notes s node left k ≡ []
none_left notes s node left k some e =
    ap (λ (n : ℕ). decisions_text notes s node n k) (let f : left ≡ suc (left - 1) = omega (arith, some) in f)
    ∙ one_more notes s node (left - 1) k
    ∙ ap (decisions_text_from_newest notes s node (decisions_text notes s node (left - 1))) (sym e)

-- the newest is written first, and then those before it
pub next_decision : (notes : Option DebugInfo) (s : MachineState) (node : NodeId) (left less k now : ℕ) (decision : BranchDecision) → 0 < left → less ≡ left - 1
    → Some decision ≡ newest_decision s node k → now + 1 ≡ decision.step
    → decisions_text notes s node left k ≡ branch_decision_text notes s node decision ++ decisions_text notes s node less now
next_decision notes s node left less k now decision some e is step =
    ap (λ (n : ℕ). decisions_text notes s node n k) (let f : left ≡ suc less = omega (arith, some, e) in f)
    ∙ one_more notes s node less k
    ∙ ap (decisions_text_from_newest notes s node (decisions_text notes s node less)) (sym is)
    ∙ ap (λ (n : ℕ). branch_decision_text notes s node decision ++ decisions_text notes s node less n) (let f : decision.step - 1 ≡ now = omega (arith, step) in f)

-- if the step exists, and if it doesn't
pub because_here : (notes : Option DebugInfo) (s : MachineState) (node : NodeId) (step most : ℕ) → has_step s node.number step ≡ true
    → decisions_or_none_text notes s node most (step - 1) (newest_decision s node (step - 1)) ≡ decisions_before_step_text notes s node step most
because_here notes s node step most is =
    sym (ap (λ (b : Bool). if b then decisions_or_none_text notes s node most (step - 1) (newest_decision s node (step - 1)) else missing_step_text node (count_steps node.number s.kept)) is)

pub because_nowhere : (notes : Option DebugInfo) (s : MachineState) (node : NodeId) (step most : ℕ) → has_step s node.number step ≡ false
    → missing_step_text node (count_steps node.number s.kept) ≡ decisions_before_step_text notes s node step most
because_nowhere notes s node step most is =
    sym (ap (λ (b : Bool). if b then decisions_or_none_text notes s node most (step - 1) (newest_decision s node (step - 1)) else missing_step_text node (count_steps node.number s.kept)) is)
