-- The texts of `because`: the steps at which a value decided where a node went on (docs/REFERENCE.md, "Exploring"; this project's own).
use Rattle.std.specs.Prelude.{ℕ, zero, suc, ◌-◌, if◌then◌else◌, [], ◌++◌, codes, Option, Some, None}
use Rattle.ga_text.specs.Lines.{Text}
use Rattle.ga_grid.specs.declared.node_id.NodeId.{NodeId}
use Rattle.ga_event.specs.Told.{count_steps}
use Rattle.ga_event.specs.declared.made.MadeEvent.{MadeEvent}
use Rattle.ga_event.specs.declared.made.MadeEvent.TheVariants.{Own, Pass}
use Rattle.ga_lab.specs.Machine.{MachineState, has_step}
use Rattle.ga_event.specs.declared.flow.part.NodePart.{NodePart}
use Rattle.ga_provenance.specs.declared.deciding.BranchDecision.{BranchDecision}
use Rattle.ga_provenance.specs.Deciding.{newest_decision}
use Rattle.ga_text.specs.Digits.{step_text}
use Rattle.ga_display.specs.Texts.{register_text, missing_step_text}
use Rattle.ga_debug_info.specs.declared.notes.DebugInfo.{DebugInfo}
use Rattle.ga_explorer_text.specs.Deeds.{step_text_for_node}
use Rattle.ga_explorer_text.specs.SourceSuffix.{step_suffix_text}
use Rattle.ga_explorer_text.specs.Whence.{node_part_name, indented_value_text}

-- the register that a step of the node's own tested, with its word; a transferred word is in the text already
abbrev pub tested_register_text : MadeEvent → NodePart → ℕ → Text
tested_register_text (Own node step kind) at word = register_text (node_part_name at) word
tested_register_text (Pass writer i reader j word) at other = []

-- the step of a decision, what it did and what it tested
abbrev pub deciding_step_text : NodeId → BranchDecision → Text
deciding_step_text node decision =
    step_text node decision.step ++ codes " " ++ step_text_for_node decision.made node.number ++ tested_register_text decision.made decision.tested.part decision.word

-- the line of a decision, and below it the line of the value's origin, as `whence` prints it
abbrev pub branch_decision_text : Option DebugInfo → MachineState → NodeId → BranchDecision → Text
branch_decision_text notes s node decision =
    deciding_step_text node decision ++ (step_suffix_text notes s node decision.step ++ indented_value_text notes s decision.source)

-- the newest decision, and those before it
abbrev pub decisions_text_from_newest : Option DebugInfo → MachineState → NodeId → (ℕ → Text) → Option BranchDecision → Text
decisions_text_from_newest notes s node before None = []
decisions_text_from_newest notes s node before (Some decision) = branch_decision_text notes s node decision ++ before (decision.step - 1)

-- at most `left` decisions among the first `k` steps of a node, the newest first
unfoldable pub decisions_text : Option DebugInfo → MachineState → NodeId → ℕ → ℕ → Text
decisions_text notes s node zero k = []
decisions_text notes s node (suc more) k = decisions_text_from_newest notes s node (decisions_text notes s node more) (newest_decision s node k)

-- at most `most` decisions among the first `k` steps of a node, where there is one, or else that there is none
abbrev pub decisions_or_none_text : Option DebugInfo → MachineState → NodeId → ℕ → ℕ → Option BranchDecision → Text
decisions_or_none_text notes s node most k None = codes "none\n"
decisions_or_none_text notes s node most k (Some newest) = decisions_text notes s node most k

-- the decisions before a step, if it exists
abbrev pub decisions_before_step_text : Option DebugInfo → MachineState → NodeId → ℕ → ℕ → Text
decisions_before_step_text notes s node step most =
    if has_step s node.number step then decisions_or_none_text notes s node most (step - 1) (newest_decision s node (step - 1))
    else missing_step_text node (count_steps node.number s.kept)
