-- What `check --never` looks for, as text: conditions of a run that count neither steps nor words, and `stuck NNN`, with ` or ` between
-- them (docs/REFERENCE.md, "Every order"; this project's own).
use Rattle.std.specs.Prelude.{ℕ, zero, suc, nat_eq, if◌then◌else◌, codes, List, [], ◌∷◌, Option, Some, None, Result, Ok, Err}
use Rattle.std.specs.Cmp.Lexicographic.{pointwise}
use Rattle.ga_text.specs.Lines.{Line}
use Rattle.ga_text.specs.Parsing.{split_at_space, parse_node}
use Rattle.ga_grid.specs.declared.node_id.NodeId.{NodeId}
use Rattle.ga_debug_info.specs.declared.notes.DebugInfo.{DebugInfo}
use Rattle.ga_scheduler.specs.declared.condition.Condition.{Condition}
use Rattle.ga_conditions.specs.Conditions.{parsed_run_condition, split_first_condition, condition_limit}
use Rattle.ga_state_conditions.specs.declared.condition.StateCondition.{StateCondition}
use Rattle.ga_state_conditions.specs.declared.condition.StateCondition.TheVariants.{HoldsAfterEvent, NodeIsStuck}
use Rattle.ga_state_conditions.specs.declared.asked.ConditionFault.{ConditionFault}
use Rattle.ga_state_conditions.specs.declared.asked.ConditionFault.TheVariants.{Syntax, CountsSteps, CountsWords, TooManyConditions}
use Rattle.ga_state_conditions.specs.Held.{counts_steps, counts_words}

-- a condition of a run, unless it counts
abbrev pub condition_without_counts : Option Condition → Result StateCondition ConditionFault
condition_without_counts None = Err Syntax
condition_without_counts (Some condition) =
    if counts_steps condition then Err CountsSteps else if counts_words condition then Err CountsWords else Ok (HoldsAfterEvent condition)

-- the node that is to be stuck
abbrev pub stuck_condition : Option NodeId → Result StateCondition ConditionFault
stuck_condition None = Err Syntax
stuck_condition (Some node) = Ok (NodeIsStuck node)

abbrev pub state_condition_from_split : Option DebugInfo → Option (Line × Line) → Line → Result StateCondition ConditionFault
state_condition_from_split notes None text = condition_without_counts (parsed_run_condition notes text)
state_condition_from_split notes (Some parts) text =
    if pointwise nat_eq parts.0 (codes "stuck") then stuck_condition (parse_node parts.1) else condition_without_counts (parsed_run_condition notes text)

-- one condition
abbrev pub parsed_state_condition : Option DebugInfo → Line → Result StateCondition ConditionFault
parsed_state_condition notes text = state_condition_from_split notes (split_at_space text) text

abbrev pub prepend_state_condition : StateCondition → Result (List StateCondition) ConditionFault → Result (List StateCondition) ConditionFault
prepend_state_condition one (Err why) = Err why
prepend_state_condition one (Ok others) = Ok (one ∷ others)

abbrev pub state_conditions_after_first : (Line → Result (List StateCondition) ConditionFault) → Option Line → Result (List StateCondition) ConditionFault
state_conditions_after_first others None = Ok []
state_conditions_after_first others (Some text) = others text

-- a condition, and then the others
abbrev pub joined_state_conditions : Result StateCondition ConditionFault → Result (List StateCondition) ConditionFault → Result (List StateCondition) ConditionFault
joined_state_conditions (Err why) others = Err why
joined_state_conditions (Ok one) others = prepend_state_condition one others

-- conditions with ` or ` between them, at most this number; or the first fault
unfoldable pub parsed_state_conditions_within : Option DebugInfo → ℕ → Line → Result (List StateCondition) ConditionFault
parsed_state_conditions_within notes zero text = Err TooManyConditions
parsed_state_conditions_within notes (suc more) text =
    joined_state_conditions (parsed_state_condition notes (split_first_condition text).0)
    (state_conditions_after_first (parsed_state_conditions_within notes more) (split_first_condition text).1)

abbrev pub parsed_state_conditions : Option DebugInfo → Line → Result (List StateCondition) ConditionFault
parsed_state_conditions notes text = parsed_state_conditions_within notes condition_limit text
