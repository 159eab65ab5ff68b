-- The values from which a value was made, and the steps that are causes of another.
use Rattle.ga_event.specs.declared.made.MadeEvent.TheVariants as made
use Rattle.ga_event.specs.declared.flow.part.NodePart.TheVariants as part
use Rattle.std.specs.Prelude.{◌≡◌, ℕ, ◌⊎◌, Some, zero, suc, ◌-◌, ◌==◌, Bool, ◌&&◌, List, [], ◌∷◌, map, Option, None, option_to_list}
use Rattle.ga_causal.specs.Dependence.{DependsOn, position_of_step}
use Rattle.ga_lab.specs.Machine.{MachineState, machine_events_with_looks, history_of_node}
use Rattle.ga_provenance.specs.declared.value.PartValue.{PartValue}
use Rattle.std.specs.List.{slice_get}
use Rattle.ga_grid.specs.declared.node_id.NodeId.{NodeId}
use Rattle.ga_event.specs.declared.made.MadeEvent.{MadeEvent}
use Rattle.ga_event.specs.declared.flow.part.NodePart.{NodePart}
use Rattle.ga_event.specs.Flow.{ValueFlow, CopiedFromPart, From, top_data_part, is_same_node_part}
use Rattle.ga_provenance.specs.Origins.{value_made_by_step, value_flow_at_step}

-- ---- values whose steps are causes of another's (Danos and Krivine, "Reversible Communicating Systems", 2004)

-- the step of the second value, which is in the history, depends on that of the first
pub record IsCauseOfValue (s : MachineState) (earlier later : PartValue) : Type 0 where
  pub cause : ℕ
  pub effect : ℕ
  pub cause_place : position_of_step (machine_events_with_looks s) earlier.node.number earlier.step ≡ Some cause
  pub effect_place : position_of_step (machine_events_with_looks s) later.node.number later.step ≡ Some effect
  pub depends : DependsOn (machine_events_with_looks s) cause effect

-- a value that was loaded, or whose step is a cause of the queried one's
abbrev pub IsLoadedOrCauseOfValue : MachineState → PartValue → PartValue → Type 0
IsLoadedOrCauseOfValue s asked value = (value.step ≡ 0) ⊎ IsCauseOfValue s value asked

-- whether two values are one
abbrev pub is_same_value : PartValue → PartValue → Bool
is_same_value value other = (value.node.number == other.node.number) && ((value.step == other.step) && is_same_node_part value.part other.part)

-- what a word came from that an event carried: T of the writer before
abbrev pub source_of_sent_word : Option MadeEvent → Option PartValue
source_of_sent_word (Some (made.Pass writer i reader j word)) = Some (value_made_by_step writer (i - 1) top_data_part)
source_of_sent_word (Some (made.Own node step kind)) = None
source_of_sent_word None = None

-- the values from which one comes that the step after k steps of a node made: over a link, or in the node before. A word that a
-- read of `io` shows comes from none.
abbrev pub source_values_of_flow : NodeId → ℕ → Option MadeEvent → ValueFlow → List PartValue
source_values_of_flow node k told (CopiedFromPart part.OutsideWord) = option_to_list (source_of_sent_word told)
source_values_of_flow node k told (CopiedFromPart from) = value_made_by_step node k from ∷ []
source_values_of_flow node k told (From parts) = map (value_made_by_step node k) parts

-- the values from which that of a part comes after a number of steps of a node, by the last of them; one at load comes from
-- none
abbrev pub value_sources_after : MachineState → NodeId → ℕ → NodePart → List PartValue
value_sources_after s node zero at = []
value_sources_after s node (suc k) at = source_values_of_flow node k (slice_get (history_of_node s node.number) k) (value_flow_at_step s node.number k at)

abbrev pub value_sources : MachineState → PartValue → List PartValue
value_sources s value = value_sources_after s value.node value.step value.part
