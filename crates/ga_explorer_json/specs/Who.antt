-- What `who` answers, as a JSON value (docs/REFERENCE.md, "Nodes that wait"; this project's own).
use Rattle.std.specs.Prelude.{◌≡◌, ℕ, zero, suc, ◌+◌, ◌<◌, Bool, true, false, ◌&&◌, ◌||◌, not, if◌then◌else◌, pos, List, [], ◌∷◌, ◌++◌, codes, Option, Some, None}
use Rattle.ga_text.specs.Lines.{Text}
use Rattle.ga_ports.specs.declared.side.Side.{Side}
use Rattle.ga_ports.specs.declared.side.Side.TheVariants.{Right, Down, Left, Up}
use Rattle.ga_node.specs.Record.{NodeRecord}
use Rattle.ga_node.specs.declared.wait.Wait.{Wait}
use Rattle.ga_node.specs.declared.wait.Wait.TheVariants as wait
use Rattle.ga_grid.specs.Chip.{node_record_at}
use Rattle.ga_lab.specs.Machine.{MachineState, chip_of_machine}
use Rattle.ga_races.specs.Acts.{AreDeadlocked, IsMarkedSubset}
use Rattle.ga_scheduler.specs.Idle.{AreIdleNodeFlags}
use Rattle.ga_explorer_text.specs.Ended.{AreEndedNodes}
use Rattle.ga_explorer_text.specs.Waiting.{name_text_of_node, node_activity_text, awaited_neighbour, count_passing_nodes}
use Rattle.ga_json.specs.Values.{JsonValue, null, boolean, number, string, JsonItems, no_items, item}
use Rattle.ga_json.specs.Fields.{NamedValue, json_object, json_report}

-- a neighbour, if one is awaited, and what it does
abbrev pub neighbour_json : Option ℕ → JsonValue
neighbour_json None = null
neighbour_json (Some m) = string (name_text_of_node m)

abbrev pub neighbour_activity_json : List NodeRecord → Option ℕ → JsonValue
neighbour_activity_json chip None = null
neighbour_activity_json chip (Some m) = string (node_activity_text chip m)

-- the neighbour that a node awaits on a side, by these names
abbrev pub awaited_neighbour_fields : List NodeRecord → ℕ → Side → Text → Text → List NamedValue
awaited_neighbour_fields chip n side name does =
    (name, neighbour_json (awaited_neighbour chip n side)) ∷ (does, neighbour_activity_json chip (awaited_neighbour chip n side)) ∷ []

-- a node and what it does; whether it is deadlocked, and whether it is and has ended
abbrev pub node_activity_fields : List NodeRecord → Bool → Bool → ℕ → List NamedValue
node_activity_fields chip deadlocked ended n =
    (codes "node", string (name_text_of_node n))
    ∷ (codes "does", string (node_activity_text chip n))
    ∷ (codes "deadlocked", boolean deadlocked)
    ∷ (codes "ended", boolean ended)
    ∷ []

abbrev pub waiting_node_fields : List NodeRecord → Bool → Bool → ℕ → List NamedValue
waiting_node_fields chip deadlocked ended n =
    node_activity_fields chip deadlocked ended n
    ++ awaited_neighbour_fields chip n Right (codes "right") (codes "right_does")
    ++ awaited_neighbour_fields chip n Down (codes "down") (codes "down_does")
    ++ awaited_neighbour_fields chip n Left (codes "left") (codes "left_does")
    ++ awaited_neighbour_fields chip n Up (codes "up") (codes "up_does")

abbrev pub waiting_node_json : List NodeRecord → Bool → Bool → ℕ → JsonValue
waiting_node_json chip deadlocked ended n = json_object (waiting_node_fields chip deadlocked ended n)

-- the node waits
abbrev pub is_node_waiting : Wait → Bool
is_node_waiting (wait.Fetch sides) = true
is_node_waiting (wait.Read sides) = true
is_node_waiting (wait.Write side) = true
is_node_waiting wait.Nothing = false

-- a node that waits or is deadlocked has a row, unless it is idle
abbrev pub has_waiting_node_row : List NodeRecord → (ℕ → Bool) → (ℕ → Bool) → ℕ → Bool
has_waiting_node_row chip marks idle n = not (idle n) && (is_node_waiting (node_record_at chip n).wait || marks n)

abbrev pub json_row_if_flag : Bool → JsonValue → JsonItems → JsonItems
json_row_if_flag test row rest = if test then item row rest else rest

-- the rows of a number of nodes, from this one on
unfoldable pub waiting_node_rows : List NodeRecord → (ℕ → Bool) → (ℕ → Bool) → (ℕ → Bool) → ℕ → ℕ → JsonItems
waiting_node_rows chip marks over idle n zero = no_items
waiting_node_rows chip marks over idle n (suc more) = json_row_if_flag (has_waiting_node_row chip marks idle n) (waiting_node_json chip (marks n) (over n) n) (waiting_node_rows chip marks over idle (n + 1) more)

-- how many nodes are idle, and how many of the deadlocked ones
abbrev pub waiting_nodes_head_fields : ℕ → ℕ → List NamedValue
waiting_nodes_head_fields idle deadlocked = (codes "command", string (codes "who")) ∷ (codes "idle", number (pos idle)) ∷ (codes "deadlocked_idle", number (pos deadlocked)) ∷ []

abbrev pub waiting_nodes_json : List NodeRecord → (ℕ → Bool) → (ℕ → Bool) → (ℕ → Bool) → JsonValue
waiting_nodes_json chip marks over idle = json_report (waiting_nodes_head_fields (count_passing_nodes idle 144) (count_passing_nodes (λ n. marks n && idle n) 144)) (waiting_node_rows chip marks over idle 0 144)

-- For each node that waits, unless it is idle, the answer has for whom it waits; which nodes are deadlocked: the greatest set of
-- such nodes; and which of these have ended.
pub record IsWaitingNodesJson (s : MachineState) (answer : JsonValue) : Type 0 where
  pub marks : ℕ → Bool
  pub stuck : AreDeadlocked (chip_of_machine s) marks
  pub greatest : (others : ℕ → Bool) → AreDeadlocked (chip_of_machine s) others → IsMarkedSubset others marks
  pub ended : ℕ → Bool
  pub done : AreEndedNodes (chip_of_machine s) ended
  pub over : ℕ → Bool
  pub both : (n : ℕ) → n < 144 → over n ≡ (marks n && ended n)
  pub idle : ℕ → Bool
  pub silent : AreIdleNodeFlags s idle
  pub json : answer ≡ waiting_nodes_json (chip_of_machine s) marks over idle
