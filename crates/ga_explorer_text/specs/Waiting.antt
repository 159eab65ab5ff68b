-- The texts of `who`: for whom each waiting node waits, which nodes are deadlocked, the wait cycles among them, which of them have
-- ended, and how many nodes are idle, which aren't listed (docs/REFERENCE.md, "Exploring"; this project's own).
use Rattle.std.specs.Prelude.{ℕ, zero, suc, ◌+◌, ◌==◌, nat_le, Bool, ◌&&◌, not, if◌then◌else◌, List, [], ◌∷◌, ◌++◌, codes, decimal, Option, Some, None, option_map}
use Rattle.ga_text.specs.Lines.{Text}
use Rattle.ga_ports.specs.declared.side.Side.{Side}
use Rattle.ga_ports.specs.declared.side.Side.TheVariants.{Right, Down, Left, Up}
use Rattle.ga_node.specs.Record.{NodeRecord}
use Rattle.ga_node.specs.declared.wait.Wait.{Wait}
use Rattle.ga_node.specs.declared.wait.Wait.TheVariants as wait
use Rattle.ga_grid.specs.Grid.{neighbour_number, decimal_name_of_node}
use Rattle.ga_grid.specs.Chip.{node_record_at}
use Rattle.ga_text.specs.Digits.{three_decimal_digits}
use Rattle.ga_races.specs.Acts.{awaits_side}

-- the name of the node of this number
abbrev pub name_text_of_node : ℕ → Text
name_text_of_node n = three_decimal_digits (decimal_name_of_node n)

-- what a node does that waits so, or is stopped so
abbrev pub activity_name : Wait → ℕ → Text
activity_name (wait.Fetch sides) stop = codes "fetches"
activity_name (wait.Read sides) stop = codes "reads"
activity_name (wait.Write side) stop = codes "writes"
activity_name wait.Nothing stop = if stop == 0 then codes "runs" else codes "stopped"

abbrev pub node_activity_text : List NodeRecord → ℕ → Text
node_activity_text chip n = activity_name (node_record_at chip n).wait (node_record_at chip n).stop

-- the node on a side, where there is one: the side's letter, its name and what it does
abbrev pub neighbour_activity_text : List NodeRecord → Option ℕ → ℕ → Text
neighbour_activity_text chip None letter = []
neighbour_activity_text chip (Some m) letter = 32 ∷ letter ∷ 32 ∷ [] ++ name_text_of_node m ++ codes " " ++ node_activity_text chip m

-- the neighbour on a side and what it does, where a node awaits it
abbrev pub awaited_neighbour_text : List NodeRecord → ℕ → Side → ℕ → Text
awaited_neighbour_text chip n side letter = if awaits_side (node_record_at chip n).wait side then neighbour_activity_text chip (neighbour_number n side) letter else []

-- the line of a node that waits
abbrev pub waiting_node_line : List NodeRecord → ℕ → Text
waiting_node_line chip n =
    name_text_of_node n ++ codes " " ++ node_activity_text chip n ++ awaited_neighbour_text chip n Right 114 ++ awaited_neighbour_text chip n Down 100 ++ awaited_neighbour_text chip n Left 108
    ++ awaited_neighbour_text chip n Up 117 ++ codes "\n"

abbrev pub line_if_node_waits : Wait → Text → Text
line_if_node_waits wait.Nothing line = []
line_if_node_waits (wait.Fetch sides) line = line
line_if_node_waits (wait.Read sides) line = line
line_if_node_waits (wait.Write side) line = line

abbrev pub waiting_node_text : List NodeRecord → ℕ → Text
waiting_node_text chip n = line_if_node_waits (node_record_at chip n).wait (waiting_node_line chip n)

-- a text for each of `n` nodes from this one on
unfoldable pub concatenated_node_texts : (ℕ → Text) → ℕ → ℕ → Text
concatenated_node_texts text n zero = []
concatenated_node_texts text n (suc more) = text n ++ concatenated_node_texts text (n + 1) more

-- the text about a node that waits, if it is not idle
abbrev pub waiting_non_idle_node_text : List NodeRecord → (ℕ → Bool) → ℕ → Text
waiting_non_idle_node_text chip idle n = if idle n then [] else waiting_node_text chip n

abbrev pub all_waiting_nodes_text : List NodeRecord → (ℕ → Bool) → Text
all_waiting_nodes_text chip idle = concatenated_node_texts (waiting_non_idle_node_text chip idle) 0 144

-- a node's name after a space, if this holds of it
abbrev pub space_and_node_name_if_marked : Bool → ℕ → Text
space_and_node_name_if_marked named n = if named then codes " " ++ name_text_of_node n else []

-- the names of the marked nodes that are not idle
abbrev pub non_idle_node_names : (ℕ → Bool) → (ℕ → Bool) → Text
non_idle_node_names marks idle = concatenated_node_texts (λ n. space_and_node_name_if_marked (marks n && not (idle n)) n) 0 144

-- for how many of the first `n` nodes a test holds
unfoldable pub count_passing_nodes : (ℕ → Bool) → ℕ → ℕ
count_passing_nodes test zero = 0
count_passing_nodes test (suc n) = count_passing_nodes test n + (if test n then 1 else 0)

-- how many of the marked nodes are idle, where some are
abbrev pub idle_count_suffix : ℕ → Text
idle_count_suffix count = if count == 0 then [] else codes " and " ++ decimal count ++ codes " idle"

-- the line of deadlocked nodes, where there are any that have not ended
abbrev pub deadlocked_nodes_line : Text → ℕ → Text
deadlocked_nodes_line [] count = []
deadlocked_nodes_line (c ∷ names) count = codes "stuck" ++ (c ∷ names) ++ idle_count_suffix count ++ codes "\n"

abbrev pub deadlocked_nodes_text : (ℕ → Bool) → (ℕ → Bool) → (ℕ → Bool) → Text
deadlocked_nodes_text marks over idle = deadlocked_nodes_line (non_idle_node_names marks over) (count_passing_nodes (λ n. marks n && idle n) 144)

-- the line of deadlocked nodes that have ended, where there are any that are not idle
abbrev pub ended_nodes_line : Text → Text
ended_nodes_line [] = []
ended_nodes_line (c ∷ names) = codes "ended" ++ (c ∷ names) ++ codes "\n"

abbrev pub ended_nodes_text : (ℕ → Bool) → (ℕ → Bool) → Text
ended_nodes_text over idle = ended_nodes_line (non_idle_node_names over idle)

-- the last line: how many nodes are idle, where some are
abbrev pub idle_nodes_line : ℕ → Text
idle_nodes_line count = if count == 0 then [] else codes "idle " ++ decimal count ++ codes "\n"

abbrev pub idle_nodes_text : (ℕ → Bool) → Text
idle_nodes_text idle = idle_nodes_line (count_passing_nodes idle 144)

-- ---- rings

-- the neighbour on a side, where the node awaits it
abbrev pub awaited_neighbour : List NodeRecord → ℕ → Side → Option ℕ
awaited_neighbour chip n side = if awaits_side (node_record_at chip n).wait side then neighbour_number n side else None

-- the one that is there of four, where no other is
abbrev pub single_of_four_options : Option ℕ → Option ℕ → Option ℕ → Option ℕ → Option ℕ
single_of_four_options (Some m) None None None = Some m
single_of_four_options None (Some m) None None = Some m
single_of_four_options None None (Some m) None = Some m
single_of_four_options None None None (Some m) = Some m
single_of_four_options right down left up = None

-- the neighbour that a node awaits, where it awaits no other
abbrev pub only_awaited_neighbour : List NodeRecord → ℕ → Option ℕ
only_awaited_neighbour chip n = single_of_four_options (awaited_neighbour chip n Right) (awaited_neighbour chip n Down) (awaited_neighbour chip n Left) (awaited_neighbour chip n Up)

-- The names of the nodes by which a wait cycle leads to its first node, each awaited only by the one before, if at most `left`
-- are left: none if it doesn't return there, or passes a node of a lower number, which is the first of that cycle.
unfoldable pub wait_cycle_node_names : List NodeRecord → ℕ → ℕ → Option ℕ → Option Text
wait_cycle_node_names chip first left None = None
wait_cycle_node_names chip first zero (Some m) = None
wait_cycle_node_names chip first (suc left) (Some m) =
    if m == first then Some [] else if nat_le m first then None else option_map (λ names. codes " " ++ name_text_of_node m ++ names) (wait_cycle_node_names chip first left (only_awaited_neighbour chip m))

abbrev pub wait_cycle_line : ℕ → Option Text → Text
wait_cycle_line first None = []
wait_cycle_line first (Some names) = codes "ring " ++ name_text_of_node first ++ names ++ codes "\n"

-- the line of a ring of nodes that can never go on, at its node of the lowest number
abbrev pub wait_cycle_text_at_node : List NodeRecord → (ℕ → Bool) → ℕ → Text
wait_cycle_text_at_node chip marks n = if marks n then wait_cycle_line n (wait_cycle_node_names chip n 144 (only_awaited_neighbour chip n)) else []

abbrev pub wait_cycles_text : List NodeRecord → (ℕ → Bool) → Text
wait_cycles_text chip marks = concatenated_node_texts (wait_cycle_text_at_node chip marks) 0 144

-- the last lines: which nodes have ended, and how many are idle
abbrev pub ended_and_idle_nodes_text : (ℕ → Bool) → (ℕ → Bool) → Text
ended_and_idle_nodes_text over idle = ended_nodes_text over idle ++ idle_nodes_text idle

abbrev pub waiting_nodes_answer_text : List NodeRecord → (ℕ → Bool) → (ℕ → Bool) → (ℕ → Bool) → Text
waiting_nodes_answer_text chip marks over idle = all_waiting_nodes_text chip idle ++ deadlocked_nodes_text marks over idle ++ wait_cycles_text chip marks ++ ended_and_idle_nodes_text over idle
