-- What `races` answers, as a JSON value (docs/REFERENCE.md, "Exploring"; this project's own).
use Rattle.std.specs.Prelude.{◌≡◌, ℕ, pos, ◌+◌, ◌⊎◌, Bool, is_none, List, [], ◌∷◌, length, codes, Option, Some, None}
use Rattle.std.specs.List.{All}
use Rattle.ga_grid.specs.declared.node_id.NodeId.{NodeId}
use Rattle.ga_lab.specs.Machine.{MachineState, chip_of_machine, machine_events_with_looks}
use Rattle.ga_lab.specs.declared.fault.LabFault.TheVariants.{Memory}
use Rattle.ga_race_detector.specs.declared.races.Race.{Race}
use Rattle.ga_race_detector.specs.declared.readings.LookRace.{LookRace}
use Rattle.ga_race_detector.specs.Readings.{step_removed_for_look, IsReportedLookRace, HasAllNearLookRaces}
use Rattle.ga_race_detector.specs.Races.{requested_races, has_made_or_next_look, first_ready_node}
use Rattle.ga_text.specs.Digits.{name_of_node}
use Rattle.ga_json.specs.Values.{JsonValue, null, boolean, number, string, JsonItems, item}
use Rattle.ga_json.specs.Fields.{NamedValue, json_object, json_report}
use Rattle.ga_explorer_json.specs.Refusals.{lab_refusal_json}
use Rattle.ga_explorer_json.specs.Rows.{json_rows_of_items}

-- the step and the word that it took, another that it could have taken, and the rollback and the step that make it take that
abbrev pub race_json : Race → JsonValue
race_json race =
    json_object
    ((codes "what", string (codes "pass"))
    ∷ (codes "node", string (name_of_node race.reader))
    ∷ (codes "step", number (pos race.step))
    ∷ (codes "word", number (pos race.word))
    ∷ (codes "from", string (name_of_node race.writer))
    ∷ (codes "other_word", number (pos race.offered))
    ∷ (codes "other_from", string (name_of_node race.other))
    ∷ (codes "rewind_node", string (name_of_node race.reader))
    ∷ (codes "rewind_step", number (pos race.step))
    ∷ (codes "then_node", string (name_of_node race.other))
    ∷ [])

-- a look and the word that it read, another that it could have read on the other side of a neighbour's step, and the rollback
-- and the step that make it read that
abbrev pub look_race_json : LookRace → JsonValue
look_race_json reading =
    json_object
    ((codes "what", string (codes "look"))
    ∷ (codes "node", string (name_of_node reading.node))
    ∷ (codes "step", number (pos reading.step))
    ∷ (codes "word", number (pos reading.word))
    ∷ (codes "other_word", number (pos reading.other))
    ∷ (codes "neighbour", string (name_of_node reading.neighbour))
    ∷ (codes "neighbour_step", number (pos reading.change))
    ∷ (codes "look_first", boolean reading.is_look_first)
    ∷ (codes "rewind_node", string (name_of_node (step_removed_for_look reading).0))
    ∷ (codes "rewind_step", number (pos (step_removed_for_look reading).1))
    ∷ (codes "then_node", string (name_of_node reading.node))
    ∷ [])

-- the passes, and then the looks
abbrev pub race_rows : List Race → List LookRace → JsonItems
race_rows [] readings = json_rows_of_items look_race_json readings
race_rows (race ∷ races) readings = item (race_json race) (race_rows races readings)

-- a node, if one was named
abbrev pub optional_node_json : Option NodeId → JsonValue
optional_node_json None = null
optional_node_json (Some node) = string (name_of_node node)

-- how many rows there are; whether an event looks or would look next, and whether no node has an event
abbrev pub races_head_fields : Option NodeId → ℕ → Bool → Bool → List NamedValue
races_head_fields only count looks quiet =
    (codes "command", string (codes "races"))
    ∷ (codes "node", optional_node_json only)
    ∷ (codes "count", number (pos count))
    ∷ (codes "looks", boolean looks)
    ∷ (codes "quiet", boolean quiet)
    ∷ []

abbrev pub listed_races_json : Option NodeId → List Race → List LookRace → Bool → Bool → JsonValue
listed_races_json only races readings looks quiet = json_report (races_head_fields only (length races + length readings) looks quiet) (race_rows races readings)

-- the answer, with these looks
abbrev pub races_json : MachineState → Option NodeId → List LookRace → JsonValue
races_json s only readings =
    listed_races_json only (requested_races s only) readings (has_made_or_next_look (machine_events_with_looks s) (chip_of_machine s)) (is_none (first_ready_node (chip_of_machine s)))

-- all races of passes are listed, and the looks that could have read another word, all that a near change leads to; or an
-- allocation failed
abbrev pub IsRacesJson : MachineState → Option NodeId → JsonValue → Type 0
IsRacesJson s only answer =
    ((readings : List LookRace) × All (IsReportedLookRace s only) readings × HasAllNearLookRaces s only readings × (answer ≡ races_json s only readings))
    ⊎ (answer ≡ lab_refusal_json (codes "races") Memory)
