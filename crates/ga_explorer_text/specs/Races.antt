-- The texts of `races`: the steps that could have come out otherwise, and what holds of other orders (docs/REFERENCE.md, "Exploring";
-- this project's own). The laws `reported_race_free_end_is_unique` and `shorter_sessions_lead_to_race_free` of ga_race_detector are about the last line.
use Rattle.std.specs.Prelude.{◌≡◌, ◌+◌, ◌⊎◌, Bool, true, false, is_none, List, [], ◌∷◌, ◌++◌, length, flat_map, codes, decimal, ℕ, Option, Some, None}
use Rattle.std.specs.List.{All}
use Rattle.ga_text.specs.Lines.{Text}
use Rattle.ga_word.specs.Word.{hex_digits_of_word}
use Rattle.ga_grid.specs.declared.node_id.NodeId.{NodeId}
use Rattle.ga_lab.specs.Machine.{MachineState, chip_of_machine, machine_events_with_looks}
use Rattle.ga_lab.specs.declared.fault.LabFault.TheVariants.{Memory}
use Rattle.ga_race_detector.specs.declared.races.Race.{Race}
use Rattle.ga_race_detector.specs.declared.readings.LookRace.{LookRace}
use Rattle.ga_race_detector.specs.Readings.{step_removed_for_look, IsReportedLookRace, HasAllNearLookRaces}
use Rattle.ga_race_detector.specs.Races.{requested_races, has_made_or_next_look, first_ready_node}
use Rattle.ga_text.specs.Digits.{name_of_node, step_text}
use Rattle.ga_display.specs.Texts.{advised_refusal_text}

-- the step and the word that it took, another that it could have taken, and the commands that make it take that
abbrev pub race_text : Race → Text
race_text race =
    step_text race.reader race.step ++ codes " takes " ++ hex_digits_of_word race.word ++ codes " from " ++ name_of_node race.writer
    ++ codes ", or " ++ hex_digits_of_word race.offered ++ codes " from " ++ name_of_node race.other
    ++ codes ": rewind " ++ step_text race.reader race.step ++ codes ", step " ++ name_of_node race.other ++ codes "\n"

-- how many lines of steps follow
abbrev pub races_head_line : ℕ → Text
races_head_line count = codes "races " ++ decimal count ++ codes "\n"

-- if no step is listed and no node looks: whether some node has an event
abbrev pub no_race_line : Bool → Text
no_race_line true = codes "every order ends on this chip\n"
no_race_line false = codes "no other order, as long as no node makes more steps\n"

-- the last line if no node looks: about one node it claims nothing of the whole; listed steps suffice
abbrev pub other_orders_line : Option NodeId → List Race → Bool → Text
other_orders_line None [] quiet = no_race_line quiet
other_orders_line None (race ∷ races) quiet = []
other_orders_line (Some node) races quiet = []

-- the last line: a look may read otherwise in another order, and hide another race
abbrev pub races_last_line : Option NodeId → List Race → Bool → Bool → Text
races_last_line only races true quiet = codes "looks are kept or come next: there may be other races\n"
races_last_line only races false quiet = other_orders_line only races quiet

-- on which side of a change a look would have read another word
abbrev pub look_before_or_behind_text : Bool → Text
look_before_or_behind_text true = codes " behind "
look_before_or_behind_text false = codes " before "

-- a look and the word that it read, another that it could have read, and the commands that make it read that
abbrev pub look_race_text : LookRace → Text
look_race_text reading =
    step_text reading.node reading.step ++ codes " reads " ++ hex_digits_of_word reading.word ++ codes ", or " ++ hex_digits_of_word reading.other
    ++ look_before_or_behind_text reading.is_look_first ++ step_text reading.neighbour reading.change
    ++ codes ": rewind " ++ step_text (step_removed_for_look reading).0 (step_removed_for_look reading).1 ++ codes ", step " ++ name_of_node reading.node ++ codes "\n"

-- how many lines of steps follow, and the lines of these passes
abbrev pub race_lines_text : List Race → ℕ → Text
race_lines_text races count = races_head_line count ++ flat_map race_text races

abbrev pub listed_races_text : Option NodeId → List Race → List LookRace → Bool → Bool → Text
listed_races_text only races readings looks quiet =
    race_lines_text races (length races + length readings) ++ (flat_map look_race_text readings ++ races_last_line only races looks quiet)

-- the answer to `races`, with these looks
abbrev pub races_text : MachineState → Option NodeId → List LookRace → Text
races_text s only readings =
    listed_races_text only (requested_races s only) readings (has_made_or_next_look (machine_events_with_looks s) (chip_of_machine s)) (is_none (first_ready_node (chip_of_machine s)))

-- all races of passes are listed, and the looks that could have read another word, all that a near change leads to; or an
-- allocation failed
abbrev pub IsRacesAnswer : MachineState → Option NodeId → Text → Type 0
IsRacesAnswer s only answer =
    ((readings : List LookRace) × All (IsReportedLookRace s only) readings × HasAllNearLookRaces s only readings × (answer ≡ races_text s only readings)) ⊎ (answer ≡ advised_refusal_text Memory)
