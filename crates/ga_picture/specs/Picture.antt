-- What a picture shows of a machine's kept events, and its text (docs/REFERENCE.md, "Pictures"; this project's own).
use Rattle.std.specs.Prelude.{◌≡◌, ℕ, List, [], ◌∷◌, ◌++◌, map, codes, ◌+◌, ◌==◌, if◌then◌else◌, flat_map, Option, Some, None, ◌↔◌, ◌<◌, Bool, true, ◌&&◌, length, min, is_none, IsTrue}
use Rattle.ga_picture.specs.declared.placing.PictureRow.{PictureRow}
use Rattle.ga_picture.specs.declared.race_marks.RaceMark.{RaceMark}
use Rattle.ga_picture.specs.declared.shade.Shade.{Shade}
use Rattle.ga_picture.specs.declared.shade.Shade.TheVariants.{Black, Grey, Red}
use Rattle.ga_picture.specs.Drawing.{shade_of_shape, AreShadesOfEvents, IsDrawingOfItems, IsIndependentNode, item_with_nodes_left_out, independent_nodes_with_counts}
use Rattle.ga_grid.specs.declared.node_id.NodeId.{NodeId}
use Rattle.ga_event.specs.declared.event.EventWithLook.{EventWithLook}
use Rattle.ga_causal.specs.Dependence.{position_of_step}
use Rattle.ga_causal.specs.Steps.{count_touching_events}
use Rattle.ga_console.specs.Selectors.{selected_step_number}
use Rattle.ga_console.specs.declared.step_selector.StepSelector.{StepSelector}
use Rattle.ga_console.specs.declared.step_selector.StepSelector.TheVariants.{Number, Last}
use Rattle.ga_race_detector.specs.declared.races.Race.{Race}
use Rattle.ga_race_detector.specs.declared.readings.LookRace.{LookRace}
use Rattle.ga_picture.specs.declared.race_marks.RacingStep.{RacingStep}
use Rattle.ga_picture.specs.declared.race_marks.RacingStep.TheVariants.{Pass, Look}
use Rattle.std.specs.List.{All}
use Rattle.ga_node.specs.Record.{NodeRecord}
use Rattle.ga_node.specs.Table.{refusal_of_own_event}
use Rattle.ga_grid.specs.Chip.{node_record_at}
use Rattle.ga_lab.specs.Machine.{MachineState, chip_of_machine, machine_events_with_looks, has_step}
use Rattle.ga_scheduler.specs.Idle.{AreIdleNodeFlags}
use Rattle.ga_race_detector.specs.Races.{requested_races}
use Rattle.ga_race_detector.specs.Readings.{IsReportedLookRace, HasAllNearLookRaces}
use Rattle.ga_picture.specs.declared.view.PictureView.{PictureView}
use Rattle.ga_picture.specs.declared.placing.Drawing.{Drawing}
use Rattle.ga_picture.specs.declared.item.PictureItem.{PictureItem}
use Rattle.ga_picture.specs.Items.{PictureFacts, picture_items}

-- ---- the text, as far as its parts are specified

-- how a group of a colour begins
abbrev pub shade_group_tag : Shade → List ℕ
shade_group_tag Black = codes "<g class='k'>"
shade_group_tag Grey = codes "<g class='g'>"
shade_group_tag Red = codes "<g class='r'>"

-- how the group of a step begins that could have come out otherwise
abbrev pub race_group_tag : List ℕ
race_group_tag = codes "<g class='c'>"

-- what is drawn of an event or of a step that could have come out otherwise is a group that begins so
pub record IsSvgGroup (class text : List ℕ) : Type 0 where
  pub body : List ℕ
  pub is : text ≡ class ++ (body ++ codes "</g>\n")

-- one group for each of these beginnings, in their order
abbrev pub AreSvgGroups : List (List ℕ) → List ℕ → Type 0
AreSvgGroups [] text = text ≡ []
AreSvgGroups (class ∷ classes) text = (group : List ℕ) × (more : List ℕ) × IsSvgGroup class group × AreSvgGroups classes more × (text ≡ group ++ more)

-- how the groups of rows begin, and those of marks
abbrev pub row_group_tags : List PictureRow → List (List ℕ)
row_group_tags rows = map (λ (row : PictureRow). shade_group_tag (shade_of_shape row.shape)) rows

abbrev pub race_group_tags : List RaceMark → List (List ℕ)
race_group_tags marks = map (λ (mark : RaceMark). race_group_tag) marks

-- a head, the groups of the rows, those of the marks, and a foot
pub record IsSvgPicture (rows : List PictureRow) (marks : List RaceMark) (text : List ℕ) : Type 0 where
  pub head : List ℕ
  pub groups : List ℕ
  pub races : List ℕ
  pub drawn : AreSvgGroups (row_group_tags rows) groups
  pub raced : AreSvgGroups (race_group_tags marks) races
  pub is : text ≡ head ++ (groups ++ (races ++ codes "</svg>\n"))

-- ---- the marks of steps that could have come out otherwise

-- the step that could have come out otherwise
abbrev pub step_of_race : RacingStep → NodeId × ℕ
step_of_race (Pass race) = (race.reader, race.step)
step_of_race (Look reading) = (reading.node, reading.step)

-- the index of the row of the event at a place, if it has one; `start` of the oldest events are left out, and `at` rows come
-- before
abbrev pub row_index_of_event_from : List PictureRow → ℕ → ℕ → ℕ → Option ℕ
row_index_of_event_from [] start place before = None
row_index_of_event_from (row ∷ rows) start place before = if row.place + start == place then Some before else row_index_of_event_from rows start place (before + 1)

-- a mark at a row
abbrev pub race_mark_at_row : RacingStep → Option ℕ → List RaceMark
race_mark_at_row what None = []
race_mark_at_row what (Some row) = record { row = row; what = what } ∷ []

-- the mark at the row of the event at a place
abbrev pub race_mark_at_event : List PictureRow → ℕ → RacingStep → Option ℕ → List RaceMark
race_mark_at_event rows start what None = []
race_mark_at_event rows start what (Some place) = race_mark_at_row what (row_index_of_event_from rows start place 0)

-- the mark of a step that could have come out otherwise, at the row of its event
abbrev pub race_mark_of_step : List EventWithLook → ℕ → List PictureRow → RacingStep → List RaceMark
race_mark_of_step events start rows what = race_mark_at_event rows start what (position_of_step events (step_of_race what).0.number (step_of_race what).1)

abbrev pub race_marks_of_passes : List EventWithLook → ℕ → List PictureRow → List Race → List RaceMark
race_marks_of_passes events start rows races = flat_map (λ (race : Race). race_mark_of_step events start rows (Pass race)) races

abbrev pub race_marks_of_looks : List EventWithLook → ℕ → List PictureRow → List LookRace → List RaceMark
race_marks_of_looks events start rows readings = flat_map (λ (reading : LookRace). race_mark_of_step events start rows (Look reading)) readings

-- one mark for each pass and each look that could have come out otherwise, and whose event has a row
abbrev pub all_race_marks : List EventWithLook → ℕ → List PictureRow → List Race → List LookRace → List RaceMark
all_race_marks events start rows races readings = race_marks_of_passes events start rows races ++ race_marks_of_looks events start rows readings

-- ---- what a picture shows of a machine's kept events

-- the step exists, if one is given
abbrev pub has_optional_step : MachineState → Option (NodeId × StepSelector) → Bool
has_optional_step s None = true
has_optional_step s (Some step) = has_step s step.0.number (selected_step_number s step.0 step.1)

-- each requested step exists
abbrev pub has_requested_steps : MachineState → PictureView → Bool
has_requested_steps s view = has_optional_step s view.cause && has_optional_step s view.rewind

-- the place of the step: the last of a node is the newest event that touches it
abbrev pub event_position_of_step : List EventWithLook → NodeId → StepSelector → Option ℕ
event_position_of_step events node (Number step) = position_of_step events node.number step
event_position_of_step events node Last = position_of_step events node.number (count_touching_events node.number events)

-- the place of the step, where one is given
abbrev pub optional_step_position : List EventWithLook → Option (NodeId × StepSelector) → Option ℕ
optional_step_position events None = None
optional_step_position events (Some step) = event_position_of_step events step.0 step.1

-- the events after the last one that is in view are left out
abbrev pub view_end_position : List EventWithLook → PictureView → ℕ
view_end_position events view = min (length events) view.to

-- how many of the oldest events are left out
abbrev pub view_start_position : List EventWithLook → PictureView → ℕ
view_start_position events view = min (view_end_position events view) view.from

-- what is known of the events of a machine, in these colours, with these idle nodes
abbrev pub picture_inputs : List EventWithLook → (ℕ → Bool) → (ℕ → Bool) → PictureView → List Shade → PictureFacts
picture_inputs events ready idle view shades =
    record { events = events; shades = shades; ready = ready; idle = idle; cause = optional_step_position events view.cause; rewind = optional_step_position events view.rewind }

-- the events that are looked at
abbrev pub viewed_picture_items : List EventWithLook → (ℕ → Bool) → (ℕ → Bool) → PictureView → List Shade → List PictureItem
viewed_picture_items events ready idle view shades = picture_items (picture_inputs events ready idle view shades) view (view_start_position events view) (view_end_position events view)

-- Each event in view is drawn, unless it is left out, in the colour that it has by its dependence on the step whose causes are
-- requested and on the one whose rollback is. Independent nodes are left out, and listed at the foot.
pub record IsPictureOfEvents (events : List EventWithLook) (ready idle : ℕ → Bool) (view : PictureView) (drawing : Drawing) : Type 0 where
  pub shades : List Shade
  pub shaded : AreShadesOfEvents events (optional_step_position events view.cause) (optional_step_position events view.rewind) shades
  pub alone : ℕ → Bool
  pub are_alone : (n : ℕ) → IsTrue (alone n) ↔ IsIndependentNode (viewed_picture_items events ready idle view shades) n
  pub told : drawing.independent_nodes.items ≡ independent_nodes_with_counts (viewed_picture_items events ready idle view shades) alone
  pub drawn : IsDrawingOfItems (map (item_with_nodes_left_out alone) (viewed_picture_items events ready idle view shades)) view.fold drawing

-- a node neither waits nor is stopped
abbrev pub is_node_ready : List NodeRecord → ℕ → Bool
is_node_ready chip n = is_none (refusal_of_own_event (node_record_at chip n))

-- The picture of the machine's kept events.
pub record IsPicture (s : MachineState) (view : PictureView) (drawing : Drawing) : Type 0 where
  pub ready : ℕ → Bool
  pub are_ready : (n : ℕ) → n < 144 → ready n ≡ is_node_ready (chip_of_machine s) n
  pub idle : ℕ → Bool
  pub are_idle : AreIdleNodeFlags s idle
  pub drawn : IsPictureOfEvents (machine_events_with_looks s) ready idle view drawing

-- if requested, the marks of the passes and looks that `races` prints: of the looks all that a near change leads to
pub record AreRaceMarks (s : MachineState) (view : PictureView) (rows : List PictureRow) (marks : List RaceMark) : Type 0 where
  pub readings : List LookRace
  pub told : All (IsReportedLookRace s None) readings
  pub found : view.races ≡ true → HasAllNearLookRaces s None readings
  pub are : marks ≡ (if view.races then all_race_marks (machine_events_with_looks s) (view_start_position (machine_events_with_looks s) view) rows (requested_races s None) readings else [])

-- The text of the picture of the machine's kept events.
pub record IsPictureText (s : MachineState) (view : PictureView) (text : List ℕ) : Type 0 where
  pub drawing : Drawing
  pub is : IsPicture s view drawing
  pub marks : List RaceMark
  pub raced : AreRaceMarks s view drawing.rows.items marks
  pub written : IsSvgPicture drawing.rows.items marks text
