-- The provenance of a value as lines, the nearest first, each of a value or of a run of values that differ only in their steps
-- (docs/REFERENCE.md, "Exploring").
use Rattle.std.specs.Prelude.{◌≡◌, ℕ, zero, suc, ◌-◌, ◌*◌, ◌/◌, ◌%◌, ◌<◌, ◌==◌, nat_lt, nat_le, Bool, true, false, not, ◌&&◌, ◌||◌, if◌then◌else◌, List, [], ◌∷◌, ◌++◌, length, map, Option, Some, None, option_map, option_to_list, is_none, Contains}
use Rattle.std.specs.List.{list_any, list_all, find, slice_get}
use Rattle.ga_node.specs.declared.kind.OwnEventKind.{OwnEventKind}
use Rattle.ga_node.specs.declared.kind.OwnEventKind.TheVariants as kind
use Rattle.ga_event.specs.declared.made.MadeEvent.{MadeEvent}
use Rattle.ga_event.specs.declared.made.MadeEvent.TheVariants as made
use Rattle.ga_event.specs.Flow.{is_same_node_part}
use Rattle.ga_lab.specs.Machine.{MachineState, history_of_node}
use Rattle.ga_provenance.specs.declared.value.PartValue.{PartValue}
use Rattle.ga_provenance.specs.declared.lines.ProvenanceLine.{ProvenanceLine}
use Rattle.ga_provenance.specs.declared.lines.UsedValue.{UsedValue}
use Rattle.ga_provenance.specs.Origins.{value_made_by_step, origin_of_value, IsMovedValue}
use Rattle.ga_provenance.specs.Sources.{is_same_value, value_sources}

-- ---- provenance

-- the values from which a value was made, as the steps made them
abbrev pub source_origins : MachineState → PartValue → List PartValue
source_origins s value = map (origin_of_value s) (value_sources s value)

-- The provenance of a value: the value as a step made it, and with each value those from which it was made.
pub data IsProvenance (s : MachineState) (queried : PartValue) : PartValue → Type 0 where
  origin : IsProvenance s queried (origin_of_value s queried)
  source : {value : PartValue} → IsProvenance s queried value → (source : PartValue) → Contains (source_origins s value) source → IsProvenance s queried source

-- ---- runs

-- whether two events of a node's own ran the same opcode, or fetched
abbrev pub ran_same_opcode : OwnEventKind → OwnEventKind → Bool
ran_same_opcode kind.Fetch kind.Fetch = true
ran_same_opcode (kind.Run code) (kind.Run other) = code == other
ran_same_opcode _ _ = false

-- whether two steps, as made, ran the same opcode, or fetched
abbrev pub is_same_opcode_event : Option MadeEvent → Option MadeEvent → Bool
is_same_opcode_event (Some (made.Own node step kind)) (Some (made.Own other place more)) = ran_same_opcode kind more
is_same_opcode_event _ _ = false

-- the step that made a value, as made
abbrev pub event_that_made_value : MachineState → PartValue → Option MadeEvent
event_that_made_value s value = slice_get (history_of_node s value.node.number) (value.step - 1)

-- whether two values are of one part, and were made by the same opcode, the second one earlier
abbrev pub is_same_opcode_repetition : MachineState → PartValue → PartValue → Bool
is_same_opcode_repetition s value next =
    nat_lt 0 next.step && (nat_lt next.step value.step && ((value.node.number == next.node.number) && (is_same_node_part value.part next.part
    && is_same_opcode_event (event_that_made_value s value) (event_that_made_value s next))))

-- whether each value is this one or among some others
abbrev pub are_values_among : PartValue → List PartValue → List PartValue → Bool
are_values_among value others values = list_all (λ it. is_same_value it value || list_any (is_same_value it) others) values

-- Whether the run of a value continues with another: that is an earlier repetition, and was made from all the other values from which
-- the first one was made. So what a run was made from is among that from which its oldest value was made.
abbrev pub is_next_value_in_run : MachineState → PartValue → PartValue → Bool
is_next_value_in_run s value next = is_same_opcode_repetition s value next && are_values_among next (source_origins s next) (source_origins s value)

-- the first such among those from which it was made
abbrev pub next_value_in_run : MachineState → PartValue → Option PartValue
next_value_in_run s value = find (is_next_value_in_run s value) (source_origins s value)

-- ---- lines

-- the value at a place of the run of a line, 0 for the newest, and the oldest one
abbrev pub value_in_run_at : ProvenanceLine → ℕ → PartValue
value_in_run_at line at = value_made_by_step line.value.node (line.value.step - at * line.period) line.value.part

abbrev pub oldest_value_of_run : ProvenanceLine → PartValue
oldest_value_of_run line = value_in_run_at line (line.count - 1)

-- whether a value this number of steps before the newest is in the run of a line: at a whole number of periods
abbrev pub is_at_run_period : ProvenanceLine → ℕ → Bool
is_at_run_period line back = if line.period == 0 then back == 0 else (back % line.period == 0) && nat_lt (back / line.period) line.count

-- whether a value is in the run of a line, and whether it is listed
abbrev pub is_value_in_run : ProvenanceLine → PartValue → Bool
is_value_in_run line value =
    (line.value.node.number == value.node.number) && (is_same_node_part line.value.part value.part && (nat_le value.step line.value.step
    && is_at_run_period line (line.value.step - value.step)))

abbrev pub is_value_listed : List ProvenanceLine → PartValue → Bool
is_value_listed lines value = list_any (λ (line : ProvenanceLine). is_value_in_run line value) lines

-- the number of values that follow one in a run, each a period before the last and not listed: at most `most`
abbrev pub is_follower_in_run : List ProvenanceLine → ℕ → PartValue → PartValue → Bool
is_follower_in_run lines period value next = (value.step - next.step == period) && not (is_value_listed lines next)

abbrev pub follower_count_from_next_value : (PartValue → Bool) → (PartValue → ℕ) → Option PartValue → ℕ
follower_count_from_next_value follows count None = 0
follower_count_from_next_value follows count (Some next) = if follows next then suc (count next) else 0

abbrev pub follower_count_in_value_run : MachineState → List ProvenanceLine → ℕ → ℕ → PartValue → ℕ
follower_count_in_value_run s lines period zero value = 0
follower_count_in_value_run s lines period (suc most) value = follower_count_from_next_value (is_follower_in_run lines period value) (follower_count_in_value_run s lines period most) (next_value_in_run s value)

-- the number of steps to the next value of a run
abbrev pub steps_to_next_value : PartValue → Option PartValue → ℕ
steps_to_next_value value None = 0
steps_to_next_value value (Some next) = value.step - next.step

-- the line of a used value after these lines: the longest run of values that these don't list
abbrev pub provenance_line_of_run : UsedValue → PartValue → ℕ → ℕ → ProvenanceLine
provenance_line_of_run usage value period followers =
    record { user = usage.user; value = value; used = usage.used; count = suc followers; period = if followers == 0 then 0 else period }

abbrev pub run_line_of_value : MachineState → List ProvenanceLine → UsedValue → PartValue → ℕ → ProvenanceLine
run_line_of_value s lines usage value period = provenance_line_of_run usage value period (follower_count_in_value_run s lines period value.step value)

abbrev pub provenance_line_of_use : MachineState → List ProvenanceLine → UsedValue → ProvenanceLine
provenance_line_of_use s lines usage = run_line_of_value s lines usage (origin_of_value s usage.used) (steps_to_next_value (origin_of_value s usage.used) (next_value_in_run s (origin_of_value s usage.used)))

-- ---- listings

-- values that the line with this number used, and those that lines used from this number on: those from which the oldest value of
-- each was made
abbrev pub values_used_by_line : ℕ → List PartValue → List UsedValue
values_used_by_line user values = map (λ (value : PartValue). record { user = user; used = value }) values

abbrev pub values_used_by_lines : MachineState → ℕ → List ProvenanceLine → List UsedValue
values_used_by_lines s user [] = []
values_used_by_lines s user (line ∷ lines) = values_used_by_line user (value_sources s (oldest_value_of_run line)) ++ values_used_by_lines s (suc user) lines

-- the values that a listing of a value has to list: this value, and those that its lines used
abbrev pub values_due_for_listing : MachineState → PartValue → List ProvenanceLine → List UsedValue
values_due_for_listing s value lines = record { user = 0; used = value } ∷ values_used_by_lines s 1 lines

-- the first of them that these lines don't list
abbrev pub is_unlisted_use : MachineState → List ProvenanceLine → UsedValue → Bool
is_unlisted_use s lines usage = not (is_value_listed lines (origin_of_value s usage.used))

abbrev pub next_unlisted_use : MachineState → PartValue → List ProvenanceLine → Option UsedValue
next_unlisted_use s value lines = find (is_unlisted_use s lines) (values_due_for_listing s value lines)

-- The first `count` lines of a value: each next one is the line of the first value that is used and isn't listed. So lines of values that are
-- fewer steps of provenance away come first.
abbrev pub append_next_provenance_line : MachineState → List ProvenanceLine → Option UsedValue → List ProvenanceLine
append_next_provenance_line s lines usage = lines ++ option_to_list (option_map (provenance_line_of_use s lines) usage)

abbrev pub first_provenance_lines : MachineState → PartValue → ℕ → List ProvenanceLine
first_provenance_lines s value zero = []
first_provenance_lines s value (suc count) = append_next_provenance_line s (first_provenance_lines s value count) (next_unlisted_use s value (first_provenance_lines s value count))

-- the first lines of a value, and whether they are all
pub record AreProvenanceLinesOf (s : MachineState) (value : PartValue) (lines : List ProvenanceLine) (is_whole : Bool) : Type 0 where
  pub first : lines ≡ first_provenance_lines s value (length lines)
  pub whole : is_whole ≡ is_none (next_unlisted_use s value lines)

-- the value of a line was only moved between the step that made it and its use
abbrev pub IsLineOfMovedValue : MachineState → ProvenanceLine → Type 0
IsLineOfMovedValue s line = IsMovedValue s line.value line.used

-- ---- laws

-- a value at a place of a line's run
pub record IsValueListedAt (lines : List ProvenanceLine) (line at : ℕ) (value : PartValue) : Type 0 where
  pub found : ProvenanceLine
  pub there : slice_get lines line ≡ Some found
  pub within : at < found.count
  pub same : value_in_run_at found at ≡ value
