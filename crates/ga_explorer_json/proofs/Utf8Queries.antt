-- The texts of what the queries answer are UTF-8.
use Rattle.std.proofs.Common.{◌≡◌, ◌<◌, ◌≤◌, ℕ, zero, suc, ◌+◌, ◌-◌, List, [], ◌∷◌, ◌++◌, length, drop, Bool, codes, inl, inr, refl, sym, subst, arith}
use Rattle.std.specs.Prelude.{◌==◌, ◌&&◌, ◌%◌, nat_lt, min, pos, Option, Some, None, Result, Ok, Err, option_map, is_none}
use Rattle.std.specs.List.{slice_get}
use Rattle.std.specs.Str.{IsUtf8}
use Rattle.std.proofs.lemmas.Bool.{cond_both}
use Rattle.std.proofs.lemmas.Str.{IsUtf8-append}
use Rattle.ga_text.specs.Lines.{Text}
use Rattle.ga_text.specs.Digits.{name_of_node}
use Rattle.ga_ports.specs.declared.side.Side.{Side}
use Rattle.ga_ports.specs.declared.side.Side.TheVariants.{Right, Down, Left, Up}
use Rattle.ga_node.specs.Record.{NodeRecord}
use Rattle.ga_node.specs.declared.wait.Wait.{Wait}
use Rattle.ga_node.specs.declared.wait.Wait.TheVariants as wait
use Rattle.ga_grid.specs.Grid.{neighbour_number}
use Rattle.ga_grid.specs.Chip.{node_record_at}
use Rattle.ga_grid.specs.declared.node_id.NodeId.{NodeId}
use Rattle.ga_event.specs.Told.{count_steps}
use Rattle.ga_event.specs.declared.made.MadeEvent.{MadeEvent}
use Rattle.ga_event.specs.declared.flow.part.NodePart.{NodePart}
use Rattle.ga_debug_info.specs.declared.notes.DebugInfo.{DebugInfo}
use Rattle.ga_lab.specs.Machine.{MachineState, chip_of_machine, machine_events_with_looks, has_step, history_of_node, rewind_answer}
use Rattle.ga_lab.specs.declared.fault.LabFault.{LabFault}
use Rattle.ga_lab.specs.declared.fault.LabFault.TheVariants.{Memory, NoStep}
use Rattle.ga_races.specs.HappensBefore.{are_neighbours}
use Rattle.ga_scheduler.specs.Words.{link_transfers, link_transfer_count}
use Rattle.ga_scheduler.specs.Effects.{rollback_effects}
use Rattle.ga_scheduler.specs.declared.words.Transfer.{Transfer}
use Rattle.ga_scheduler.specs.declared.effects.RollbackEffect.{RollbackEffect}
use Rattle.ga_provenance.specs.Origins.{node_after_steps}
use Rattle.ga_provenance.specs.Writes.{cell_write_at}
use Rattle.ga_provenance.specs.Deciding.{newest_decision}
use Rattle.ga_provenance.specs.declared.writes.CellWrite.{CellWrite}
use Rattle.ga_provenance.specs.declared.deciding.BranchDecision.{BranchDecision}
use Rattle.ga_provenance.specs.declared.value.PartValue.{PartValue}
use Rattle.ga_provenance.specs.declared.lines.ProvenanceLine.{ProvenanceLine}
use Rattle.ga_race_detector.specs.declared.races.Race.{Race}
use Rattle.ga_race_detector.specs.declared.readings.LookRace.{LookRace}
use Rattle.ga_race_detector.specs.Readings.{step_removed_for_look}
use Rattle.ga_race_detector.specs.Races.{requested_races, has_made_or_next_look, first_ready_node}
use Rattle.ga_explorer_text.specs.Texts.{no_link_refusal}
use Rattle.ga_explorer_text.specs.Waiting.{activity_name, awaited_neighbour, count_passing_nodes}
use Rattle.ga_explorer_text.specs.Whence.{word_of_value, register_a_after_making_step, named_or_selected_part_value}
use Rattle.ga_json.specs.Values.{JsonValue, boolean, number, string, JsonItems, no_items, item}
use Rattle.ga_json.specs.Fields.{NamedValue}
use Rattle.ga_json.specs.Compact.{IsWritableValue, AreWritableItems}
use Rattle.ga_explorer_json.specs.Parts.{json_number_or_null, part_word_fields}
use Rattle.ga_explorer_json.specs.Events.{event_action_fields}
use Rattle.ga_explorer_json.specs.Refusals.{hint_of_refusal, refusal_json_about_step}
use Rattle.ga_explorer_json.specs.Rows.{json_rows_of_items, rows_if_first_present}
use Rattle.ga_explorer_json.specs.Around.{register_fields, step_fields, numbered_step_json, step_rows, steps_around_head_fields, step_rows_around, steps_around_json, steps_around_answer_json}
use Rattle.ga_explorer_json.specs.Because.{source_prefixed_fields, value_node_and_step_fields, tested_value_word_fields, tested_value_provenance_fields, branch_decision_fields, decision_json, decision_and_older_rows, decision_rows, decisions_head_fields, decisions_json, decisions_answer_json}
use Rattle.ga_explorer_json.specs.Effects.{rollback_effect_fields, rollback_effect_json, rollback_effects_head_fields, effects_json, IsRollbackEffectsJson}
use Rattle.ga_explorer_json.specs.Races.{race_json, look_race_json, race_rows, optional_node_json, races_head_fields, listed_races_json, races_json, IsRacesJson}
use Rattle.ga_explorer_json.specs.Source.{step_source_fields, value_source_fields, is_value_never_set}
use Rattle.ga_explorer_json.specs.Whence.{null_part_word_fields, optional_event_action_fields, step_action_fields, value_origin_fields, register_a_made_with_value, provenance_line_start_fields, provenance_line_value_fields, provenance_line_fields, provenance_line_json, provenance_line_rows, provenance_head_fields, next_provenance_line_number, provenance_lines_json, no_provenance_lines_json, IsQueriedValueJson, IsProvenanceJson}
use Rattle.ga_explorer_json.specs.Who.{neighbour_json, neighbour_activity_json, awaited_neighbour_fields, node_activity_fields, waiting_node_fields, waiting_node_json, has_waiting_node_row, waiting_node_rows, waiting_nodes_head_fields, waiting_nodes_json, IsWaitingNodesJson}
use Rattle.ga_explorer_json.specs.Words.{transfer_json, link_words_head_fields, transfers_json, link_words_answer_json}
use Rattle.ga_explorer_json.specs.Writes.{cell_write_fields, cell_write_json, rows_with_cell_write, cell_write_rows, cell_writes_head_fields, cell_writes_answer_rows, cell_writes_answer_json}
use Rattle.ga_explorer_json.proofs.Utf8Values.{is_low, low, plain, node_name, number_name, optional_number, number_if_any, AreUtf8Fields, are_named, fields, fields_append, json_object_of_member, report_of, rows_of, members_of, have_low_names, object_by}
use Rattle.ga_explorer_json.proofs.Utf8Rows.{hint_utf8, refusal, lab_refusal, step_refusal, action, value, step_source, value_source}

-- the same value
as_value : (value other : JsonValue) → value ≡ other → IsWritableValue other → IsWritableValue value
as_value value other e h = subst IsWritableValue (sym e) h

-- ---- `effects`

effect_utf8 : (notes : Option DebugInfo) (s : MachineState) (effect : RollbackEffect) → IsWritableValue (rollback_effect_json notes s effect)
unfolding is_low are_named
effect_utf8 notes s effect =
    json_object_of_member (rollback_effect_fields effect ++ step_source_fields notes s effect.node effect.first)
    (fields_append (rollback_effect_fields effect) (step_source_fields notes s effect.node effect.first) (fields (rollback_effect_fields effect) refl (node_name effect.node, (tt, (tt, tt))))
    (step_source notes s effect.node effect.first))

effects_by : (notes : Option DebugInfo) (s : MachineState) (node : NodeId) (step : ℕ) (effects : List RollbackEffect) (answer : Result ℕ LabFault) → IsWritableValue (effects_json notes s node step effects answer)
unfolding is_low are_named
effects_by notes s node step effects (Ok events) =
    report_of (rollback_effects_head_fields node step events (length effects)) (json_rows_of_items (rollback_effect_json notes s) effects)
    (fields (rollback_effects_head_fields node step events (length effects)) refl (plain (codes "effects") refl, (node_name node, (tt, (tt, (tt, tt))))))
    (rows_of (rollback_effect_json notes s) (effect_utf8 notes s) effects)
effects_by notes s node step effects (Err why) = step_refusal (codes "effects") node (count_steps node.number s.kept) why (plain (codes "effects") refl)

pub effects_utf8 : (notes : Option DebugInfo) (s : MachineState) (node : NodeId) (step : ℕ) (answer : JsonValue) → IsRollbackEffectsJson notes s node step answer → IsWritableValue answer
unfolding is_low
effects_utf8 notes s node step answer (inl e) = as_value answer _ e (effects_by notes s node step (rollback_effects s node.number step) (rewind_answer s node.number step))
effects_utf8 notes s node step answer (inr h) = as_value answer _ h.1 (lab_refusal (codes "effects") Memory (plain (codes "effects") refl))

-- ---- `words`

transfer_utf8 : (sent : Transfer) → IsWritableValue (transfer_json sent)
unfolding is_low have_low_names
transfer_utf8 sent = object_by (members_of (transfer_json sent)) refl (tt, (tt, (tt, (tt, tt))))

transfers_utf8 : (s : MachineState) (from to : NodeId) → IsWritableValue (transfers_json s from to)
unfolding is_low are_named
transfers_utf8 s from to =
    let count = link_transfer_count s from.number to.number in
    report_of (link_words_head_fields from to count) (json_rows_of_items transfer_json (link_transfers s from.number to.number))
    (fields (link_words_head_fields from to count) refl (plain (codes "words") refl, (node_name from, (node_name to, (tt, tt)))))
    (rows_of transfer_json transfer_utf8 (link_transfers s from.number to.number))

pub words_utf8 : (s : MachineState) (from to : NodeId) → IsWritableValue (link_words_answer_json s from to)
unfolding is_low
words_utf8 s from to =
    cond_both (are_neighbours from.number to.number) (transfers_json s from to) _ IsWritableValue (λ _. transfers_utf8 s from to)
    (λ _. refusal (codes "words") 34 (codes "nolink") (hint_of_refusal no_link_refusal) (plain (codes "words") refl) (plain (codes "nolink") refl) (hint_utf8 no_link_refusal (low no_link_refusal refl)))

-- ---- `writes`

cell_write_utf8 : (written : CellWrite) → IsWritableValue (cell_write_json written)
unfolding is_low are_named
cell_write_utf8 written =
    let first : List NamedValue = (codes "step", number (pos written.step)) ∷ [] in
    let last : List NamedValue = (codes "value", number (pos written.word)) ∷ [] in
    json_object_of_member (cell_write_fields written)
    (fields_append (first ++ event_action_fields written.made) last (fields_append first (event_action_fields written.made) (fields first refl (tt, tt)) (action written.made)) (fields last refl (tt, tt)))

with_write : (written : Option CellWrite) (older : JsonItems) → AreWritableItems older → AreWritableItems (rows_with_cell_write written older)
with_write None older h = h
with_write (Some written) older h = (cell_write_utf8 written, h)

write_rows : (s : MachineState) (n cell k : ℕ) → AreWritableItems (cell_write_rows s n cell k)
unfolding cell_write_rows
write_rows s n cell zero = tt
write_rows s n cell (suc k) = with_write (cell_write_at s n cell k) (cell_write_rows s n cell k) (write_rows s n cell k)

pub writes_utf8 : (s : MachineState) (node : NodeId) (address : ℕ) → IsWritableValue (cell_writes_answer_json s node address)
unfolding is_low are_named
writes_utf8 s node address =
    report_of (cell_writes_head_fields node address) (cell_writes_answer_rows s node address) (fields (cell_writes_head_fields node address) refl (plain (codes "writes") refl, (node_name node, (tt, tt))))
    (cond_both (nat_lt address 128) (cell_write_rows s node.number (address % 64) (count_steps node.number s.kept)) no_items AreWritableItems
    (λ _. write_rows s node.number (address % 64) (count_steps node.number s.kept)) (λ _. tt))

-- ---- `at`

numbered_step : (notes : Option DebugInfo) (s : MachineState) (node : NodeId) (step : ℕ) (after : NodeRecord) (made : MadeEvent) → IsWritableValue (numbered_step_json notes s node step after made)
unfolding is_low are_named
numbered_step notes s node step after made =
    let first : List NamedValue = (codes "step", number (pos step)) ∷ [] in
    json_object_of_member (step_fields step after made ++ step_source_fields notes s node step)
    (fields_append (step_fields step after made) (step_source_fields notes s node step)
    (fields_append (first ++ event_action_fields made) (register_fields after) (fields_append first (event_action_fields made) (fields first refl (tt, tt)) (action made))
    (fields (register_fields after) refl (tt, (tt, (tt, (tt, (tt, (tt, tt)))))))) (step_source notes s node step))

step_before : (notes : Option DebugInfo) (s : MachineState) (node : NodeId) (step : ℕ) (after : NodeRecord) (made : Option MadeEvent) (rest : JsonItems) → AreWritableItems rest
    → AreWritableItems (rows_if_first_present (option_map (numbered_step_json notes s node step after) made) rest)
step_before notes s node step after None rest h = tt
step_before notes s node step after (Some made) rest h = (numbered_step notes s node step after made, h)

steps_from : (notes : Option DebugInfo) (s : MachineState) (node : NodeId) (k more : ℕ) → AreWritableItems (step_rows notes s node k more)
unfolding step_rows
steps_from notes s node k zero = tt
steps_from notes s node k (suc more) =
    step_before notes s node (k + 1) (node_after_steps s node.number (k + 1)) (slice_get (history_of_node s node.number) (k + 1 - 1)) (step_rows notes s node (k + 1) more) (steps_from notes s node (k + 1) more)

pub at_utf8 : (notes : Option DebugInfo) (s : MachineState) (node : NodeId) (step around : ℕ) → IsWritableValue (steps_around_answer_json notes s node step around)
unfolding is_low are_named
at_utf8 notes s node step around =
    let count = count_steps node.number s.kept in
    cond_both (has_step s node.number step) (steps_around_json notes s node step around) (refusal_json_about_step (codes "at") node count NoStep) IsWritableValue
    (λ _. report_of (steps_around_head_fields node step) (step_rows_around notes s node step around) (fields (steps_around_head_fields node step) refl (plain (codes "at") refl, (node_name node, (tt, tt))))
    (steps_from notes s node (step - 1 - around) (min (step + around) count - (step - 1 - around))))
    (λ _. step_refusal (codes "at") node count NoStep (plain (codes "at") refl))

-- ---- `whence`

made_by : (made : Option MadeEvent) → AreUtf8Fields (optional_event_action_fields made)
made_by None = tt
made_by (Some made) = action made

made_or_loaded : (s : MachineState) (value : PartValue) → AreUtf8Fields (value_origin_fields s value)
unfolding is_low are_named
made_or_loaded s value =
    let loaded : List NamedValue = (codes "what", string (codes "load")) ∷ [] in
    let made = slice_get (history_of_node s value.node.number) (value.step - 1) in
    cond_both (value.step == 0) loaded (optional_event_action_fields made) AreUtf8Fields (λ _. fields loaded refl (plain (codes "load") refl, tt)) (λ _. made_by made)

line_values : (notes : Option DebugInfo) (s : MachineState) (line : ProvenanceLine) (word a : ℕ) → AreUtf8Fields (provenance_line_value_fields notes s line word a)
unfolding is_low are_named
line_values notes s line word a =
    let other = register_a_made_with_value s line.value a in
    let never = is_value_never_set notes line.value in
    let last : List NamedValue = (codes "a", json_number_or_null other) ∷ (codes "count", number (pos line.count)) ∷ (codes "never_set", boolean never) ∷ [] in
    fields_append (part_word_fields line.value.part word) last (value line.value.part word) (fields last refl (optional_number other, (tt, (tt, tt))))

line_utf8 : (notes : Option DebugInfo) (s : MachineState) (k : ℕ) (line : ProvenanceLine) (word a : ℕ) → IsWritableValue (provenance_line_json notes s k line word a)
unfolding is_low are_named
line_utf8 notes s k line word a =
    let start = provenance_line_start_fields k line in
    let origin = value_origin_fields s line.value in
    let values = provenance_line_value_fields notes s line word a in
    let source = value_source_fields notes s line.value in
    json_object_of_member (provenance_line_fields notes s k line word a)
    (fields_append (start ++ origin ++ values) source
    (fields_append (start ++ origin) values
    (fields_append start origin (fields start refl (tt, (tt, (node_name line.value.node, (number_if_any line.value.step, tt))))) (made_or_loaded s line.value)) (line_values notes s line word a))
    (value_source notes s line.value))

provenance_lines_text_from : (notes : Option DebugInfo) (s : MachineState) (k : ℕ) (lines : List ProvenanceLine) → AreWritableItems (provenance_line_rows notes s k lines)
provenance_lines_text_from notes s k [] = tt
provenance_lines_text_from notes s k (line ∷ rest) =
    (line_utf8 notes s (k + 1) line (word_of_value s line.value) (register_a_after_making_step s line.value), provenance_lines_text_from notes s (k + 1) rest)

whence_head : (notes : Option DebugInfo) (s : MachineState) (node : NodeId) (step first : ℕ) (queried : List NamedValue) (more : Option ℕ) → AreUtf8Fields queried
    → AreUtf8Fields (provenance_head_fields notes s node step first queried more)
unfolding is_low are_named
whence_head notes s node step first queried more h =
    let front : List NamedValue = (codes "command", string (codes "whence")) ∷ (codes "node", string (name_of_node node)) ∷ (codes "step", number (pos step)) ∷ [] in
    let did = step_action_fields s node step in
    let lines : List NamedValue = (codes "first", number (pos first)) ∷ (codes "more_from", json_number_or_null more) ∷ [] in
    fields_append (front ++ did ++ lines ++ queried) (step_source_fields notes s node step)
    (fields_append (front ++ did ++ lines) queried
    (fields_append (front ++ did) lines
    (fields_append front did (fields front refl (plain (codes "whence") refl, (node_name node, (tt, tt)))) (made_by (slice_get (history_of_node s node.number) (step - 1))))
    (fields lines refl (tt, (optional_number more, tt)))) h) (step_source notes s node step)

value_utf8 : (notes : Option DebugInfo) (s : MachineState) (node : NodeId) (step first : ℕ) (queried : Option PartValue) (answer : JsonValue) → IsQueriedValueJson notes s node step first queried answer → IsWritableValue answer
unfolding is_low are_named
value_utf8 notes s node step first None answer e =
    as_value answer (no_provenance_lines_json notes s node step first) e
    (report_of (provenance_head_fields notes s node step first null_part_word_fields None) no_items (whence_head notes s node step first null_part_word_fields None (fields null_part_word_fields refl (tt, (tt, (tt, tt))))) tt)
value_utf8 notes s node step first (Some queried) answer (inl e) = as_value answer _ e (lab_refusal (codes "whence") Memory (plain (codes "whence") refl))
value_utf8 notes s node step first (Some queried) answer (inr h) =
    let asked = part_word_fields queried.part (word_of_value s queried) in
    let more = next_provenance_line_number (length h.lines) h.is_whole in
    as_value answer (provenance_lines_json notes s node step first queried h.lines h.is_whole) h.json
    (report_of (provenance_head_fields notes s node step first asked more) (provenance_line_rows notes s (first - 1) (drop (first - 1) h.lines))
    (whence_head notes s node step first asked more (value queried.part (word_of_value s queried))) (provenance_lines_text_from notes s (first - 1) (drop (first - 1) h.lines)))

pub whence_utf8 : (notes : Option DebugInfo) (s : MachineState) (node : NodeId) (step : ℕ) (at : Option NodePart) (first : ℕ) (answer : JsonValue) → IsProvenanceJson notes s node step at first answer → IsWritableValue answer
unfolding is_low
whence_utf8 notes s node step at first answer (inl h) = as_value answer _ h.1 (step_refusal (codes "whence") node (count_steps node.number s.kept) NoStep (plain (codes "whence") refl))
whence_utf8 notes s node step at first answer (inr h) = value_utf8 notes s node step first (named_or_selected_part_value s node step at) answer h.1

-- ---- `because`

-- fields under names of their own
sourced : (named : List NamedValue) → AreUtf8Fields named → AreUtf8Fields (source_prefixed_fields named)
unfolding is_low
sourced [] h = tt
sourced (field ∷ named) h = ((IsUtf8-append (codes "source_") field.0 (plain (codes "source_") refl) h.0.0, h.0.1), sourced named h.1)

source_front : (value : PartValue) → AreUtf8Fields (value_node_and_step_fields value)
unfolding is_low are_named
source_front value = fields (value_node_and_step_fields value) refl (node_name value.node, (number_if_any value.step, tt))

source_words : (notes : Option DebugInfo) (s : MachineState) (made : PartValue) (word a : ℕ) → AreUtf8Fields (tested_value_word_fields notes s made word a)
unfolding is_low are_named
source_words notes s made word a =
    let other = register_a_made_with_value s made a in
    let never = is_value_never_set notes made in
    let last : List NamedValue = (codes "a", json_number_or_null other) ∷ (codes "never_set", boolean never) ∷ [] in
    fields_append (part_word_fields made.part word) last (value made.part word) (fields last refl (optional_number other, (tt, tt)))

source_value : (notes : Option DebugInfo) (s : MachineState) (made : PartValue) (word a : ℕ) → AreUtf8Fields (tested_value_provenance_fields notes s made word a)
source_value notes s made word a =
    let front = source_prefixed_fields (value_node_and_step_fields made) in
    let origin = source_prefixed_fields (value_origin_fields s made) in
    let words = source_prefixed_fields (tested_value_word_fields notes s made word a) in
    let source = source_prefixed_fields (value_source_fields notes s made) in
    fields_append (front ++ origin ++ words) source
    (fields_append (front ++ origin) words
    (fields_append front origin (sourced (value_node_and_step_fields made) (source_front made)) (sourced (value_origin_fields s made) (made_or_loaded s made)))
    (sourced (tested_value_word_fields notes s made word a) (source_words notes s made word a)))
    (sourced (value_source_fields notes s made) (value_source notes s made))

decided_step : (notes : Option DebugInfo) (s : MachineState) (node : NodeId) (decision : BranchDecision) → AreUtf8Fields (branch_decision_fields notes s node decision)
unfolding is_low are_named
decided_step notes s node decision =
    let first : List NamedValue = (codes "step", number (pos decision.step)) ∷ [] in
    let did = event_action_fields decision.made in
    let tested = part_word_fields decision.tested.part decision.word in
    fields_append (first ++ did ++ tested) (step_source_fields notes s node decision.step)
    (fields_append (first ++ did) tested (fields_append first did (fields first refl (tt, tt)) (action decision.made)) (value decision.tested.part decision.word))
    (step_source notes s node decision.step)

decision_utf8 : (notes : Option DebugInfo) (s : MachineState) (node : NodeId) (decision : BranchDecision) → IsWritableValue (decision_json notes s node decision)
decision_utf8 notes s node decision =
    let word = word_of_value s decision.source in
    let a = register_a_after_making_step s decision.source in
    json_object_of_member (branch_decision_fields notes s node decision ++ tested_value_provenance_fields notes s decision.source word a)
    (fields_append (branch_decision_fields notes s node decision) (tested_value_provenance_fields notes s decision.source word a) (decided_step notes s node decision) (source_value notes s decision.source word a))

decision_before_utf8 : (notes : Option DebugInfo) (s : MachineState) (node : NodeId) (older : ℕ → JsonItems) → ((k : ℕ) → AreWritableItems (older k)) → (decision : Option BranchDecision)
    → AreWritableItems (decision_and_older_rows notes s node older decision)
decision_before_utf8 notes s node older h None = tt
decision_before_utf8 notes s node older h (Some decision) = (decision_utf8 notes s node decision, h (decision.step - 1))

decisions_from : (notes : Option DebugInfo) (s : MachineState) (node : NodeId) (more k : ℕ) → AreWritableItems (decision_rows notes s node more k)
unfolding decision_rows
decisions_from notes s node zero k = tt
decisions_from notes s node (suc more) k = decision_before_utf8 notes s node (decision_rows notes s node more) (decisions_from notes s node more) (newest_decision s node k)

pub because_utf8 : (notes : Option DebugInfo) (s : MachineState) (node : NodeId) (step most : ℕ) → IsWritableValue (decisions_answer_json notes s node step most)
unfolding is_low are_named
because_utf8 notes s node step most =
    let count = count_steps node.number s.kept in
    cond_both (has_step s node.number step) (decisions_json notes s node step most) (refusal_json_about_step (codes "because") node count NoStep) IsWritableValue
    (λ _. report_of (decisions_head_fields node step) (decision_rows notes s node most (step - 1)) (fields (decisions_head_fields node step) refl (plain (codes "because") refl, (node_name node, (tt, tt))))
    (decisions_from notes s node most (step - 1)))
    (λ _. step_refusal (codes "because") node count NoStep (plain (codes "because") refl))

-- ---- `races`

race_utf8 : (race : Race) → IsWritableValue (race_json race)
unfolding is_low have_low_names
race_utf8 race =
    object_by (members_of (race_json race)) refl
    (plain (codes "pass") refl, (node_name race.reader, (tt, (tt, (node_name race.writer, (tt, (node_name race.other, (node_name race.reader, (tt, (node_name race.other, tt))))))))))

look_race_utf8 : (reading : LookRace) → IsWritableValue (look_race_json reading)
unfolding is_low have_low_names
look_race_utf8 reading =
    object_by (members_of (look_race_json reading)) refl
    (plain (codes "look") refl, (node_name reading.node, (tt, (tt, (tt, (node_name reading.neighbour, (tt, (tt, (node_name (step_removed_for_look reading).0, (tt, (node_name reading.node, tt)))))))))))

races_from : (races : List Race) (readings : List LookRace) → AreWritableItems (race_rows races readings)
races_from [] readings = rows_of look_race_json look_race_utf8 readings
races_from (race ∷ races) readings = (race_utf8 race, races_from races readings)

optional_node : (only : Option NodeId) → IsWritableValue (optional_node_json only)
optional_node None = tt
optional_node (Some node) = node_name node

listed_races : (only : Option NodeId) (races : List Race) (readings : List LookRace) (looks quiet : Bool) → IsWritableValue (listed_races_json only races readings looks quiet)
unfolding is_low are_named
listed_races only races readings looks quiet =
    let head = races_head_fields only (length races + length readings) looks quiet in
    report_of head (race_rows races readings) (fields head refl (plain (codes "races") refl, (optional_node only, (tt, (tt, (tt, tt)))))) (races_from races readings)

pub races_utf8 : (s : MachineState) (only : Option NodeId) (answer : JsonValue) → IsRacesJson s only answer → IsWritableValue answer
unfolding is_low
races_utf8 s only answer (inl h) =
    as_value answer (races_json s only h.0) h.3 (listed_races only (requested_races s only) h.0 (has_made_or_next_look (machine_events_with_looks s) (chip_of_machine s)) (is_none (first_ready_node (chip_of_machine s))))
races_utf8 s only answer (inr e) = as_value answer _ e (lab_refusal (codes "races") Memory (plain (codes "races") refl))

-- ---- `who`

pub activity_utf8 : (waits : Wait) (stop : ℕ) → IsUtf8 (activity_name waits stop)
unfolding is_low
activity_utf8 (wait.Fetch sides) stop = plain (codes "fetches") refl
activity_utf8 (wait.Read sides) stop = plain (codes "reads") refl
activity_utf8 (wait.Write side) stop = plain (codes "writes") refl
activity_utf8 wait.Nothing stop = cond_both (stop == 0) (codes "runs") (codes "stopped") IsUtf8 (λ _. plain (codes "runs") refl) (λ _. plain (codes "stopped") refl)

neighbour_below : (n m : ℕ) (side : Side) → n < 144 → neighbour_number n side ≡ Some m → m < 144
neighbour_below n m Right l h = grind arith
neighbour_below n m Down l h = grind arith
neighbour_below n m Left l h = grind arith
neighbour_below n m Up l h = grind arith

awaited_below : (chip : List NodeRecord) (n m : ℕ) (side : Side) → n < 144 → awaited_neighbour chip n side ≡ Some m → m < 144
awaited_below chip n m side l h = grind (arith, neighbour_below n m side)

neighbour_utf8 : (chip : List NodeRecord) (n : ℕ) (side : Side) → n < 144 → IsWritableValue (neighbour_json (awaited_neighbour chip n side))
neighbour_utf8 chip n side l = by (awaited_neighbour chip n side) refl where
  by : (m : Option ℕ) → awaited_neighbour chip n side ≡ m → IsWritableValue (neighbour_json m)
  by None e = tt
  by (Some m) e = number_name m (awaited_below chip n m side l e)

neighbour_does : (chip : List NodeRecord) (m : Option ℕ) → IsWritableValue (neighbour_activity_json chip m)
neighbour_does chip None = tt
neighbour_does chip (Some m) = activity_utf8 (node_record_at chip m).wait (node_record_at chip m).stop

awaited : (chip : List NodeRecord) (n : ℕ) (side : Side) (name does : Text) → n < 144 → IsUtf8 name → IsUtf8 does → AreUtf8Fields (awaited_neighbour_fields chip n side name does)
awaited chip n side name does l a b = ((a, neighbour_utf8 chip n side l), ((b, neighbour_does chip (awaited_neighbour chip n side)), tt))

waiting_utf8 : (chip : List NodeRecord) (deadlocked ended : Bool) (n : ℕ) → n < 144 → IsWritableValue (waiting_node_json chip deadlocked ended n)
unfolding is_low are_named
waiting_utf8 chip deadlocked ended n l =
    let first = node_activity_fields chip deadlocked ended n in
    let right = awaited_neighbour_fields chip n Right (codes "right") (codes "right_does") in
    let down = awaited_neighbour_fields chip n Down (codes "down") (codes "down_does") in
    let left = awaited_neighbour_fields chip n Left (codes "left") (codes "left_does") in
    let up = awaited_neighbour_fields chip n Up (codes "up") (codes "up_does") in
    json_object_of_member (waiting_node_fields chip deadlocked ended n)
    (fields_append first (right ++ down ++ left ++ up)
    (fields first refl (number_name n l, (activity_utf8 (node_record_at chip n).wait (node_record_at chip n).stop, (tt, (tt, tt)))))
    (fields_append right (down ++ left ++ up) (awaited chip n Right (codes "right") (codes "right_does") l (plain (codes "right") refl) (plain (codes "right_does") refl))
    (fields_append down (left ++ up) (awaited chip n Down (codes "down") (codes "down_does") l (plain (codes "down") refl) (plain (codes "down_does") refl))
    (fields_append left up (awaited chip n Left (codes "left") (codes "left_does") l (plain (codes "left") refl) (plain (codes "left_does") refl))
    (awaited chip n Up (codes "up") (codes "up_does") l (plain (codes "up") refl) (plain (codes "up_does") refl))))))

waiting_from : (chip : List NodeRecord) (marks over idle : ℕ → Bool) (n more : ℕ) → n + more ≤ 144 → AreWritableItems (waiting_node_rows chip marks over idle n more)
unfolding waiting_node_rows
waiting_from chip marks over idle n zero l = tt
waiting_from chip marks over idle n (suc more) l =
    let rest = waiting_node_rows chip marks over idle (n + 1) more in
    let later = waiting_from chip marks over idle (n + 1) more (omega (arith, l)) in
    cond_both (has_waiting_node_row chip marks idle n) (item (waiting_node_json chip (marks n) (over n) n) rest) rest AreWritableItems
    (λ _. (waiting_utf8 chip (marks n) (over n) n (omega (arith, l)), later)) (λ _. later)

pub who_utf8 : (s : MachineState) (answer : JsonValue) → IsWaitingNodesJson s answer → IsWritableValue answer
unfolding is_low are_named
who_utf8 s answer h =
    let head = waiting_nodes_head_fields (count_passing_nodes h.idle 144) (count_passing_nodes (λ n. h.marks n && h.idle n) 144) in
    as_value answer (waiting_nodes_json (chip_of_machine s) h.marks h.over h.idle) h.json
    (report_of head (waiting_node_rows (chip_of_machine s) h.marks h.over h.idle 0 144) (fields head refl (plain (codes "who") refl, (tt, (tt, tt))))
    (waiting_from (chip_of_machine s) h.marks h.over h.idle 0 144 (omega arith)))
