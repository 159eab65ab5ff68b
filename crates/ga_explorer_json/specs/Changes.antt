-- What the commands that change the machine answer, as JSON values (docs/REFERENCE.md, "Sessions" and "Runs"; this project's own).
use Rattle.std.specs.Prelude.{◌≡◌, ℕ, ◌+◌, ◌⊎◌, pos, List, [], ◌∷◌, ◌++◌, codes, Option, Some, Result, Ok, Err, IsOk}
use Rattle.ga_text.specs.Lines.{Text}
use Rattle.ga_grid.specs.declared.node_id.NodeId.{NodeId}
use Rattle.ga_event.specs.declared.made.MadeEvent.{MadeEvent}
use Rattle.ga_lab.specs.Machine.{MachineState, step_answer, state_after_step}
use Rattle.ga_lab.specs.declared.fault.LabFault.{LabFault}
use Rattle.ga_lab.specs.declared.fault.LabFault.TheVariants.{Memory}
use Rattle.ga_scheduler.specs.declared.running.RunEnd.{RunEnd}
use Rattle.ga_scheduler.specs.declared.running.RunEnd.TheVariants as run_end
use Rattle.ga_explorer.specs.declared.changes.ChangeResult.{ChangeResult}
use Rattle.ga_explorer.specs.declared.changes.ChangeResult.TheVariants.{RunEnded, EventsRemoved, Refused}
use Rattle.ga_explorer.specs.declared.expecting.ExpectingRefusal.{ExpectingRefusal}
use Rattle.ga_explorer.specs.declared.expecting.ExpectingRefusal.TheVariants.{NothingExpected, Memory as NoMemory}
use Rattle.ga_explorer.specs.Expecting.{expecting_refusal_text}
use Rattle.ga_json.specs.Values.{JsonValue, number, string}
use Rattle.ga_json.specs.Fields.{NamedValue, json_object}
use Rattle.ga_explorer_json.specs.Events.{made_event_fields}
use Rattle.ga_explorer_json.specs.Parts.{json_number_or_null}
use Rattle.ga_explorer_json.specs.Refusals.{hint_of_refusal, refusal_json, lab_fault_keyword, lab_fault_hint, lab_refusal_json, refusal_json_about_step}

-- ---- `step`

abbrev pub step_answer_json : Result MadeEvent LabFault → JsonValue
step_answer_json (Ok made) = json_object ((codes "command", string (codes "step")) ∷ made_event_fields made)
step_answer_json (Err why) = lab_refusal_json (codes "step") why

-- The answer is the event that was made, or why none was; or out of memory if one could be made, and then nothing changes.
abbrev pub IsStepJson : MachineState → NodeId → MachineState → JsonValue → Type 0
IsStepJson s node new answer =
    ((answer ≡ step_answer_json (step_answer s node)) × (new ≡ state_after_step s node))
    ⊎ (IsOk (step_answer s node) × (answer ≡ lab_refusal_json (codes "step") Memory) × (new ≡ s))

-- ---- `back`, `rewind`

-- how many events were removed, if some were, and how many are kept
abbrev pub removal_counts_json : Text → Option ℕ → ℕ → JsonValue
removal_counts_json command removed kept =
    json_object ((codes "command", string command) ∷ (codes "removed", json_number_or_null removed) ∷ (codes "kept", number (pos kept)) ∷ [])

abbrev pub undo_json : Result (Unit {0}) LabFault → ℕ → JsonValue
undo_json (Ok done) kept = removal_counts_json (codes "back") (Some 1) kept
undo_json (Err why) kept = lab_refusal_json (codes "back") why

-- about a step of a node that has `count` steps
abbrev pub rewind_json : NodeId → ℕ → Result ℕ LabFault → ℕ → JsonValue
rewind_json node count (Ok removed) kept = removal_counts_json (codes "rewind") (Some removed) kept
rewind_json node count (Err why) kept = refusal_json_about_step (codes "rewind") node count why

-- ---- `run`

-- which condition held, from 1 on
abbrev pub held_condition_fields : ℕ → List NamedValue
held_condition_fields which = (codes "end", string (codes "reached")) ∷ (codes "condition", number (pos (which + 1))) ∷ []

-- why the run ended: the event after which a condition held; or the word and the hint of the refusal
abbrev pub run_end_fields : RunEnd → List NamedValue
run_end_fields (run_end.ConditionHeld made which) = held_condition_fields which ++ made_event_fields made
run_end_fields run_end.MadeRequestedEvents = (codes "end", string (codes "made")) ∷ []
run_end_fields run_end.Quiet = (codes "end", string (codes "quiet")) ∷ []
run_end_fields (run_end.Refused why) = (codes "end", string (lab_fault_keyword why)) ∷ (codes "hint", string (lab_fault_hint why)) ∷ []

-- how many events were made, and why no more
abbrev pub run_json : Text → ℕ → RunEnd → JsonValue
run_json command events end = json_object (((codes "command", string command) ∷ (codes "events", number (pos events)) ∷ []) ++ run_end_fields end)

-- ---- a change of exploring, by its name

-- `broken` is among the conditions, and the source expects nothing; or an allocation failed
abbrev pub expecting_refusal_json : Text → ExpectingRefusal → JsonValue
expecting_refusal_json command NothingExpected = refusal_json command 35 (codes "noexpect") (hint_of_refusal (expecting_refusal_text NothingExpected))
expecting_refusal_json command NoMemory = lab_refusal_json command Memory

abbrev pub change_result_json : Text → ChangeResult → JsonValue
change_result_json command (RunEnded ran conditions) = run_json command ran.events ran.end
change_result_json command (EventsRemoved removed kept) = removal_counts_json command removed kept
change_result_json command (Refused why) = expecting_refusal_json command why
