-- What `expectations` answers, as a JSON value (docs/REFERENCE.md, "Expectations in a session"; this project's own): a row for each expectation of the source,
-- with its status.
use Rattle.std.specs.Prelude.{◌≡◌, ℕ, pos, ◌↔◌, ◌⊎◌, Bool, IsTrue, List, [], ◌∷◌, ◌++◌, map, codes, Option}
use Rattle.ga_text.specs.Lines.{Text}
use Rattle.ga_text.specs.Digits.{name_of_node}
use Rattle.ga_lab.specs.Machine.{MachineState, chip_of_machine}
use Rattle.ga_lab.specs.declared.fault.LabFault.TheVariants.{Memory}
use Rattle.ga_races.specs.Acts.{AreDeadlocked, IsMarkedSubset}
use Rattle.ga_scheduler.specs.Running.{IsQuiescent}
use Rattle.ga_debug_info.specs.declared.notes.DebugInfo.{DebugInfo}
use Rattle.ga_state_expectations.specs.declared.source.LineExpectation.{LineExpectation}
use Rattle.ga_state_expectations.specs.declared.status.ExpectationStatus.{ExpectationStatus}
use Rattle.ga_state_expectations.specs.declared.status.ExpectationStatus.TheVariants.{Held, Broken, Pending}
use Rattle.ga_state_expectations.specs.declared.status.SessionBreach.{SessionBreach}
use Rattle.ga_state_expectations.specs.declared.status.SessionBreach.TheVariants.{Unmet, Reached, Stuck, OverLink}
use Rattle.ga_state_expectations.specs.Lines.{line_expectation_content, known_expectations}
use Rattle.ga_state_expectations.specs.Statuses.{expectation_status}
use Rattle.ga_check_report.specs.ExpectationJson.{observation_keyword, observation_detail_fields}
use Rattle.ga_check_report.specs.LinkFaults.{link_fault_keyword, link_fault_detail_fields}
use Rattle.ga_json.specs.Values.{JsonValue, null, number, string}
use Rattle.ga_json.specs.FieldValues.{text_json}
use Rattle.ga_json.specs.Fields.{NamedValue, json_object, json_report}
use Rattle.ga_explorer_json.specs.Events.{made_event_fields}
use Rattle.ga_explorer_json.specs.Refusals.{lab_refusal_json}
use Rattle.ga_explorer_json.specs.Rows.{json_rows_of_items}

-- ---- the status of an expectation

abbrev pub status_keyword : ExpectationStatus → Text
status_keyword Held = codes "held"
status_keyword (Broken breach) = codes "broken"
status_keyword Pending = codes "pending"

-- what breaks it, in a word, as in an object of `check`
abbrev pub session_breach_keyword : SessionBreach → Text
session_breach_keyword (Unmet observation) = observation_keyword observation
session_breach_keyword (Reached made) = codes "event"
session_breach_keyword (Stuck node) = codes "stuck"
session_breach_keyword (OverLink place fault) = link_fault_keyword fault

abbrev pub status_cause_json : ExpectationStatus → JsonValue
status_cause_json Held = null
status_cause_json (Broken breach) = string (session_breach_keyword breach)
status_cause_json Pending = null

abbrev pub session_breach_fields : SessionBreach → List NamedValue
session_breach_fields (Unmet observation) = observation_detail_fields observation
session_breach_fields (Reached made) = made_event_fields made
session_breach_fields (Stuck node) = (codes "node", string (name_of_node node)) ∷ []
session_breach_fields (OverLink place fault) = link_fault_detail_fields place fault

abbrev pub status_detail_fields : ExpectationStatus → List NamedValue
status_detail_fields Held = []
status_detail_fields (Broken breach) = session_breach_fields breach
status_detail_fields Pending = []

-- ---- the rows

-- its line and words, its status, and what breaks it
abbrev pub status_front_fields : LineExpectation → ExpectationStatus → List NamedValue
status_front_fields one status =
    (codes "line", number (pos one.line)) ∷ (codes "text", text_json one.text.items) ∷ (codes "outcome", string (status_keyword status)) ∷ (codes "because", status_cause_json status) ∷ []

abbrev pub status_json : LineExpectation → ExpectationStatus → JsonValue
status_json one status = json_object (status_front_fields one status ++ status_detail_fields status)

-- where these nodes are deadlocked, and an event is possible or none is
abbrev pub status_row : (ℕ → Bool) → Bool → MachineState → LineExpectation → JsonValue
status_row stuck is_quiet s one = status_json one (expectation_status stuck is_quiet one.expectation s)

abbrev pub statuses_head_fields : List NamedValue
statuses_head_fields = (codes "command", string (codes "expectations")) ∷ []

abbrev pub statuses_json : (ℕ → Bool) → Bool → MachineState → List LineExpectation → JsonValue
statuses_json stuck is_quiet s expectations = json_report statuses_head_fields (json_rows_of_items (status_row stuck is_quiet s) expectations)

-- ---- the answer

-- Each of the expectations has a row with its status on the machine. The deadlocked nodes are the greatest set of such nodes.
pub record AreStatusesJson (s : MachineState) (expectations : List LineExpectation) (answer : JsonValue) : Type 0 where
  pub marks : ℕ → Bool
  pub stuck : AreDeadlocked (chip_of_machine s) marks
  pub greatest : (others : ℕ → Bool) → AreDeadlocked (chip_of_machine s) others → IsMarkedSubset others marks
  pub is_quiet : Bool
  pub quiet : IsTrue is_quiet ↔ IsQuiescent (chip_of_machine s)
  pub json : answer ≡ statuses_json marks is_quiet s expectations

-- they are those of the source
pub record HasExpectationStatusesJson (notes : Option DebugInfo) (s : MachineState) (answer : JsonValue) : Type 0 where
  pub expectations : List LineExpectation
  pub known : map line_expectation_content expectations ≡ known_expectations notes
  pub written : AreStatusesJson s expectations answer

-- or an allocation failed
abbrev pub IsExpectationsJson : Option DebugInfo → MachineState → JsonValue → Type 0
IsExpectationsJson notes s answer = HasExpectationStatusesJson notes s answer ⊎ (answer ≡ lab_refusal_json (codes "expectations") Memory)
