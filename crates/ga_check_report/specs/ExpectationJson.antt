-- What `ga144 check --json` prints of the expectations of a program (docs/JSON.md; this project's own).
use Rattle.std.specs.Prelude.{ℕ, ◌+◌, pos, Bool, List, [], ◌∷◌, ◌++◌, length, drop, codes, slice_index_or, Option, Some, None}
use Rattle.ga_text.specs.Lines.{Text}
use Rattle.ga_ports.specs.Address.{single_side_set, has_side}
use Rattle.ga_ports.specs.declared.side.Side.TheVariants as side
use Rattle.ga_json.specs.Values.{JsonValue, number, string}
use Rattle.ga_json.specs.FieldValues.{text_json, optional_number_json}
use Rattle.ga_json.specs.Fields.{NamedValue, json_object}
use Rattle.ga_json.specs.Compact.{json_line}
use Rattle.ga_state_ends.specs.Decisions.{EndDecision}
use Rattle.ga_state_ends.specs.Ends.{EndSearchResult}
use Rattle.ga_state_expectations.specs.declared.source.LineExpectation.{LineExpectation}
use Rattle.ga_state_expectations.specs.declared.observation.NodeObservation.{NodeObservation}
use Rattle.ga_state_expectations.specs.declared.observation.NodeObservation.TheVariants.{Is, Runs, AwaitsCode, Reads, Writes, Stopped}
use Rattle.ga_check_report.specs.declared.outcome.Breach.{Breach}
use Rattle.ga_check_report.specs.declared.outcome.Breach.TheVariants.{Unmet, Reached, OverLink, Endless, SeveralEnds}
use Rattle.ga_check_report.specs.declared.outcome.ExpectationOutcome.{ExpectationOutcome}
use Rattle.ga_check_report.specs.declared.outcome.ExpectationOutcome.TheVariants.{Holds, Broken, Unknown}
use Rattle.ga_explorer_text.specs.Observed.{optional_side_text}
use Rattle.ga_check_report.specs.JsonValues.{optional_text_json, search_result_fields}
use Rattle.ga_check_report.specs.EventJson.{event_detail_fields}
use Rattle.ga_check_report.specs.LinkFaults.{link_fault_keyword, link_fault_detail_fields}
use Rattle.ga_check_report.specs.EndJson.{decision_json_objects_text}

-- ---- what a node holds or does

-- those of the sides right, down, left and up that are meant, with a blank between two
abbrev pub listed_sides : Bool → Bool → Bool → Bool → Text
listed_sides right down left up =
    drop 1 (optional_side_text right (codes " right") ++ optional_side_text down (codes " down") ++ optional_side_text left (codes " left") ++ optional_side_text up (codes " up"))

abbrev pub side_list_text : ℕ → Text
side_list_text sides = listed_sides (has_side sides side.Right) (has_side sides side.Down) (has_side sides side.Left) (has_side sides side.Up)

abbrev pub observation_keyword : NodeObservation → Text
observation_keyword (Is word) = codes "value"
observation_keyword Runs = codes "runs"
observation_keyword AwaitsCode = codes "awaits code"
observation_keyword (Reads sides) = codes "reads"
observation_keyword (Writes side) = codes "writes"
observation_keyword (Stopped stop) = codes "stop"

abbrev pub observation_detail_fields : NodeObservation → List NamedValue
observation_detail_fields (Is word) = (codes "value", number (pos word)) ∷ []
observation_detail_fields Runs = []
observation_detail_fields AwaitsCode = []
observation_detail_fields (Reads sides) = (codes "sides", string (side_list_text sides)) ∷ []
observation_detail_fields (Writes side) = (codes "sides", string (side_list_text (single_side_set side))) ∷ []
observation_detail_fields (Stopped stop) = (codes "stop", number (pos stop)) ∷ []

-- ---- what is known of an expectation

abbrev pub outcome_keyword : ExpectationOutcome → Text
outcome_keyword Holds = codes "holds"
outcome_keyword (Broken breach) = codes "broken"
outcome_keyword Unknown = codes "unknown"

-- what breaks it, in a word
abbrev pub breach_keyword : Breach → Text
breach_keyword (Unmet state observation) = observation_keyword observation
breach_keyword (Reached made) = codes "event"
breach_keyword (OverLink place fault) = link_fault_keyword fault
breach_keyword Endless = codes "endless"
breach_keyword (SeveralEnds ends) = codes "ends"

abbrev pub outcome_breach_keyword : ExpectationOutcome → Option Text
outcome_breach_keyword Holds = None
outcome_breach_keyword (Broken breach) = Some (breach_keyword breach)
outcome_breach_keyword Unknown = None

-- the number of the session that leads to what breaks the expectation of this number, if one does
abbrev pub breach_session_number : ℕ → Breach → Option ℕ
breach_session_number place (Unmet state observation) = Some place
breach_session_number place (Reached made) = Some place
breach_session_number place (OverLink words fault) = Some place
breach_session_number place Endless = None
breach_session_number place (SeveralEnds ends) = None

abbrev pub outcome_session_number : ℕ → ExpectationOutcome → Option ℕ
outcome_session_number place Holds = None
outcome_session_number place (Broken breach) = breach_session_number place breach
outcome_session_number place Unknown = None

abbrev pub breach_detail_fields : Breach → List NamedValue
breach_detail_fields (Unmet state observation) = observation_detail_fields observation
breach_detail_fields (Reached made) = event_detail_fields made
breach_detail_fields (OverLink place fault) = link_fault_detail_fields place fault
breach_detail_fields Endless = []
breach_detail_fields (SeveralEnds ends) = (codes "ends", number (pos ends)) ∷ []

abbrev pub outcome_detail_fields : ExpectationOutcome → List NamedValue
outcome_detail_fields Holds = []
outcome_detail_fields (Broken breach) = breach_detail_fields breach
outcome_detail_fields Unknown = []

-- ---- the object of the expectation of this number, from 1 on, in this line with these words

abbrev pub expectation_fields : Text → ℕ → ℕ → Text → ExpectationOutcome → List NamedValue
expectation_fields file place line words outcome =
    (codes "answer", string (codes "expectation")) ∷ (codes "file", text_json file) ∷ (codes "number", number (pos place)) ∷ (codes "line", number (pos line))
    ∷ (codes "text", text_json words) ∷ (codes "outcome", string (outcome_keyword outcome)) ∷ (codes "because", optional_text_json (outcome_breach_keyword outcome))
    ∷ (codes "session", optional_number_json (outcome_session_number place outcome)) ∷ []

abbrev pub expectation_object : Text → ℕ → ℕ → Text → ExpectationOutcome → JsonValue
expectation_object file place line words outcome = json_object (expectation_fields file place line words outcome ++ outcome_detail_fields outcome)

-- and those of what decides that it is broken
abbrev pub expectation_with_decision_objects : Text → ℕ → LineExpectation → ExpectationOutcome → Option EndDecision → Text
expectation_with_decision_objects file place one outcome decision =
    json_line (expectation_object file place one.line one.text.items outcome) ++ decision_json_objects_text file place decision

-- the objects of the expectations from this place on
abbrev pub expectation_objects : Text → List ExpectationOutcome → List (Option EndDecision) → ℕ → List LineExpectation → Text
expectation_objects file outcomes decisions place [] = []
expectation_objects file outcomes decisions place (one ∷ others) =
    expectation_with_decision_objects file (place + 1) one (slice_index_or outcomes place Unknown) (slice_index_or decisions place None)
    ++ expectation_objects file outcomes decisions (place + 1) others

-- ---- the whole answer

abbrev pub expectations_head_fields : Text → EndSearchResult → ℕ → List NamedValue
expectations_head_fields file found count = search_result_fields (codes "expectations") file found ++ (codes "expectations", number (pos count)) ∷ []

abbrev pub expectations_json : Text → EndSearchResult → List LineExpectation → List ExpectationOutcome → List (Option EndDecision) → Text
expectations_json file found expectations outcomes decisions =
    json_line (json_object (expectations_head_fields file found (length expectations))) ++ expectation_objects file outcomes decisions 0 expectations
