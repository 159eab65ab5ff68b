-- What `expectations` prints: the status of each expectation of the source (docs/REFERENCE.md, "Exploring"; this project's own).
use Rattle.std.specs.Prelude.{◌≡◌, ℕ, ◌↔◌, Bool, IsTrue, ◌⊎◌, List, [], ◌∷◌, ◌++◌, flat_map, map, codes, decimal, Option}
use Rattle.ga_text.specs.Lines.{Text}
use Rattle.ga_text.specs.Digits.{name_of_node}
use Rattle.ga_lab.specs.Machine.{MachineState, chip_of_machine}
use Rattle.ga_lab.specs.declared.fault.LabFault.TheVariants.{Memory}
use Rattle.ga_races.specs.Acts.{AreDeadlocked, IsMarkedSubset}
use Rattle.ga_scheduler.specs.Running.{IsQuiescent}
use Rattle.ga_debug_info.specs.declared.notes.DebugInfo.{DebugInfo}
use Rattle.ga_display.specs.Texts.{event_text, advised_refusal_text}
use Rattle.ga_state_expectations.specs.declared.source.LineExpectation.{LineExpectation}
use Rattle.ga_state_expectations.specs.declared.status.ExpectationStatus.{ExpectationStatus}
use Rattle.ga_state_expectations.specs.declared.status.ExpectationStatus.TheVariants.{Held, Broken, Pending}
use Rattle.ga_state_expectations.specs.declared.status.SessionBreach.{SessionBreach}
use Rattle.ga_state_expectations.specs.declared.status.SessionBreach.TheVariants.{Unmet, Reached, Stuck, OverLink}
use Rattle.ga_state_expectations.specs.Lines.{line_expectation_content, known_expectations}
use Rattle.ga_state_expectations.specs.Statuses.{expectation_status}
use Rattle.ga_explorer_text.specs.Observed.{observation_text, link_fault_text}

-- ---- the line of an expectation

abbrev pub expectation_line_start : ℕ → Text
expectation_line_start line = codes "line " ++ decimal line ++ codes ": "

-- what breaks it, as `check` prints it; of conditions that should never hold the first event after which one did
abbrev pub session_breach_text : SessionBreach → Text
session_breach_text (Unmet observation) = observation_text observation ++ codes "\n"
session_breach_text (Reached made) = event_text made
session_breach_text (Stuck node) = codes "stuck " ++ name_of_node node ++ codes "\n"
session_breach_text (OverLink place fault) = link_fault_text place fault ++ codes "\n"

abbrev pub status_start : ExpectationStatus → Text
status_start Held = codes ": held\n"
status_start (Broken breach) = codes ": broken, "
status_start Pending = codes ": pending\n"

abbrev pub status_details : ExpectationStatus → Text
status_details Held = []
status_details (Broken breach) = session_breach_text breach
status_details Pending = []

abbrev pub status_text : ExpectationStatus → Text
status_text status = status_start status ++ status_details status

-- where it is, its words and its status, where these nodes are deadlocked and an event is possible or none is
abbrev pub status_line : (ℕ → Bool) → Bool → MachineState → LineExpectation → Text
status_line stuck is_quiet s one = expectation_line_start one.line ++ one.text.items ++ status_text (expectation_status stuck is_quiet one.expectation s)

abbrev pub status_lines_text : (ℕ → Bool) → Bool → MachineState → List LineExpectation → Text
status_lines_text stuck is_quiet s expectations = flat_map (status_line stuck is_quiet s) expectations

-- ---- the answer

abbrev pub expectations_status_text : (ℕ → Bool) → Bool → MachineState → List LineExpectation → Text
expectations_status_text stuck is_quiet s [] = codes "none\n"
expectations_status_text stuck is_quiet s (one ∷ others) = status_lines_text stuck is_quiet s (one ∷ others)

-- The status of each of the expectations on the machine is written. The deadlocked nodes are the greatest set of such nodes.
pub record AreStatusesWritten (s : MachineState) (expectations : List LineExpectation) (answer : Text) : Type 0 where
  pub marks : ℕ → Bool
  pub stuck : AreDeadlocked (chip_of_machine s) marks
  pub greatest : (others : ℕ → Bool) → AreDeadlocked (chip_of_machine s) others → IsMarkedSubset others marks
  pub is_quiet : Bool
  pub quiet : IsTrue is_quiet ↔ IsQuiescent (chip_of_machine s)
  pub text : answer ≡ expectations_status_text marks is_quiet s expectations

-- it is of the expectations of the source
pub record HasExpectationStatuses (notes : Option DebugInfo) (s : MachineState) (answer : Text) : Type 0 where
  pub expectations : List LineExpectation
  pub known : map line_expectation_content expectations ≡ known_expectations notes
  pub written : AreStatusesWritten s expectations answer

-- or an allocation failed
abbrev pub IsExpectationsAnswer : Option DebugInfo → MachineState → Text → Type 0
IsExpectationsAnswer notes s answer = HasExpectationStatuses notes s answer ⊎ (answer ≡ advised_refusal_text Memory)
