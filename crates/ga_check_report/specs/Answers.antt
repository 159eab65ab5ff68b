-- What `ga144 check` prints, in the format that was asked for: text (docs/REFERENCE.md, "Every order" and "Every expectation") or JSON (docs/JSON.md; both
-- this project's own). A session is text in either.
use Rattle.std.specs.Prelude.{ℕ, Bool, true, false, List, ◌++◌, length, Option}
use Rattle.ga_text.specs.Lines.{Text}
use Rattle.ga_event.specs.declared.made.MadeEvent.{MadeEvent}
use Rattle.ga_lab.specs.Machine.{MachineState}
use Rattle.ga_lab.specs.declared.fault.LabFault.{LabFault}
use Rattle.ga_display.specs.Texts.{refusal_text}
use Rattle.ga_state_ends.specs.Decisions.{EndDecision}
use Rattle.ga_state_ends.specs.Ends.{EndSearchResult}
use Rattle.ga_state_expectations.specs.declared.source.LineExpectation.{LineExpectation}
use Rattle.ga_check_report.specs.declared.outcome.ExpectationOutcome.{ExpectationOutcome}
use Rattle.ga_check_report.specs.declared.request.CheckRequest.{CheckRequest}
use Rattle.ga_json.specs.declared.format.ReportFormat.{ReportFormat}
use Rattle.ga_json.specs.declared.format.ReportFormat.TheVariants as format
use Rattle.ga_check_report.specs.EndTexts.{ends_text}
use Rattle.ga_check_report.specs.EndJson.{ends_json}
use Rattle.ga_check_report.specs.ExpectationTexts.{expectations_text}
use Rattle.ga_check_report.specs.ExpectationJson.{expectations_json}
use Rattle.ga_check_report.specs.SameEnd.{same_end_answer}
use Rattle.ga_check_report.specs.NeverTexts.{unreached_event_text, reached_event_text}
use Rattle.ga_check_report.specs.NeverJson.{unreached_event_json, reached_event_json}
use Rattle.ga_json.specs.Diagnostics.{diagnostics_json}

-- nothing was found out
abbrev pub refusal_answer : ReportFormat → LabFault → Text
refusal_answer format.Text fault = refusal_text fault
refusal_answer (format.Json file) fault = diagnostics_json file.now (refusal_text fault)

abbrev pub ends_answer_in_format : ReportFormat → CheckRequest → EndSearchResult → Text
ends_answer_in_format format.Text request found = ends_text request found
ends_answer_in_format (format.Json file) request found = ends_json file.now found

-- the ends, and what `--same` adds
abbrev pub ends_answer : CheckRequest → EndSearchResult → Text
ends_answer request found = ends_answer_in_format request.format request found ++ same_end_answer request found

abbrev pub expectations_answer_in_format : ReportFormat → CheckRequest → EndSearchResult → List LineExpectation → List ExpectationOutcome → List (Option EndDecision) → Text
expectations_answer_in_format format.Text request found expectations outcomes decisions = expectations_text request found expectations outcomes decisions
expectations_answer_in_format (format.Json file) request found expectations outcomes decisions = expectations_json file.now found expectations outcomes decisions

-- the expectations, and what `--same` adds
abbrev pub expectations_answer : CheckRequest → EndSearchResult → List LineExpectation → List ExpectationOutcome → List (Option EndDecision) → Text
expectations_answer request found expectations outcomes decisions =
    expectations_answer_in_format request.format request found expectations outcomes decisions ++ same_end_answer request found

abbrev pub unreached_event_in_format : ReportFormat → CheckRequest → EndSearchResult → Text
unreached_event_in_format format.Text request found = unreached_event_text request found
unreached_event_in_format (format.Json file) request found = unreached_event_json file.now found

abbrev pub unreached_event_answer : CheckRequest → EndSearchResult → Text
unreached_event_answer request found = unreached_event_in_format request.format request found

abbrev pub reached_event_in_format : ReportFormat → ℕ → ℕ → MadeEvent → MachineState → Text
reached_event_in_format format.Text conditions which made s = reached_event_text false conditions which made s
reached_event_in_format (format.Json file) conditions which made s = reached_event_json file.now (length s.kept) which made

-- the machine has made the event; or its session
abbrev pub reached_event_answer : ReportFormat → Bool → ℕ → ℕ → MadeEvent → MachineState → Text
reached_event_answer form true conditions which made s = reached_event_text true conditions which made s
reached_event_answer form false conditions which made s = reached_event_in_format form conditions which made s
