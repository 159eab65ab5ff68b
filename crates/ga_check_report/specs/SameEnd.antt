-- What `ga144 check --same` adds to an answer (docs/REFERENCE.md, "Every order"; docs/JSON.md; this project's own): what is known of the expectation that
-- the program has one end, and the verdict with it.
use Rattle.std.specs.Prelude.{pos, Bool, true, false, nat_lt, if◌then◌else◌, List, [], ◌∷◌, ◌++◌, length, codes}
use Rattle.ga_text.specs.Lines.{Text}
use Rattle.ga_json.specs.Values.{number, string}
use Rattle.ga_json.specs.FieldValues.{text_json}
use Rattle.ga_json.specs.Fields.{NamedValue, json_object}
use Rattle.ga_json.specs.Compact.{json_line}
use Rattle.ga_json.specs.declared.format.ReportFormat.{ReportFormat}
use Rattle.ga_json.specs.declared.format.ReportFormat.TheVariants as format
use Rattle.ga_state_ends.specs.Ends.{EndSearchResult}
use Rattle.ga_check_report.specs.declared.request.CheckRequest.{CheckRequest}
use Rattle.ga_check_report.specs.declared.outcome.Breach.TheVariants.{SeveralEnds}
use Rattle.ga_check_report.specs.declared.outcome.ExpectationOutcome.{ExpectationOutcome}
use Rattle.ga_check_report.specs.declared.outcome.ExpectationOutcome.TheVariants.{Holds, Broken, Unknown}
use Rattle.ga_check_report.specs.declared.report.Verdict.{Verdict}
use Rattle.ga_check_report.specs.declared.report.Verdict.TheVariants as verdict
use Rattle.ga_check_report.specs.EndTexts.{is_fully_explored}
use Rattle.ga_check_report.specs.ExpectationTexts.{outcome_text}
use Rattle.ga_check_report.specs.ExpectationJson.{outcome_keyword}

-- ---- what is known

-- what a search shows of the expectation that the program has one end: it is broken if two ends were found, and holds if each state was explored
abbrev pub single_end_expectation_outcome : EndSearchResult → ExpectationOutcome
single_end_expectation_outcome found =
    if nat_lt 1 (length found.ends) then Broken (SeveralEnds (length found.ends))
    else if is_fully_explored found.fault then Holds
    else Unknown

-- ---- the answer

-- the line of an expectation without its place; no session leads to two ends
abbrev pub single_end_outcome_line : EndSearchResult → Text
single_end_outcome_line found = codes "one end" ++ outcome_text (is_fully_explored found.fault) 0 (single_end_expectation_outcome found)

-- the object, with the number of ends that were found
abbrev pub single_end_outcome_fields : Text → EndSearchResult → List NamedValue
single_end_outcome_fields file found =
    (codes "answer", string (codes "same")) ∷ (codes "file", text_json file) ∷ (codes "outcome", string (outcome_keyword (single_end_expectation_outcome found)))
    ∷ (codes "ends", number (pos (length found.ends))) ∷ []

abbrev pub single_end_outcome_answer : ReportFormat → EndSearchResult → Text
single_end_outcome_answer format.Text found = single_end_outcome_line found
single_end_outcome_answer (format.Json file) found = json_line (json_object (single_end_outcome_fields file.now found))

abbrev pub same_end_answer_if_asked : Bool → ReportFormat → EndSearchResult → Text
same_end_answer_if_asked true form found = single_end_outcome_answer form found
same_end_answer_if_asked false form found = []

-- what an answer has at its end; nothing without `--same`
abbrev pub same_end_answer : CheckRequest → EndSearchResult → Text
same_end_answer request found = same_end_answer_if_asked request.same request.format found

-- ---- the verdict

-- a verdict where something isn't known either
abbrev pub verdict_weakened_by_unknown : Verdict → Verdict
verdict_weakened_by_unknown verdict.Clean = verdict.Unknown
verdict_weakened_by_unknown verdict.Unclean = verdict.Unclean
verdict_weakened_by_unknown verdict.Unknown = verdict.Unknown
verdict_weakened_by_unknown verdict.SessionWritten = verdict.SessionWritten
verdict_weakened_by_unknown (verdict.FailedWithStatus status) = verdict.FailedWithStatus status

-- the verdict about an expectation more
abbrev pub verdict_with_outcome : ExpectationOutcome → Verdict → Verdict
verdict_with_outcome Holds other = other
verdict_with_outcome (Broken breach) other = verdict.Unclean
verdict_with_outcome Unknown other = verdict_weakened_by_unknown other

-- and where `--same` asks for one end
abbrev pub verdict_with_single_end_outcome : Bool → EndSearchResult → Verdict → Verdict
verdict_with_single_end_outcome true found other = verdict_with_outcome (single_end_expectation_outcome found) other
verdict_with_single_end_outcome false found other = other
