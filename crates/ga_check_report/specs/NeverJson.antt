-- What `ga144 check --never --json` prints (docs/JSON.md; this project's own): that no event comes after which a condition holds, that none was found, or
-- which one was.
use Rattle.std.specs.Prelude.{ℕ, ◌+◌, pos, if◌then◌else◌, List, [], ◌∷◌, ◌++◌, codes}
use Rattle.ga_text.specs.Lines.{Text}
use Rattle.ga_event.specs.declared.made.MadeEvent.{MadeEvent}
use Rattle.ga_json.specs.Values.{JsonValue, number, string}
use Rattle.ga_json.specs.FieldValues.{text_json}
use Rattle.ga_json.specs.Fields.{NamedValue, json_object}
use Rattle.ga_json.specs.Compact.{json_line}
use Rattle.ga_state_ends.specs.Ends.{EndSearchResult}
use Rattle.ga_check_report.specs.EndTexts.{is_fully_explored}
use Rattle.ga_check_report.specs.JsonValues.{search_result_fields}
use Rattle.ga_check_report.specs.EventJson.{event_detail_fields}

-- no such event was found: none comes if each state was explored
abbrev pub unreached_event_outcome_keyword : EndSearchResult → Text
unreached_event_outcome_keyword found = if is_fully_explored found.fault then codes "holds" else codes "unknown"

abbrev pub unreached_event_fields : Text → EndSearchResult → List NamedValue
unreached_event_fields file found =
    search_result_fields (codes "never") file found ++ (codes "outcome", string (unreached_event_outcome_keyword found)) ∷ []

abbrev pub unreached_event_json : Text → EndSearchResult → Text
unreached_event_json file found = json_line (json_object (unreached_event_fields file found))

-- the condition of this number held, counted from 1, after this number of events
abbrev pub reached_event_fields : Text → ℕ → ℕ → List NamedValue
reached_event_fields file events condition =
    (codes "answer", string (codes "never")) ∷ (codes "file", text_json file) ∷ (codes "outcome", string (codes "broken"))
    ∷ (codes "condition", number (pos condition)) ∷ (codes "events", number (pos events)) ∷ []

abbrev pub reached_event_object : Text → ℕ → ℕ → MadeEvent → JsonValue
reached_event_object file events condition made = json_object (reached_event_fields file events condition ++ event_detail_fields made)

abbrev pub reached_event_json : Text → ℕ → ℕ → MadeEvent → Text
reached_event_json file events which made = json_line (reached_event_object file events (which + 1) made)
