-- The values of the objects that `ga144 check --json` prints (docs/JSON.md; this project's own), and what each answer says of the search.
use Rattle.std.specs.Prelude.{pos, List, [], ◌∷◌, length, codes, Option, Some, None}
use Rattle.ga_text.specs.Lines.{Text}
use Rattle.ga_json.specs.Values.{JsonValue, null, boolean, number, string}
use Rattle.ga_json.specs.FieldValues.{text_json}
use Rattle.ga_json.specs.Fields.{NamedValue}
use Rattle.ga_state_search.specs.declared.fault.SearchFault.{SearchFault}
use Rattle.ga_state_search.specs.declared.fault.SearchFault.TheVariants as fault
use Rattle.ga_state_ends.specs.Ends.{EndSearchResult}
use Rattle.ga_check_report.specs.EndTexts.{is_fully_explored}

-- a text, if there is one
abbrev pub optional_text_json : Option Text → JsonValue
optional_text_json None = null
optional_text_json (Some text) = string text

-- the bound that was met, in a word
abbrev pub search_stop_keyword : SearchFault → Text
search_stop_keyword fault.Full = codes "states"
search_stop_keyword fault.Stopped = codes "seconds"
search_stop_keyword fault.Memory = codes "memory"
search_stop_keyword fault.ExceedsAssumptions = codes "restarts"

abbrev pub search_stop_json : Option SearchFault → JsonValue
search_stop_json None = null
search_stop_json (Some why) = string (search_stop_keyword why)

-- what an answer with this name says of the search: the number of states, whether each was explored, and which bound was met
abbrev pub search_result_fields : Text → Text → EndSearchResult → List NamedValue
search_result_fields answer file found =
    (codes "answer", string answer) ∷ (codes "file", text_json file) ∷ (codes "states", number (pos (length found.searched.chips)))
    ∷ (codes "explored", boolean (is_fully_explored found.fault)) ∷ (codes "stopped", search_stop_json found.fault) ∷ []
