-- What `--json` prints of what standard error has of a source, or of a program that is refused (docs/JSON.md, "Refusals"; this project's own): an object for
-- each line.
use Rattle.std.specs.Prelude.{ℕ, ◌-◌, ◌==◌, Bool, false, if◌then◌else◌, List, [], ◌∷◌, ◌++◌, length, take, slice_get, bytes_eq, codes, Option, Some, None}
use Rattle.ga_ports.specs.Steps.{◌>>=◌}
use Rattle.ga_text.specs.Lines.{Text, Line, lines_of_text}
use Rattle.ga_text.specs.Parsing.{split_at_space, parse_number}
use Rattle.ga_json.specs.Values.{JsonValue, string}
use Rattle.ga_json.specs.FieldValues.{text_json, optional_number_json}
use Rattle.ga_json.specs.Fields.{NamedValue, json_object}
use Rattle.ga_json.specs.Compact.{json_line}

-- ---- a line of standard error, as `ga144: line 14: REASON`

-- the text after the first word, if that is this one
abbrev pub text_after_word : Text → Text → Option Text
text_after_word word text = do
  parts ← split_at_space text
  if bytes_eq parts.0 word then Some parts.1 else None

abbrev pub remaining_or_whole_text : Text → Option Text → Text
remaining_or_whole_text text None = text
remaining_or_whole_text text (Some rest) = rest

-- a text without this word, if it begins with it
abbrev pub text_without_leading_word : Text → Text → Text
text_without_leading_word word text = remaining_or_whole_text text (text_after_word word text)

abbrev pub is_colon : Option ℕ → Bool
is_colon None = false
is_colon (Some byte) = byte == 58

-- without a colon at its end
abbrev pub text_without_last_colon : Text → Text
text_without_last_colon word = if is_colon (slice_get word (length word - 1)) then take (length word - 1) word else word

-- the number of a line of the source, and the text after it
abbrev pub parse_line_number_and_text : Text → Option (ℕ × Text)
parse_line_number_and_text text = do
  rest ← text_after_word (codes "line") text
  parts ← split_at_space rest
  line ← parse_number (text_without_last_colon parts.0)
  Some (line, parts.1)

abbrev pub line_and_text_or_whole_text : Text → Option (ℕ × Text) → Option ℕ × Text
line_and_text_or_whole_text text None = (None, text)
line_and_text_or_whole_text text (Some parts) = (Some parts.0, parts.1)

-- the number of the source's line, if it has one, and the reason
abbrev pub diagnostic_line_and_reason : Line → Option ℕ × Text
diagnostic_line_and_reason line = line_and_text_or_whole_text (text_without_leading_word (codes "ga144:") line) (parse_line_number_and_text (text_without_leading_word (codes "ga144:") line))

-- a reason is that of a warning if it begins so, else that of a refusal
abbrev pub warning_or_refusal_word : Option Text → Text
warning_or_refusal_word None = codes "refused"
warning_or_refusal_word (Some text) = codes "warning"

abbrev pub diagnostic_answer_word : Text → Text
diagnostic_answer_word reason = warning_or_refusal_word (text_after_word (codes "warning:") reason)

-- ---- the objects

abbrev pub diagnostic_fields : Text → Line → List NamedValue
diagnostic_fields file line =
    (codes "answer", string (diagnostic_answer_word (diagnostic_line_and_reason line).1)) ∷ (codes "file", text_json file) ∷ (codes "line", optional_number_json (diagnostic_line_and_reason line).0)
    ∷ (codes "text", text_json (text_without_leading_word (codes "warning:") (diagnostic_line_and_reason line).1)) ∷ []

abbrev pub diagnostic_object : Text → Line → JsonValue
diagnostic_object file line = json_object (diagnostic_fields file line)

abbrev pub diagnostic_objects : Text → List Line → Text
diagnostic_objects file [] = []
diagnostic_objects file (line ∷ lines) = json_line (diagnostic_object file line) ++ diagnostic_objects file lines

-- an object for each line of a text
abbrev pub diagnostics_json : Text → Text → Text
diagnostics_json file text = diagnostic_objects file (lines_of_text text)
