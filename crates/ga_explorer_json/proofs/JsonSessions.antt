-- All that a session writes are lines that are JSON.
use Rattle.std.proofs.Common.{◌≡◌, ℕ, List, [], ◌∷◌, ◌++◌, Bool, codes, inl, inr, refl, sym, ap, subst, ◌∙◌}
use Rattle.std.specs.Prelude.{flat_map, pos, Option, Some, None, Result, Ok, Err}
use Rattle.std.specs.List.{AllByRecursion}
use Rattle.std.specs.Str.{IsUtf8}
use Rattle.std.proofs.lemmas.List.{append-nil}
use Rattle.std.proofs.lemmas.Grind.{flat_map-append}
use Rattle.ga_text.specs.Lines.{Bytes, Text, Line, lines_of_text}
use Rattle.ga_text.specs.declared.output.WriteError.{WriteError}
use Rattle.ga_json.specs.Values.{JsonValue, null, number, string}
use Rattle.ga_json.specs.Compact.{digits_by_division, IsWritableValue, json_line}
use Rattle.ga_json.specs.FieldValues.{optional_number_json}
use Rattle.ga_json.specs.Fields.{json_object}
use Rattle.ga_json.specs.Diagnostics.{text_after_word, text_without_leading_word, diagnostic_line_and_reason, warning_or_refusal_word, diagnostic_object, diagnostic_objects, diagnostics_json}
use Rattle.ga_console.specs.Session.{AreLinesAnswered, AnswersLinesUntilRefusal, WritesAnswersWithLimitRefusal, ServesCommandsWithLimitRefusal, IsWholeOrPrefixOnWriteError}
use Rattle.ga_console.specs.declared.commands.CommandsEnd.{CommandsEnd}
use Rattle.ga_console.specs.declared.commands.CommandsEnd.TheVariants.{InputEnded, Quit, Refused, PastLimit, ReadFailed}
use Rattle.ga_console.specs.declared.run.Status.{Status}
use Rattle.ga_check_report.specs.Opened.{IsWrittenWithStatus}
use Rattle.ga_explorer.specs.Opening.{ExplorerState}
use Rattle.ga_explorer.specs.Session.{session_status}
use Rattle.ga_explorer_json.specs.JsonLines.{IsPrintedAsValidJson, IsValidJsonLine, AreValidJsonLines, IsJsonLineUnlessQuit, WritesValidJsonLines}
use Rattle.ga_explorer_json.specs.Session.{session_ready_json, long_input_refusal_line, AnswersJsonAndContinues, AnswersJsonAndEndsSession, RunsJsonExplorer}
use Rattle.ga_explorer_json.specs.Session.RunsJsonExplorer.{served, unbegun}
use Rattle.ga_json.proofs.Written.{line_is_json}
use Rattle.ga_explorer_json.proofs.Utf8Values.{is_low, plain, checked_text, members_of, have_low_names, object_by}
use Rattle.ga_explorer_json.proofs.Utf8Answers.{line_answer}

-- ---- lines, one after another

no_lines : AreValidJsonLines []
no_lines = ([], refl, tt)

all_append : (values more : List JsonValue) → AllByRecursion IsPrintedAsValidJson values → AllByRecursion IsPrintedAsValidJson more → AllByRecursion IsPrintedAsValidJson (values ++ more)
all_append [] more h k = k
all_append (value ∷ values) more h k = (h.0, all_append values more h.1 k)

both_lines : (first more : Text) → AreValidJsonLines first → AreValidJsonLines more → AreValidJsonLines (first ++ more)
both_lines first more h k = (
  h.0 ++ k.0,
  ap (λ (z : Text). z ++ more) h.1 ∙ ap (λ (z : Text). flat_map json_line h.0 ++ z) k.1 ∙ sym (flat_map-append json_line h.0 k.0),
  all_append h.0 k.0 h.2 k.2,
)

value_line : (value : JsonValue) → IsWritableValue value → AreValidJsonLines (json_line value)
value_line value h = (value ∷ [], sym (append-nil (json_line value)), (line_is_json value h, tt))

one_line : (answer : Text) → IsValidJsonLine answer → AreValidJsonLines answer
one_line answer h = (h.0 ∷ [], h.1 ∙ sym (append-nil (json_line h.0)), (h.2, tt))

answer_lines : (line answer : Text) → IsJsonLineUnlessQuit line answer → AreValidJsonLines answer
answer_lines line answer (inl h) = subst AreValidJsonLines (sym h.1) no_lines
answer_lines line answer (inr h) = one_line answer h

as_lines : (text other : Text) → text ≡ other → AreValidJsonLines other → AreValidJsonLines text
as_lines text other e h = subst AreValidJsonLines (sym e) h

-- ---- what a session says

answers_lines : (strict : Bool) (e : ExplorerState) (lines : List Line) (text : Text) (last : ExplorerState) → AreLinesAnswered (AnswersJsonAndContinues strict) e lines text last → AreValidJsonLines text
answers_lines strict e [] text last h = as_lines text [] h.0 no_lines
answers_lines strict e (line ∷ lines) text last h =
    as_lines text (h.0 ++ h.2) h.5
    (both_lines h.0 h.2 (answer_lines line h.0 (line_answer e h.1 line h.0 h.3.0)) (answers_lines strict h.1 lines h.2 last h.4))

refused_lines : (strict : Bool) (e : ExplorerState) (lines : List Line) (text : Text) (last : ExplorerState) → AnswersLinesUntilRefusal (AnswersJsonAndContinues strict) (AnswersJsonAndEndsSession strict) e lines text last
    → AreValidJsonLines text
refused_lines strict e lines text last h =
    as_lines text (h.2 ++ h.3) h.8
    (both_lines h.2 h.3 (answers_lines strict e h.0 h.2 h.4 h.6) (answer_lines h.1 h.3 (line_answer h.4 last h.1 h.3 h.7.0)))

-- the object of an input past its bound
limit_json : JsonValue
limit_json = json_object ((codes "command", null) ∷ (codes "refused", number (pos 33)) ∷ (codes "why", string (codes "input")) ∷ [])

limit_is : long_input_refusal_line ≡ json_line limit_json
unfolding limit_json digits_by_division
limit_is = refl

limit_utf8 : IsWritableValue limit_json
unfolding limit_json is_low have_low_names
limit_utf8 = object_by (members_of limit_json) refl (tt, (tt, (plain (codes "input") refl, tt)))

limit_lines : AreValidJsonLines long_input_refusal_line
limit_lines = as_lines long_input_refusal_line (json_line limit_json) limit_is (value_line limit_json limit_utf8)

past_lines : (strict : Bool) (e : ExplorerState) (lines : List Line) (said text : Text) (last : ExplorerState) → AreLinesAnswered (AnswersJsonAndContinues strict) e lines said last → text ≡ said ++ long_input_refusal_line
    → AreValidJsonLines text
past_lines strict e lines said text last h is = as_lines text (said ++ long_input_refusal_line) is (both_lines said long_input_refusal_line (answers_lines strict e lines said last h) limit_lines)

script_lines : (strict : Bool) (room : ℕ) (e : ExplorerState) (read : Bytes) (lines : List Line) (text : Text) (last : ExplorerState)
    → WritesAnswersWithLimitRefusal long_input_refusal_line (AnswersJsonAndContinues strict) (AnswersJsonAndEndsSession strict) room e read lines text last → AreValidJsonLines text
script_lines strict room e read lines text last (inl h) = answers_lines strict e lines text last h
script_lines strict room e read lines text last (inr (inl h)) = refused_lines strict e lines text last h
script_lines strict room e read lines text last (inr (inr h)) = past_lines strict e lines h.2 text last h.3 h.4

said_lines : (strict : Bool) (room : ℕ) (e : ExplorerState) (read rest : Bytes) (text : Text) (last : ExplorerState) (ending : Result CommandsEnd WriteError)
    → ServesCommandsWithLimitRefusal long_input_refusal_line (AnswersJsonAndContinues strict) (AnswersJsonAndEndsSession strict) room e read rest text last ending → AreValidJsonLines text
said_lines strict room e read rest text last (Ok InputEnded) h = answers_lines strict e _ text last h.answers
said_lines strict room e read rest text last (Ok Quit) h = answers_lines strict e h.heard text last h.answers
said_lines strict room e read rest text last (Ok (Refused at)) h = refused_lines strict e h.heard text last h.answers
said_lines strict room e read rest text last (Ok (PastLimit at)) h = past_lines strict e _ h.said text last h.answers h.told
said_lines strict room e read rest text last (Ok ReadFailed) h = answers_lines strict e _ text last h.answers
said_lines strict room e read rest text last (Err failed) h = script_lines strict room e read h.heard text last h.script

-- ---- what is written

ready_lines : AreValidJsonLines (json_line session_ready_json)
unfolding is_low have_low_names
ready_lines = value_line session_ready_json (object_by (members_of session_ready_json) refl (plain (codes "ready") refl, tt))

written_lines : (strict : Bool) (whole written : Text) (ending : Result CommandsEnd WriteError) (status : Status) → status ≡ session_status strict ending → IsWholeOrPrefixOnWriteError ending whole written
    → AreValidJsonLines whole → WritesValidJsonLines written status
written_lines strict whole written (Ok ending) status is out h = inl (as_lines written whole out h)
written_lines strict whole written (Err failed) status is out h = inr (is, whole, h, out)

-- ---- where no session begins

word_utf8 : (found : Option Text) → IsUtf8 (warning_or_refusal_word found)
unfolding is_low
word_utf8 None = plain (codes "refused") refl
word_utf8 (Some text) = plain (codes "warning") refl

line_number : (n : Option ℕ) → IsWritableValue (optional_number_json n)
line_number None = tt
line_number (Some n) = tt

diagnostic_utf8 : (file : Text) (line : Line) → IsWritableValue (diagnostic_object file line)
unfolding is_low have_low_names
diagnostic_utf8 file line =
    let reason = (diagnostic_line_and_reason line).1 in
    object_by (members_of (diagnostic_object file line)) refl
    (word_utf8 (text_after_word (codes "warning:") reason), (checked_text file, (line_number (diagnostic_line_and_reason line).0, (checked_text (text_without_leading_word (codes "warning:") reason), tt))))

objects_lines : (file : Text) (lines : List Line) → AreValidJsonLines (diagnostic_objects file lines)
objects_lines file [] = no_lines
objects_lines file (line ∷ lines) =
    both_lines (json_line (diagnostic_object file line)) (diagnostic_objects file lines) (value_line (diagnostic_object file line) (diagnostic_utf8 file line)) (objects_lines file lines)

refusal_lines : (whole : Text) (status : Status) (written : Text) (end : Status) → IsWrittenWithStatus whole status written end → AreValidJsonLines whole → WritesValidJsonLines written end
refusal_lines whole status written end (inl h) k = inl (as_lines written whole h.0 k)
refusal_lines whole status written end (inr h) k = inr (h.1, whole, k, h.0)

pub session_lines : (strict : Bool) (file : Text) (chip : Option Text) (limit : ℕ) (read rest : Bytes) (written : Text) (status : Status)
    → RunsJsonExplorer strict file chip limit read rest written status → WritesValidJsonLines written status
session_lines strict file chip limit read rest written status (served ending is h) =
    written_lines strict (json_line session_ready_json ++ h.said) written ending status is h.out
    (both_lines (json_line session_ready_json) h.said ready_lines (said_lines strict _ h.begun h.commands rest h.said h.last ending h.serves))
session_lines strict file chip limit read rest written status (unbegun h) =
    refusal_lines (diagnostics_json file h.0 ++ diagnostics_json file h.1) h.2 written status h.4
    (both_lines (diagnostics_json file h.0) (diagnostics_json file h.1) (objects_lines file (lines_of_text h.0)) (objects_lines file (lines_of_text h.1)))
