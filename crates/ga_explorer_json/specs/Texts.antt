-- Answers that are texts, and refused lines that spell no command, as JSON values (docs/JSON.md; this project's own).
use Rattle.std.specs.Prelude.{◌≡◌, ℕ, pos, [], ◌∷◌, codes}
use Rattle.ga_text.specs.Lines.{Text, Line}
use Rattle.ga_json.specs.Values.{JsonValue, null, number, string}
use Rattle.ga_json.specs.Fields.{json_object}
use Rattle.ga_json.specs.FieldValues.{text_json}
use Rattle.ga_display.specs.Texts.{worded_long_line_refusal}
use Rattle.ga_display.specs.declared.wording.RefusalWording.TheVariants.{Advised}
use Rattle.ga_explorer_json.specs.Refusals.{hint_of_refusal}
use Rattle.ga_explorer.specs.NoCommand.{command_suggestion}

-- the command, and the text of its answer
abbrev pub text_answer_json : Text → Text → JsonValue
text_answer_json command text = json_object ((codes "command", text_json command) ∷ (codes "text", text_json text) ∷ [])

-- no command, and the number, the word and the hint of the refusal
abbrev pub line_refusal_json : ℕ → Text → Text → JsonValue
line_refusal_json code why hint =
    json_object ((codes "command", null) ∷ (codes "refused", number (pos code)) ∷ (codes "why", string why) ∷ (codes "hint", string hint) ∷ [])

-- the line has more than 200 bytes
abbrev pub long_line_refusal_json : JsonValue
long_line_refusal_json = line_refusal_json 32 (codes "long") (hint_of_refusal (worded_long_line_refusal Advised))

-- no command, and what is the case or what to write in place of the line
abbrev pub syntax_refusal_json : Text → JsonValue
syntax_refusal_json hint = line_refusal_json 31 (codes "syntax") hint

abbrev pub syntax_refusal_of_line : Line → JsonValue
syntax_refusal_of_line line = syntax_refusal_json (command_suggestion line)
