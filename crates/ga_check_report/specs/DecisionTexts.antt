-- The line of what decides that an end isn't clean (docs/REFERENCE.md, "Every order"; this project's own).
use Rattle.std.specs.Prelude.{[], ◌++◌, codes, Option, Some, None}
use Rattle.ga_word.specs.Word.{hex_digits_of_word}
use Rattle.ga_text.specs.Lines.{Text}
use Rattle.ga_text.specs.Digits.{step_text}
use Rattle.ga_event.specs.declared.made.MadeEvent.{MadeEvent}
use Rattle.ga_event.specs.declared.made.MadeEvent.TheVariants.{Own, Pass}
use Rattle.ga_display.specs.Texts.{own_event_kind_text}
use Rattle.ga_state_ends.specs.Decisions.{EndDecision}

-- an event as an answer spells it, without the end of the line
abbrev pub event_text_without_line_end : MadeEvent → Text
event_text_without_line_end (Own node step kind) = step_text node step ++ own_event_kind_text kind
event_text_without_line_end (Pass writer writer_step reader reader_step word) =
    codes "pass " ++ step_text writer writer_step ++ codes " " ++ step_text reader reader_step ++ codes " " ++ hex_digits_of_word word

-- the event that decides and the other, if there are such; else nothing
abbrev pub end_decision_text : Option EndDecision → Text
end_decision_text None = []
end_decision_text (Some decision) = codes "  decided by " ++ event_text_without_line_end decision.0 ++ codes ", not " ++ event_text_without_line_end decision.1 ++ codes "\n"
