-- What an editor wrote into a text, as it is looked for byte by byte.
use Rattle.std.proofs.Common.{◌≡◌, ◌∙◌, ℕ, ◌+◌, ◌<◌, Bool, List, [], length, get_or, drop, cond, ap, sym, Some, None}
use Rattle.std.specs.Prelude.{◌==◌, ◌&&◌}
use Rattle.std.proofs.lemmas.List.{drop_more}
use Rattle.ga_parser.specs.Saying.{next_line_number}
use Rattle.ga_debug_info.specs.declared.editor_artifact.StrayEditorCharacter.TheVariants.{CarriageReturn, CarriageReturnAfterEndWord}
use Rattle.ga_debug_info.specs.Edited.{first_carriage_return, first_hiding_end_line, begins_with_hiding_end_line}

-- one byte more
pub return_more : (line : ℕ) (is_return : Bool) (text : List ℕ) (k : ℕ) → k < length text
    → first_carriage_return line is_return (drop k text)
    ≡ cond (is_return && (get_or text k 0 == 10)) (Some (CarriageReturn line)) (first_carriage_return (cond (get_or text k 0 == 10) (next_line_number line) line) (get_or text k 0 == 13) (drop (k + 1) text))
unfolding first_carriage_return
return_more line is_return text k within = ap (first_carriage_return line is_return) (drop_more text k 0 within)

pub return_none : (line : ℕ) (is_return : Bool) (text : List ℕ) → text ≡ [] → first_carriage_return line is_return text ≡ None
unfolding first_carriage_return
return_none line is_return text none = ap (first_carriage_return line is_return) none

pub hidden_more : (line : ℕ) (is_start : Bool) (text : List ℕ) (k : ℕ) → k < length text
    → first_hiding_end_line line is_start (drop k text)
    ≡ cond (is_start && begins_with_hiding_end_line (drop k text)) (Some (CarriageReturnAfterEndWord line)) (first_hiding_end_line (cond (get_or text k 0 == 10) (next_line_number line) line) (get_or text k 0 == 10) (drop (k + 1) text))
unfolding first_hiding_end_line
hidden_more line is_start text k within =
    ap (first_hiding_end_line line is_start) (drop_more text k 0 within)
    ∙ ap (λ (t : List ℕ). cond (is_start && begins_with_hiding_end_line t) (Some (CarriageReturnAfterEndWord line)) (first_hiding_end_line (cond (get_or text k 0 == 10) (next_line_number line) line) (get_or text k 0 == 10) (drop (k + 1) text))) (sym (drop_more text k 0 within))

pub hidden_none : (line : ℕ) (is_start : Bool) (text : List ℕ) → text ≡ [] → first_hiding_end_line line is_start text ≡ None
unfolding first_hiding_end_line
hidden_none line is_start text none = ap (first_hiding_end_line line is_start) none
