-- A session with objects that may end at its first refused command.
use Rattle.std.proofs.Common.{◌≡◌, ◌≢◌, ◌≤◌, ℕ, List, [], take, length, length-take, Bool, true, false, ◌&&◌, inl, inr, refl, sym, ap, subst, ◌∙◌, arith}
use Rattle.std.specs.Prelude.{◌⊎◌, if◌then◌else◌, IfOk, Option, Result, Ok, Err}
use Rattle.std.proofs.lemmas.List.{take_all}
use Rattle.ga_text.specs.declared.output.WriteError.{WriteError}
use Rattle.ga_text.specs.Lines.{terminated_lines}
use Rattle.ga_console.specs.Session.{AnswersLine, quit_line, ServesCommandsWithLimitRefusal, ServesToWriteFailure, lines_within_input_limit}
use Rattle.ga_console.specs.inner.Run.{AnswersLineOrEnds, AnswersCommand, AnswersCommandOrEnds}
use Rattle.ga_console.specs.declared.command.DebuggerCommand.{DebuggerCommand}
use Rattle.ga_console.specs.declared.commands.CommandsEnd.{CommandsEnd}
use Rattle.ga_console.specs.declared.responder.LineAction.{LineAction}
use Rattle.ga_console.specs.declared.responder.LineAction.TheVariants as turn
use Rattle.ga_debug_info.specs.declared.notes.DebugInfo.{DebugInfo}
use Rattle.ga_explorer.specs.Opening.{ExplorerState, explorer_state}
use Rattle.ga_explorer.proofs.Serving.{serves_seen}
use Rattle.ga_explorer_json.specs.Answers.{IsRequestOfLine, AnswersLineRequest, AnswersJsonLine}
use Rattle.ga_explorer_json.specs.Session.{is_json_refusal, AnswersJsonAndContinues, AnswersJsonAndEndsSession, long_input_refusal_line}
use Rattle.ga_explorer_json.specs.inner.{json_action_after_answer, RespondsToLineRequest, JsonSessionGoesOn, JsonSessionEnds}
use Rattle.ga_explorer_json.specs.declared.answers.LineRequest.{LineRequest}
use Rattle.ga_explorer_json.specs.declared.answers.LineRequest.TheVariants as request
use Rattle.ga_explorer_json.specs.declared.responder.JsonExplorer.{JsonExplorer}

-- ---- what is done after an answer

pub responded : (strict : Bool) (e new : ExplorerState) (line : List ℕ) (asked : LineRequest) (answer : List ℕ) → AnswersLineRequest e line asked answer new
    → (result : Result LineAction WriteError) → IfOk result (λ t. t ≡ json_action_after_answer strict answer) → RespondsToLineRequest strict e line asked new result answer
responded strict e new line asked answer h (Ok t) same =
    subst (λ (u : LineAction). RespondsToLineRequest strict e line asked new (Ok u) answer) (sym same) (go (strict && is_json_refusal answer) refl) where
      go : (b : Bool) → (strict && is_json_refusal answer) ≡ b → RespondsToLineRequest strict e line asked new (Ok (if b then turn.Refused else turn.Answered)) answer
      go true is = (h, is)
      go false is = (h, is)
responded strict e new line asked answer h (Err why) same = h

-- ---- a line of which the first bytes are here

whole : (line part : List ℕ) → line ≡ take 201 part → length line ≤ 200 → part ≡ line
whole line part e h = sym (e ∙ take_all 201 part (omega (arith, ap length e, length-take 201 part)))

request_of_part : (notes : Option DebugInfo) (line part : List ℕ) (asked : LineRequest) → line ≡ take 201 part → IsRequestOfLine notes line asked → IsRequestOfLine notes part asked
request_of_part notes line part (request.Explore it) e h = subst (λ (z : List ℕ). IsRequestOfLine notes z (request.Explore it)) (sym (whole line part e h.0)) h
request_of_part notes line part (request.Debug it) e h = subst (λ (z : List ℕ). IsRequestOfLine notes z (request.Debug it)) (sym (whole line part e h.0)) h
request_of_part notes line part request.TooLongLine e h = omega (arith, h, ap length e, length-take 201 part)
request_of_part notes line part request.Unknown e h = subst (λ (z : List ℕ). IsRequestOfLine notes z request.Unknown) (sym (whole line part e h.0)) h

answer_of_part : (e : ExplorerState) (line part : List ℕ) (asked : LineRequest) (answer : List ℕ) (new : ExplorerState) → line ≡ take 201 part → IsRequestOfLine e.notes line asked
    → AnswersLineRequest e line asked answer new → AnswersLineRequest e part asked answer new
answer_of_part e line part (request.Explore it) answer new kept is h = h
answer_of_part e line part (request.Debug it) answer new kept is h = h
answer_of_part e line part request.TooLongLine answer new kept is h = h
answer_of_part e line part request.Unknown answer new kept is h = subst (λ (z : List ℕ). AnswersLineRequest e z request.Unknown answer new) (sym (whole line part kept is.0)) h

not_quit_part : (line part : List ℕ) → line ≡ take 201 part → line ≢ quit_line → part ≢ quit_line
not_quit_part line part kept other = λ q. other (kept ∙ ap (take 201) q)

-- ---- the machine of such a session

-- how it answers a line after which it continues, and one at which it ends
abbrev pub GoesOn : JsonExplorer → List ℕ → List ℕ → JsonExplorer → Type 0
GoesOn p line answer new = JsonSessionGoesOn p.is_strict (explorer_state p.lab p.notes) line answer new.is_strict (explorer_state new.lab new.notes)

abbrev pub EndsThere : JsonExplorer → List ℕ → List ℕ → JsonExplorer → Type 0
EndsThere p line answer new = JsonSessionEnds p.is_strict (explorer_state p.lab p.notes) line answer new.is_strict (explorer_state new.lab new.notes)

module _ (p new : JsonExplorer) (same : new.is_strict ≡ p.is_strict) where
  abbrev before : ExplorerState
  before = explorer_state p.lab p.notes

  abbrev after : ExplorerState
  after = explorer_state new.lab new.notes

  module _ (line answer : List ℕ) (asked : LineRequest) (is : IsRequestOfLine p.notes line asked) (other : line ≢ quit_line) (h : AnswersLineRequest before line asked answer after) where
    line_answered : (part : List ℕ) → line ≡ take 201 part → AnswersJsonLine before part answer after
    line_answered part kept = (asked, request_of_part p.notes line part asked kept is, answer_of_part before line part asked answer after kept is h)

    line_goes : (p.is_strict && is_json_refusal answer) ≡ false → AnswersLine GoesOn p line answer new
    line_goes test = λ part kept. (((line_answered part kept, test), same), not_quit_part line part kept other)

    line_ends : (p.is_strict && is_json_refusal answer) ≡ true → AnswersLine EndsThere p line answer new
    line_ends test = λ part kept. (((line_answered part kept, test), same), not_quit_part line part kept other)

    line_fails : AnswersLine GoesOn p line answer new ⊎ AnswersLine EndsThere p line answer new
    line_fails = go (p.is_strict && is_json_refusal answer) refl where
      go : (b : Bool) → (p.is_strict && is_json_refusal answer) ≡ b → AnswersLine GoesOn p line answer new ⊎ AnswersLine EndsThere p line answer new
      go true test = inr (line_ends test)
      go false test = inl (line_goes test)

  pub line_turn : (line answer : List ℕ) (asked : LineRequest) → IsRequestOfLine p.notes line asked → line ≢ quit_line → (result : Result LineAction WriteError)
      → RespondsToLineRequest p.is_strict before line asked after result answer → AnswersLineOrEnds GoesOn EndsThere p line new result answer
  line_turn line answer asked is other (Ok turn.Answered) h = line_goes line answer asked is other h.0 h.1
  line_turn line answer asked is other (Ok turn.Refused) h = line_ends line answer asked is other h.0 h.1
  line_turn line answer asked is other (Ok turn.Quit) h = absurd h
  line_turn line answer asked is other (Err failed) h = line_fails line answer asked is other h

  module _ (line answer : List ℕ) (asked : DebuggerCommand) (h : AnswersLineRequest before line (request.Debug asked) answer after) where
    command_goes : (p.is_strict && is_json_refusal answer) ≡ false → AnswersCommand GoesOn p asked new answer
    command_goes test = λ spelled short is. (((request.Debug asked, (short, is), h), test), same)

    command_ends : (p.is_strict && is_json_refusal answer) ≡ true → AnswersCommand EndsThere p asked new answer
    command_ends test = λ spelled short is. (((request.Debug asked, (short, is), h), test), same)

    command_fails : AnswersCommand GoesOn p asked new answer ⊎ AnswersCommand EndsThere p asked new answer
    command_fails = go (p.is_strict && is_json_refusal answer) refl where
      go : (b : Bool) → (p.is_strict && is_json_refusal answer) ≡ b → AnswersCommand GoesOn p asked new answer ⊎ AnswersCommand EndsThere p asked new answer
      go true test = inr (command_ends test)
      go false test = inl (command_goes test)

  pub command_turn : (line answer : List ℕ) (asked : DebuggerCommand) (result : Result LineAction WriteError) → RespondsToLineRequest p.is_strict before line (request.Debug asked) after result answer
      → AnswersCommandOrEnds GoesOn EndsThere p asked new result answer
  command_turn line answer asked (Ok turn.Answered) h = command_goes line answer asked h.0 h.1
  command_turn line answer asked (Ok turn.Refused) h = command_ends line answer asked h.0 h.1
  command_turn line answer asked (Ok turn.Quit) h = absurd h
  command_turn line answer asked (Err failed) h = command_fails line answer asked h

-- what such a session serves is what one of exploring does that is as strict
pub serves_objects : (room : ℕ) (strict : Bool) (p : JsonExplorer) (read rest text : List ℕ) (last : JsonExplorer) (ending : Result CommandsEnd WriteError)
    → p.is_strict ≡ strict → ServesCommandsWithLimitRefusal long_input_refusal_line GoesOn EndsThere room p read rest text last ending
    → ServesCommandsWithLimitRefusal long_input_refusal_line (AnswersJsonAndContinues strict) (AnswersJsonAndEndsSession strict) room (explorer_state p.lab p.notes) read rest text (explorer_state last.lab last.notes) ending
serves_objects room strict p read rest text last ending is h =
    serves_seen long_input_refusal_line (λ (x : JsonExplorer). explorer_state x.lab x.notes) (λ (x : JsonExplorer). x.is_strict ≡ strict)
    GoesOn EndsThere (AnswersJsonAndContinues strict) (AnswersJsonAndEndsSession strict)
    (record {
      answer = λ m line answer new k a. subst (λ b. AnswersJsonAndContinues b (explorer_state m.lab m.notes) line answer (explorer_state new.lab new.notes)) k a.0;
      holds = λ m line answer new k a. a.1 ∙ k;
      refusal = λ m line answer new k a. subst (λ b. AnswersJsonAndEndsSession b (explorer_state m.lab m.notes) line answer (explorer_state new.lab new.notes)) k a.0;
    })
    room p read rest text last ending is h

-- where nothing was answered yet when a write failed
pub nothing_served : (strict : Bool) (room : ℕ) (e : ExplorerState) (read rest : List ℕ)
    → ServesToWriteFailure long_input_refusal_line (AnswersJsonAndContinues strict) (AnswersJsonAndEndsSession strict) room e read rest [] e
nothing_served strict room e read rest = record {
  heard = [];
  after = lines_within_input_limit room read;
  front = refl;
  no_quit = tt;
  script = inl (refl, refl);
  whole = inr (terminated_lines (take room read), refl);
}
