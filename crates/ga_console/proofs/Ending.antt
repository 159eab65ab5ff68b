-- A line that ends the session, or after which it goes on.
use Rattle.std.proofs.Common.{◌≡◌, ◌≢◌, ℕ, ◌≤◌, List, [], length, take, refl, sym, subst, inl, inr}
use Rattle.std.specs.Prelude.{Some, None, ◌⊎◌, Result, Ok, Err}
use Rattle.std.proofs.lemmas.Option.{none-some, same_Some}
use Rattle.ga_console.specs.Commands.{SpellsCommand}
use Rattle.ga_console.specs.Session.{AnswerRelation, AnswersLine, AnswersOrQuitsLine, NeverAnswersAndEnds, quit_line}
use Rattle.ga_console.specs.inner.Run.{AnswersLineOrEnds, AnswersCommand, AnswersCommandOrEnds, commands_end_after_line_action}
use Rattle.ga_console.specs.declared.command.DebuggerCommand.{DebuggerCommand}
use Rattle.ga_console.specs.declared.commands.CommandsEnd.{CommandsEnd}
use Rattle.ga_console.specs.declared.commands.CommandsEnd.TheVariants.{InputEnded, Quit, Refused, PastLimit, ReadFailed}
use Rattle.ga_console.specs.declared.responder.LineAction.{LineAction}
use Rattle.ga_console.specs.declared.responder.LineAction.TheVariants as turn
use Rattle.ga_text.specs.declared.output.WriteError.{WriteError}
use Rattle.ga_console.proofs.AheadLemmas.{quit_part}

-- the line of this number ends the session so
abbrev pub EndsAt : {M : Type 0} → AnswerRelation M → M → List ℕ → ℕ → List ℕ → M → CommandsEnd → Type 0
EndsAt R m part number answer new InputEnded = ⊥
EndsAt R m part number answer new Quit = (part ≡ quit_line) × (new ≡ m) × (answer ≡ [])
EndsAt R m part number answer new (Refused n) = (n ≡ number) × R m part answer new × (part ≢ quit_line)
EndsAt R m part number answer new (PastLimit n) = ⊥
EndsAt R m part number answer new ReadFailed = ⊥

-- the line is answered, and isn't quit
abbrev pub IsAnswered : {M : Type 0} → AnswerRelation M → M → List ℕ → List ℕ → M → Type 0
IsAnswered A m part answer new = A m part answer new × (part ≢ quit_line)

module _ {M : Type 0} (A R : AnswerRelation M) (m new : M) (answer : List ℕ) where
  -- what answers without an end answers
  pub answers_or_ends : (line : List ℕ) (result : Result LineAction WriteError) → AnswersOrQuitsLine A m line new result answer → AnswersLineOrEnds A R m line new result answer
  answers_or_ends line (Ok turn.Answered) h = h
  answers_or_ends line (Ok turn.Refused) h = absurd h
  answers_or_ends line (Ok turn.Quit) h = h
  answers_or_ends line (Err failed) h = inl h

  pub turn_goes : (turn : LineAction) (line : List ℕ) (number : ℕ) → commands_end_after_line_action turn number ≡ None → AnswersLineOrEnds A R m line new (Ok turn) answer → AnswersLine A m line answer new
  turn_goes turn.Answered line number e h = h
  turn_goes turn.Refused line number e h = absurd (none-some (Refused number) (sym e))
  turn_goes turn.Quit line number e h = absurd (none-some Quit (sym e))

  pub turn_ends : (turn : LineAction) (line part : List ℕ) (number : ℕ) (ending : CommandsEnd) → commands_end_after_line_action turn number ≡ Some ending → line ≡ take 201 part
      → AnswersLineOrEnds A R m line new (Ok turn) answer → EndsAt R m part number answer new ending
  turn_ends turn.Answered line part number ending e kept h = absurd (none-some ending e)
  turn_ends turn.Refused line part number ending e kept h =
      let P : CommandsEnd → Type 0 = EndsAt R m part number answer new in
      let one = h part kept in subst P (same_Some (Refused number) ending e) (refl, one.0, one.1)
  turn_ends turn.Quit line part number ending e kept h =
      let P : CommandsEnd → Type 0 = EndsAt R m part number answer new in
      subst P (same_Some Quit ending e) (quit_part line part kept h.0, h.1, h.2)

  pub turn_fails : (line part : List ℕ) → line ≡ take 201 part → AnswersLine A m line answer new ⊎ AnswersLine R m line answer new
      → IsAnswered A m part answer new ⊎ IsAnswered R m part answer new
  turn_fails line part kept (inl h) = inl (h part kept)
  turn_fails line part kept (inr h) = inr (h part kept)

  module _ (asked : DebuggerCommand) (line : List ℕ) (short : length line ≤ 200) (spelled : SpellsCommand asked line) (other : line ≢ quit_line) where
    pub obeyed_goes : (turn : LineAction) (number : ℕ) → commands_end_after_line_action turn number ≡ None → AnswersCommandOrEnds A R m asked new (Ok turn) answer → IsAnswered A m line answer new
    obeyed_goes turn.Answered number e h = (h line short spelled, other)
    obeyed_goes turn.Refused number e h = absurd (none-some (Refused number) (sym e))
    obeyed_goes turn.Quit number e h = absurd h

    pub obeyed_ends : (turn : LineAction) (number : ℕ) (ending : CommandsEnd) → commands_end_after_line_action turn number ≡ Some ending → AnswersCommandOrEnds A R m asked new (Ok turn) answer
        → EndsAt R m line number answer new ending
    obeyed_ends turn.Answered number ending e h = absurd (none-some ending e)
    obeyed_ends turn.Refused number ending e h =
        let P : CommandsEnd → Type 0 = EndsAt R m line number answer new in
        subst P (same_Some (Refused number) ending e) (refl, h line short spelled, other)
    obeyed_ends turn.Quit number ending e h = absurd h

    pub obeyed_fails : (failed : WriteError) → AnswersCommandOrEnds A R m asked new (Err failed) answer → IsAnswered A m line answer new ⊎ IsAnswered R m line answer new
    obeyed_fails failed (inl h) = inl (h line short spelled, other)
    obeyed_fails failed (inr h) = inr (h line short spelled, other)

-- where no answer ends the session
module _ {M : Type 0} (A : AnswerRelation M) (m new : M) (answer : List ℕ) where
  pub only_answers : (line : List ℕ) → AnswersLine A m line answer new ⊎ AnswersLine NeverAnswersAndEnds m line answer new → AnswersLine A m line answer new
  only_answers line (inl h) = h
  only_answers line (inr h) = λ part kept. absurd (h part kept).0

  pub only_obeys : (asked : DebuggerCommand) → AnswersCommand A m asked new answer ⊎ AnswersCommand NeverAnswersAndEnds m asked new answer → AnswersCommand A m asked new answer
  only_obeys asked (inl h) = h
  only_obeys asked (inr h) = λ line short spelled. absurd (h line short spelled)
