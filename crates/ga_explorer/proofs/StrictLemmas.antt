-- A session that may end at its first refused command.
use Rattle.std.proofs.Common.{◌≡◌, ℕ, List, [], ◌++◌, Some, append-nil, Bool, true, false, inl, inr, refl, sym, ap, subst, ◌∙◌}
use Rattle.std.specs.Prelude.{◌⊎◌, if◌then◌else◌, IfOk, Result, Ok, Err}
use Rattle.std.proofs.lemmas.Option.{same_Some}
use Rattle.ga_text.specs.Output.{IsTextWrittenOrPending}
use Rattle.ga_text.specs.declared.output.WriteError.{WriteError}
use Rattle.ga_console.specs.Session.{AnswersLine, NeverAnswersAndEnds}
use Rattle.ga_console.specs.inner.Run.{AnswersLineOrEnds, AnswersCommand, AnswersCommandOrEnds}
use Rattle.ga_console.specs.declared.command.DebuggerCommand.{DebuggerCommand}
use Rattle.ga_console.specs.declared.responder.LineAction.{LineAction}
use Rattle.ga_console.specs.declared.responder.LineAction.TheVariants as turn
use Rattle.ga_explorer.specs.Answers.{AnswersExplorerLine}
use Rattle.ga_explorer.specs.Opening.{ExplorerState}
use Rattle.ga_explorer.specs.Session.{is_refusal_answer, AnswersLineAndContinues, AnswersAndEndsSession}
use Rattle.ga_explorer.specs.inner.{strict_action_after_answer, StrictSessionGoesOn, StrictSessionEnds}
use Rattle.ga_explorer.specs.declared.strict.StrictExplorer.{StrictExplorer}

-- ---- an answer of a strict session

module _ (e new : ExplorerState) (line answer : List ℕ) (h : AnswersLine AnswersExplorerLine e line answer new) where
  went_on : is_refusal_answer answer ≡ false → AnswersLine (AnswersLineAndContinues true) e line answer new
  went_on is = λ part kept. (((h part kept).0, is), (h part kept).1)

  ended : is_refusal_answer answer ≡ true → AnswersLine (AnswersAndEndsSession true) e line answer new
  ended is = λ part kept. (((h part kept).0, is), (h part kept).1)

  pub line_turn : (t : LineAction) → t ≡ strict_action_after_answer answer → AnswersLineOrEnds (AnswersLineAndContinues true) (AnswersAndEndsSession true) e line new (Ok t) answer
  line_turn t same = subst (λ (u : LineAction). AnswersLineOrEnds (AnswersLineAndContinues true) (AnswersAndEndsSession true) e line new (Ok u) answer) (sym same) (go (is_refusal_answer answer) refl) where
    go : (b : Bool) → is_refusal_answer answer ≡ b → AnswersLineOrEnds (AnswersLineAndContinues true) (AnswersAndEndsSession true) e line new (Ok (if b then turn.Refused else turn.Answered)) answer
    go true is = ended is
    go false is = went_on is

  pub line_fails : AnswersLine (AnswersLineAndContinues true) e line answer new ⊎ AnswersLine (AnswersAndEndsSession true) e line answer new
  line_fails = go (is_refusal_answer answer) refl where
    go : (b : Bool) → is_refusal_answer answer ≡ b → AnswersLine (AnswersLineAndContinues true) e line answer new ⊎ AnswersLine (AnswersAndEndsSession true) e line answer new
    go true is = inr (ended is)
    go false is = inl (went_on is)

  pub line_result : (result : Result LineAction WriteError) → IfOk result (λ t. t ≡ strict_action_after_answer answer) → AnswersLineOrEnds (AnswersLineAndContinues true) (AnswersAndEndsSession true) e line new result answer
  line_result (Ok t) same = line_turn t same
  line_result (Err why) same = line_fails

module _ (e new : ExplorerState) (asked : DebuggerCommand) (answer : List ℕ) (h : AnswersCommand AnswersExplorerLine e asked new answer) where
  obeyed_on : is_refusal_answer answer ≡ false → AnswersCommand (AnswersLineAndContinues true) e asked new answer
  obeyed_on is = λ line short spelled. (h line short spelled, is)

  obeyed_last : is_refusal_answer answer ≡ true → AnswersCommand (AnswersAndEndsSession true) e asked new answer
  obeyed_last is = λ line short spelled. (h line short spelled, is)

  pub command_turn : (t : LineAction) → t ≡ strict_action_after_answer answer → AnswersCommandOrEnds (AnswersLineAndContinues true) (AnswersAndEndsSession true) e asked new (Ok t) answer
  command_turn t same = subst (λ (u : LineAction). AnswersCommandOrEnds (AnswersLineAndContinues true) (AnswersAndEndsSession true) e asked new (Ok u) answer) (sym same) (go (is_refusal_answer answer) refl) where
    go : (b : Bool) → is_refusal_answer answer ≡ b → AnswersCommandOrEnds (AnswersLineAndContinues true) (AnswersAndEndsSession true) e asked new (Ok (if b then turn.Refused else turn.Answered)) answer
    go true is = obeyed_last is
    go false is = obeyed_on is

  pub command_fails : AnswersCommand (AnswersLineAndContinues true) e asked new answer ⊎ AnswersCommand (AnswersAndEndsSession true) e asked new answer
  command_fails = go (is_refusal_answer answer) refl where
    go : (b : Bool) → is_refusal_answer answer ≡ b → AnswersCommand (AnswersLineAndContinues true) e asked new answer ⊎ AnswersCommand (AnswersAndEndsSession true) e asked new answer
    go true is = inr (obeyed_last is)
    go false is = inl (obeyed_on is)

  pub command_result : (result : Result LineAction WriteError) → IfOk result (λ t. t ≡ strict_action_after_answer answer) → AnswersCommandOrEnds (AnswersLineAndContinues true) (AnswersAndEndsSession true) e asked new result answer
  command_result (Ok t) same = command_turn t same
  command_result (Err why) same = command_fails

-- ---- an answer that was held back

-- all of it is pending
pub held_short : (items answer pending : List ℕ) → IsTextWrittenOrPending (Some items) [] answer pending → items ≡ [] → pending ≡ answer
held_short items answer pending h e = sym (h.splits ∙ ap (λ (t : List ℕ). t ++ pending) (sym (same_Some items h.sent h.held) ∙ e))

-- or nothing
pub held_long : (items answer pending : List ℕ) → IsTextWrittenOrPending (Some items) [] answer pending → pending ≡ [] → items ≡ answer
held_long items answer pending h e =
    same_Some items h.sent h.held ∙ sym (h.splits ∙ ap (λ (t : List ℕ). h.sent ++ t) e ∙ append-nil h.sent)

-- ---- a session that isn't strict

pub plain_turn : (e new : ExplorerState) (line answer : List ℕ) (result : Result LineAction WriteError) → AnswersLineOrEnds AnswersExplorerLine NeverAnswersAndEnds e line new result answer
    → AnswersLineOrEnds (AnswersLineAndContinues false) (AnswersAndEndsSession false) e line new result answer
plain_turn e new line answer (Ok turn.Answered) h = λ part kept. (((h part kept).0, refl), (h part kept).1)
plain_turn e new line answer (Ok turn.Refused) h = λ part kept. absurd (h part kept).0
plain_turn e new line answer (Ok turn.Quit) h = h
plain_turn e new line answer (Err failed) (inl h) = inl (λ part kept. (((h part kept).0, refl), (h part kept).1))
plain_turn e new line answer (Err failed) (inr h) = inl (λ part kept. absurd (h part kept).0)

pub plain_command : (e new : ExplorerState) (asked : DebuggerCommand) (answer : List ℕ) (result : Result LineAction WriteError) → AnswersCommandOrEnds AnswersExplorerLine NeverAnswersAndEnds e asked new result answer
    → AnswersCommandOrEnds (AnswersLineAndContinues false) (AnswersAndEndsSession false) e asked new result answer
plain_command e new asked answer (Ok turn.Answered) h = λ line short spelled. (h line short spelled, refl)
plain_command e new asked answer (Ok turn.Refused) h = λ line short spelled. absurd (h line short spelled)
plain_command e new asked answer (Ok turn.Quit) h = h
plain_command e new asked answer (Err failed) (inl h) = inl (λ line short spelled. (h line short spelled, refl))
plain_command e new asked answer (Err failed) (inr h) = inl (λ line short spelled. absurd (h line short spelled))

-- ---- the machine of a session that may be strict

-- how it answers a line after which it continues, and one at which it ends
abbrev pub GoesOn : StrictExplorer → List ℕ → List ℕ → StrictExplorer → Type 0
GoesOn p line answer new = StrictSessionGoesOn p.is_strict p.explorer line answer new.is_strict new.explorer

abbrev pub EndsStrictly : StrictExplorer → List ℕ → List ℕ → StrictExplorer → Type 0
EndsStrictly p line answer new = StrictSessionEnds p.is_strict p.explorer line answer new.is_strict new.explorer

module _ (strict : Bool) (p new : StrictExplorer) (is : p.is_strict ≡ strict) (same : new.is_strict ≡ p.is_strict) where
  goes : (line answer : List ℕ) → AnswersLineAndContinues strict p.explorer line answer new.explorer → GoesOn p line answer new
  goes line answer h = (subst (λ (b : Bool). AnswersLineAndContinues b p.explorer line answer new.explorer) (sym is) h, same)

  ends : (line answer : List ℕ) → AnswersAndEndsSession strict p.explorer line answer new.explorer → EndsStrictly p line answer new
  ends line answer h = (subst (λ (b : Bool). AnswersAndEndsSession b p.explorer line answer new.explorer) (sym is) h, same)

  pub strict_turn : (line answer : List ℕ) (result : Result LineAction WriteError) → (result ≡ Ok turn.Quit → new.refusal ≡ p.refusal)
      → AnswersLineOrEnds (AnswersLineAndContinues strict) (AnswersAndEndsSession strict) p.explorer line new.explorer result answer → AnswersLineOrEnds GoesOn EndsStrictly p line new result answer
  strict_turn line answer (Ok turn.Answered) noted h = λ part kept. (goes part answer (h part kept).0, (h part kept).1)
  strict_turn line answer (Ok turn.Refused) noted h = λ part kept. (ends part answer (h part kept).0, (h part kept).1)
  strict_turn line answer (Ok turn.Quit) noted h =
      let one = ap (λ (z : ExplorerState). record new { explorer = z }) h.1 in
      let two = ap (λ (b : Bool). record p { is_strict = b; refusal = new.refusal }) same in
      (h.0, one ∙ two ∙ ap (λ z. record p { refusal = z }) (noted refl), h.2)
  strict_turn line answer (Err failed) noted (inl h) = inl (λ part kept. (goes part answer (h part kept).0, (h part kept).1))
  strict_turn line answer (Err failed) noted (inr h) = inr (λ part kept. (ends part answer (h part kept).0, (h part kept).1))

  pub strict_command : (asked : DebuggerCommand) (answer : List ℕ) (result : Result LineAction WriteError)
      → AnswersCommandOrEnds (AnswersLineAndContinues strict) (AnswersAndEndsSession strict) p.explorer asked new.explorer result answer → AnswersCommandOrEnds GoesOn EndsStrictly p asked new result answer
  strict_command asked answer (Ok turn.Answered) h = λ line short spelled. goes line answer (h line short spelled)
  strict_command asked answer (Ok turn.Refused) h = λ line short spelled. ends line answer (h line short spelled)
  strict_command asked answer (Ok turn.Quit) h = h
  strict_command asked answer (Err failed) (inl h) = inl (λ line short spelled. goes line answer (h line short spelled))
  strict_command asked answer (Err failed) (inr h) = inr (λ line short spelled. ends line answer (h line short spelled))
