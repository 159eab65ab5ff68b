-- A prompt after an answer.
use Rattle.std.proofs.Common.{◌≡◌, ℕ, List, [], ◌++◌, Option, Bool, true, false, take, inl, inr, append_assoc, refl, sym, ap, subst, ◌∙◌, append-nil}
use Rattle.std.specs.Prelude.{◌⊎◌, Result, Ok}
use Rattle.std.specs.Result.{IsErr}
use Rattle.ga_text.specs.declared.output.WriteError.{WriteError}
use Rattle.ga_text.specs.Lines.{terminated_lines}
use Rattle.ga_display.specs.Texts.{input_limit_refusal}
use Rattle.ga_text.specs.Output.{TextHasPrefix, IsTextTruncated, IsTextWrittenOrTruncated}
use Rattle.ga_text.proofs.WriteLemmas.{at_err, truncated_here, truncated_within}
use Rattle.ga_console.specs.Session.{AnswersLine, ServesCommands, ServesToWriteFailure, IsWholeOrPrefixOnWriteError, lines_within_input_limit}
use Rattle.ga_console.specs.inner.Run.{AnswersLineOrEnds, AnswersCommand, AnswersCommandOrEnds}
use Rattle.ga_console.specs.declared.command.DebuggerCommand.{DebuggerCommand}
use Rattle.ga_console.specs.declared.commands.CommandsEnd.{CommandsEnd}
use Rattle.ga_console.specs.declared.responder.LineAction.{LineAction}
use Rattle.ga_console.specs.declared.responder.LineAction.TheVariants as turn
use Rattle.ga_explorer.specs.Opening.{ExplorerState}
use Rattle.ga_explorer.specs.Session.{prompt_text, AnswersLineAndContinues, AnswersAndEndsSession, AnswersWithPrompt}
use Rattle.ga_explorer.specs.inner.{PromptingSessionGoesOn, PromptingSessionEnds}
use Rattle.ga_explorer.specs.declared.prompting.PromptedExplorer.{PromptedExplorer}
use Rattle.ga_explorer.specs.declared.strict.StrictExplorer.{StrictExplorer}
use Rattle.ga_explorer.proofs.Serving.{serves_seen}
use Rattle.ga_explorer.proofs.StrictLemmas.{GoesOn, EndsStrictly}

-- how a session that may prompt answers a line after which it continues, and one at which it ends
abbrev pub AnswersPrompted : PromptedExplorer → List ℕ → List ℕ → PromptedExplorer → Type 0
AnswersPrompted p line written new =
    PromptingSessionGoesOn p.is_prompted p.explorer.is_strict p.explorer.explorer line written new.is_prompted new.explorer.is_strict new.explorer.explorer

abbrev pub EndsPrompted : PromptedExplorer → List ℕ → List ℕ → PromptedExplorer → Type 0
EndsPrompted p line answer new =
    PromptingSessionEnds p.is_prompted p.explorer.is_strict p.explorer.explorer line answer new.is_prompted new.explorer.is_strict new.explorer.explorer

prompts_after : (prompts strict : Bool) (e : ExplorerState) (line answer : List ℕ) (new : ExplorerState) → AnswersLineAndContinues strict e line answer new
    → AnswersWithPrompt prompts strict e line (answer ++ prompt_text prompts) new
prompts_after true strict e line answer new h = (answer, h, refl)
prompts_after false strict e line answer new h = subst (λ (t : List ℕ). AnswersLineAndContinues strict e line t new) (sym (append-nil answer)) h

module _ (p : PromptedExplorer) (after : StrictExplorer) where
  -- the machine after an answer
  abbrev pub on : PromptedExplorer
  on = record p { explorer = after }

  one_goes : (line answer : List ℕ) → GoesOn p.explorer line answer after → AnswersPrompted p line (answer ++ prompt_text p.is_prompted) on
  one_goes line answer h = (prompts_after p.is_prompted p.explorer.is_strict p.explorer.explorer line answer after.explorer h.0, h.1, refl)

  one_ends : (line answer : List ℕ) → EndsStrictly p.explorer line answer after → EndsPrompted p line answer on
  one_ends line answer h = (h.0, h.1, refl)

  pub prompted_line : (line answer : List ℕ) → AnswersLine GoesOn p.explorer line answer after → AnswersLine AnswersPrompted p line (answer ++ prompt_text p.is_prompted) on
  prompted_line line answer h = λ part kept. (one_goes part answer (h part kept).0, (h part kept).1)

  pub ended_line : (line answer : List ℕ) → AnswersLine EndsStrictly p.explorer line answer after → AnswersLine EndsPrompted p line answer on
  ended_line line answer h = λ part kept. (one_ends part answer (h part kept).0, (h part kept).1)

  pub prompted_command : (asked : DebuggerCommand) (answer : List ℕ) → AnswersCommand GoesOn p.explorer asked after answer → AnswersCommand AnswersPrompted p asked on (answer ++ prompt_text p.is_prompted)
  prompted_command asked answer h = λ line short spelled. one_goes line answer (h line short spelled)

  pub ended_command : (asked : DebuggerCommand) (answer : List ℕ) → AnswersCommand EndsStrictly p.explorer asked after answer → AnswersCommand EndsPrompted p asked on answer
  ended_command asked answer h = λ line short spelled. one_ends line answer (h line short spelled)

  -- the line `quit`, which gets no prompt
  pub quit_turn : (line text : List ℕ) → AnswersLineOrEnds GoesOn EndsStrictly p.explorer line after (Ok turn.Quit) text → AnswersLineOrEnds AnswersPrompted EndsPrompted p line on (Ok turn.Quit) text
  quit_turn line text h = (h.0, ap (λ e. record p { explorer = e }) h.1, h.2)

  -- a failed write of an answer
  pub line_err : (line answer : List ℕ) (result : Result LineAction WriteError) (contents : Option (List ℕ)) (before said pending : List ℕ) → IsErr result
      → AnswersLine GoesOn p.explorer line answer after ⊎ AnswersLine EndsStrictly p.explorer line answer after → IsTextTruncated contents before (said ++ answer)
      → (text : List ℕ) × AnswersLineOrEnds AnswersPrompted EndsPrompted p line on result text × IsTextWrittenOrTruncated result contents before (said ++ text) pending
  line_err line answer result contents before said pending failed (inl h) cut =
      let text : List ℕ = answer ++ prompt_text p.is_prompted in (
        text,
        at_err (λ r. AnswersLineOrEnds AnswersPrompted EndsPrompted p line on r text) result failed (λ why. inl (prompted_line line answer h)),
        truncated_here result contents before (said ++ text) pending failed (truncated_within contents before said answer (prompt_text p.is_prompted) text refl cut),
      )
  line_err line answer result contents before said pending failed (inr h) cut = (
    answer,
    at_err (λ r. AnswersLineOrEnds AnswersPrompted EndsPrompted p line on r answer) result failed (λ why. inr (ended_line line answer h)),
    truncated_here result contents before (said ++ answer) pending failed cut,
  )

  pub command_err : (asked : DebuggerCommand) (answer : List ℕ) (result : Result LineAction WriteError) (contents : Option (List ℕ)) (before said pending : List ℕ) → IsErr result
      → AnswersCommand GoesOn p.explorer asked after answer ⊎ AnswersCommand EndsStrictly p.explorer asked after answer → IsTextTruncated contents before (said ++ answer)
      → (text : List ℕ) × AnswersCommandOrEnds AnswersPrompted EndsPrompted p asked on result text × IsTextWrittenOrTruncated result contents before (said ++ text) pending
  command_err asked answer result contents before said pending failed (inl h) cut =
      let text : List ℕ = answer ++ prompt_text p.is_prompted in (
        text,
        at_err (λ r. AnswersCommandOrEnds AnswersPrompted EndsPrompted p asked on r text) result failed (λ why. inl (prompted_command asked answer h)),
        truncated_here result contents before (said ++ text) pending failed (truncated_within contents before said answer (prompt_text p.is_prompted) text refl cut),
      )
  command_err asked answer result contents before said pending failed (inr h) cut = (
    answer,
    at_err (λ r. AnswersCommandOrEnds AnswersPrompted EndsPrompted p asked on r answer) result failed (λ why. inr (ended_command asked answer h)),
    truncated_here result contents before (said ++ answer) pending failed cut,
  )

-- what such a session serves is what one of exploring does that prompts, and is strict, as it is at first
pub serves_prompted : (room : ℕ) (prompts strict : Bool) (p : PromptedExplorer) (read rest text : List ℕ) (last : PromptedExplorer) (ending : Result CommandsEnd WriteError)
    → p.is_prompted ≡ prompts → p.explorer.is_strict ≡ strict → ServesCommands AnswersPrompted EndsPrompted room p read rest text last ending
    → ServesCommands (AnswersWithPrompt prompts strict) (AnswersAndEndsSession strict) room p.explorer.explorer read rest text last.explorer.explorer ending
serves_prompted room prompts strict p read rest text last ending is tight h =
    serves_seen input_limit_refusal (λ (x : PromptedExplorer). x.explorer.explorer) (λ (x : PromptedExplorer). (x.is_prompted ≡ prompts) × (x.explorer.is_strict ≡ strict))
    AnswersPrompted EndsPrompted (AnswersWithPrompt prompts strict) (AnswersAndEndsSession strict)
    (record {
      answer = λ m line answer new k a. subst (λ b. AnswersWithPrompt b strict m.explorer.explorer line answer new.explorer.explorer) k.0
          (subst (λ b. AnswersWithPrompt m.is_prompted b m.explorer.explorer line answer new.explorer.explorer) k.1 a.0);
      holds = λ m line answer new k a. (a.2 ∙ k.0, a.1 ∙ k.1);
      refusal = λ m line answer new k a. subst (λ b. AnswersAndEndsSession b m.explorer.explorer line answer new.explorer.explorer) k.1 a.0;
    })
    room p read rest text last ending (is, tight) h

-- where nothing was answered yet when a write failed
pub nothing_served : (prompts strict : Bool) (room : ℕ) (e : ExplorerState) (read rest : List ℕ)
    → ServesToWriteFailure input_limit_refusal (AnswersWithPrompt prompts strict) (AnswersAndEndsSession strict) room e read rest [] e
nothing_served prompts strict room e read rest = record {
  heard = [];
  after = lines_within_input_limit room read;
  front = refl;
  no_quit = tt;
  script = inl (refl, refl);
  whole = inr (terminated_lines (take room read), refl);
}

-- what is written, from the prompt on
pub written_on : (result : Result CommandsEnd WriteError) (said first text sent : List ℕ) → IsWholeOrPrefixOnWriteError result ((said ++ first) ++ text) sent → IsWholeOrPrefixOnWriteError result (said ++ (first ++ text)) sent
written_on result said first text sent h = subst (λ (t : List ℕ). IsWholeOrPrefixOnWriteError result t sent) (append_assoc said first text) h

pub prefix_on : (said first sent : List ℕ) → TextHasPrefix (said ++ first) sent → TextHasPrefix (said ++ (first ++ [])) sent
prefix_on said first sent h = subst (λ (t : List ℕ). TextHasPrefix (said ++ t) sent) (sym (append-nil first)) h
