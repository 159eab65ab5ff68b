use Rattle.std.proofs.Common.{◌≡◌, ℕ, List, Bool, false, true≢false, sym, ◌∙◌, refl, subst}
use Rattle.std.specs.Prelude.{Option, Result, Ok, Err}
use Rattle.ga_text.specs.declared.output.WriteError.{WriteError}
use Rattle.ga_console.specs.Run.{WritesImageRefusal}
use Rattle.ga_console.specs.declared.commands.CommandsEnd.{CommandsEnd}
use Rattle.ga_console.specs.declared.commands.CommandsEnd.TheVariants.{InputEnded, Quit, Refused, PastLimit, ReadFailed}
use Rattle.ga_console.specs.declared.run.Status.{Status}
use Rattle.ga_console.specs.declared.run.Status.TheVariants.{CommandRefused}
use Rattle.ga_explorer.specs.Opening.{IsUnopenedSession}
use Rattle.ga_explorer.specs.Opening.IsUnopenedSession.{image_refused, source_refused, unread}
use Rattle.ga_explorer.specs.Session.{RunsExplorer, IsServedExplorerSession, session_status}
use Rattle.ga_explorer.specs.Session.RunsExplorer.{served, unbegun}
use Rattle.ga_explorer.proofs.laws.only_strict_sessions_end_at_a_refusal.Goals as goal

never_served : (prompts : Bool) (chip : Option (List ℕ)) (limit : ℕ) (read rest written : List ℕ) (ending : Result CommandsEnd WriteError)
    → CommandRefused ≡ session_status false ending → IsServedExplorerSession prompts false chip limit read rest written ending → ⊥
never_served prompts chip limit read rest written (Ok InputEnded) e s = cc
never_served prompts chip limit read rest written (Ok Quit) e s = cc
never_served prompts chip limit read rest written (Ok (Refused number)) e s = true≢false (sym s.serves.answers.7.1)
never_served prompts chip limit read rest written (Ok (PastLimit number)) e s = cc
never_served prompts chip limit read rest written (Ok ReadFailed) e s = cc
never_served prompts chip limit read rest written (Err failed) e s = cc

never_unopened : (chip : Option (List ℕ)) (read rest written : List ℕ) (status : Status) → status ≡ CommandRefused → IsUnopenedSession chip read rest written status → ⊥
never_unopened chip read rest written status is (image_refused fault refused writes) =
    let P : Status → Type 0 = WritesImageRefusal fault written in subst P is writes
never_unopened chip read rest written status is (source_refused alone empty e) = cc
never_unopened chip read rest written status is (unread none empty e) = cc

never : (prompts : Bool) (chip : Option (List ℕ)) (limit : ℕ) (read rest written : List ℕ) (status : Status) → status ≡ CommandRefused
    → RunsExplorer prompts false chip limit read rest written status → ⊥
never prompts chip limit read rest written status is (served ending e s) = never_served prompts chip limit read rest written ending (sym is ∙ e) s
never prompts chip limit read rest written status is (unbegun u) = never_unopened chip read rest written status is u

pub returns : goal.returns
returns c = λ prompts chip limit read rest written runs. never prompts chip limit read rest written CommandRefused refl runs
