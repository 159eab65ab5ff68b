use Rattle.std.proofs.Common.{ℕ, ◌-◌, List, ◌++◌, Some, sym, ap, subst, ◌∙◌, append_assoc}
use Rattle.std.proofs.lemmas.List.{append-nil}
use Rattle.ga_explorer.specs.Opening.{IsTextBeforeCommands, optional_image_text}
use Rattle.ga_picture.specs.Following.IsSessionReachingNoMachine.{unbegun}
use Rattle.ga_picture.specs.inner.{ExecutesCommandsSilently}
use Rattle.ga_picture.proofs.Following.{reaches_after}
use Rattle.ga_picture.proofs.follow.run_silent_session.Goals as goal

pub returns-in-Ok : goal.returns-in-Ok
returns-in-Ok g c = λ left before known held.
    let begun = c.in-Ok.ensures.begun left before known held in
    let text : List ℕ = begun.4.1 in
    let silent = begun.3 ∙ ap Some (ap (λ (t : List ℕ). before ++ t) begun.4.0 ∙ append-nil before) in
    let done = c.follow.ensures begun.0 before begun.2 silent in
    let P : ℕ → Type 0 = λ n. ExecutesCommandsSilently (16777216 - n) c.in-Ok.begun done.0 done.1 done.2 c.follow.result in (
      text ++ done.0,
      done.1,
      done.2,
      begun.4.2 ∙ ap (λ (l : List ℕ). text ++ l) done.3 ∙ sym (append_assoc text done.0 done.1),
      done.4,
      done.5,
      reaches_after (optional_image_text c.args.chip) c.args.limit text done.0 done.1 done.2 c.in-Ok.begun c.follow.result (subst (IsTextBeforeCommands text) done.3 begun.4.4) begun.4.5
          (subst P begun.4.3 done.6),
    )

pub returns-in-Err : goal.returns-in-Err
returns-in-Err g c = λ left before known held.
    let begun = c.in-Err.ensures.begun left before known held in
    (begun.4.0, begun.0, begun.1, begun.4.1, begun.2, begun.3, unbegun begun.4.2)
