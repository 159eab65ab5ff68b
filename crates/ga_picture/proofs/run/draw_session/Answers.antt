use Rattle.std.proofs.Common.{ℕ, List, ◌++◌, Some, ap, subst, ◌∙◌}
use Rattle.std.proofs.lemmas.List.{append-nil}
use Rattle.ga_lab.specs.Machine.{MachineState}
use Rattle.ga_picture.specs.Following.{WritesPictureOrRefusal}
use Rattle.ga_picture.specs.Following.WritesSessionPicture.{reached, stopped}
use Rattle.ga_picture.proofs.run.draw_session.Goals as goal

pub returns-in-Ok : goal.returns-in-Ok
returns-in-Ok g c = λ left before known held.
    let done = c.in-Ok.ensures left before known held in
    let silent = done.5 ∙ ap Some (ap (λ (t : List ℕ). before ++ t) done.6.0 ∙ append-nil before) in
    let sent = c.write_picture.ensures before silent in
    let P : MachineState → Type 0 = λ s. WritesPictureOrRefusal s c.args.view sent.0 c.write_picture.result in
    (done.0, done.1, sent.0, done.3, done.4, sent.1, reached c.in-Ok.explorer done.6.1 done.6.2 done.6.3 (subst P c.into_lab.ensures sent.2))

pub returns-in-Err : goal.returns-in-Err
returns-in-Err g c = λ left before known held.
    let done = c.in-Err.ensures left before known held in
    (done.0, done.1, done.2, done.3, done.4, done.5, stopped done.6)
