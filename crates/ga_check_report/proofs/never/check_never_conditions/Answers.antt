use Rattle.std.proofs.Common.{List, ℕ, ◌++◌, refl, Some, sym, ap, ◌∙◌, append_assoc}
use Rattle.std.proofs.lemmas.List.{append-nil}
use Rattle.ga_check_report.specs.Never.IsNeverCheckOutcome.{checked, unbegun}
use Rattle.ga_check_report.proofs.never.check_never_conditions.Goals as goal

pub returns-in-Ok : goal.returns-in-Ok
returns-in-Ok g c = λ left before known held.
    let begun = c.in-Ok.ensures.begun left before known held in
    let text : List ℕ = begun.4.1 in
    let ahead : List ℕ = c.open_program.new.input.bytes in
    let silent = begun.3 ∙ ap Some (ap (λ (t : List ℕ). before ++ t) begun.4.0 ∙ append-nil before) in
    let sent = c.answer_conditions.ensures before silent in (
      text ++ ahead,
      begun.0,
      sent.0,
      begun.4.2 ∙ sym (append_assoc text ahead begun.0),
      begun.2,
      sent.1,
      checked (record {
        text = text;
        ahead = ahead;
        begun = c.in-Ok.begun;
        splits = refl;
        front = begun.4.4;
        opens = begun.4.5;
        tells = sent.2;
      }),
    )

pub returns-in-Err : goal.returns-in-Err
returns-in-Err g c = λ left before known held.
    let begun = c.in-Err.ensures.begun left before known held in
    (begun.4.0, begun.0, begun.1, begun.4.1, begun.2, begun.3, unbegun c.in-Err.status refl begun.4.2)
