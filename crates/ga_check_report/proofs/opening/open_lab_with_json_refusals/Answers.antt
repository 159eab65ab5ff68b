use Rattle.std.proofs.Common.{◌≡◌, Some, List, ℕ, [], ◌++◌, refl, ap, sym, subst, ◌∙◌}
use Rattle.std.proofs.lemmas.List.{append-nil}
use Rattle.std.proofs.lemmas.Option.{same_Some}
use Rattle.ga_check_report.specs.Opened.{IsWrittenWithStatus}
use Rattle.ga_json.specs.Diagnostics.{diagnostics_json}
use Rattle.ga_check_report.proofs.opening.open_lab_with_json_refusals.Goals as goal

pub returns-in-Ok : goal.returns-in-Ok
returns-in-Ok g c = record {
  begun = λ left before known held.
      let it = c.in-Ok.ensures.begun left [] known (ap Some c.new-reason.ensures.items) in
      (it.0, [], it.2, held ∙ ap Some (sym (append-nil before)), (refl, it.4.1, it.4.2, it.4.3, it.4.4, it.4.5));
  within = c.open_lab-opened.ensures.within;
}

pub returns : goal.returns
returns g c = record {
  begun = λ left before known held.
      let it = c.in-Err.ensures.begun left [] known (ap Some c.new-reason.ensures.items) in
      let sent = c.tell_unopened.ensures before held in
      let file : List ℕ = c.args.file.now in
      let told : List ℕ = c.refusal_reason_lines-lines.result.now in
      let P : List ℕ → Type 0 = λ reason. IsWrittenWithStatus (diagnostics_json file reason ++ diagnostics_json file told) c.in-Err.status sent.0 c.tell_unopened.result in
      let said : c.open_lab-opened.new.writer.items ≡ it.1 = same_Some c.open_lab-opened.new.writer.items it.1 it.3 in
      (it.0, sent.0, it.2, sent.1, (it.4.0, it.4.1, (it.1, told, c.in-Err.status, it.4.2, subst P (c.as_slice-in-Err-3.ensures.value ∙ said) sent.2)));
  within = c.open_lab-opened.ensures.within;
}
