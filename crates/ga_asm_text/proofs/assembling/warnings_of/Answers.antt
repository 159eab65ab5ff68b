use Rattle.std.proofs.Common.{List, ℕ, [], Some, Result, ap, ◌∙◌, subst}
use Rattle.std.proofs.lemmas.Option.{same_Some}
use Rattle.ga_text.specs.Output.{IsTextWrittenOrPending, IsTextWrittenOrTruncated}
use Rattle.ga_text.specs.declared.output.WriteError.{WriteError}
use Rattle.ga_console.proofs.RunLemmas.{all_sent}
use Rattle.ga_asm_text.specs.SourceJson.{store_warnings_text}
use Rattle.ga_asm_text.proofs.assembling.warnings_of.Goals as goal

pub returns-in-Ok : goal.returns-in-Ok
returns-in-Ok c =
    let text : List ℕ = store_warnings_text c.args.assembled.now.programs.items in
    let now : List ℕ = c.report_stores_over_code.new.errors.items in
    let P : Result (Unit {0}) WriteError → Type 0 = λ written. IsTextWrittenOrTruncated written (Some now) [] text [] in
    let done : IsTextWrittenOrPending (Some now) [] text [] = subst P c.in-Ok.is (c.in_ok-report_stores_over_code.ensures.warnings [] (ap Some c.new-warnings.ensures.items)) in
    same_Some now done.sent done.held ∙ all_sent (Some now) [] text done
