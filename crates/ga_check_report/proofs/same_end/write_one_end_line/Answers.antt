use Rattle.std.proofs.Common.{List, ℕ, Bool, ◌++◌, refl, ap, ◌∙◌}
use Rattle.std.specs.Prelude.{codes}
use Rattle.ga_json.proofs.Says.{begins, goes_on, cuts, ends_with, says_as}
use Rattle.ga_check_report.specs.declared.outcome.ExpectationOutcome.{ExpectationOutcome}
use Rattle.ga_check_report.specs.EndTexts.{is_fully_explored}
use Rattle.ga_check_report.specs.ExpectationTexts.{outcome_text}
use Rattle.ga_check_report.specs.SameEnd.{single_end_expectation_outcome}
use Rattle.ga_check_report.proofs.same_end.write_one_end_line.Goals as goal

pub returns-in_err-write_text : goal.returns-in_err-write_text
returns-in_err-write_text g c =
    let found = c.args.found.now in
    let text : List ℕ = codes "one end" in
    let more : List ℕ = outcome_text (is_fully_explored found.fault) 0 (single_end_expectation_outcome found) in
    cuts c.from_residual.result c.write_text.new.self text more c.from_residual.ensures.0 (begins g.W.Write.contents c.args.writer.now (text ++ more)) refl
    c.in_err-write_text.ensures

pub returns : goal.returns
returns g c =
    let found = c.args.found.now in
    let text : List ℕ = codes "one end" in
    let more : List ℕ = outcome_text (is_fully_explored found.fault) 0 (single_end_expectation_outcome found) in
    let known =
    c.as_slice.ensures.value ∙ c.outcome_text-known.ensures ∙ ap (λ (b : Bool). outcome_text b 0 c.single_end_expectation_outcome.result) c.is_fully_explored.ensures
    ∙ ap (λ (o : ExpectationOutcome). outcome_text (is_fully_explored found.fault) 0 o) c.single_end_expectation_outcome.ensures in
    ends_with c.write_blocks.result c.write_blocks.new.self
    (goes_on c.write_text.new.self text more (begins g.W.Write.contents c.args.writer.now (text ++ more)) refl c.in_ok-write_text.ensures)
    (says_as g.W.Write.contents c.write_blocks.result c.write_text.new.self c.write_blocks.new.self c.as_slice.result.now more known c.write_blocks.ensures)
