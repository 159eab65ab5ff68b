use Rattle.std.proofs.Common.{rules, ℕ, List, ◌++◌, refl, ap, ◌∙◌}
use Rattle.ga_text.proofs.WriteLemmas.{truncated_here, truncated_within}
use Rattle.ga_check_report.specs.DecisionTexts.{end_decision_text}
use Rattle.ga_check_report.specs.ExpectationTexts.{expectation_line, expectation_with_decision_lines}
use Rattle.ga_explorer_text.proofs.Saying.{text_as, joined_written}
use Rattle.ga_check_report.proofs.breach_decisions.write_decided_line.Goals as goal

pub returns-in_err-write_expectation : goal.returns-in_err-write_expectation
returns-in_err-write_expectation g c = (
  search rules,
  λ before said h.
      let first : List ℕ = expectation_line c.args.whole c.args.number c.args.one.now c.args.outcome in
      let second : List ℕ = end_decision_text c.args.decision in
      let whole : List ℕ = expectation_with_decision_lines c.args.whole c.args.number c.args.one.now c.args.outcome c.args.decision in
      truncated_here c.from_residual.result _ before (said ++ whole) _ c.from_residual.ensures.0
      (truncated_within _ before said first second whole refl (c.in_err-write_expectation.ensures.1 before said h)),
)

pub returns : goal.returns
returns g c = (
  search rules,
  λ before said h.
      let first : List ℕ = expectation_line c.args.whole c.args.number c.args.one.now c.args.outcome in
      let second : List ℕ = c.as_slice.result.now in
      text_as c.write_blocks.result _ before said (first ++ second) (expectation_with_decision_lines c.args.whole c.args.number c.args.one.now c.args.outcome c.args.decision) _
      (ap (λ (z : List ℕ). first ++ z) (c.as_slice.ensures.value ∙ c.decision_line.ensures))
      (joined_written c.write_blocks.result _ before said first second _ (c.write_blocks.ensures.1 before (said ++ first) (c.in_ok-write_expectation.ensures.1 before said h))),
)
