use Rattle.std.proofs.Common.{rules, ℕ, List, ◌++◌, ap, ◌∙◌}
use Rattle.ga_text.proofs.WriteLemmas.{truncated_here, truncated_within}
use Rattle.ga_check_report.specs.ExpectationTexts.{expectation_line, unbroken_expectation_text}
use Rattle.ga_explorer_text.proofs.Saying.{text_as, joined_written}
use Rattle.ga_check_report.proofs.breach_session.write_unbroken.Goals as goal

pub returns-in_err-write_blocks : goal.returns-in_err-write_blocks
returns-in_err-write_blocks g c = (
  search rules,
  λ before said h.
      let first : List ℕ = c.as_slice.result.now in
      let line : List ℕ = expectation_line c.args.whole c.args.asked c.args.one.now c.args.outcome.now in
      let answer : List ℕ = unbroken_expectation_text c.args.whole c.args.asked c.args.one.now c.args.outcome.now in
      truncated_here c.from_residual.result _ before (said ++ answer) _ c.from_residual.ensures.0
      (truncated_within _ before said first line answer (ap (λ (z : List ℕ). z ++ line) (c.as_slice.ensures.value ∙ c.no_session_front.ensures.text))
      (c.in_err-write_blocks.ensures.1 before said h)),
)

pub returns : goal.returns
returns g c = (
  search rules,
  λ before said h.
      let first : List ℕ = c.as_slice.result.now in
      let line : List ℕ = expectation_line c.args.whole c.args.asked c.args.one.now c.args.outcome.now in
      text_as c.write_expectation.result _ before said (first ++ line) (unbroken_expectation_text c.args.whole c.args.asked c.args.one.now c.args.outcome.now) _
      (ap (λ (z : List ℕ). z ++ line) (c.as_slice.ensures.value ∙ c.no_session_front.ensures.text))
      (joined_written c.write_expectation.result _ before said first line _ (c.write_expectation.ensures.1 before (said ++ first) (c.in_ok-write_blocks.ensures.1 before said h))),
)
