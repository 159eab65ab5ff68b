use Rattle.std.proofs.Common.{rules, ℕ, List, ◌++◌, refl, ap, ◌∙◌}
use Rattle.ga_text.proofs.WriteLemmas.{truncated_here, truncated_within}
use Rattle.ga_check_report.specs.DecisionTexts.{end_decision_text}
use Rattle.ga_check_report.specs.EndTexts.{end_kind_text, end_kind_with_decision_text}
use Rattle.ga_explorer_text.proofs.Saying.{text_as, joined_written}
use Rattle.ga_check_report.proofs.ends_text.write_decided_kind.Goals as goal

pub returns-in_err-write_kind : goal.returns-in_err-write_kind
returns-in_err-write_kind g c = (
  search rules,
  λ before said h.
      let first : List ℕ = end_kind_text c.args.number c.args.kind.now in
      let second : List ℕ = end_decision_text c.args.decision in
      let whole : List ℕ = end_kind_with_decision_text c.args.number c.args.kind.now c.args.decision in
      truncated_here c.from_residual.result _ before (said ++ whole) _ c.from_residual.ensures.0
      (truncated_within _ before said first second whole refl (c.in_err-write_kind.ensures.1 before said h)),
)

pub returns : goal.returns
returns g c = (
  search rules,
  λ before said h.
      let first : List ℕ = end_kind_text c.args.number c.args.kind.now in
      let second : List ℕ = c.as_slice.result.now in
      text_as c.write_blocks.result _ before said (first ++ second) (end_kind_with_decision_text c.args.number c.args.kind.now c.args.decision) _
      (ap (λ (z : List ℕ). first ++ z) (c.as_slice.ensures.value ∙ c.decision_line.ensures))
      (joined_written c.write_blocks.result _ before said first second _ (c.write_blocks.ensures.1 before (said ++ first) (c.in_ok-write_kind.ensures.1 before said h))),
)
