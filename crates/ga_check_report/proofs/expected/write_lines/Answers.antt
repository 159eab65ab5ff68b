use Rattle.std.proofs.Common.{rules, ℕ, List, ◌++◌, [], refl, ap, arith}
use Rattle.std.proofs.lemmas.List.{drop_all}
use Rattle.ga_text.proofs.WriteLemmas.{truncated_here, written_pending}
use Rattle.ga_check_report.specs.ExpectationTexts.{expectations_lines_text}
use Rattle.ga_explorer_text.proofs.Saying.{line_written, line_truncated, all_said}
use Rattle.ga_check_report.proofs.ExpectationsOut.{next_line}
use Rattle.ga_check_report.proofs.expected.write_lines.Goals as goal

pub expectations-init : goal.expectations-init
expectations-init g c = (search rules, λ before said h. record { front = []; splits = refl; is_said = written_pending _ before said _ h })

pub returns-in_err-write_decided_line : goal.returns-in_err-write_decided_line
returns-in_err-write_decided_line g c = (
  search rules,
  λ before said h.
      let list = c.args.expectations.now in
      let whole : List ℕ = expectations_lines_text c.args.whole c.args.outcomes.now c.args.decisions.now 0 list in
      let done = c.expectations.invariant.1 before said h in
      truncated_here c.from_residual.result _ before (said ++ whole) _ c.from_residual.ensures.0
      (line_truncated _ before said whole _ _ _ done.front
      (next_line c.args.whole c.args.outcomes.now c.args.decisions.now list c.expectations.place c.index-expectations-place.result c.outcome_at-outcome.result
      c.decision_at-decision.result c.index-expectations-place.is (omega arith) c.outcome_at-outcome.ensures c.decision_at-decision.ensures) done.splits (c.in_err-write_decided_line.ensures.1 before (said ++ done.front) done.is_said)),
)

pub expectations-preserved : goal.expectations-preserved
expectations-preserved g c = (
  search rules,
  λ before said h.
      let list = c.args.expectations.now in
      let done = c.expectations.invariant.1 before said h in
      line_written _ before said (expectations_lines_text c.args.whole c.args.outcomes.now c.args.decisions.now 0 list) _ _ _ done.front _
      (next_line c.args.whole c.args.outcomes.now c.args.decisions.now list c.expectations.place c.index-expectations-place.result c.outcome_at-outcome.result
      c.decision_at-decision.result c.index-expectations-place.is (omega arith) c.outcome_at-outcome.ensures c.decision_at-decision.ensures) done.splits (c.in_ok-write_decided_line.ensures.1 before (said ++ done.front) done.is_said),
)

pub returns : goal.returns
returns g c = (
  search rules,
  λ before said h.
      let list = c.args.expectations.now in
      all_said _ before said (expectations_lines_text c.args.whole c.args.outcomes.now c.args.decisions.now 0 list) _ _
      (ap (expectations_lines_text c.args.whole c.args.outcomes.now c.args.decisions.now c.expectations.place) (drop_all c.expectations.place list (omega arith))) (c.expectations.invariant.1 before said h),
)
