use Rattle.std.proofs.Common.{rules, ℕ, List, [], ◌++◌, refl, ap, arith}
use Rattle.std.specs.Prelude.{flat_map}
use Rattle.ga_causal.specs.Dependence.{is_node_flagged}
use Rattle.ga_text.proofs.WriteLemmas.{truncated_here, written_pending}
use Rattle.ga_state_expectations.specs.declared.source.LineExpectation.{LineExpectation}
use Rattle.ga_explorer_text.specs.Expected.{status_line}
use Rattle.ga_explorer_text.proofs.Saying.{line_written, line_truncated, all_said, rest_lines, no_lines}
use Rattle.ga_explorer_text.proofs.expectations_text.write_lines.Goals as goal

pub lines-init : goal.lines-init
lines-init g c = (search rules, λ before said h. record { front = []; splits = refl; is_said = written_pending _ before said _ h })

pub returns-in_err-write_line : goal.returns-in_err-write_line
returns-in_err-write_line g c = (
  search rules,
  λ before said h.
      let line : LineExpectation → List ℕ = (status_line (is_node_flagged c.args.stuck.now) c.args.is_quiet c.args.lab.now) in
      let all = c.args.expectations.now in
      let whole : List ℕ = flat_map line all in
      let i : ℕ = c.lines.one-index in
      let done = c.lines.invariant.1 before said h in
      let text = line c.one-item.result in
      let more = rest_lines line all i c.one-item.result text (omega arith) (ap line c.one-item.is) in (
        whole,
        refl,
        truncated_here c.from_residual.result _ before (said ++ whole) _ c.from_residual.ensures.0
            (line_truncated _ before said whole _ text _ done.front more done.splits (c.in_err-write_line.ensures.1 before (said ++ done.front) done.is_said)),
      ),
)

pub lines-preserved : goal.lines-preserved
lines-preserved g c = (
  search rules,
  λ before said h.
      let line : LineExpectation → List ℕ = (status_line (is_node_flagged c.args.stuck.now) c.args.is_quiet c.args.lab.now) in
      let all = c.args.expectations.now in
      let i : ℕ = c.lines.one-index in
      let done = c.lines.invariant.1 before said h in
      let text = line c.one-item.result in
      let more = rest_lines line all i c.one-item.result text (omega arith) (ap line c.one-item.is) in
      line_written _ before said (flat_map line all) _ text _ done.front _ more done.splits
      (c.in_ok-write_line.ensures.1 before (said ++ done.front) done.is_said),
)

pub returns : goal.returns
returns g c = (
  search rules,
  λ before said h.
      let line : LineExpectation → List ℕ = (status_line (is_node_flagged c.args.stuck.now) c.args.is_quiet c.args.lab.now) in
      let all = c.args.expectations.now in
      let whole : List ℕ = flat_map line all in (
        whole,
        refl,
        all_said _ before said whole _ _ (no_lines line all c.lines.one-index (omega arith)) (c.lines.invariant.1 before said h),
      ),
)
