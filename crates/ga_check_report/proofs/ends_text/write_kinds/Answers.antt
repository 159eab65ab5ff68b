use Rattle.std.proofs.Common.{rules, ℕ, List, ◌++◌, [], refl, ap, arith}
use Rattle.std.proofs.lemmas.List.{drop_all}
use Rattle.ga_text.proofs.WriteLemmas.{truncated_here, written_pending}
use Rattle.ga_check_report.specs.EndTexts.{end_kinds_text}
use Rattle.ga_explorer_text.proofs.Saying.{line_written, line_truncated, all_said}
use Rattle.ga_check_report.proofs.EndsOut.{next_kind}
use Rattle.ga_check_report.proofs.ends_text.write_kinds.Goals as goal

pub kinds-init : goal.kinds-init
kinds-init g c = (search rules, λ before said h. record { front = []; splits = refl; is_said = written_pending _ before said _ h })

pub returns-in_err-write_decided_kind : goal.returns-in_err-write_decided_kind
returns-in_err-write_decided_kind g c = (
  search rules,
  λ before said h.
      let found = c.args.found.now in
      let kinds = c.args.kinds.now in
      let whole : List ℕ = end_kinds_text found.decisions 0 kinds in
      let done = c.kinds.invariant.1 before said h in
      truncated_here c.from_residual.result _ before (said ++ whole) _ c.from_residual.ensures.0
      (line_truncated _ before said whole _ _ _ done.front (next_kind found.decisions kinds c.kinds.place _ c.decision.result (omega arith) c.decision.ensures) done.splits
      (c.in_err-write_decided_kind.ensures.1 before (said ++ done.front) done.is_said)),
)

pub kinds-preserved : goal.kinds-preserved
kinds-preserved g c = (
  search rules,
  λ before said h.
      let found = c.args.found.now in
      let kinds = c.args.kinds.now in
      let done = c.kinds.invariant.1 before said h in
      line_written _ before said (end_kinds_text found.decisions 0 kinds) _ _ _ done.front _ (next_kind found.decisions kinds c.kinds.place _ c.decision.result (omega arith) c.decision.ensures) done.splits
      (c.in_ok-write_decided_kind.ensures.1 before (said ++ done.front) done.is_said),
)

pub returns : goal.returns
returns g c = (
  search rules,
  λ before said h.
      let found = c.args.found.now in
      let kinds = c.args.kinds.now in
      all_said _ before said (end_kinds_text found.decisions 0 kinds) _ _ (ap (end_kinds_text found.decisions c.kinds.place) (drop_all c.kinds.place kinds (omega arith))) (c.kinds.invariant.1 before said h),
)
