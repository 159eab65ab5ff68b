use Rattle.std.proofs.Common.{rules, ℕ, List, ◌++◌, [], refl, ap, arith}
use Rattle.std.specs.Prelude.{flat_map}
use Rattle.ga_text.proofs.WriteLemmas.{truncated_here, written_pending}
use Rattle.ga_explorer_text.specs.inner.{line_of_event_with_look}
use Rattle.ga_explorer_text.proofs.Saying.{line_written, line_truncated, all_said, rest_lines, no_lines}
use Rattle.ga_explorer_text.proofs.saved_text.say_listed.Goals as goal

pub causes-init : goal.causes-init
causes-init g c = (search rules, λ before said h. record { front = []; splits = refl; is_said = written_pending _ before said _ h })

pub returns-in_err-say_event : goal.returns-in_err-say_event
returns-in_err-say_event g c = (
  search rules,
  λ before said h.
      let causes = c.args.causes.now in
      let whole : List ℕ = flat_map line_of_event_with_look causes in
      let done = c.causes.invariant.1 before said h in
      let text = line_of_event_with_look c.cause-item.result in
      let more = rest_lines line_of_event_with_look causes c.causes.cause-index c.cause-item.result text (omega arith) (ap line_of_event_with_look c.cause-item.is) in (
        whole,
        refl,
        truncated_here c.from_residual.result _ before (said ++ whole) _ c.from_residual.ensures.0
            (line_truncated _ before said whole _ text _ done.front more done.splits (c.in_err-say_event.ensures.1 before (said ++ done.front) done.is_said)),
      ),
)

pub causes-preserved : goal.causes-preserved
causes-preserved g c = (
  search rules,
  λ before said h.
      let causes = c.args.causes.now in
      let done = c.causes.invariant.1 before said h in
      let text = line_of_event_with_look c.cause-item.result in
      let more = rest_lines line_of_event_with_look causes c.causes.cause-index c.cause-item.result text (omega arith) (ap line_of_event_with_look c.cause-item.is) in
      line_written _ before said (flat_map line_of_event_with_look causes) _ text _ done.front _ more done.splits
      (c.in_ok-say_event.ensures.1 before (said ++ done.front) done.is_said),
)

pub returns : goal.returns
returns g c = (
  search rules,
  λ before said h.
      let causes = c.args.causes.now in
      let whole : List ℕ = flat_map line_of_event_with_look causes in (
        whole,
        refl,
        all_said _ before said whole _ _ (no_lines line_of_event_with_look causes c.causes.cause-index (omega arith)) (c.causes.invariant.1 before said h),
      ),
)
