use Rattle.std.proofs.Common.{rules, ℕ, ◌+◌, List, ◌++◌, length, drop, take, refl, ap, ◌∙◌, arith}
use Rattle.std.specs.Prelude.{flat_map}
use Rattle.ga_display.specs.Texts.{event_text, trace_header_text}
use Rattle.ga_console.specs.Replies.{steps_text}
use Rattle.ga_text.proofs.WriteLemmas.{truncated_here, truncated_within, cut_assoc, written_as, said_assoc, listed_none, listed_more, listed_front, listed_all}
use Rattle.ga_console.proofs.readings.say_steps.Goals as goal

pub returns-in_err-write_trace_head : goal.returns-in_err-write_trace_head
returns-in_err-write_trace_head g c = (
  search rules,
  λ before said h.
      let steps = c.args.steps.now in
      let whole : List ℕ = steps_text c.args.node steps in
      let head : List ℕ = trace_header_text c.args.node (length steps) in (
        whole,
        refl,
        truncated_here c.from_residual.result _ before (said ++ whole) _ c.from_residual.ensures.0
            (truncated_within _ before said head (flat_map event_text steps) whole refl (c.in_err-write_trace_head.ensures.1 before said h)),
      ),
)

pub steps-init : goal.steps-init
steps-init g c = (
  search rules,
  λ before said h.
      let steps = c.args.steps.now in
      let head : List ℕ = trace_header_text c.args.node (length steps) in
      written_as _ before said head _ _ (listed_none event_text head steps) (c.in_ok-write_trace_head.ensures.1 before said h),
)

pub returns-in_err-write_event : goal.returns-in_err-write_event
returns-in_err-write_event g c = (
  search rules,
  λ before said h.
      let steps = c.args.steps.now in
      let head : List ℕ = trace_header_text c.args.node (length steps) in
      let i : ℕ = c.steps.made-index in
      let front : List ℕ = head ++ flat_map event_text (take i steps) in
      let text = event_text c.made-item.result in
      let more = listed_more event_text head steps i c.made-item.result text (omega arith) (ap event_text c.made-item.is) in (
        steps_text c.args.node steps,
        refl,
        truncated_here c.from_residual-in_err-write_event.result _ before (said ++ steps_text c.args.node steps) _ c.from_residual-in_err-write_event.ensures.0
            (truncated_within _ before said (front ++ text) (flat_map event_text (drop (i + 1) steps)) (steps_text c.args.node steps)
            (ap (λ (t : List ℕ). t ++ flat_map event_text (drop (i + 1) steps)) more ∙ listed_front event_text head steps (i + 1))
            (cut_assoc _ before said front text (c.in_err-write_event.ensures.1 before (said ++ front) (c.steps.invariant.1 before said h)))),
      ),
)

pub steps-preserved : goal.steps-preserved
steps-preserved g c = (
  search rules,
  λ before said h.
      let steps = c.args.steps.now in
      let head : List ℕ = trace_header_text c.args.node (length steps) in
      let i : ℕ = c.steps.made-index in
      let front : List ℕ = head ++ flat_map event_text (take i steps) in
      let text = event_text c.made-item.result in
      written_as _ before said (front ++ text) _ _ (listed_more event_text head steps i c.made-item.result text (omega arith) (ap event_text c.made-item.is))
      (said_assoc _ before said front text _ (c.in_ok-write_event.ensures.1 before (said ++ front) (c.steps.invariant.1 before said h))),
)

pub returns : goal.returns
returns g c = (
  search rules,
  λ before said h.
      let steps = c.args.steps.now in
      let head : List ℕ = trace_header_text c.args.node (length steps) in (
        steps_text c.args.node steps,
        refl,
        written_as _ before said _ _ _ (listed_all event_text head steps c.steps.made-index (omega arith)) (c.steps.invariant.1 before said h),
      ),
)
