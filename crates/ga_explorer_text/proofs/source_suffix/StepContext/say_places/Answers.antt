use Rattle.std.proofs.Common.{rules, ℕ, ◌+◌, ◌-◌, List, ◌++◌, [], refl, arith}
use Rattle.ga_text.proofs.WriteLemmas.{truncated_here, written_pending}
use Rattle.ga_explorer_text.specs.Around.{numbered_step_text, numbered_steps_text}
use Rattle.ga_explorer_text.proofs.Saying.{line_written, line_truncated, all_said, next_place, no_place}
use Rattle.ga_explorer_text.proofs.source_suffix.StepContext.say_places.Goals as goal

pub places-init : goal.places-init
places-init g c = (search rules, λ before said h. record { front = []; splits = refl; is_said = written_pending _ before said _ h })

pub returns-in_err-say_made : goal.returns-in_err-say_made
returns-in_err-say_made g c = (
  search rules,
  λ before said h.
      let s = c.args.self.now.lab.now in
      let whole : List ℕ = numbered_steps_text c.args.self.now.notes.now s c.args.self.now.node c.args.first (c.args.self.now.near.step - c.args.first) in
      let done = c.places.invariant.1 before said h in (
        whole,
        refl,
        truncated_here c.from_residual.result _ before (said ++ whole) _ c.from_residual.ensures.0
            (line_truncated _ before said whole _ (numbered_step_text c.args.self.now.notes.now s c.args.self.now.node (c.places.place + 1 - 1)) _ done.front
            (next_place c.args.self.now.notes.now s c.args.self.now.node c.places.place c.args.self.now.near.step (c.places.place + 1 - 1) (omega (arith, c.step-last.ensures.value)) (omega arith)) done.splits
            (c.in_err-say_made.ensures.1 before (said ++ done.front) done.is_said)),
      ),
)

pub places-preserved : goal.places-preserved
places-preserved g c = (
  search rules,
  λ before said h.
      let s = c.args.self.now.lab.now in
      let done = c.places.invariant.1 before said h in
      line_written _ before said (numbered_steps_text c.args.self.now.notes.now s c.args.self.now.node c.args.first (c.args.self.now.near.step - c.args.first)) _ (numbered_step_text c.args.self.now.notes.now s c.args.self.now.node (c.places.place + 1 - 1)) _ done.front _
      (next_place c.args.self.now.notes.now s c.args.self.now.node c.places.place c.args.self.now.near.step (c.places.place + 1 - 1) (omega (arith, c.step-last.ensures.value)) (omega arith)) done.splits
      (c.in_ok-say_made.ensures.1 before (said ++ done.front) done.is_said),
)

pub returns : goal.returns
returns g c = (
  search rules,
  λ before said h.
      let s = c.args.self.now.lab.now in
      let whole : List ℕ = numbered_steps_text c.args.self.now.notes.now s c.args.self.now.node c.args.first (c.args.self.now.near.step - c.args.first) in (
        whole,
        refl,
        all_said _ before said whole _ _ (no_place c.args.self.now.notes.now s c.args.self.now.node c.places.place (c.args.self.now.near.step - c.places.place) (omega (arith, c.step-last.ensures.value))) (c.places.invariant.1 before said h),
      ),
)
