use Rattle.std.proofs.Common.{rules, ℕ, List, ◌++◌, [], refl, arith}
use Rattle.ga_text.proofs.WriteLemmas.{truncated_here, written_pending}
use Rattle.ga_explorer_text.specs.Saved.{saved_session_text}
use Rattle.ga_explorer_text.proofs.Saying.{line_written, line_truncated, all_said}
use Rattle.ga_explorer_text.proofs.Saving.{next_saved, all_saved}
use Rattle.ga_explorer_text.proofs.saved_text.say_unlisted.Goals as goal

pub places-init : goal.places-init
places-init g c = (search rules, λ before said h. record { front = []; splits = refl; is_said = written_pending _ before said _ h })

pub returns-in_err-say_step : goal.returns-in_err-say_step
returns-in_err-say_step g c = (
  search rules,
  λ before said h.
      let s = c.args.lab.now in
      let whole : List ℕ = saved_session_text s in
      let front = c.places.invariant.1 before said h in
      let done = c.in_err-say_step.ensures.1 before (said ++ front.front) front.is_said in (
        whole,
        refl,
        truncated_here c.from_residual.result _ before (said ++ whole) _ c.from_residual.ensures.0
            (line_truncated _ before said whole _ done.0 _ front.front (next_saved s c.places.place done.0 done.1) front.splits done.2),
      ),
)

pub places-preserved : goal.places-preserved
places-preserved g c = (
  search rules,
  λ before said h.
      let s = c.args.lab.now in
      let front = c.places.invariant.1 before said h in
      let done = c.in_ok-say_step.ensures.1 before (said ++ front.front) front.is_said in
      line_written _ before said (saved_session_text s) _ done.0 _ front.front _ (next_saved s c.places.place done.0 done.1) front.splits done.2,
)

pub returns : goal.returns
returns g c = (
  search rules,
  λ before said h.
      let s = c.args.lab.now in
      let whole : List ℕ = saved_session_text s in (
        whole,
        refl,
        all_said _ before said whole _ _ (all_saved s c.places.place (omega arith)) (c.places.invariant.1 before said h),
      ),
)
