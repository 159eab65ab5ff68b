use Rattle.std.proofs.Common.{rules, ℕ, List, ◌++◌, refl, ap, ◌∙◌, arith}
use Rattle.std.specs.Prelude.{flat_map}
use Rattle.ga_text.proofs.WriteLemmas.{truncated_here, truncated_within}
use Rattle.ga_explorer_text.specs.Races.{race_text, race_lines_text}
use Rattle.ga_explorer_text.proofs.Saying.{line_written, line_truncated, all_said, rest_lines, no_lines}
use Rattle.ga_explorer_text.proofs.races_text.say_list.Goals as goal

pub returns-in_err-write_blocks : goal.returns-in_err-write_blocks
returns-in_err-write_blocks g c = (
  search rules,
  λ before said h.
      let races = c.args.races.now in
      let whole : List ℕ = race_lines_text races c.args.count in (
        whole,
        refl,
        truncated_here c.from_residual.result _ before (said ++ whole) _ c.from_residual.ensures.0
            (truncated_within _ before said c.as_slice.result.now (flat_map race_text races) whole
            (ap (λ (z : List ℕ). z ++ flat_map race_text races) (c.as_slice.ensures.value ∙ c.head_line.ensures)) (c.in_err-write_blocks.ensures.1 before said h)),
      ),
)

pub races-init : goal.races-init
races-init g c = (
  search rules,
  λ before said h.
      let races = c.args.races.now in record {
        front = c.as_slice.result.now;
        splits = ap (λ (z : List ℕ). z ++ flat_map race_text races) (c.as_slice.ensures.value ∙ c.head_line.ensures);
        is_said = c.in_ok-write_blocks.ensures.1 before said h;
      },
)

pub returns-in_err-say_race : goal.returns-in_err-say_race
returns-in_err-say_race g c = (
  search rules,
  λ before said h.
      let races = c.args.races.now in
      let whole : List ℕ = race_lines_text races c.args.count in
      let i : ℕ = c.races.race-index in
      let done = c.races.invariant.1 before said h in
      let text = race_text c.race-item.result in
      let more = rest_lines race_text races i c.race-item.result text (omega arith) (ap race_text c.race-item.is) in (
        whole,
        refl,
        truncated_here c.from_residual-in_err-say_race.result _ before (said ++ whole) _ c.from_residual-in_err-say_race.ensures.0
            (line_truncated _ before said whole _ text _ done.front more done.splits (c.in_err-say_race.ensures.1 before (said ++ done.front) done.is_said)),
      ),
)

pub races-preserved : goal.races-preserved
races-preserved g c = (
  search rules,
  λ before said h.
      let races = c.args.races.now in
      let i : ℕ = c.races.race-index in
      let done = c.races.invariant.1 before said h in
      let text = race_text c.race-item.result in
      let more = rest_lines race_text races i c.race-item.result text (omega arith) (ap race_text c.race-item.is) in
      line_written _ before said (race_lines_text races c.args.count) _ text _ done.front _ more done.splits
      (c.in_ok-say_race.ensures.1 before (said ++ done.front) done.is_said),
)

pub returns : goal.returns
returns g c = (
  search rules,
  λ before said h.
      let races = c.args.races.now in
      let whole : List ℕ = race_lines_text races c.args.count in (
        whole,
        refl,
        all_said _ before said whole _ _ (no_lines race_text races c.races.race-index (omega arith)) (c.races.invariant.1 before said h),
      ),
)
