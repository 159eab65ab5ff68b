use Rattle.std.proofs.Common.{rules, ℕ, List, [], ◌++◌, refl, ap, arith}
use Rattle.std.specs.Prelude.{flat_map}
use Rattle.ga_text.proofs.WriteLemmas.{truncated_here, truncated_within, written_pending}
use Rattle.ga_explorer_text.specs.Races.{look_race_text}
use Rattle.ga_explorer_text.proofs.Saying.{line_written, line_truncated, all_said, rest_lines, no_lines, joined_written}
use Rattle.ga_explorer_text.proofs.races_text.say_rest.Goals as goal

pub readings-init : goal.readings-init
readings-init g c = (search rules, λ before said h. record { front = []; splits = refl; is_said = written_pending _ before said _ h })

pub returns-in_err-say_reading : goal.returns-in_err-say_reading
returns-in_err-say_reading g c = (
  search rules,
  λ before said h.
      let readings = c.args.readings.now in
      let lines : List ℕ = flat_map look_race_text readings in
      let whole : List ℕ = lines ++ c.args.last.now in
      let i : ℕ = c.readings.reading-index in
      let done = c.readings.invariant.1 before said h in
      let text = look_race_text c.reading-item.result in
      let more = rest_lines look_race_text readings i c.reading-item.result text (omega arith) (ap look_race_text c.reading-item.is) in (
        whole,
        refl,
        truncated_here c.from_residual.result _ before (said ++ whole) _ c.from_residual.ensures.0
            (truncated_within _ before said lines c.args.last.now whole refl
            (line_truncated _ before said lines _ text _ done.front more done.splits (c.in_err-say_reading.ensures.1 before (said ++ done.front) done.is_said))),
      ),
)

pub readings-preserved : goal.readings-preserved
readings-preserved g c = (
  search rules,
  λ before said h.
      let readings = c.args.readings.now in
      let i : ℕ = c.readings.reading-index in
      let done = c.readings.invariant.1 before said h in
      let text = look_race_text c.reading-item.result in
      let more = rest_lines look_race_text readings i c.reading-item.result text (omega arith) (ap look_race_text c.reading-item.is) in
      line_written _ before said (flat_map look_race_text readings) _ text _ done.front _ more done.splits
      (c.in_ok-say_reading.ensures.1 before (said ++ done.front) done.is_said),
)

pub returns : goal.returns
returns g c = (
  search rules,
  λ before said h.
      let readings = c.args.readings.now in
      let lines : List ℕ = flat_map look_race_text readings in (
        lines ++ c.args.last.now,
        refl,
        joined_written c.write_blocks.result _ before said lines c.args.last.now _
            (c.write_blocks.ensures.1 before (said ++ lines) (all_said _ before said lines _ _ (no_lines look_race_text readings c.readings.reading-index (omega arith)) (c.readings.invariant.1 before said h))),
      ),
)
