use Rattle.std.proofs.Common.{rules, ℕ, List, ◌++◌, refl, ap, ◌∙◌, arith}
use Rattle.std.specs.Prelude.{flat_map}
use Rattle.ga_text.proofs.WriteLemmas.{truncated_here, truncated_within}
use Rattle.ga_explorer_text.specs.Effects.{rollback_effect_text, rollback_effects_text}
use Rattle.ga_explorer_text.proofs.Saying.{line_written, line_truncated, all_said, rest_lines, no_lines}
use Rattle.ga_explorer_text.proofs.rollback_effects_text.say_nodes.Goals as goal

pub returns-in_err-write_blocks : goal.returns-in_err-write_blocks
returns-in_err-write_blocks g c = (
  search rules,
  λ before said h.
      let nodes = c.args.nodes.now in
      let whole : List ℕ = rollback_effects_text c.args.notes.now c.args.lab.now c.args.events nodes in (
        whole,
        refl,
        truncated_here c.from_residual.result _ before (said ++ whole) _ c.from_residual.ensures.0
            (truncated_within _ before said c.as_slice.result.now (flat_map (rollback_effect_text c.args.notes.now c.args.lab.now) nodes) whole
            (ap (λ (z : List ℕ). z ++ flat_map (rollback_effect_text c.args.notes.now c.args.lab.now) nodes) (c.as_slice.ensures.value ∙ c.head_line.ensures)) (c.in_err-write_blocks.ensures.1 before said h)),
      ),
)

pub nodes-init : goal.nodes-init
nodes-init g c = (
  search rules,
  λ before said h.
      let nodes = c.args.nodes.now in record {
        front = c.as_slice.result.now;
        splits = ap (λ (z : List ℕ). z ++ flat_map (rollback_effect_text c.args.notes.now c.args.lab.now) nodes) (c.as_slice.ensures.value ∙ c.head_line.ensures);
        is_said = c.in_ok-write_blocks.ensures.1 before said h;
      },
)

pub returns-in_err-say_effect : goal.returns-in_err-say_effect
returns-in_err-say_effect g c = (
  search rules,
  λ before said h.
      let nodes = c.args.nodes.now in
      let whole : List ℕ = rollback_effects_text c.args.notes.now c.args.lab.now c.args.events nodes in
      let i : ℕ = c.nodes.effect-index in
      let done = c.nodes.invariant.1 before said h in
      let text = rollback_effect_text c.args.notes.now c.args.lab.now c.effect-item.result in
      let more = rest_lines (rollback_effect_text c.args.notes.now c.args.lab.now) nodes i c.effect-item.result text (omega arith) (ap (rollback_effect_text c.args.notes.now c.args.lab.now) c.effect-item.is) in (
        whole,
        refl,
        truncated_here c.from_residual-in_err-say_effect.result _ before (said ++ whole) _ c.from_residual-in_err-say_effect.ensures.0
            (line_truncated _ before said whole _ text _ done.front more done.splits (c.in_err-say_effect.ensures.1 before (said ++ done.front) done.is_said)),
      ),
)

pub nodes-preserved : goal.nodes-preserved
nodes-preserved g c = (
  search rules,
  λ before said h.
      let nodes = c.args.nodes.now in
      let i : ℕ = c.nodes.effect-index in
      let done = c.nodes.invariant.1 before said h in
      let text = rollback_effect_text c.args.notes.now c.args.lab.now c.effect-item.result in
      let more = rest_lines (rollback_effect_text c.args.notes.now c.args.lab.now) nodes i c.effect-item.result text (omega arith) (ap (rollback_effect_text c.args.notes.now c.args.lab.now) c.effect-item.is) in
      line_written _ before said (rollback_effects_text c.args.notes.now c.args.lab.now c.args.events nodes) _ text _ done.front _ more done.splits
      (c.in_ok-say_effect.ensures.1 before (said ++ done.front) done.is_said),
)

pub returns : goal.returns
returns g c = (
  search rules,
  λ before said h.
      let nodes = c.args.nodes.now in
      let whole : List ℕ = rollback_effects_text c.args.notes.now c.args.lab.now c.args.events nodes in (
        whole,
        refl,
        all_said _ before said whole _ _ (no_lines (rollback_effect_text c.args.notes.now c.args.lab.now) nodes c.nodes.effect-index (omega arith)) (c.nodes.invariant.1 before said h),
      ),
)
