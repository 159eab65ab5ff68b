use Rattle.std.proofs.Common.{rules, ◌∙◌, ◌+◌, ◌-◌, ℕ, List, ◌++◌, [], refl, sym, ap, arith}
use Rattle.ga_grid.specs.Chip.{records_of_chip}
use Rattle.ga_causal.specs.Dependence.{is_node_flagged}
use Rattle.ga_text.proofs.WriteLemmas.{truncated_here, written_pending}
use Rattle.ga_explorer_text.specs.Waiting.{wait_cycle_text_at_node, concatenated_node_texts, wait_cycles_text}
use Rattle.ga_explorer_text.proofs.Saying.{line_written, line_truncated, all_said, next_node, all_told}
use Rattle.ga_explorer_text.proofs.ring_text.write_wait_cycles.Goals as goal

pub nodes-init : goal.nodes-init
nodes-init g c = (search rules, λ before said h. record { front = []; splits = refl; is_said = written_pending _ before said _ h })

pub returns-in_err-write_blocks : goal.returns-in_err-write_blocks
returns-in_err-write_blocks g c = (
  search rules,
  λ before said h.
      let line_of : ℕ → List ℕ = wait_cycle_text_at_node (records_of_chip c.args.chip.now) (is_node_flagged c.args.stuck.now) in
      let whole : List ℕ = wait_cycles_text (records_of_chip c.args.chip.now) (is_node_flagged c.args.stuck.now) in
      let line : List ℕ = c.as_slice.result.now in
      let more : List ℕ = concatenated_node_texts line_of (c.nodes.number + 1) (144 - (c.nodes.number + 1)) in
      let done = c.nodes.invariant.1 before said h in (
        whole,
        refl,
        truncated_here c.from_residual.result _ before (said ++ whole) _ c.from_residual.ensures.0
            (line_truncated _ before said whole _ line more done.front
            (next_node line_of c.nodes.number c.new.result.number (omega arith) c.new.ensures
            ∙ ap (λ (z : List ℕ). z ++ more) (sym (c.as_slice.ensures.value ∙ c.line_of_ring-line.ensures))) done.splits
            (c.in_err-write_blocks.ensures.1 before (said ++ done.front) done.is_said)),
      ),
)

pub nodes-preserved : goal.nodes-preserved
nodes-preserved g c = (
  search rules,
  λ before said h.
      let line_of : ℕ → List ℕ = wait_cycle_text_at_node (records_of_chip c.args.chip.now) (is_node_flagged c.args.stuck.now) in
      let line : List ℕ = c.as_slice.result.now in
      let more : List ℕ = concatenated_node_texts line_of (c.nodes.number + 1) (144 - (c.nodes.number + 1)) in
      let done = c.nodes.invariant.1 before said h in
      line_written _ before said (wait_cycles_text (records_of_chip c.args.chip.now) (is_node_flagged c.args.stuck.now)) _ line more done.front _
      (next_node line_of c.nodes.number c.new.result.number (omega arith) c.new.ensures
      ∙ ap (λ (z : List ℕ). z ++ more) (sym (c.as_slice.ensures.value ∙ c.line_of_ring-line.ensures))) done.splits
      (c.in_ok-write_blocks.ensures.1 before (said ++ done.front) done.is_said),
)

pub returns : goal.returns
returns g c = (
  search rules,
  λ before said h.
      let chip = records_of_chip c.args.chip.now in
      let marks = is_node_flagged c.args.stuck.now in
      let whole : List ℕ = wait_cycles_text chip marks in (
        whole,
        refl,
        all_said _ before said whole _ _ (all_told (wait_cycle_text_at_node chip marks) c.nodes.number _ (omega arith)) (c.nodes.invariant.1 before said h),
      ),
)
