use Rattle.std.proofs.Common.{rules, ℕ, List, ◌++◌, [], refl, arith}
use Rattle.ga_grid.specs.Chip.{records_of_chip}
use Rattle.ga_causal.specs.Dependence.{is_node_flagged}
use Rattle.ga_text.proofs.WriteLemmas.{truncated_here, written_pending}
use Rattle.ga_explorer_text.specs.Waiting.{waiting_non_idle_node_text, all_waiting_nodes_text}
use Rattle.ga_explorer_text.proofs.Saying.{line_written, line_truncated, all_said, next_node, all_told}
use Rattle.ga_explorer_text.proofs.who_text.say_waiting.Goals as goal

pub nodes-init : goal.nodes-init
nodes-init g c = (search rules, λ before said h. record { front = []; splits = refl; is_said = written_pending _ before said _ h })

pub returns-in_err-say_node : goal.returns-in_err-say_node
returns-in_err-say_node g c = (
  search rules,
  λ before said h.
      let chip = records_of_chip c.args.chip.now in
      let idle = is_node_flagged c.args.idle.now in
      let whole : List ℕ = all_waiting_nodes_text chip idle in
      let done = c.nodes.invariant.1 before said h in (
        whole,
        refl,
        truncated_here c.from_residual.result _ before (said ++ whole) _ c.from_residual.ensures.0
            (line_truncated _ before said whole _ (waiting_non_idle_node_text chip idle c.new.result.number) _ done.front
            (next_node (waiting_non_idle_node_text chip idle) c.nodes.number c.new.result.number (omega arith) c.new.ensures) done.splits
            (c.in_err-say_node.ensures.1 before (said ++ done.front) done.is_said)),
      ),
)

pub nodes-preserved : goal.nodes-preserved
nodes-preserved g c = (
  search rules,
  λ before said h.
      let chip = records_of_chip c.args.chip.now in
      let idle = is_node_flagged c.args.idle.now in
      let done = c.nodes.invariant.1 before said h in
      line_written _ before said (all_waiting_nodes_text chip idle) _ (waiting_non_idle_node_text chip idle c.new.result.number) _ done.front _
      (next_node (waiting_non_idle_node_text chip idle) c.nodes.number c.new.result.number (omega arith) c.new.ensures) done.splits
      (c.in_ok-say_node.ensures.1 before (said ++ done.front) done.is_said),
)

pub returns : goal.returns
returns g c = (
  search rules,
  λ before said h.
      let chip = records_of_chip c.args.chip.now in
      let idle = is_node_flagged c.args.idle.now in
      let whole : List ℕ = all_waiting_nodes_text chip idle in (
        whole,
        refl,
        all_said _ before said whole _ _ (all_told (waiting_non_idle_node_text chip idle) c.nodes.number _ (omega arith)) (c.nodes.invariant.1 before said h),
      ),
)
