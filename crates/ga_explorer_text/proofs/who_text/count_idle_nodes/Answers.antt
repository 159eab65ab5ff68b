use Rattle.std.proofs.Common.{Bool, ◌∙◌, ap, arith}
use Rattle.std.specs.Prelude.{if◌then◌else◌}
use Rattle.ga_causal.specs.Dependence.{is_node_flagged}
use Rattle.ga_explorer_text.proofs.Saying.{counted_none, counted_on, counted_whole}
use Rattle.ga_explorer_text.proofs.who_text.count_idle_nodes.Goals as goal

pub nodes-init : goal.nodes-init
nodes-init c = record { few = omega arith; all = counted_none (is_node_flagged c.args.idle.now) }

pub nodes-preserved : goal.nodes-preserved
nodes-preserved c = record {
  few = omega (arith, c.one_if-count.ensures.few, c.nodes.invariant.few);
  all = counted_on (is_node_flagged c.args.idle.now) c.nodes.number c.new.result.number c.nodes.count c.one_if-count.result c.nodes.invariant.all c.new.ensures
      (c.one_if-count.ensures.one ∙ ap (λ (b : Bool). if b then 1 else 0) c.is_idle.ensures);
}

pub returns : goal.returns
returns c = counted_whole (is_node_flagged c.args.idle.now) c.nodes.number 144 c.nodes.count c.nodes.invariant.all (omega arith)
