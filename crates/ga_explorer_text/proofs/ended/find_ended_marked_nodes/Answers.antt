use Rattle.std.proofs.Common.{◌∙◌, ◌&&◌, length-set, arith}
use Rattle.ga_causal.specs.Dependence.{is_node_flagged}
use Rattle.ga_explorer_text.specs.Ended.{is_not_live_node}
use Rattle.ga_explorer_text.proofs.Ending.{flagged_more}
use Rattle.ga_explorer_text.proofs.ended.find_ended_marked_nodes.Goals as goal

pub nodes-preserved : goal.nodes-preserved
nodes-preserved c = record {
  size = length-set c.nodes.ended c.nodes.number c.is_absent_or_ended.result ∙ c.nodes.invariant.size;
  marked = flagged_more c.nodes.ended c.nodes.number c.new.result.number c.is_absent_or_ended.result (λ n. is_node_flagged c.args.marks.now n && is_not_live_node c.args.live.now n) c.nodes.invariant.size (omega arith) c.new.ensures
      c.is_absent_or_ended.ensures c.nodes.invariant.marked;
}

pub returns : goal.returns
returns c = λ n k. c.nodes.invariant.marked n (omega (arith, k))
