use Rattle.std.proofs.Common.{◌-◌, ◌++◌, ◌∙◌, ap, arith}
use Rattle.ga_state_ends.specs.declared.end_kind.NodeEnd.{NodeEnd}
use Rattle.ga_check_report.specs.EndTexts.{node_end_at, stopped_node_text}
use Rattle.ga_explorer_text.proofs.Saying.{next_added, all_added}
use Rattle.ga_check_report.proofs.end_nodes.stops_among.Goals as goal

pub nodes-preserved : goal.nodes-preserved
nodes-preserved c = record {
  len = omega (arith, c.push_stop.ensures.len, c.nodes.invariant.len);
  text = next_added (λ n. stopped_node_text (node_end_at c.args.nodes.now n) n) c.nodes.number c.new-node.result.number c.nodes.out.items c.push_stop.new.out.items _
      (omega arith) c.new-node.ensures
      (c.push_stop.ensures.text ∙ ap (λ (e : NodeEnd). c.nodes.out.items ++ stopped_node_text e c.new-node.result.number) c.node_end_at.ensures) c.nodes.invariant.text;
}

pub returns : goal.returns
returns c = all_added (λ n. stopped_node_text (node_end_at c.args.nodes.now n) n) c.nodes.number (144 - c.nodes.number) c.nodes.out.items _ (omega arith) c.nodes.invariant.text
