use Rattle.std.proofs.Common.{◌-◌, ◌++◌, ◌∙◌, Bool, ap, arith}
use Rattle.ga_state_ends.specs.declared.end_kind.NodeEnd.{NodeEnd}
use Rattle.ga_check_report.specs.EndTexts.{node_end_at, is_node_end_in_part, optional_node_name_text}
use Rattle.ga_explorer_text.proofs.Saying.{next_added, all_added}
use Rattle.ga_check_report.proofs.end_nodes.nodes_of.Goals as goal

pub nodes-preserved : goal.nodes-preserved
nodes-preserved c = record {
  len = omega (arith, c.push_name_if.ensures.len, c.nodes.invariant.len);
  text = next_added (λ n. optional_node_name_text (is_node_end_in_part c.args.part (node_end_at c.args.nodes.now n)) n) c.nodes.number c.new-node.result.number c.nodes.out.items c.push_name_if.new.out.items _
      (omega arith) c.new-node.ensures
      (c.push_name_if.ensures.text
      ∙ ap (λ (b : Bool). c.nodes.out.items ++ optional_node_name_text b c.new-node.result.number) (c.is_node_end_in_part.ensures ∙ ap (λ (e : NodeEnd). is_node_end_in_part c.args.part e) c.node_end_at.ensures))
      c.nodes.invariant.text;
}

pub returns : goal.returns
returns c = all_added (λ n. optional_node_name_text (is_node_end_in_part c.args.part (node_end_at c.args.nodes.now n)) n) c.nodes.number (144 - c.nodes.number) c.nodes.out.items _ (omega arith) c.nodes.invariant.text
