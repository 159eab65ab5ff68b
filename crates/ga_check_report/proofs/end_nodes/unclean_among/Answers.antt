use Rattle.std.proofs.Common.{◌-◌, ◌++◌, ◌∙◌, Bool, false, ap, arith}
use Rattle.std.specs.Prelude.{slice_index_or}
use Rattle.ga_check_report.specs.EndTexts.{optional_node_name_text}
use Rattle.ga_explorer_text.proofs.Saying.{next_added, all_added}
use Rattle.ga_check_report.proofs.end_nodes.unclean_among.Goals as goal

pub nodes-preserved : goal.nodes-preserved
nodes-preserved c = record {
  len = omega (arith, c.push_name_if.ensures.len, c.nodes.invariant.len);
  text = next_added (λ n. optional_node_name_text (slice_index_or c.args.unclean.now n false) n) c.nodes.number c.new-node.result.number c.nodes.out.items c.push_name_if.new.out.items _
      (omega arith) c.new-node.ensures
      (c.push_name_if.ensures.text ∙ ap (λ (b : Bool). c.nodes.out.items ++ optional_node_name_text b c.new-node.result.number) c.is_unclean.ensures) c.nodes.invariant.text;
}

pub returns : goal.returns
returns c = all_added (λ n. optional_node_name_text (slice_index_or c.args.unclean.now n false) n) c.nodes.number (144 - c.nodes.number) c.nodes.out.items _ (omega arith) c.nodes.invariant.text
