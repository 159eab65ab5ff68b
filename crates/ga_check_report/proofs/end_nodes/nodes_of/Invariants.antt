use Rattle.std.proofs.Common.{◌≡◌, ◌*◌, ◌-◌, ◌≤◌, ◌++◌}
use Rattle.arrayvec.specs.ArrayVec.{array_vec_len}
use Rattle.ga_explorer_text.specs.Waiting.{concatenated_node_texts}
use Rattle.ga_check_report.specs.EndTexts.{node_end_at, is_node_end_in_part, optional_node_name_text, end_part_names_text}
use Rattle.ga_check_report.proofs.end_nodes.nodes_of.Given as goal

abbrev pub invariant-nodes : goal.invariant-nodes
invariant-nodes l = record {
  len : array_vec_len l.out ≤ 4 * l.number;
  text : l.out.items ++ concatenated_node_texts (λ n. optional_node_name_text (is_node_end_in_part l.part (node_end_at l.nodes n)) n) l.number (144 - l.number) ≡ end_part_names_text l.part l.nodes;
}
