use Rattle.std.proofs.Common.{◌≡◌, ◌*◌, ◌-◌, ◌≤◌, ◌++◌}
use Rattle.arrayvec.specs.ArrayVec.{array_vec_len}
use Rattle.ga_explorer_text.specs.Waiting.{concatenated_node_texts}
use Rattle.ga_check_report.specs.EndTexts.{node_end_at, stopped_node_text, stopped_nodes_text}
use Rattle.ga_check_report.proofs.end_nodes.stops_among.Given as goal

abbrev pub invariant-nodes : goal.invariant-nodes
invariant-nodes l = record {
  len : array_vec_len l.out ≤ 31 * l.number;
  text : l.out.items ++ concatenated_node_texts (λ n. stopped_node_text (node_end_at l.nodes n) n) l.number (144 - l.number) ≡ stopped_nodes_text l.nodes;
}
