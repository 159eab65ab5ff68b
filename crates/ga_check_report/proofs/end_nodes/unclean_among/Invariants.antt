use Rattle.std.proofs.Common.{◌≡◌, ◌*◌, ◌-◌, ◌≤◌, ◌++◌, false}
use Rattle.std.specs.Prelude.{slice_index_or}
use Rattle.arrayvec.specs.ArrayVec.{array_vec_len}
use Rattle.ga_explorer_text.specs.Waiting.{concatenated_node_texts}
use Rattle.ga_check_report.specs.EndTexts.{optional_node_name_text, unclean_node_names_text}
use Rattle.ga_check_report.proofs.end_nodes.unclean_among.Given as goal

abbrev pub invariant-nodes : goal.invariant-nodes
invariant-nodes l = record {
  len : array_vec_len l.out ≤ 4 * l.number;
  text : l.out.items ++ concatenated_node_texts (λ n. optional_node_name_text (slice_index_or l.unclean n false) n) l.number (144 - l.number) ≡ unclean_node_names_text l.unclean;
}
