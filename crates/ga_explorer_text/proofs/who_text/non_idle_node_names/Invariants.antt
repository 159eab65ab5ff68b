use Rattle.std.proofs.Common.{◌≡◌, ◌*◌, ◌-◌, ◌≤◌, ◌++◌, ◌&&◌}
use Rattle.std.specs.Prelude.{not}
use Rattle.arrayvec.specs.ArrayVec.{array_vec_len}
use Rattle.ga_causal.specs.Dependence.{is_node_flagged}
use Rattle.ga_explorer_text.specs.Waiting.{concatenated_node_texts, space_and_node_name_if_marked, non_idle_node_names}
use Rattle.ga_explorer_text.proofs.who_text.non_idle_node_names.Given as goal

abbrev pub invariant-nodes : goal.invariant-nodes
invariant-nodes l = record {
  len : array_vec_len l.out ≤ 4 * l.number;
  text : l.out.items ++ concatenated_node_texts (λ n. space_and_node_name_if_marked (is_node_flagged l.marks n && not (is_node_flagged l.idle n)) n) l.number (144 - l.number)
      ≡ non_idle_node_names (is_node_flagged l.marks) (is_node_flagged l.idle);
}
