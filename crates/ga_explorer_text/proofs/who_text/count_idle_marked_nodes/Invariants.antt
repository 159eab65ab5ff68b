use Rattle.std.proofs.Common.{◌≡◌, ◌≤◌, ◌&&◌}
use Rattle.ga_causal.specs.Dependence.{is_node_flagged}
use Rattle.ga_explorer_text.specs.Waiting.{count_passing_nodes}
use Rattle.ga_explorer_text.proofs.who_text.count_idle_marked_nodes.Given as goal

abbrev pub invariant-nodes : goal.invariant-nodes
invariant-nodes l = record {
  few : l.count ≤ l.number;
  all : l.count ≡ count_passing_nodes (λ n. is_node_flagged l.marks n && is_node_flagged l.idle n) l.number;
}
