use Rattle.std.proofs.Common.{◌≡◌, ℕ, ◌<◌, length}
use Rattle.ga_causal.specs.Dependence.{is_node_flagged}
use Rattle.ga_dap_views.specs.Threads.{has_thread}
use Rattle.ga_dap_queries.proofs.telling.thread_flags_by_node.Given as goal

abbrev pub invariant-loop-number : goal.invariant-loop-number
invariant-loop-number l = record {
  size : length l.nodes ≡ 144;
  marked : (n : ℕ) → n < l.number → is_node_flagged l.nodes n ≡ has_thread l.lab l.programs n;
}
