use Rattle.std.proofs.Common.{◌≡◌, ℕ, ◌<◌, false}
use Rattle.ga_dap_views.specs.Threads.{has_thread}
use Rattle.ga_dap_queries.proofs.telling.first_node_with_thread.Given as goal

abbrev pub invariant-nodes : goal.invariant-nodes
invariant-nodes l = (k : ℕ) → k < l.number → has_thread l.lab l.programs k ≡ false
