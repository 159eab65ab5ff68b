use Rattle.std.proofs.Common.{◌≡◌, map}
use Rattle.serde_json.specs.View.{view}
use Rattle.ga_dap_views.specs.Threads.{node_thread_object, nodes_with_threads}
use Rattle.ga_dap_views.proofs.thread.shown.Given as goal

abbrev pub invariant-nodes : goal.invariant-nodes
invariant-nodes l = map view l.list.items ≡ map (node_thread_object l.lab) (nodes_with_threads l.lab l.programs l.number)
