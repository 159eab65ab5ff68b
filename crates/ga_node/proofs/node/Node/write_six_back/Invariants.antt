use Rattle.std.proofs.Common.{◌≡◌, ◌≤◌, ◌-◌, take, drop}
use Rattle.ga_node.specs.State.{node_with_restored_values, node_with_resumed_status, HasClearedStatus}
use Rattle.ga_node.proofs.node.Node.write_six_back.Given as goal

abbrev pub invariant-loop-k : goal.invariant-loop-k
invariant-loop-k l = record {
  back : node_with_resumed_status l.self l.aside ≡ node_with_restored_values (node_with_resumed_status l.fn.self l.fn.aside) (drop (l.count - l.k) (take 6 l.fn.saved));
  cleared : HasClearedStatus l.self;
  in_range : l.aside.stop ≤ 3;
}
