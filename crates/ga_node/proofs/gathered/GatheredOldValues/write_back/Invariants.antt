use Rattle.std.proofs.Common.{◌≡◌, ◌≤◌, ◌-◌, drop}
use Rattle.ga_node.specs.State.{node_with_restored_values, node_with_resumed_status, HasClearedStatus}
use Rattle.ga_node.specs.inner.Packed.{place_values_of_packed_words}
use Rattle.ga_node.proofs.gathered.GatheredOldValues.write_back.Given as goal

abbrev pub invariant-loop-k : goal.invariant-loop-k
invariant-loop-k l = record {
  back : node_with_resumed_status l.node l.aside ≡ node_with_restored_values (node_with_resumed_status l.fn.node l.fn.aside) (place_values_of_packed_words (drop (249 - l.k) l.words));
  cleared : HasClearedStatus l.node;
  in_range : l.aside.stop ≤ 3;
}
