use Rattle.std.proofs.Common.{◌≡◌, ◌-◌, drop}
use Rattle.ga_node.specs.Record.{NodeState}
use Rattle.ga_node.specs.State.{node_with_restored_values, ArePlaceValuesValid}
use Rattle.ga_node.proofs.gathered.GatheredOldValues.add.Given as goal

abbrev pub invariant-loop-k : goal.invariant-loop-k
invariant-loop-k l = record {
  back : (node : NodeState) → node_with_restored_values node l.self ≡ node_with_restored_values (node_with_restored_values node l.fn.self) (drop (l.count - l.k) l.fn.saved);
  fit : ArePlaceValuesValid l.fn.self → ArePlaceValuesValid l.fn.saved → ArePlaceValuesValid l.self;
}
