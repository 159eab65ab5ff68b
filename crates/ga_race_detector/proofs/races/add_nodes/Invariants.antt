use Rattle.std.proofs.Common.{◌≡◌, ◌++◌}
use Rattle.ga_race_detector.specs.Races.{races_of_nodes_below}
use Rattle.ga_race_detector.proofs.races.add_nodes.Given as goal

abbrev pub invariant-nodes : goal.invariant-nodes
invariant-nodes l = record {
  same : l.lab ≡ l.fn.lab;
  told : l.list.items ≡ l.fn.list.items ++ races_of_nodes_below l.fn.lab l.number;
}
