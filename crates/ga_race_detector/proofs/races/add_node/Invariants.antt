use Rattle.std.proofs.Common.{◌≡◌, ◌++◌}
use Rattle.ga_race_detector.specs.Races.{races_of_first_steps}
use Rattle.ga_race_detector.proofs.races.add_node.Given as goal

abbrev pub invariant-steps : goal.invariant-steps
invariant-steps l = record {
  same : l.lab ≡ l.fn.lab;
  told : l.list.items ≡ l.fn.list.items ++ races_of_first_steps l.fn.lab l.node l.place;
}
