use Rattle.std.proofs.Common.{◌∙◌, ◌++◌, refl, ap, arith}
use Rattle.ga_lab.specs.Machine.{MachineState}
use Rattle.ga_race_detector.specs.Races.{races_of_node}
use Rattle.ga_race_detector.proofs.Racing.{node_more, none_below}
use Rattle.ga_race_detector.proofs.races.add_nodes.Goals as goal

pub nodes-init : goal.nodes-init
nodes-init c = record { same = refl; told = none_below c.args.lab.now c.args.list.now.items }

pub nodes-preserved : goal.nodes-preserved
nodes-preserved c = record {
  same = c.in_ok-add_node.ensures.same ∙ c.nodes.invariant.same;
  told = node_more c.args.lab.now c.nodes.number c.new.result c.args.list.now.items c.nodes.list.items c.add_node.new.list.items (omega arith) c.new.ensures c.nodes.invariant.told
      (c.in_ok-add_node.ensures.ok ∙ ap (λ (z : MachineState). c.nodes.list.items ++ races_of_node z c.new.result) c.nodes.invariant.same);
}
