use Rattle.std.proofs.Common.{◌≡◌, ◌∙◌, ap, sym, arith, add-one}
use Rattle.ga_lab.specs.Machine.{MachineState}
use Rattle.ga_grid.specs.declared.node_id.NodeId.{NodeId}
use Rattle.ga_grid.specs.Grid.{node_id}
use Rattle.ga_grid.proofs.NodeIds.{node_id-number}
use Rattle.ga_check_report.specs.Settled.{state_after_settling, state_after_settling_node, state_after_settling_lower_nodes}
use Rattle.ga_check_report.proofs.settling.settle_all.Goals as goal

pub nodes-preserved : goal.nodes-preserved
nodes-preserved c =
    let here : NodeId = c.new.result in
    c.in_ok-settle_node.ensures.ok ∙ ap (λ (s : MachineState). state_after_settling_node s here) c.nodes.invariant
    ∙ ap (state_after_settling_node (state_after_settling_lower_nodes c.args.lab.now c.nodes.number)) (sym (node_id-number here) ∙ ap node_id c.new.ensures)
    ∙ ap (state_after_settling_lower_nodes c.args.lab.now) (sym (add-one c.nodes.number))

pub returns : goal.returns
unfolding state_after_settling
returns c = let all : c.nodes.number ≡ 144 = omega arith in record { ok = c.nodes.invariant ∙ ap (state_after_settling_lower_nodes c.args.lab.now) all }
