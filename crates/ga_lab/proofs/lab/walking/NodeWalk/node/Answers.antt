use Rattle.std.proofs.Common.{◌≡◌, ℕ, take, subst}
use Rattle.ga_node.specs.Record.{record_of_node}
use Rattle.ga_grid.specs.Chip.{node_record_at}
use Rattle.ga_event.specs.Told.{count_steps}
use Rattle.ga_lab.specs.Machine.{NodeAtStep, chip_of_machine, earlier_state}
use Rattle.ga_lab.proofs.Replays.{peeked}
use Rattle.ga_lab.proofs.lab.walking.NodeWalk.node.Goals as goal

pub returns : goal.returns
returns c =
    let w = c.self.inside in
    subst (λ (z : NodeAtStep). (place : ℕ) → count_steps z.node.number (take place z.machine.kept) ≡ z.step → record_of_node w.node ≡ node_record_at (chip_of_machine (earlier_state z.machine place)) z.node.number) c.self.view_is
    (λ place so_many. peeked w.chip.now w.chronicle.now.journal w.id.number place w.step w.node c.self.invariant.lab.tied so_many c.self.invariant.walked_to)
