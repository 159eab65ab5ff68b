use Rattle.std.proofs.Common.{◌≡◌, ◌∙◌, ◌+◌, ap, take, refl, subst}
use Rattle.ga_node.specs.Record.{record_of_node}
use Rattle.ga_event.specs.Told.{count_steps}
use Rattle.ga_lab.specs.Machine.{MachineState, NodeAtStep, node_at_step, earlier_state}
use Rattle.ga_scheduler.specs.declared.condition.Condition.{Condition}
use Rattle.ga_scheduler.specs.inner.{condition_node_or_zero}
use Rattle.ga_scheduler.proofs.Newest.{stands_at, holds_here, reaches_here, writes_here}
use Rattle.ga_scheduler.proofs.reverse_search.held.Goals as goal

pub returns-in-HoldsPlaceValue : goal.returns-in-HoldsPlaceValue
returns-in-HoldsPlaceValue c =
    let s : MachineState = c.args.events.now.machine in
    let n = condition_node_or_zero c.args.until.now in
    let place = c.args.events.now.place + 1 in
    holds_here c.args.until.now c.in-HoldsPlaceValue.node c.in-HoldsPlaceValue.test c.is_value_test_passed.result c.step.result c.args.made.now (earlier_state s place) (record_of_node c.node.result.now) c.in-HoldsPlaceValue.is
    (stands_at c.args.walk.now s n (count_steps n.number (take place s.kept)) place (record_of_node c.node.result.now) c.requires.stands refl c.node.ensures)
    (c.step.ensures.value ∙ ap (λ (z : NodeAtStep). z.step) c.requires.stands)
    c.is_value_test_passed.ensures

pub returns-in-ReachesAddress : goal.returns-in-ReachesAddress
returns-in-ReachesAddress c =
    let s : MachineState = c.args.events.now.machine in
    let n = condition_node_or_zero c.args.until.now in
    let place = c.args.events.now.place + 1 in
    reaches_here c.args.until.now c.in-ReachesAddress.node c.in-ReachesAddress.address c.reaches.result c.args.made.now (earlier_state s place) (record_of_node c.node-in-ReachesAddress.result.now) c.in-ReachesAddress.is
    (stands_at c.args.walk.now s n (count_steps n.number (take place s.kept)) place (record_of_node c.node-in-ReachesAddress.result.now) c.requires.stands refl c.node-in-ReachesAddress.ensures)
    c.reaches.ensures

pub stored-has_stored-requires-clause-stands : goal.stored-has_stored-requires-clause-stands
stored-has_stored-requires-clause-stands c =
    let s : MachineState = c.args.events.now.machine in
    let place = c.args.events.now.place + 1 in
    subst (λ (z : Condition). c.args.walk.now ≡ node_at_step s (condition_node_or_zero z) (count_steps (condition_node_or_zero z).number (take place s.kept))) c.in-WritesRamCell.is c.requires.stands

pub returns-in-WritesRamCell : goal.returns-in-WritesRamCell
returns-in-WritesRamCell c =
    let s : MachineState = c.args.events.now.machine in
    let n = condition_node_or_zero c.args.until.now in
    let place = c.args.events.now.place + 1 in
    writes_here c.args.until.now c.in-WritesRamCell.node c.in-WritesRamCell.address c.in-WritesRamCell.word c.wrote.result c.stored-has_stored.result c.args.made.now (earlier_state s place) (record_of_node c.node-in-WritesRamCell.result.now) c.in-WritesRamCell.is
    (stands_at c.args.walk.now s n (count_steps n.number (take place s.kept)) place (record_of_node c.node-in-WritesRamCell.result.now) c.requires.stands refl c.node-in-WritesRamCell.ensures)
    c.stored-has_stored.ensures c.wrote.ensures
