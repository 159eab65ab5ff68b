use Rattle.ga_grid.specs.Chip.{records_of_chip}
use Rattle.ga_causal.specs.Dependence.{is_node_flagged}
use Rattle.ga_races.proofs.Freeing.{by_right, by_down, by_left, by_up}
use Rattle.ga_races.proofs.deadlock.is_freed.Goals as goal

pub returns-then-right : goal.returns-then-right
returns-then-right c = by_right (records_of_chip c.args.chip.now) (is_node_flagged c.args.marks.now) c.args.node.number _ c.is_freed_over_side-right.ensures c.if-right.true

pub returns-then-down : goal.returns-then-down
returns-then-down c = by_down (records_of_chip c.args.chip.now) (is_node_flagged c.args.marks.now) c.args.node.number _ _ c.is_freed_over_side-right.ensures c.is_freed_over_side-down.ensures c.if-right.false c.if-down.true

pub returns-then-left : goal.returns-then-left
returns-then-left c = by_left (records_of_chip c.args.chip.now) (is_node_flagged c.args.marks.now) c.args.node.number _ _ _ c.is_freed_over_side-right.ensures c.is_freed_over_side-down.ensures c.is_freed_over_side-left.ensures c.if-right.false c.if-down.false c.if-left.true

pub returns-else-left : goal.returns-else-left
returns-else-left c =
    by_up (records_of_chip c.args.chip.now) (is_node_flagged c.args.marks.now) c.args.node.number _ _ _ _ c.is_freed_over_side-right.ensures c.is_freed_over_side-down.ensures c.is_freed_over_side-left.ensures c.is_freed_over_side-up.ensures c.if-right.false c.if-down.false c.if-left.false
