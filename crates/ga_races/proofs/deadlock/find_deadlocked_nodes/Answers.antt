use Rattle.ga_grid.specs.Chip.{records_of_chip}
use Rattle.ga_races.proofs.Freeing.{are_stuck, halted_first}
use Rattle.ga_races.proofs.deadlock.find_deadlocked_nodes.Goals as goal

pub returns-clause-stuck : goal.returns-clause-stuck
returns-clause-stuck c =
    are_stuck (records_of_chip c.args.chip.now) c.halted.result c.settled.result c.settled.ensures.size c.halted.ensures.marks c.settled.ensures.fewer c.settled.ensures.settled

pub returns-clause-greatest : goal.returns-clause-greatest
returns-clause-greatest c = λ marks s.
    c.settled.ensures.greatest marks s (halted_first (records_of_chip c.args.chip.now) c.halted.result marks c.halted.ensures.marks s)
