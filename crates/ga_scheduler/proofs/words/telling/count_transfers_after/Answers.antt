use Rattle.std.proofs.Common.{arith}
use Rattle.ga_lab.specs.Machine.{history_of_node}
use Rattle.ga_scheduler.proofs.WordCounts.{few_words}
use Rattle.ga_scheduler.proofs.words.telling.count_transfers_after.Goals as goal

pub overflow_add-result : goal.overflow_add-result
overflow_add-result c =
    let few = few_words c.args.writer.number c.args.reader.number (history_of_node c.args.lab.now c.args.writer.number) in
    omega (arith, few, c.requires, c.transfers_over_link_by_event.ensures.one, c.steps-steps.ensures.told)
