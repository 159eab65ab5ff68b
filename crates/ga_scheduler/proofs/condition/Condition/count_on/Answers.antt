use Rattle.std.proofs.Common.{arith}
use Rattle.ga_scheduler.proofs.WordCounts.{few_more}
use Rattle.ga_scheduler.proofs.condition.Condition.count_on.Goals as goal

pub overflow_add-result : goal.overflow_add-result
overflow_add-result c =
    omega (arith, few_more c.args.self.now c.in-Some.link c.args.lab.now c.args.made.now c.args.words c.in-Some.ensures c.requires, c.transfers_over_link_by_event.ensures.one, c.steps-steps.ensures.told)
