use Rattle.std.proofs.Common.{sym, ◌∙◌, ap}
use Rattle.ga_scheduler.specs.inner.{is_number_in_set}
use Rattle.ga_scheduler.specs.Schedules.{random_node}
use Rattle.ga_scheduler.proofs.Drawn.{drawn_chosen, first_chosen}
use Rattle.ga_scheduler.proofs.ready.next_from.Goals as goal

pub returns-then-draws-clause-chosen : goal.returns-then-draws-clause-chosen
returns-then-draws-clause-chosen c =
    c.draw_node.ensures.drawn ∙ ap (random_node (is_number_in_set c.args.ready.now)) c.word.ensures ∙ drawn_chosen c.args.schedule.now.order c.args.schedule.now (is_number_in_set c.args.ready.now) (sym c.if-draws.true ∙ c.requires.draws)

pub returns-else-draws-clause-chosen : goal.returns-else-draws-clause-chosen
returns-else-draws-clause-chosen c =
    c.in_turn.ensures.first ∙ first_chosen c.args.schedule.now.order c.args.schedule.now (is_number_in_set c.args.ready.now) (sym c.if-draws.false ∙ c.requires.draws)
