use Rattle.std.proofs.Common.{take, ◌∙◌, ap}
use Rattle.std.specs.Prelude.{slice_index}
use Rattle.ga_event.specs.Told.{count_steps}
use Rattle.ga_journal.specs.Histories.{BackwardEventsModel}
use Rattle.ga_journal.specs.Events.{journal_events}
use Rattle.ga_journal.proofs.Down.{steps_left}
use Rattle.ga_journal.proofs.journal.backward.BackwardEvents.steps.Goals as goal

pub returns : goal.returns
returns c =
    let b = c.self.inside in
    ap (λ z. slice_index b.lengths z) c.index.ensures.value
    ∙ steps_left b.journal.now b.lengths b.top b.place c.args.node.number c.args.node.in_range c.self.invariant
    ∙ ap (λ (u : BackwardEventsModel). count_steps c.args.node.number (take u.place (journal_events u.book))) c.self.view_is
