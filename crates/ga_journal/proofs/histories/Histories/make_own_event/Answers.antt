use Rattle.std.proofs.Common.{◌+◌, ◌∙◌, ap, sym, Some}
use Rattle.std.specs.Prelude.{Option}
use Rattle.ga_event.specs.declared.event.Event.TheVariants as event
use Rattle.ga_event.specs.Undo.{effect_of_own_event}
use Rattle.ga_event.specs.declared.made.MadeEvent.{MadeEvent}
use Rattle.ga_event.specs.declared.made.MadeEvent.TheVariants as made
use Rattle.ga_journal.specs.inner.Histories.{entry_lists_of_histories}
use Rattle.ga_journal.specs.inner.Ends.{made_event_with_outcome}
use Rattle.ga_journal.proofs.Heads.{appended_own, told_own}
use Rattle.ga_journal.proofs.Cutting.{lists_pushed}
use Rattle.ga_journal.proofs.histories.Histories.make_own_event.Goals as goal

pub returns-clause-added : goal.returns-clause-added
returns-clause-added c = record {
  effect = effect_of_own_event c.make_own_event-deed.result c.make_own_event-deed.ensures.saved;
  applied = c.make_own_event-deed.ensures.applied;
  histories = lists_pushed _ c.args.node.number c.at_mut-history.result.now c.make_own_event-deed.new.self _ (rw c.at_mut-history.ensures.size c.args.node.in_range) c.at_mut-history.ensures.value c.make_own_event-deed.ensures.added
      ∙ appended_own (entry_lists_of_histories c.args.self.now) c.args.stamp c.args.node c.make_own_event-deed.result.kind c.make_own_event-deed.result.look c.make_own_event-deed.ensures.saved;
  told_is = ap (made_event_with_outcome (entry_lists_of_histories c.args.self.now) (event.Own c.args.node)) (told_own c.make_own_event-deed.result.kind c.make_own_event-deed.result.look c.make_own_event-deed.ensures.saved)
      ∙ ap (λ n. let o : Option MadeEvent = Some (made.Own c.args.node (n + 1) c.make_own_event-deed.result.kind) in o) (sym c.count-step.ensures);
}
