use Rattle.std.proofs.Common.{◌+◌, ◌∙◌, ap, sym, Some}
use Rattle.std.specs.Prelude.{Option, length}
use Rattle.ga_event.specs.declared.event.EventWithLook.{EventWithLook}
use Rattle.ga_event.specs.declared.event.Effect.TheVariants as effect
use Rattle.ga_event.specs.declared.made.MadeEvent.{MadeEvent}
use Rattle.ga_event.specs.declared.made.MadeEvent.TheVariants as made
use Rattle.ga_journal.specs.inner.Histories.{entry_lists_of_histories}
use Rattle.ga_journal.specs.Histories.{history}
use Rattle.ga_journal.proofs.histories.Histories.make_pass.Goals as goal

pub returns-clause-added : goal.returns-clause-added
returns-clause-added c = record {
  effect = effect.Pass c.apply_pass-word.result c.apply_pass-word.new.sent c.apply_pass-word.new.taken;
  applied = c.apply_pass-word.ensures;
  histories = c.push_pass_entry.ensures.after;
  told_is = ap (λ n. let o : Option MadeEvent = Some (made.Pass c.args.ends.0 (n + 1) c.args.ends.1 (length (history (entry_lists_of_histories c.args.self.now) c.args.ends.1.number) + 1) c.apply_pass-word.result) in o) (sym c.count.ensures)
      ∙ ap (λ n. let o : Option MadeEvent = Some (made.Pass c.args.ends.0 (c.count.result + 1) c.args.ends.1 (n + 1) c.apply_pass-word.result) in o) (sym c.count-2.ensures)
      ∙ ap (λ (told : EventWithLook × MadeEvent). let o : Option MadeEvent = Some told.1 in o) (sym c.passed-made.ensures);
}
