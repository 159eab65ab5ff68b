use Rattle.std.proofs.Common.{◌∙◌, length, refl, ap, subst}
use Rattle.ga_journal.specs.Histories.{JournalState, history}
use Rattle.ga_journal.specs.inner.Histories.{entry_lists_of_histories, capacities_of_histories}
use Rattle.ga_journal.specs.Marks.{mark_of_node, journal_with_failed_search}
use Rattle.ga_journal.specs.Looks.{HasLookEntry, HasNoLookEntry, HasNoLaterLook, Never, Once}
use Rattle.ga_journal.proofs.Looking.{none_after}
use Rattle.ga_journal.proofs.journal.Journal.find_look_to_remove.Goals as goal

pub returns-then-not-has_looked-clause-none : goal.returns-then-not-has_looked-clause-none
returns-then-not-has_looked-clause-none c =
    let now = c.args.self.now in
    let looker = c.args.looker.number in
    let none : HasNoLookEntry (history now.histories looker) (length (history now.histories looker)) =
    subst (λ (b : JournalState). HasNoLookEntry (history b.histories looker) (length (history b.histories looker))) c.self.view_is c.if-not-has_looked.ensures.no in
    (none_after (history now.histories looker) (mark_of_node now looker) (history now.histories c.args.node.number) (mark_of_node now c.args.node.number) none, Never none refl)

pub returns-in-None-clause-none : goal.returns-in-None-clause-none
returns-in-None-clause-none c =
    let hs = entry_lists_of_histories c.self.inside.histories in
    let now = c.args.self.now in
    let node = c.args.node.number in
    let looker = c.args.looker.number in
    let some : HasLookEntry (history now.histories looker) = subst (λ (b : JournalState). HasLookEntry (history b.histories looker)) c.self.view_is c.if-not-has_looked.ensures.yes in (
      subst (λ (b : JournalState). HasNoLaterLook (history b.histories looker) (mark_of_node now looker) (history b.histories node) (mark_of_node now node)) c.self.view_is
          (subst (λ z. HasNoLaterLook (history hs looker) z (history hs node) (mark_of_node now node)) c.mark_of_node-stay.ensures.value
          (subst (λ z. HasNoLaterLook (history hs looker) c.mark_of_node-stay.result (history hs node) z) c.mark_of_node-gone.ensures.value c.in-None.ensures.none)),
      Once some (ap (λ z. let b : JournalState = record { histories = hs; limit = c.self.inside.limit; made = c.self.inside.made; ready = capacities_of_histories c.self.inside.histories; going = c.self.inside.going; waiting = c.self.inside.waiting; ticks = z } in b) c.raise_in_vain.ensures ∙ ap journal_with_failed_search c.self.view_is),
    )
