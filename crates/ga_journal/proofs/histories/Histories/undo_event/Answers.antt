use Rattle.std.proofs.Common.{◌∙◌, ap, refl}
use Rattle.ga_event.specs.Undo.{effect_of_own_event, chip_with_restored_node}
use Rattle.ga_event.specs.declared.event.Effect.TheVariants as effect
use Rattle.ga_journal.specs.inner.Histories.{entry_lists_of_histories}
use Rattle.ga_journal.specs.Popped.{HasUndoableNewestEvent}
use Rattle.ga_journal.proofs.Popping.{own_newest, sent_left, sent_more, sent_newest, took_left, took_more, took_newest, back_own, can_first, either_order, sent_apart, sent_back, took_back}
use Rattle.ga_journal.proofs.histories.Histories.undo_event.Goals as goal

pub undo_last_entry-requires-clause-can : goal.undo_last_entry-requires-clause-can
undo_last_entry-requires-clause-can c =
    let back : HasUndoableNewestEvent c.args.chip.now (entry_lists_of_histories c.args.self.now) c.requires.back.0 = c.requires.back.1 in
    can_first back.log c.requires.back.0 (entry_lists_of_histories c.args.self.now) c.args.chip.now c.args.node back.records c.requires.topmost back.can

pub undo_last_entry-requires-in-SentWord-clause-some : goal.undo_last_entry-requires-in-SentWord-clause-some
undo_last_entry-requires-in-SentWord-clause-some c =
    let back : HasUndoableNewestEvent c.args.chip.now (entry_lists_of_histories c.args.self.now) c.requires.back.0 = c.requires.back.1 in
    let hs = entry_lists_of_histories c.args.self.now in
    let mid = entry_lists_of_histories c.undo_last_entry.new.self in
    let gone = c.undo_last_entry.ensures.back in
    let s = sent_left back.log c.requires.back.0 hs mid c.args.node c.in-SentWord.to c.in-SentWord.side c.in-SentWord.at c.in-SentWord.word _ gone.entry back.records c.requires.topmost gone.last c.undo_last_entry.ensures.others (gone.part ∙ c.in-SentWord.is) in
    sent_more back.log hs mid c.args.node c.in-SentWord.to c.in-SentWord.side c.in-SentWord.word gone.entry s

pub undo_last_entry-requires-in-SentWord-clause-can : goal.undo_last_entry-requires-in-SentWord-clause-can
undo_last_entry-requires-in-SentWord-clause-can c =
    let back : HasUndoableNewestEvent c.args.chip.now (entry_lists_of_histories c.args.self.now) c.requires.back.0 = c.requires.back.1 in
    let hs = entry_lists_of_histories c.args.self.now in
    let mid = entry_lists_of_histories c.undo_last_entry.new.self in
    let gone = c.undo_last_entry.ensures.back in
    let s = sent_left back.log c.requires.back.0 hs mid c.args.node c.in-SentWord.to c.in-SentWord.side c.in-SentWord.at c.in-SentWord.word _ gone.entry back.records c.requires.topmost gone.last c.undo_last_entry.ensures.others (gone.part ∙ c.in-SentWord.is) in
    sent_back back.log hs mid c.args.chip.now c.undo_last_entry.new.chip c.args.node c.in-SentWord.to c.in-SentWord.side c.in-SentWord.word gone.entry s back.can gone.node

pub undo_last_entry-requires-in-TookWord-clause-some : goal.undo_last_entry-requires-in-TookWord-clause-some
undo_last_entry-requires-in-TookWord-clause-some c =
    let back : HasUndoableNewestEvent c.args.chip.now (entry_lists_of_histories c.args.self.now) c.requires.back.0 = c.requires.back.1 in
    let hs = entry_lists_of_histories c.args.self.now in
    let mid = entry_lists_of_histories c.undo_last_entry.new.self in
    let gone = c.undo_last_entry.ensures.back in
    let s = took_left back.log c.requires.back.0 hs mid c.args.node c.in-TookWord.from c.in-TookWord.side c.in-TookWord.at c.in-TookWord.word _ gone.entry back.records c.requires.topmost gone.last c.undo_last_entry.ensures.others (gone.part ∙ c.in-TookWord.is) in
    took_more back.log hs mid c.args.node c.in-TookWord.from c.in-TookWord.side c.in-TookWord.word gone.entry s

pub undo_last_entry-requires-in-TookWord-clause-can : goal.undo_last_entry-requires-in-TookWord-clause-can
undo_last_entry-requires-in-TookWord-clause-can c =
    let back : HasUndoableNewestEvent c.args.chip.now (entry_lists_of_histories c.args.self.now) c.requires.back.0 = c.requires.back.1 in
    let hs = entry_lists_of_histories c.args.self.now in
    let mid = entry_lists_of_histories c.undo_last_entry.new.self in
    let gone = c.undo_last_entry.ensures.back in
    let s = took_left back.log c.requires.back.0 hs mid c.args.node c.in-TookWord.from c.in-TookWord.side c.in-TookWord.at c.in-TookWord.word _ gone.entry back.records c.requires.topmost gone.last c.undo_last_entry.ensures.others (gone.part ∙ c.in-TookWord.is) in
    took_back back.log hs mid c.args.chip.now c.undo_last_entry.new.chip c.args.node c.in-TookWord.from c.in-TookWord.side c.in-TookWord.word gone.entry s back.can gone.node

pub returns-in-Own-clause-state_after_undo : goal.returns-in-Own-clause-state_after_undo
returns-in-Own-clause-state_after_undo c =
    let hs = entry_lists_of_histories c.args.self.now in
    let gone = c.undo_last_entry.ensures.back in
    let deed = c.in-Own.field-0 in
    record {
      effect = effect_of_own_event deed gone.entry.saved;
      newest = λ log made r. own_newest log made hs (entry_lists_of_histories c.undo_last_entry.new.self) c.args.node _ gone.entry deed.kind deed.look gone.entry.saved r c.requires.topmost gone.last c.undo_last_entry.ensures.others (gone.part ∙ c.in-Own.is) refl;
      chip_is = gone.node ∙ back_own c.args.chip.now c.args.node deed.kind deed.look gone.entry.saved;
    }

pub returns-in-SentWord-clause-state_after_undo : goal.returns-in-SentWord-clause-state_after_undo
returns-in-SentWord-clause-state_after_undo c =
    let back : HasUndoableNewestEvent c.args.chip.now (entry_lists_of_histories c.args.self.now) c.requires.back.0 = c.requires.back.1 in
    let hs = entry_lists_of_histories c.args.self.now in
    let mid = entry_lists_of_histories c.undo_last_entry.new.self in
    let gone = c.undo_last_entry.ensures.back in
    let other = c.undo_last_entry-in-SentWord.ensures.back in
    let s = sent_left back.log c.requires.back.0 hs mid c.args.node c.in-SentWord.to c.in-SentWord.side c.in-SentWord.at c.in-SentWord.word _ gone.entry back.records c.requires.topmost gone.last c.undo_last_entry.ensures.others (gone.part ∙ c.in-SentWord.is) in
    record {
      effect = effect.Pass c.in-SentWord.word gone.entry.saved other.entry.saved;
      newest = λ log made r. sent_newest log hs mid (entry_lists_of_histories c.undo_last_entry-in-SentWord.new.self) c.args.node c.in-SentWord.to c.in-SentWord.side c.in-SentWord.word gone.entry other.entry _ gone.entry.saved other.entry.saved
          (sent_left log made hs mid c.args.node c.in-SentWord.to c.in-SentWord.side c.in-SentWord.at c.in-SentWord.word _ gone.entry r c.requires.topmost gone.last c.undo_last_entry.ensures.others (gone.part ∙ c.in-SentWord.is))
          other.last c.undo_last_entry-in-SentWord.ensures.others refl refl;
      chip_is = other.node ∙ ap (λ z. chip_with_restored_node z c.in-SentWord.to.number other.entry.saved) gone.node
          ∙ either_order c.args.chip.now c.args.node.number c.in-SentWord.to.number gone.entry.saved other.entry.saved
          (sent_apart back.log hs mid c.args.chip.now c.args.node c.in-SentWord.to c.in-SentWord.side c.in-SentWord.word gone.entry s back.can);
    }

pub returns-in-TookWord-clause-state_after_undo : goal.returns-in-TookWord-clause-state_after_undo
returns-in-TookWord-clause-state_after_undo c =
    let hs = entry_lists_of_histories c.args.self.now in
    let mid = entry_lists_of_histories c.undo_last_entry.new.self in
    let gone = c.undo_last_entry.ensures.back in
    let other = c.undo_last_entry-in-TookWord.ensures.back in
    record {
      effect = effect.Pass c.in-TookWord.word other.entry.saved gone.entry.saved;
      newest = λ log made r. took_newest log hs mid (entry_lists_of_histories c.undo_last_entry-in-TookWord.new.self) c.args.node c.in-TookWord.from c.in-TookWord.side c.in-TookWord.word gone.entry other.entry _ other.entry.saved gone.entry.saved
          (took_left log made hs mid c.args.node c.in-TookWord.from c.in-TookWord.side c.in-TookWord.at c.in-TookWord.word _ gone.entry r c.requires.topmost gone.last c.undo_last_entry.ensures.others (gone.part ∙ c.in-TookWord.is))
          other.last c.undo_last_entry-in-TookWord.ensures.others refl refl;
      chip_is = other.node ∙ ap (λ z. chip_with_restored_node z c.in-TookWord.from.number other.entry.saved) gone.node;
    }
