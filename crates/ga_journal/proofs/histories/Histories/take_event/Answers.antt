use Rattle.std.proofs.Common.{refl, sym, subst}
use Rattle.ga_event.specs.declared.event.Effect.{Effect}
use Rattle.ga_event.specs.declared.event.Event.{Event}
use Rattle.ga_event.specs.declared.event.Event.TheVariants as event
use Rattle.ga_journal.specs.Popped.{IsNewestLogEvent}
use Rattle.ga_journal.specs.inner.Histories.{entry_lists_of_histories, entry_record_of_taken}
use Rattle.ga_journal.specs.Logs.{AreHistoriesOfSomeLog}
use Rattle.ga_journal.proofs.Popping.{own_newest, sent_left, sent_more, sent_newest, took_left, took_more, took_newest}
use Rattle.ga_journal.proofs.histories.Histories.take_event.Goals as goal

pub take_last-other-requires : goal.take_last-other-requires
take_last-other-requires c =
    let hs = entry_lists_of_histories c.args.self.now in
    let mid = entry_lists_of_histories c.take_last-act.new.self in
    let whole : AreHistoriesOfSomeLog hs c.requires.whole.0 = c.requires.whole.1 in
    sent_more whole.log hs mid c.args.node c.in-SentWord.to c.in-SentWord.side c.in-SentWord.word (entry_record_of_taken c.take_last-act.result)
    (sent_left whole.log c.requires.whole.0 hs mid c.args.node c.in-SentWord.to c.in-SentWord.side c.in-SentWord.at c.in-SentWord.word _ (entry_record_of_taken c.take_last-act.result) whole.records c.requires.topmost c.take_last-act.ensures.last c.take_last-act.ensures.others c.in-SentWord.is)

pub take_last-other-requires-in-TookWord : goal.take_last-other-requires-in-TookWord
take_last-other-requires-in-TookWord c =
    let hs = entry_lists_of_histories c.args.self.now in
    let mid = entry_lists_of_histories c.take_last-act.new.self in
    let whole : AreHistoriesOfSomeLog hs c.requires.whole.0 = c.requires.whole.1 in
    took_more whole.log hs mid c.args.node c.in-TookWord.from c.in-TookWord.side c.in-TookWord.word (entry_record_of_taken c.take_last-act.result)
    (took_left whole.log c.requires.whole.0 hs mid c.args.node c.in-TookWord.from c.in-TookWord.side c.in-TookWord.at c.in-TookWord.word _ (entry_record_of_taken c.take_last-act.result) whole.records c.requires.topmost c.take_last-act.ensures.last c.take_last-act.ensures.others c.in-TookWord.is)

pub returns-in-Own-clause-newest : goal.returns-in-Own-clause-newest
returns-in-Own-clause-newest c log made r =
    let left = entry_lists_of_histories c.take_last-act.new.self in
    let deed = c.in-Own.deed in
    subst (λ z. IsNewestLogEvent log (event.Own c.args.node) z left) (sym c.effect_of.ensures)
    (own_newest log made (entry_lists_of_histories c.args.self.now) left c.args.node _ (entry_record_of_taken c.take_last-act.result) deed.kind deed.look c.take_last-act.result.saved r c.requires.topmost
    c.take_last-act.ensures.last c.take_last-act.ensures.others c.in-Own.is refl)

pub returns-in-SentWord-clause-newest : goal.returns-in-SentWord-clause-newest
returns-in-SentWord-clause-newest c log made r =
    let hs = entry_lists_of_histories c.args.self.now in
    let mid = entry_lists_of_histories c.take_last-act.new.self in
    let left = entry_lists_of_histories c.take_last-other.new.self in
    subst (λ (z : Event × Effect). IsNewestLogEvent log z.0 z.1 left) (sym c.pass_with.ensures)
    (sent_newest log hs mid left c.args.node c.in-SentWord.to c.in-SentWord.side c.in-SentWord.word (entry_record_of_taken c.take_last-act.result) (entry_record_of_taken c.take_last-other.result) _
    c.take_last-act.result.saved c.take_last-other.result.saved
    (sent_left log made hs mid c.args.node c.in-SentWord.to c.in-SentWord.side c.in-SentWord.at c.in-SentWord.word _ (entry_record_of_taken c.take_last-act.result) r c.requires.topmost c.take_last-act.ensures.last c.take_last-act.ensures.others c.in-SentWord.is)
    c.take_last-other.ensures.last c.take_last-other.ensures.others refl refl)

pub returns-in-TookWord-clause-newest : goal.returns-in-TookWord-clause-newest
returns-in-TookWord-clause-newest c log made r =
    let hs = entry_lists_of_histories c.args.self.now in
    let mid = entry_lists_of_histories c.take_last-act.new.self in
    let left = entry_lists_of_histories c.take_last-other-in-TookWord.new.self in
    subst (λ (z : Event × Effect). IsNewestLogEvent log z.0 z.1 left) (sym c.pass_with-in-TookWord.ensures)
    (took_newest log hs mid left c.args.node c.in-TookWord.from c.in-TookWord.side c.in-TookWord.word (entry_record_of_taken c.take_last-act.result) (entry_record_of_taken c.take_last-other-in-TookWord.result) _
    c.take_last-other-in-TookWord.result.saved c.take_last-act.result.saved
    (took_left log made hs mid c.args.node c.in-TookWord.from c.in-TookWord.side c.in-TookWord.at c.in-TookWord.word _ (entry_record_of_taken c.take_last-act.result) r c.requires.topmost c.take_last-act.ensures.last c.take_last-act.ensures.others c.in-TookWord.is)
    c.take_last-other-in-TookWord.ensures.last c.take_last-other-in-TookWord.ensures.others refl refl)
