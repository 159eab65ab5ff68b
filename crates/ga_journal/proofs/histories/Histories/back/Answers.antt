use Rattle.std.proofs.Common.{◌+◌, ◌∙◌, refl, sym, ap}
use Rattle.std.specs.Prelude.{slice_index}
use Rattle.ga_journal.specs.inner.Histories.{entry_lists_of_histories, stamp_bound_of_history, IsNodeOfNewestEntry, cut}
use Rattle.ga_journal.specs.Histories.{history}
use Rattle.ga_journal.proofs.Heads.{bound-push}
use Rattle.ga_journal.proofs.Keeping.{newest_is}
use Rattle.ga_journal.proofs.Popping.{own_newest, sent_left, sent_more, sent_newest, took_left, took_more, took_newest}
use Rattle.ga_journal.proofs.Recalling.{walk_rises, topmost_of, left_by, first_own, first_pass, first_with, other_stays}
use Rattle.ga_journal.proofs.histories.Histories.back.Goals as goal

pub newest-node-requires : goal.newest-node-requires
newest-node-requires c = record { rise = walk_rises c.requires.0 (entry_lists_of_histories c.args.self.now) c.args.lengths.now c.args.top.now c.requires.2 }

pub back_at-entry-requires-clause-some : goal.back_at-entry-requires-clause-some
back_at-entry-requires-clause-some c =
    (topmost_of c.requires.0 (cut (entry_lists_of_histories c.args.self.now) c.args.lengths.now) c.args.top.now c.newest-node.result.number c.requires.2.records c.requires.1 c.newest-node.ensures).some

pub back_at-other-requires-clause-some : goal.back_at-other-requires-clause-some
back_at-other-requires-clause-some c =
    let hs = cut (entry_lists_of_histories c.args.self.now) c.args.lengths.now in
    let mid = cut (entry_lists_of_histories c.args.self.now) c.back_at-entry.new.lengths in
    let top : IsNodeOfNewestEntry hs c.newest-node.result.number = topmost_of c.requires.0 hs c.args.top.now c.newest-node.result.number c.requires.2.records c.requires.1 c.newest-node.ensures in
    sent_more c.requires.0 hs mid c.newest-node.result c.in-SentWord.to c.in-SentWord.side c.in-SentWord.word c.back_at-entry.ensures.entry
    (sent_left c.requires.0 c.args.top.now hs mid c.newest-node.result c.in-SentWord.to c.in-SentWord.side c.in-SentWord.at c.in-SentWord.word _ c.back_at-entry.ensures.entry c.requires.2.records top c.back_at-entry.ensures.last c.back_at-entry.ensures.others (c.back_at-entry.ensures.act ∙ c.in-SentWord.is))

pub back_at-other-requires-in-TookWord-clause-some : goal.back_at-other-requires-in-TookWord-clause-some
back_at-other-requires-in-TookWord-clause-some c =
    let hs = cut (entry_lists_of_histories c.args.self.now) c.args.lengths.now in
    let mid = cut (entry_lists_of_histories c.args.self.now) c.back_at-entry.new.lengths in
    let top : IsNodeOfNewestEntry hs c.newest-node.result.number = topmost_of c.requires.0 hs c.args.top.now c.newest-node.result.number c.requires.2.records c.requires.1 c.newest-node.ensures in
    took_more c.requires.0 hs mid c.newest-node.result c.in-TookWord.from c.in-TookWord.side c.in-TookWord.word c.back_at-entry.ensures.entry
    (took_left c.requires.0 c.args.top.now hs mid c.newest-node.result c.in-TookWord.from c.in-TookWord.side c.in-TookWord.at c.in-TookWord.word _ c.back_at-entry.ensures.entry c.requires.2.records top c.back_at-entry.ensures.last c.back_at-entry.ensures.others (c.back_at-entry.ensures.act ∙ c.in-TookWord.is))

pub returns-in-Own-clause-first : goal.returns-in-Own-clause-first
returns-in-Own-clause-first c log w =
    let hs = cut (entry_lists_of_histories c.args.self.now) c.args.lengths.now in
    let left = cut (entry_lists_of_histories c.args.self.now) c.back_at-entry.new.lengths in
    let top : IsNodeOfNewestEntry hs c.newest-node.result.number = topmost_of c.requires.0 hs c.args.top.now c.newest-node.result.number c.requires.2.records c.requires.1 c.newest-node.ensures in
    first_with log _ _ _ c.own.ensures
    (first_own log c.args.top.now _ left c.newest-node.result c.in-Own.deed.kind c.in-Own.deed.look c.back_at-entry.ensures.entry.saved w.records.order
    (own_newest log c.args.top.now hs left c.newest-node.result _ c.back_at-entry.ensures.entry c.in-Own.deed.kind c.in-Own.deed.look c.back_at-entry.ensures.entry.saved w.records top c.back_at-entry.ensures.last c.back_at-entry.ensures.others (c.back_at-entry.ensures.act ∙ c.in-Own.is) refl)
    (ap (λ z. slice_index c.args.lengths.now z) c.index.ensures.value ∙ sym c.back_at-entry.ensures.less ∙ ap (λ z. z + 1) c.back_at-entry.ensures.count))

pub returns-in-Own-clause-left : goal.returns-in-Own-clause-left
returns-in-Own-clause-left c log w =
    let hs = cut (entry_lists_of_histories c.args.self.now) c.args.lengths.now in
    let left = cut (entry_lists_of_histories c.args.self.now) c.back_at-entry.new.lengths in
    let top : IsNodeOfNewestEntry hs c.newest-node.result.number = topmost_of c.requires.0 hs c.args.top.now c.newest-node.result.number c.requires.2.records c.requires.1 c.newest-node.ensures in
    let n = own_newest log c.args.top.now hs left c.newest-node.result _ c.back_at-entry.ensures.entry c.in-Own.deed.kind c.in-Own.deed.look c.back_at-entry.ensures.entry.saved w.records top c.back_at-entry.ensures.last c.back_at-entry.ensures.others (c.back_at-entry.ensures.act ∙ c.in-Own.is) refl in
    left_by log (entry_lists_of_histories c.args.self.now) c.args.lengths.now c.back_at-entry.new.lengths c.args.top.now c.back_at-entry.result.stamp _ _ w
    (newest_is log c.args.top.now hs c.newest-node.result c.back_at-entry.result.stamp w.records top (ap (λ z. z + 1) (sym c.back_at-entry.ensures.stamp) ∙ sym (ap stamp_bound_of_history c.back_at-entry.ensures.last ∙ bound-push (history left c.newest-node.result.number) c.back_at-entry.ensures.entry)))
    n c.back_at-entry.ensures.fits

pub returns-in-SentWord-clause-first : goal.returns-in-SentWord-clause-first
returns-in-SentWord-clause-first c log w =
    let hs = cut (entry_lists_of_histories c.args.self.now) c.args.lengths.now in
    let mid = cut (entry_lists_of_histories c.args.self.now) c.back_at-entry.new.lengths in
    let left = cut (entry_lists_of_histories c.args.self.now) c.back_at-other.new.lengths in
    let top : IsNodeOfNewestEntry hs c.newest-node.result.number = topmost_of c.requires.0 hs c.args.top.now c.newest-node.result.number c.requires.2.records c.requires.1 c.newest-node.ensures in
    let s = sent_left log c.args.top.now hs mid c.newest-node.result c.in-SentWord.to c.in-SentWord.side c.in-SentWord.at c.in-SentWord.word _ c.back_at-entry.ensures.entry w.records top c.back_at-entry.ensures.last c.back_at-entry.ensures.others (c.back_at-entry.ensures.act ∙ c.in-SentWord.is) in
    first_with log _ _ _ c.passed.ensures
    (first_pass log c.args.top.now _ _ left c.newest-node.result c.in-SentWord.to c.in-SentWord.side c.in-SentWord.word c.back_at-entry.ensures.entry.saved c.back_at-other.ensures.entry.saved w.records.order
    (sent_newest log hs mid left c.newest-node.result c.in-SentWord.to c.in-SentWord.side c.in-SentWord.word c.back_at-entry.ensures.entry c.back_at-other.ensures.entry _ c.back_at-entry.ensures.entry.saved c.back_at-other.ensures.entry.saved s c.back_at-other.ensures.last c.back_at-other.ensures.others refl refl)
    (λ ne. other_stays mid left c.in-SentWord.to.number c.newest-node.result.number _ _ c.back_at-other.ensures.others ne
    (ap (λ z. slice_index c.args.lengths.now z) c.index.ensures.value ∙ sym c.back_at-entry.ensures.less ∙ ap (λ z. z + 1) c.back_at-entry.ensures.count))
    (λ ne. ap (λ z. slice_index c.back_at-entry.new.lengths z) c.index-in-SentWord.ensures.value ∙ sym c.back_at-other.ensures.less ∙ ap (λ z. z + 1) c.back_at-other.ensures.count))

pub returns-in-SentWord-clause-left : goal.returns-in-SentWord-clause-left
returns-in-SentWord-clause-left c log w =
    let hs = cut (entry_lists_of_histories c.args.self.now) c.args.lengths.now in
    let mid = cut (entry_lists_of_histories c.args.self.now) c.back_at-entry.new.lengths in
    let left = cut (entry_lists_of_histories c.args.self.now) c.back_at-other.new.lengths in
    let top : IsNodeOfNewestEntry hs c.newest-node.result.number = topmost_of c.requires.0 hs c.args.top.now c.newest-node.result.number c.requires.2.records c.requires.1 c.newest-node.ensures in
    let s = sent_left log c.args.top.now hs mid c.newest-node.result c.in-SentWord.to c.in-SentWord.side c.in-SentWord.at c.in-SentWord.word _ c.back_at-entry.ensures.entry w.records top c.back_at-entry.ensures.last c.back_at-entry.ensures.others (c.back_at-entry.ensures.act ∙ c.in-SentWord.is) in
    left_by log (entry_lists_of_histories c.args.self.now) c.args.lengths.now c.back_at-other.new.lengths c.args.top.now c.back_at-entry.result.stamp _ _ w
    (newest_is log c.args.top.now hs c.newest-node.result c.back_at-entry.result.stamp w.records top (ap (λ z. z + 1) (sym c.back_at-entry.ensures.stamp) ∙ sym (ap stamp_bound_of_history c.back_at-entry.ensures.last ∙ bound-push (history mid c.newest-node.result.number) c.back_at-entry.ensures.entry)))
    (sent_newest log hs mid left c.newest-node.result c.in-SentWord.to c.in-SentWord.side c.in-SentWord.word c.back_at-entry.ensures.entry c.back_at-other.ensures.entry _ c.back_at-entry.ensures.entry.saved c.back_at-other.ensures.entry.saved s c.back_at-other.ensures.last c.back_at-other.ensures.others refl refl)
    c.back_at-other.ensures.fits

pub returns-in-TookWord-clause-first : goal.returns-in-TookWord-clause-first
returns-in-TookWord-clause-first c log w =
    let hs = cut (entry_lists_of_histories c.args.self.now) c.args.lengths.now in
    let mid = cut (entry_lists_of_histories c.args.self.now) c.back_at-entry.new.lengths in
    let left = cut (entry_lists_of_histories c.args.self.now) c.back_at-other-in-TookWord.new.lengths in
    let top : IsNodeOfNewestEntry hs c.newest-node.result.number = topmost_of c.requires.0 hs c.args.top.now c.newest-node.result.number c.requires.2.records c.requires.1 c.newest-node.ensures in
    let s = took_left log c.args.top.now hs mid c.newest-node.result c.in-TookWord.from c.in-TookWord.side c.in-TookWord.at c.in-TookWord.word _ c.back_at-entry.ensures.entry w.records top c.back_at-entry.ensures.last c.back_at-entry.ensures.others (c.back_at-entry.ensures.act ∙ c.in-TookWord.is) in
    first_with log _ _ _ c.passed-in-TookWord.ensures
    (first_pass log c.args.top.now _ _ left c.in-TookWord.from c.newest-node.result c.in-TookWord.side c.in-TookWord.word c.back_at-other-in-TookWord.ensures.entry.saved c.back_at-entry.ensures.entry.saved w.records.order
    (took_newest log hs mid left c.newest-node.result c.in-TookWord.from c.in-TookWord.side c.in-TookWord.word c.back_at-entry.ensures.entry c.back_at-other-in-TookWord.ensures.entry _ c.back_at-other-in-TookWord.ensures.entry.saved c.back_at-entry.ensures.entry.saved s c.back_at-other-in-TookWord.ensures.last c.back_at-other-in-TookWord.ensures.others refl refl)
    (λ ne. ap (λ z. slice_index c.back_at-entry.new.lengths z) c.index-in-TookWord.ensures.value ∙ sym c.back_at-other-in-TookWord.ensures.less ∙ ap (λ z. z + 1) c.back_at-other-in-TookWord.ensures.count)
    (λ ne. other_stays mid left c.in-TookWord.from.number c.newest-node.result.number _ _ c.back_at-other-in-TookWord.ensures.others (λ q. ne (sym q))
    (ap (λ z. slice_index c.args.lengths.now z) c.index.ensures.value ∙ sym c.back_at-entry.ensures.less ∙ ap (λ z. z + 1) c.back_at-entry.ensures.count)))

pub returns-in-TookWord-clause-left : goal.returns-in-TookWord-clause-left
returns-in-TookWord-clause-left c log w =
    let hs = cut (entry_lists_of_histories c.args.self.now) c.args.lengths.now in
    let mid = cut (entry_lists_of_histories c.args.self.now) c.back_at-entry.new.lengths in
    let left = cut (entry_lists_of_histories c.args.self.now) c.back_at-other-in-TookWord.new.lengths in
    let top : IsNodeOfNewestEntry hs c.newest-node.result.number = topmost_of c.requires.0 hs c.args.top.now c.newest-node.result.number c.requires.2.records c.requires.1 c.newest-node.ensures in
    let s = took_left log c.args.top.now hs mid c.newest-node.result c.in-TookWord.from c.in-TookWord.side c.in-TookWord.at c.in-TookWord.word _ c.back_at-entry.ensures.entry w.records top c.back_at-entry.ensures.last c.back_at-entry.ensures.others (c.back_at-entry.ensures.act ∙ c.in-TookWord.is) in
    left_by log (entry_lists_of_histories c.args.self.now) c.args.lengths.now c.back_at-other-in-TookWord.new.lengths c.args.top.now c.back_at-entry.result.stamp _ _ w
    (newest_is log c.args.top.now hs c.newest-node.result c.back_at-entry.result.stamp w.records top (ap (λ z. z + 1) (sym c.back_at-entry.ensures.stamp) ∙ sym (ap stamp_bound_of_history c.back_at-entry.ensures.last ∙ bound-push (history mid c.newest-node.result.number) c.back_at-entry.ensures.entry)))
    (took_newest log hs mid left c.newest-node.result c.in-TookWord.from c.in-TookWord.side c.in-TookWord.word c.back_at-entry.ensures.entry c.back_at-other-in-TookWord.ensures.entry _ c.back_at-other-in-TookWord.ensures.entry.saved c.back_at-entry.ensures.entry.saved s c.back_at-other-in-TookWord.ensures.last c.back_at-other-in-TookWord.ensures.others refl refl)
    c.back_at-other-in-TookWord.ensures.fits

pub returns-in-Own-clause-size : goal.returns-in-Own-clause-size
returns-in-Own-clause-size c = c.back_at-entry.ensures.size ∙ c.told-lengths

pub returns-in-SentWord-clause-size : goal.returns-in-SentWord-clause-size
returns-in-SentWord-clause-size c = c.back_at-other.ensures.size ∙ c.back_at-entry.ensures.size ∙ c.told-lengths

pub returns-in-TookWord-clause-size : goal.returns-in-TookWord-clause-size
returns-in-TookWord-clause-size c = c.back_at-other-in-TookWord.ensures.size ∙ c.back_at-entry.ensures.size ∙ c.told-lengths
