use Rattle.std.proofs.Common.{◌<◌, ◌≤◌, sym, subst, arith}
use Rattle.ga_journal.specs.inner.Histories.{entry_lists_of_histories, HasRisingStamps}
use Rattle.ga_journal.specs.Histories.{history}
use Rattle.ga_journal.specs.Looks.{IsLookAfterEntry, HasNoLaterLook}
use Rattle.ga_journal.proofs.Cutting.{history_read}
use Rattle.ga_journal.proofs.Looking.{look_first, look_before}
use Rattle.ga_journal.proofs.histories.Histories.look_after.Goals as goal

pub returns-then-entry_without_old_values-stamp-clause-some : goal.returns-then-entry_without_old_values-stamp-clause-some
returns-then-entry_without_old_values-stamp-clause-some c =
    let others = history_read _ c.args.gone.0.number c.at-others.result.now (rw c.at-others.ensures.size c.args.gone.0.in_range) c.at-others.ensures.value in
    let looker = history_read _ c.args.looker.0.number c.at-history.result.now (rw c.at-history.ensures.size c.args.looker.0.in_range) c.at-history.ensures.value in
    let late : c.entry_without_old_values-stamp.result.stamp < c.entry_without_old_values.ensures.entry.stamp = omega (arith, c.if-entry_without_old_values-stamp.true, c.entry_without_old_values.ensures.stamp) in
    subst (λ z. IsLookAfterEntry z c.args.looker.1 (history (entry_lists_of_histories c.args.self.now) c.args.gone.0.number) c.args.gone.1 c.in_ok-at.at) looker
    (subst (λ z. IsLookAfterEntry c.at-history.result.now.items c.args.looker.1 z c.args.gone.1 c.in_ok-at.at) others
    (look_first c.at-history.result.now.items c.args.looker.1 c.at-others.result.now.items c.args.gone.1 c.in_ok-at.at c.entry_without_old_values-stamp.result.stamp c.entry_without_old_values.ensures.entry c.entry_without_old_values-stamp.ensures.entry
    c.in_ok-at.ensures.some c.entry_without_old_values-stamp.ensures.found c.entry_without_old_values-stamp.ensures.stamp c.entry_without_old_values.ensures.found late))

pub returns-else-entry_without_old_values-stamp-clause-none : goal.returns-else-entry_without_old_values-stamp-clause-none
returns-else-entry_without_old_values-stamp-clause-none c =
    let others = history_read _ c.args.gone.0.number c.at-others.result.now (rw c.at-others.ensures.size c.args.gone.0.in_range) c.at-others.ensures.value in
    let looker = history_read _ c.args.looker.0.number c.at-history.result.now (rw c.at-history.ensures.size c.args.looker.0.in_range) c.at-history.ensures.value in
    let early : c.entry_without_old_values.ensures.entry.stamp ≤ c.entry_without_old_values-stamp.result.stamp = omega (arith, c.if-entry_without_old_values-stamp.false, c.entry_without_old_values.ensures.stamp) in
    let rise : HasRisingStamps 0 c.at-history.result.now.items c.requires.rise.0 = subst (λ z. HasRisingStamps 0 z c.requires.rise.0) (sym looker) (c.requires.rise.1 c.args.looker.0.number) in
    subst (λ z. HasNoLaterLook z c.args.looker.1 (history (entry_lists_of_histories c.args.self.now) c.args.gone.0.number) c.args.gone.1) looker
    (subst (λ z. HasNoLaterLook c.at-history.result.now.items c.args.looker.1 z c.args.gone.1) others
    (look_before c.at-history.result.now.items c.args.looker.1 c.at-others.result.now.items c.args.gone.1 c.in_ok-at.at c.entry_without_old_values-stamp.result.stamp c.requires.rise.0 c.entry_without_old_values.ensures.entry c.entry_without_old_values-stamp.ensures.entry
    rise c.in_ok-at.ensures.some c.entry_without_old_values-stamp.ensures.found c.entry_without_old_values-stamp.ensures.stamp c.entry_without_old_values.ensures.found early))
