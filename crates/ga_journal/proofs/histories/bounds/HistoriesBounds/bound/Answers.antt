use Rattle.std.proofs.Common.{◌≡◌, ◌+◌, ◌∙◌, ap, arith}
use Rattle.ga_journal.specs.inner.Histories.{entry_lists_of_histories, stamp_bound_of_history}
use Rattle.ga_journal.specs.Histories.{history}
use Rattle.ga_journal.proofs.Heads.{bound_le}
use Rattle.ga_journal.proofs.Cutting.{history_read}
use Rattle.ga_journal.proofs.histories.bounds.HistoriesBounds.bound.Goals as goal

pub overflow_add-result : goal.overflow_add-result
overflow_add-result c =
    let read = history_read _ c.args.node.number c.at-history.result.now (rw c.at-history.ensures.size c.args.node.in_range) c.at-history.ensures.value in
    let e : c.in-Some.last.0 + 1 ≡ stamp_bound_of_history (history (entry_lists_of_histories c.args.self.now) c.args.node.number) = c.in-Some.ensures.some ∙ ap stamp_bound_of_history read in
    let w = bound_le (entry_lists_of_histories c.args.self.now) c.args.top c.args.node.number c.requires.rise in
    omega (arith, w, e, c.ranges.top.fits)

pub returns-in-Some-clause-within : goal.returns-in-Some-clause-within
returns-in-Some-clause-within c =
    let read = history_read _ c.args.node.number c.at-history.result.now (rw c.at-history.ensures.size c.args.node.in_range) c.at-history.ensures.value in
    let e : c.in-Some.last.0 + 1 ≡ stamp_bound_of_history (history (entry_lists_of_histories c.args.self.now) c.args.node.number) = c.in-Some.ensures.some ∙ ap stamp_bound_of_history read in
    let w = bound_le (entry_lists_of_histories c.args.self.now) c.args.top c.args.node.number c.requires.rise in
    omega (arith, w, e)
