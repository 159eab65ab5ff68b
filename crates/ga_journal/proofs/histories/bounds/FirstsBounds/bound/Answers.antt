use Rattle.std.proofs.Common.{◌≡◌, ◌+◌, ◌<◌, ◌∙◌, sym, ap, arith}
use Rattle.std.specs.Prelude.{slice_index}
use Rattle.std.proofs.lemmas.List.{length-map}
use Rattle.ga_journal.specs.inner.Histories.{entry_lists_of_histories, entry_records_of_held, stamp_bound_of_history, cut}
use Rattle.ga_journal.specs.Histories.{history}
use Rattle.ga_journal.proofs.Heads.{bound_le}
use Rattle.ga_journal.proofs.Cutting.{length-cut, cut_empty, cut_within, bound_read, read_at}
use Rattle.ga_journal.proofs.histories.bounds.FirstsBounds.bound.Goals as goal

pub returns-then-len-eq0-clause-value : goal.returns-then-len-eq0-clause-value
returns-then-len-eq0-clause-value c =
    sym (cut_empty c.args.self.now.histories.now c.args.self.now.lengths.now c.args.node.number c.at-history.ensures.size c.args.self.now.size c.args.node.in_range
    (ap (λ z. slice_index c.args.self.now.lengths.now z) (sym c.index.ensures.value) ∙ c.if-len-eq0.true))

pub returns-then-len-eq0-clause-nodes : goal.returns-then-len-eq0-clause-nodes
returns-then-len-eq0-clause-nodes c =
    length-cut (entry_lists_of_histories c.args.self.now.histories.now) c.args.self.now.lengths.now ∙ length-map c.args.self.now.histories.now entry_records_of_held ∙ c.at-history.ensures.size

pub entry_without_old_values-requires : goal.entry_without_old_values-requires
entry_without_old_values-requires c =
    let some : 0 < slice_index c.args.self.now.lengths.now c.index.result = (let h = c.if-len-eq0.false in omega (arith, h)) in
    let read = read_at c.args.self.now.histories.now c.index.result c.args.node.number c.at-history.result.now c.at-history.ensures.size c.index.ensures.in_range c.index.ensures.value c.at-history.ensures.value in
    let within = cut_within c.args.self.now.histories.now c.args.self.now.lengths.now c.index.result c.at-history.result.now c.at-history.ensures.size c.index.ensures.in_range read c.args.self.now.fits in
    omega (arith, some, within)

pub overflow_add-result : goal.overflow_add-result
overflow_add-result c =
    let some : 0 < slice_index c.args.self.now.lengths.now c.index.result = (let h = c.if-len-eq0.false in omega (arith, h)) in
    let e : c.entry_without_old_values.ensures.entry.stamp + 1 ≡ stamp_bound_of_history (history (cut (entry_lists_of_histories c.args.self.now.histories.now) c.args.self.now.lengths.now) c.args.node.number) =
    bound_read c.args.self.now.histories.now c.args.self.now.lengths.now c.index.result c.args.node.number c.at-history.result.now c.entry_without_old_values.ensures.entry c.at-history.ensures.size c.args.self.now.size c.index.ensures.in_range c.index.ensures.value c.at-history.ensures.value c.args.self.now.fits some c.entry_without_old_values.ensures.found in
    let w = bound_le (cut (entry_lists_of_histories c.args.self.now.histories.now) c.args.self.now.lengths.now) c.args.top c.args.node.number c.requires.rise in
    omega (arith, w, e, c.entry_without_old_values.ensures.stamp, c.ranges.top.fits)

pub returns-clause-value : goal.returns-clause-value
returns-clause-value c =
    let some : 0 < slice_index c.args.self.now.lengths.now c.index.result = (let h = c.if-len-eq0.false in omega (arith, h)) in
    ap (λ z. z + 1) (sym c.entry_without_old_values.ensures.stamp)
    ∙ bound_read c.args.self.now.histories.now c.args.self.now.lengths.now c.index.result c.args.node.number c.at-history.result.now c.entry_without_old_values.ensures.entry c.at-history.ensures.size c.args.self.now.size c.index.ensures.in_range c.index.ensures.value c.at-history.ensures.value c.args.self.now.fits some c.entry_without_old_values.ensures.found

pub returns-clause-within : goal.returns-clause-within
returns-clause-within c =
    let some : 0 < slice_index c.args.self.now.lengths.now c.index.result = (let h = c.if-len-eq0.false in omega (arith, h)) in
    let e : c.entry_without_old_values.ensures.entry.stamp + 1 ≡ stamp_bound_of_history (history (cut (entry_lists_of_histories c.args.self.now.histories.now) c.args.self.now.lengths.now) c.args.node.number) =
    bound_read c.args.self.now.histories.now c.args.self.now.lengths.now c.index.result c.args.node.number c.at-history.result.now c.entry_without_old_values.ensures.entry c.at-history.ensures.size c.args.self.now.size c.index.ensures.in_range c.index.ensures.value c.at-history.ensures.value c.args.self.now.fits some c.entry_without_old_values.ensures.found in
    let w = bound_le (cut (entry_lists_of_histories c.args.self.now.histories.now) c.args.self.now.lengths.now) c.args.top c.args.node.number c.requires.rise in
    omega (arith, w, e, c.entry_without_old_values.ensures.stamp)

pub returns-clause-nodes : goal.returns-clause-nodes
returns-clause-nodes c =
    length-cut (entry_lists_of_histories c.args.self.now.histories.now) c.args.self.now.lengths.now ∙ length-map c.args.self.now.histories.now entry_records_of_held ∙ c.at-history.ensures.size
