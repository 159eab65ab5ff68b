use Rattle.std.proofs.Common.{◌-◌, refl, arith, length-set}
use Rattle.std.specs.Prelude.{slice_index}
use Rattle.ga_journal.specs.inner.Histories.{entry_lists_of_histories}
use Rattle.ga_journal.proofs.Cutting.{read_at, found_at, less_one, cut_some, cut_within, less_last, less_others, less_fits, less_count}
use Rattle.ga_journal.proofs.histories.Histories.back_at.Goals as goal

pub overflow_sub-len : goal.overflow_sub-len
overflow_sub-len c = cut_some c.args.self.now c.args.lengths.now c.index-at.result c.args.node.number c.at-history.ensures.size c.told-lengths c.index-at.ensures.in_range c.index-at.ensures.value c.requires.some

pub entry_without_old_values-requires : goal.entry_without_old_values-requires
entry_without_old_values-requires c =
    let some = cut_some c.args.self.now c.args.lengths.now c.index-at.result c.args.node.number c.at-history.ensures.size c.told-lengths c.index-at.ensures.in_range c.index-at.ensures.value c.requires.some in
    let within = cut_within c.args.self.now c.args.lengths.now c.index-at.result c.at-history.result.now c.at-history.ensures.size c.index-at.ensures.in_range (read_at _ c.index-at.result c.args.node.number _ c.at-history.ensures.size c.index-at.ensures.in_range c.index-at.ensures.value c.at-history.ensures.value) c.requires.fits in
    omega (arith, some, within)

pub returns : goal.returns
returns c =
    let vecs = c.args.self.now in
    let lengths = c.args.lengths.now in
    let some = cut_some vecs lengths c.index-at.result c.args.node.number c.at-history.ensures.size c.told-lengths c.index-at.ensures.in_range c.index-at.ensures.value c.requires.some in
    let within = cut_within vecs lengths c.index-at.result c.at-history.result.now c.at-history.ensures.size c.index-at.ensures.in_range (read_at _ c.index-at.result c.args.node.number _ c.at-history.ensures.size c.index-at.ensures.in_range c.index-at.ensures.value c.at-history.ensures.value) c.requires.fits in
    record {
      entry = c.entry_without_old_values.ensures.entry;
      stamp = c.entry_without_old_values.ensures.stamp;
      act = c.entry_without_old_values.ensures.act;
      last = less_last vecs lengths c.index-at.result c.args.node.number _ c.at-history.result.now c.entry_without_old_values.ensures.entry c.at-history.ensures.size c.told-lengths c.index-at.ensures.in_range c.index-at.ensures.value (read_at _ c.index-at.result c.args.node.number _ c.at-history.ensures.size c.index-at.ensures.in_range c.index-at.ensures.value c.at-history.ensures.value) refl
          some within (found_at c.at-history.result.now.items (slice_index c.args.lengths.now c.index-at.result - 1) c.entry_without_old_values.ensures.entry c.entry_without_old_values.ensures.found);
      others = less_others vecs lengths c.index-at.result c.args.node.number _ c.at-history.ensures.size c.told-lengths c.index-at.ensures.in_range c.index-at.ensures.value;
      fits = λ n. less_fits (entry_lists_of_histories vecs) lengths c.index-at.result _ (rw c.told-lengths c.index-at.ensures.in_range) (omega arith) c.requires.fits n;
      count = less_count vecs lengths c.index-at.result c.args.node.number _ c.at-history.ensures.size c.told-lengths c.index-at.ensures.in_range c.index-at.ensures.value (omega arith) c.requires.fits;
      less = less_one lengths c.index-at.result c.args.node.number (rw c.told-lengths c.index-at.ensures.in_range) c.index-at.ensures.value some;
      size = length-set lengths c.index-at.result _;
    }
