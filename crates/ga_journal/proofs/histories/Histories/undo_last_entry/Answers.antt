use Rattle.std.proofs.Common.{◌<◌, subst, sym}
use Rattle.ga_journal.specs.inner.Histories.{stamp_bound_of_history}
use Rattle.ga_journal.specs.inner.Ends.{CanWriteBackLastEntry}
use Rattle.ga_journal.proofs.Cutting.{history_read, popped_last, popped_others}
use Rattle.ga_journal.proofs.histories.Histories.undo_last_entry.Goals as goal

pub undo_last_entry-requires-clause-some : goal.undo_last_entry-requires-clause-some
undo_last_entry-requires-clause-some c =
    subst (λ z. 0 < stamp_bound_of_history z)
    (sym (history_read _ c.args.node.number c.at_mut-history.result.now (rw c.at_mut-history.ensures.size c.args.node.in_range) c.at_mut-history.ensures.value))
    c.requires.some

pub undo_last_entry-requires-clause-can : goal.undo_last_entry-requires-clause-can
undo_last_entry-requires-clause-can c =
    subst (λ z. CanWriteBackLastEntry z c.args.chip.now c.args.node.number)
    (sym (history_read _ c.args.node.number c.at_mut-history.result.now (rw c.at_mut-history.ensures.size c.args.node.in_range) c.at_mut-history.ensures.value))
    c.requires.can

pub returns-clause-back : goal.returns-clause-back
returns-clause-back c = record {
  entry = c.undo_last_entry.ensures.entry;
  last = popped_last _ c.args.node.number c.at_mut-history.result.now c.undo_last_entry.new.self _ (rw c.at_mut-history.ensures.size c.args.node.in_range) c.at_mut-history.ensures.value c.undo_last_entry.ensures.last;
  part = c.undo_last_entry.ensures.part;
  node = c.undo_last_entry.ensures.node;
}

pub returns-clause-others : goal.returns-clause-others
returns-clause-others c = popped_others _ c.args.node.number c.undo_last_entry.new.self (rw c.at_mut-history.ensures.size c.args.node.in_range)
