use Rattle.std.proofs.Common.{◌≡◌, ◌≤◌, ◌+◌, take, drop, length}
use Rattle.ga_node.specs.State.{node_with_resumed_status, HasClearedStatus}
use Rattle.ga_journal.specs.Walked.{node_before_entries}
use Rattle.ga_journal.proofs.history.History.walk_near.Given as goal

abbrev pub invariant-loop-entry : goal.invariant-loop-entry
invariant-loop-entry l = record {
  rest : l.entry-iterator.iter.rest.now ≡ take (length l.entry-iterator.iter.rest.now) l.initial.entry-iterator.iter.rest.now;
  back : node_with_resumed_status l.node l.aside ≡ node_before_entries l.fn.node (drop (l.to + length l.entry-iterator.iter.rest.now) (take l.from l.fn.self.items));
  cleared : HasClearedStatus l.node;
  in_range : l.aside.stop ≤ 3;
}
