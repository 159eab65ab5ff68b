use Rattle.std.proofs.Common.{◌≡◌, ◌+◌, take, drop, length}
use Rattle.ga_node.specs.Record.{NodeState}
use Rattle.ga_node.specs.State.{node_with_restored_values, ArePlaceValuesValid}
use Rattle.ga_journal.specs.Walked.{node_before_entries}
use Rattle.ga_journal.proofs.history.History.walk_far.Given as goal

abbrev pub invariant-loop-entry : goal.invariant-loop-entry
invariant-loop-entry l = record {
  rest : l.entry-iterator.iter.rest.now ≡ take (length l.entry-iterator.iter.rest.now) l.initial.entry-iterator.iter.rest.now;
  back : (n : NodeState) → node_with_restored_values n l.gathered ≡ node_before_entries n (drop (l.to + length l.entry-iterator.iter.rest.now) (take l.from l.fn.self.items));
  fit : ArePlaceValuesValid l.gathered;
}
