use Rattle.std.proofs.Common.{◌≡◌, ◌≤◌, drop}
use Rattle.ga_lab.specs.Machine.{history_of_node}
use Rattle.ga_scheduler.specs.Words.{numbered_transfers, unlisted_transfers}
use Rattle.ga_scheduler.proofs.words.TransferIter.next.Given as goal

abbrev pub invariant-loop-place : goal.invariant-loop-place
invariant-loop-place l = record {
  same : l.self ≡ l.initial.self;
  ahead : unlisted_transfers l.lab l.initial.self ≡ numbered_transfers l.writer.number l.reader.number l.before (drop l.place (history_of_node l.lab l.end.number));
  past : l.before ≤ l.place;
}
