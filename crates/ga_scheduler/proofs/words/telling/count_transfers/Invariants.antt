use Rattle.std.proofs.Common.{◌≡◌, ◌+◌, length, drop}
use Rattle.ga_lab.specs.Machine.{history_of_node}
use Rattle.ga_scheduler.specs.Words.{numbered_transfers, link_transfer_count}
use Rattle.ga_scheduler.proofs.words.telling.count_transfers.Given as goal

abbrev pub invariant-places : goal.invariant-places
invariant-places l =
    l.words + length (numbered_transfers l.writer.number l.reader.number 0 (drop l.place (history_of_node l.lab l.end.number)))
    ≡ link_transfer_count l.lab l.writer.number l.reader.number
