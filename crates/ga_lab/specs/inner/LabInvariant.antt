-- The machine of a chip and its journal.
use Rattle.std.specs.Prelude.{List}
use Rattle.ga_node.specs.Record.{NodeState}
use Rattle.ga_grid.specs.Chip.{records_of_chip}
use Rattle.ga_journal.specs.Histories.{JournalState}
use Rattle.ga_journal.specs.Events.{journal_events}
use Rattle.ga_journal.specs.Walked.{chip_before_histories}
use Rattle.ga_journal.specs.Marks.{HasNoRollbackUnderWay}
pub use Rattle.ga_rollback.specs.Rewound.{IsLogLeadingToChip, AreHistoriesOfChip}
use Rattle.ga_lab.specs.Machine.{MachineState}

-- the machine's state: the load is what walking all saved words back gives
unfoldable pub state_of : List NodeState → JournalState → MachineState
state_of chip book = record {
  load = records_of_chip (chip_before_histories chip book.histories);
  limit = book.limit;
  kept = journal_events book;
  made = book.made;
}

-- what holds of a lab between all calls
pub record IsLab (chip : List NodeState) (book : JournalState) : Type 0 where
  pub tied : AreHistoriesOfChip chip book
  pub rest : HasNoRollbackUnderWay book
