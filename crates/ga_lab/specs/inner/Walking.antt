-- A node of a lab that is walked back.
use Rattle.ga_journal.specs.declared.fault.JournalFault.TheVariants as journal_fault
use Rattle.ga_journal.specs.declared.fault.JournalFault.{JournalFault}
use Rattle.ga_lab.specs.declared.fault.LabFault.{LabFault}
use Rattle.ga_lab.specs.declared.fault.LabFault.TheVariants.{Full, Memory, EventNumbersSpent}
use Rattle.std.specs.Prelude.{◌≡◌, ℕ, ◌≤◌, List, length, drop}
use Rattle.ga_node.specs.Record.{NodeState}
use Rattle.ga_grid.specs.declared.node_id.NodeId.{NodeId}
use Rattle.ga_grid.specs.Chip.{node_at}
use Rattle.ga_journal.specs.Histories.{JournalState, history, BackwardEventsModel}
use Rattle.ga_journal.specs.Walked.{node_before_entries}
use Rattle.ga_lab.specs.Machine.{NodeAtStep, node_at_step, BackwardState, backward_state}
use Rattle.ga_lab.specs.inner.LabInvariant.{state_of, IsLab}

-- ---- the journal's refusals as those of a step

abbrev pub lab_fault_of_journal_fault : JournalFault → LabFault
lab_fault_of_journal_fault journal_fault.Full = Full
lab_fault_of_journal_fault journal_fault.EventNumbersSpent = EventNumbersSpent
lab_fault_of_journal_fault journal_fault.Memory = Memory

abbrev pub walked_node_at_step : List NodeState → JournalState → NodeId → ℕ → NodeAtStep
walked_node_at_step chip book node step = node_at_step (state_of chip book) node step

-- the node of a walk is what walking the chip's node back to the step leads to
pub record IsNodeWalk (chip : List NodeState) (book : JournalState) (id : NodeId) (step : ℕ) (node : NodeState) : Type 0 where
  pub lab : IsLab chip book
  pub within : step ≤ length (history book.histories id.number)
  pub walked_to : node ≡ node_before_entries (node_at chip id.number) (drop step (history book.histories id.number))

-- a reading of the journal's history as one of the machine's
abbrev pub backward_state_of_journal : List NodeState → BackwardEventsModel → BackwardState
backward_state_of_journal chip walk = backward_state (state_of chip walk.book) walk.place
