-- The words that went over a link (G144A12 Chip Reference DB002, links), numbered in their order.
use Rattle.std.specs.Prelude.{ℕ, ◌+◌, ◌==◌, Bool, false, ◌&&◌, if◌then◌else◌, List, [], ◌∷◌, ◌++◌, drop, length}
use Rattle.ga_grid.specs.declared.node_id.NodeId.{NodeId}
use Rattle.ga_event.specs.declared.made.MadeEvent.{MadeEvent}
use Rattle.ga_event.specs.declared.made.MadeEvent.TheVariants as made
use Rattle.ga_lab.specs.Machine.{MachineState, history_of_node}
use Rattle.ga_scheduler.specs.declared.words.Transfer.{Transfer}
use Rattle.ga_scheduler.specs.declared.words.TransferIter.{TransferIter}

-- the event carried a word over a link
abbrev pub is_transfer_over_link : ℕ → ℕ → MadeEvent → Bool
is_transfer_over_link writer reader (made.Own n k kind) = false
is_transfer_over_link writer reader (made.Pass w k r j carried) = (w.number == writer) && (r.number == reader)

-- the word that an event carried over a link, with this number; nothing where it carried none there
abbrev pub transfer_of_event : ℕ → ℕ → ℕ → MadeEvent → List Transfer
transfer_of_event writer reader number (made.Own n k kind) = []
transfer_of_event writer reader number (made.Pass w k r j carried) =
    if (w.number == writer) && (r.number == reader)
    then record { number = number; writer_step = k; reader_step = j; word = carried } ∷ [] else []

-- one where the event carried a word over the link
abbrev pub transfers_over_link_by_event : ℕ → ℕ → MadeEvent → ℕ
transfers_over_link_by_event writer reader told = if is_transfer_over_link writer reader told then 1 else 0

-- the words that these events transferred, numbered after those before
abbrev pub numbered_transfers : ℕ → ℕ → ℕ → List MadeEvent → List Transfer
numbered_transfers writer reader before [] = []
numbered_transfers writer reader before (told ∷ rest) =
    transfer_of_event writer reader (before + 1) told ++ numbered_transfers writer reader (before + transfers_over_link_by_event writer reader told) rest

-- the words that went from one node to another, of all events that are kept
abbrev pub link_transfers : MachineState → ℕ → ℕ → List Transfer
link_transfers s writer reader = numbered_transfers writer reader 0 (history_of_node s writer)

-- how many words went from one node to another, of all events that are kept
abbrev pub link_transfer_count : MachineState → ℕ → ℕ → ℕ
link_transfer_count s writer reader = length (link_transfers s writer reader)

-- the end of a link whose steps are read: each word that went over it is a step of both
abbrev pub scanned_link_end : Bool → NodeId → NodeId → ℕ
scanned_link_end by_reader writer reader = if by_reader then reader.number else writer.number

-- the words over a link that were not listed yet
abbrev pub unlisted_transfers : MachineState → TransferIter → List Transfer
unlisted_transfers s words =
    numbered_transfers words.writer.number words.reader.number words.before (drop words.place (history_of_node s (scanned_link_end words.by_reader words.writer words.reader)))
