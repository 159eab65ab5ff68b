-- The end of one history: the entry that an own event adds, and the one that is undone.
use Rattle.ga_event.specs.declared.event.Event.TheVariants as event
use Rattle.ga_journal.specs.declared.entry.EntryRole.TheVariants as act
use Rattle.ga_event.specs.declared.made.MadeEvent.TheVariants as made
use Rattle.std.specs.Prelude.{◌≡◌, ℕ, List, [], ◌∷◌, ◌++◌, Some, slice_get, ◌+◌, length, Option, None}
use Rattle.ga_node.specs.Record.{NodeState}
use Rattle.ga_node.specs.declared.place.NodePlace.{NodePlace}
use Rattle.ga_grid.specs.Chip.{node_at}
use Rattle.ga_grid.specs.declared.node_id.NodeId.{NodeId}
use Rattle.ga_event.specs.declared.event.OwnEventKindWithLook.{OwnEventKindWithLook}
use Rattle.ga_event.specs.Undo.{effect_of_own_event, IsEventApplied, CanRestoreNode, chip_with_restored_node, outcome_of_effect}
use Rattle.ga_journal.specs.declared.entry.EntryRole.{EntryRole}
use Rattle.ga_journal.specs.declared.entry.Head.{Head}
use Rattle.ga_journal.specs.Histories.{EntryRecord, new_entry_record, history, histories_with_event}
use Rattle.ga_event.specs.declared.event.Event.{Event}
use Rattle.ga_event.specs.declared.event.Effect.{Effect}
use Rattle.ga_event.specs.Apply.{MadeEventOutcome, ExecutedOwn, PassedWord}
use Rattle.ga_event.specs.declared.made.MadeEvent.{MadeEvent}

-- the entry at a position has this stamp and this part
pub record IsHeadOfEntryAt (history : List EntryRecord) (at : ℕ) (head : Head) : Type 0 where
  pub entry : EntryRecord
  pub found : slice_get history at ≡ Some entry
  pub stamp : entry.stamp ≡ head.stamp
  pub act : entry.act ≡ head.act

-- the node's own event was made on the chip, and its entry added
pub record IsOwnEventMadeInHistory
    (old : List EntryRecord) (chip : List NodeState) (node : NodeId) (stamp : ℕ) (deed : OwnEventKindWithLook) (new : List EntryRecord) (now : List NodeState)
    : Type 0 where
  pub saved : List (NodePlace × ℕ)
  pub applied : IsEventApplied chip (event.Own node) (effect_of_own_event deed saved) now
  pub added : new ≡ old ++ new_entry_record stamp (act.Own deed) saved ∷ []

-- the values of the last entry can be written back to node n
abbrev pub CanWriteBackLastEntry : List EntryRecord → List NodeState → ℕ → Type 0
CanWriteBackLastEntry history chip n =
    (front : List EntryRecord) (e : EntryRecord) → history ≡ front ++ e ∷ [] → CanRestoreNode (node_at chip n) e.saved

-- the values of the last entry were written back to node n, and the entry is removed
pub record IsLastEntryWrittenBack
    (old : List EntryRecord) (chip : List NodeState) (n : ℕ) (new : List EntryRecord) (now : List NodeState) (act : EntryRole)
    : Type 0 where
  pub entry : EntryRecord
  pub last : old ≡ new ++ entry ∷ []
  pub part : entry.act ≡ act
  pub node : now ≡ chip_with_restored_node chip n entry.saved

-- ---- a new event as made, by the histories alone

-- an event as made with this outcome, with step numbers by the lengths of the histories
abbrev pub made_event_with_outcome : List (List EntryRecord) → Event → MadeEventOutcome → Option MadeEvent
made_event_with_outcome hs (event.Own node) (ExecutedOwn kind) = Some (made.Own node (length (history hs node.number) + 1) kind)
made_event_with_outcome hs (event.Pass w r side) (PassedWord word) =
    Some (made.Pass w (length (history hs w.number) + 1) r (length (history hs r.number) + 1) word)
made_event_with_outcome hs (event.Own node) (PassedWord word) = None
made_event_with_outcome hs (event.Pass w r side) (ExecutedOwn kind) = None

-- the event was made on the chip and added to the histories, and this is what was made
pub record IsEventMadeInHistories
    (hs : List (List EntryRecord)) (chip : List NodeState) (stamp : ℕ) (e : Event) (told : MadeEvent) (gs : List (List EntryRecord)) (now : List NodeState)
    : Type 0 where
  pub effect : Effect
  pub applied : IsEventApplied chip e effect now
  pub histories : gs ≡ histories_with_event hs stamp e effect
  pub told_is : made_event_with_outcome hs e (outcome_of_effect effect) ≡ Some told
