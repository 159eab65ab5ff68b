-- What each method of a node makes and saves.
use Rattle.ga_stacks.specs.declared.place.StackPlace.TheVariants as stack
use Rattle.ga_stacks.specs.declared.place.StackPlace.{StackPlace}
use Rattle.ga_node.specs.declared.place.NodePlace.{NodePlace}
use Rattle.ga_node.specs.declared.place.NodePlace.TheVariants.{T, S, DataCell, DataPointer, R, ReturnCell, ReturnPointer}
use Rattle.std.specs.Prelude.{◌≡◌, ℕ, List, ◌++◌, map, Result, Ok, Err}
use Rattle.ga_node.specs.Record.{NodeState, record_of_node}
use Rattle.ga_node.specs.State.{node_with_restored_values, ArePlaceValuesValid}
use Rattle.ga_node.specs.Changes.{NodeChange, node_after_changes}
use Rattle.ga_node.specs.Table.{AddressAccess, Plain, Reads, Writes, changes_or_event_of_write}
use Rattle.ga_node.specs.declared.kind.OwnEventKind.{OwnEventKind}
use Rattle.ga_node.specs.Saving.{places_written_by_changes, places_with_values, IsUndoLog}

-- a place of the data stack
abbrev pub data_stack_node_place : StackPlace → NodePlace
data_stack_node_place stack.Pointer = DataPointer
data_stack_node_place stack.Top = T
data_stack_node_place stack.Second = S
data_stack_node_place (stack.Cell cell) = DataCell cell

-- a place of the return stack, which has one register
abbrev pub return_stack_node_place : StackPlace → NodePlace
return_stack_node_place stack.Pointer = ReturnPointer
return_stack_node_place stack.Top = R
return_stack_node_place stack.Second = R
return_stack_node_place (stack.Cell cell) = ReturnCell cell

-- These changes were made, and these values saved.
pub record AreChangesMadeAndSaved (changes : List NodeChange) (old new : NodeState) (saved : List (NodePlace × ℕ)) : Type 0 where
  pub effect : record_of_node new ≡ node_after_changes changes (record_of_node old)
  pub saves : IsUndoLog changes old new saved

-- Whether the outcome in the table was made: it has changes and is no other event.
abbrev pub IsAccessMadeUnreplaced : Result (List NodeChange) (OwnEventKind × List NodeChange) → NodeState → NodeState → List (NodePlace × ℕ) → Type 0
IsAccessMadeUnreplaced (Ok changes) old new saved = AreChangesMadeAndSaved changes old new saved
IsAccessMadeUnreplaced (Err event) old new saved = ⊥

-- Whether the outcome in the table was made in place of the access's purpose: an event of this kind, and its changes.
abbrev pub IsReplacementEventMade : {A : Type 0} → Result A (OwnEventKind × List NodeChange) → OwnEventKind → NodeState → NodeState → List (NodePlace × ℕ) → Type 0
IsReplacementEventMade (Ok given) kind old new saved = ⊥
IsReplacementEventMade (Err event) kind old new saved = (event.0 ≡ kind) × AreChangesMadeAndSaved event.1 old new saved

-- What an event that reads nothing is for was made: its changes, those of its write first.
abbrev pub IsAccessWithoutReadMade : AddressAccess → NodeState → NodeState → List (NodePlace × ℕ) → Type 0
IsAccessWithoutReadMade (Plain changes) old new saved = AreChangesMadeAndSaved changes old new saved
IsAccessWithoutReadMade (Reads address more) old new saved = ⊥
IsAccessWithoutReadMade (Writes address more) old new saved = IsAccessMadeUnreplaced (changes_or_event_of_write address more (record_of_node old)) old new saved

-- The write that an event is for has become the whole event, of this kind.
abbrev pub IsWriteReplacedByEvent : AddressAccess → OwnEventKind → NodeState → NodeState → List (NodePlace × ℕ) → Type 0
IsWriteReplacedByEvent (Plain changes) kind old new saved = ⊥
IsWriteReplacedByEvent (Reads address more) kind old new saved = ⊥
IsWriteReplacedByEvent (Writes address more) kind old new saved = IsReplacementEventMade (changes_or_event_of_write address more (record_of_node old)) kind old new saved

-- Some changes were made: their old values are saved after those before, and lead back to the old node.
pub record SavesOldValues (changes : List NodeChange) (old : NodeState) (before : List (NodePlace × ℕ)) (new : NodeState) (later : List (NodePlace × ℕ)) : Type 0 where
  pub exact : later ≡ before ++ places_with_values old (places_written_by_changes changes old)
  pub state_after_undo : node_with_restored_values new (places_with_values old (places_written_by_changes changes old)) ≡ old
  pub fit : ArePlaceValuesValid (places_with_values old (places_written_by_changes changes old))

-- the values of a stack as values of its node
abbrev pub data_stack_as_node_values : List (StackPlace × ℕ) → List (NodePlace × ℕ)
data_stack_as_node_values values = map (λ v. (data_stack_node_place v.0, v.1)) values

abbrev pub return_stack_as_node_values : List (StackPlace × ℕ) → List (NodePlace × ℕ)
return_stack_as_node_values values = map (λ v. (return_stack_node_place v.0, v.1)) values

-- ---- the kind of an event, without its changes

-- the kind of an event, by kinds alone: an access may have made it another
abbrev pub own_event_kind_after_access : OwnEventKind → Result (Unit {0}) OwnEventKind → OwnEventKind
own_event_kind_after_access kind (Ok done) = kind
own_event_kind_after_access kind (Err other) = other
