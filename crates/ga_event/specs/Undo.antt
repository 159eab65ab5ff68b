-- The undo of an event: the old values of the touched nodes are written back (after Danos and Krivine, "Reversible
-- Communicating Systems", 2004).
use Rattle.std.specs.Prelude.{◌≡◌, ◌≢◌, ℕ, Bool, true, false, if◌then◌else◌, List, length, Some}
use Rattle.ga_node.specs.Record.{NodeState}
use Rattle.ga_node.specs.State.{node_with_restored_values, ArePlaceValuesValid, HasAtMostOneStatus}
use Rattle.ga_node.specs.declared.place.NodePlace.{NodePlace}
use Rattle.ga_grid.specs.Chip.{node_at, chip_with_node, records_of_chip}
use Rattle.ga_event.specs.declared.event.Event.{Event}
use Rattle.ga_event.specs.declared.event.Event.TheVariants as event
use Rattle.ga_event.specs.declared.event.EventWithLook.{EventWithLook}
use Rattle.ga_event.specs.declared.event.OwnEventKindWithLook.{OwnEventKindWithLook}
use Rattle.ga_event.specs.declared.event.Effect.{Effect}
use Rattle.ga_event.specs.declared.event.Effect.TheVariants as effect
use Rattle.ga_event.specs.Touches.{touches}
use Rattle.ga_event.specs.Apply.{MadeEventOutcome, ExecutedOwn, PassedWord, apply, is_look}

-- the outcome of an event with this effect
abbrev pub outcome_of_effect : Effect → MadeEventOutcome
outcome_of_effect (effect.Own kind saved) = ExecutedOwn kind
outcome_of_effect (effect.Look kind saved) = ExecutedOwn kind
outcome_of_effect (effect.Pass word writer reader) = PassedWord word

-- the event looked at the neighbours of its node
abbrev pub is_look_effect : Effect → Bool
is_look_effect (effect.Own kind saved) = false
is_look_effect (effect.Look kind saved) = true
is_look_effect (effect.Pass word writer reader) = false

-- an event with this effect, with whether it looked
abbrev pub event_with_look_from_effect : Event → Effect → EventWithLook
event_with_look_from_effect event effect = record { event = event; look = is_look_effect effect }

-- the effect of a node's own event, which looked or didn't
abbrev pub effect_of_own_event : OwnEventKindWithLook → List (NodePlace × ℕ) → Effect
effect_of_own_event deed saved = if deed.look then effect.Look deed.kind saved else effect.Own deed.kind saved

-- the chip with a node's old values written back
abbrev pub chip_with_restored_node : List NodeState → ℕ → List (NodePlace × ℕ) → List NodeState
chip_with_restored_node chip n saved = chip_with_node chip n (node_with_restored_values (node_at chip n) saved)

-- the chip with the old values of the touched nodes written back
abbrev pub chip_after_undo : List NodeState → Event → Effect → List NodeState
chip_after_undo chip (event.Own node) (effect.Own kind saved) = chip_with_restored_node chip node.number saved
chip_after_undo chip (event.Own node) (effect.Look kind saved) = chip_with_restored_node chip node.number saved
chip_after_undo chip (event.Pass writer reader side) (effect.Pass word sent took) =
    chip_with_restored_node (chip_with_restored_node chip reader.number took) writer.number sent
chip_after_undo chip (event.Own node) (effect.Pass word sent took) = chip
chip_after_undo chip (event.Pass writer reader side) (effect.Own kind saved) = chip
chip_after_undo chip (event.Pass writer reader side) (effect.Look kind saved) = chip

-- the effect is of the event's kind, and the nodes of a pass are two
abbrev pub IsEffectOfEventKind : Event → Effect → Type 0
IsEffectOfEventKind (event.Own node) (effect.Own kind saved) = Unit {0}
IsEffectOfEventKind (event.Own node) (effect.Look kind saved) = Unit {0}
IsEffectOfEventKind (event.Pass writer reader side) (effect.Pass word sent took) = writer.number ≢ reader.number
IsEffectOfEventKind (event.Own node) (effect.Pass word sent took) = ⊥
IsEffectOfEventKind (event.Pass writer reader side) (effect.Own kind saved) = ⊥
IsEffectOfEventKind (event.Pass writer reader side) (effect.Look kind saved) = ⊥

-- the old values of a node can be written back
pub record CanRestoreNode (node : NodeState) (saved : List (NodePlace × ℕ)) : Type 0 where
  pub fit : ArePlaceValuesValid saved
  pub apart : HasAtMostOneStatus (node_with_restored_values node saved)

-- Whether the event can be undone: the effect is of its kind, the nodes of a pass are two, and the restored values make nodes.
-- It holds of each chip whose touched nodes are as the event left them.
abbrev pub CanUndoEvent : List NodeState → Event → Effect → Type 0
CanUndoEvent chip (event.Own node) (effect.Own kind saved) = CanRestoreNode (node_at chip node.number) saved
CanUndoEvent chip (event.Own node) (effect.Look kind saved) = CanRestoreNode (node_at chip node.number) saved
CanUndoEvent chip (event.Pass writer reader side) (effect.Pass word sent took) =
    (writer.number ≢ reader.number) × CanRestoreNode (node_at chip writer.number) sent × CanRestoreNode (node_at chip reader.number) took
CanUndoEvent chip (event.Own node) (effect.Pass word sent took) = ⊥
CanUndoEvent chip (event.Pass writer reader side) (effect.Own kind saved) = ⊥
CanUndoEvent chip (event.Pass writer reader side) (effect.Look kind saved) = ⊥

-- The event led from one chip to the other with this effect, which is of its kind: the records and the outcome are those of the
-- definition, the event looked exactly if the effect is a look's, and its undo leads to the whole old chip.
pub record IsEventApplied (old : List NodeState) (event : Event) (effect : Effect) (new : List NodeState) : Type 0 where
  pub of_kind : IsEffectOfEventKind event effect
  pub done : apply (records_of_chip old) event ≡ Some (records_of_chip new, outcome_of_effect effect)
  pub look : is_look (records_of_chip old) event ≡ is_look_effect effect
  pub state_after_undo : chip_after_undo new event effect ≡ old
  pub ready : CanUndoEvent new event effect

-- the nodes that the event touches are as it left them, whatever became of the others
pub record KeepsTouchedNodes (event : Event) (new chip : List NodeState) : Type 0 where
  pub size : length chip ≡ length new
  pub same : (n : ℕ) → touches event n ≡ true → node_at chip n ≡ node_at new n
