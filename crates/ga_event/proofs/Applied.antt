-- What an event does to a chip, from what it does to its nodes.
use Rattle.std.proofs.Common.{◌≡◌, ◌≢◌, ℕ, ◌<◌, Bool, true, false, List, length, set, Option, Some, None, refl, sym, ◌∙◌, ap, subst}
use Rattle.std.proofs.lemmas.List.{set-set, set-get_or, get_or-set_same, get_or-set_other, length-set}
use Rattle.ga_node.specs.Record.{NodeState, NodeRecord, record_of_node}
use Rattle.ga_node.specs.State.{node_with_restored_values, ArePlaceValuesValid, HasAtMostOneStatus}
use Rattle.ga_node.specs.Table.{register_t, own, reads_io_next, is_look_action, next_action_of_node, refusal_of_own_event, sent, taken}
use Rattle.ga_node.specs.declared.due.NextAction.{NextAction}
use Rattle.ga_node.specs.declared.seen.SeenNeighbours.{SeenNeighbours}
use Rattle.ga_node.proofs.Looks.{own_blind, looks_due}
use Rattle.ga_node.proofs.Restoring.{apart_from_ready}
use Rattle.ga_node.specs.Saving.{IsUndoLog}
use Rattle.ga_node.specs.Changes.{NodeChange}
use Rattle.ga_node.specs.declared.kind.OwnEventKind.{OwnEventKind}
use Rattle.ga_node.specs.declared.place.NodePlace.{NodePlace}
use Rattle.ga_ports.specs.declared.side.Side.{Side}
use Rattle.ga_grid.specs.declared.node_id.NodeId.{NodeId}
use Rattle.ga_grid.specs.Chip.{default_node, node_at, chip_with_node, records_of_chip, node_record_at}
use Rattle.ga_grid.proofs.Chips.{node_record_at-records_of_chip, records_of_chip-chip_with_node}
use Rattle.ga_event.specs.declared.event.EventWithLook.{EventWithLook}
use Rattle.ga_event.specs.declared.event.Effect.{Effect}
use Rattle.ga_event.specs.declared.event.Effect.TheVariants as effect
use Rattle.ga_event.specs.declared.event.Event.{Event}
use Rattle.ga_event.specs.declared.event.Event.TheVariants as event
use Rattle.ga_node.specs.declared.wait.Wait.{Wait}
use Rattle.std.proofs.lemmas.Bool.{and_parts, eqb-true}
use Rattle.ga_grid.specs.Grid.{neighbour_number}
use Rattle.ga_grid.proofs.NodeIds.{neighbour_number-other}
use Rattle.ga_event.specs.Apply.{ExecutedOwn, PassedWord, neighbour_states, equals_optional_number, is_transfer_ready, refusal_unless_matched, chip_after_own_event, chip_after_pass, some_if_allowed, apply, event_with_look_on_chip}
use Rattle.ga_event.specs.Undo.{event_with_look_from_effect, effect_of_own_event, chip_with_restored_node, CanRestoreNode, IsEventApplied}

-- a node written back
restored_back : (chip : List NodeState) (n : ℕ) (new : NodeState) (saved : List (NodePlace × ℕ)) → n < length chip → node_with_restored_values new saved ≡ node_at chip n → chip_with_restored_node (chip_with_node chip n new) n saved ≡ chip
restored_back chip n new saved l back =
    ap (λ z. set (set chip n new) n (node_with_restored_values z saved)) (get_or-set_same chip n new default_node l)
    ∙ ap (λ z. set (set chip n new) n z) back
    ∙ set-set chip n new (node_at chip n)
    ∙ set-get_or chip n default_node

-- what the node does where its sides show what they showed the code
own_done : (chip : List NodeState) (node : NodeId) (new : NodeState) (kind : OwnEventKind) → refusal_of_own_event (record_of_node (node_at chip node.number)) ≡ None
    → (kind, record_of_node new) ≡ own (neighbour_states (records_of_chip chip) node.number) (record_of_node (node_at chip node.number))
    → apply (records_of_chip chip) (event.Own node) ≡ Some (records_of_chip (chip_with_node chip node.number new), ExecutedOwn kind)
own_done chip node new kind ready made =
    let n = node.number in
    let seen : SeenNeighbours = neighbour_states (records_of_chip chip) n in
    let read : node_record_at (records_of_chip chip) n ≡ record_of_node (node_at chip n) = node_record_at-records_of_chip chip n in
    ap (λ z. some_if_allowed (refusal_of_own_event z) (chip_after_own_event (records_of_chip chip) n (own seen z))) read
    ∙ ap (λ z. some_if_allowed z (chip_after_own_event (records_of_chip chip) n (own seen (record_of_node (node_at chip n))))) ready
    ∙ ap (λ z. Some (chip_after_own_event (records_of_chip chip) n z)) (sym made)
    ∙ ap (λ z. Some (z, ExecutedOwn kind)) (sym (records_of_chip-chip_with_node chip n new))

own_ready : (chip : List NodeState) (n : ℕ) (new : NodeState) (saved : List (NodePlace × ℕ)) → n < length chip → node_with_restored_values new saved ≡ node_at chip n → ArePlaceValuesValid saved → HasAtMostOneStatus (node_at chip n)
    → CanRestoreNode (node_at (chip_with_node chip n new) n) saved
own_ready chip n new saved l back fit apart = record {
  fit = fit;
  apart = subst (λ z. HasAtMostOneStatus (node_with_restored_values z saved)) (sym (get_or-set_same chip n new default_node l)) (subst (λ z. HasAtMostOneStatus z) (sym back) apart);
}

-- what the code showed the node matters only where it looks
shown_same : (chip : List NodeState) (n : ℕ) (seen : SeenNeighbours) (at : NodeRecord) (look : Bool) → reads_io_next at ≡ look → (look ≡ true → seen ≡ neighbour_states (records_of_chip chip) n) → own seen at ≡ own (neighbour_states (records_of_chip chip) n) at
shown_same chip n seen at true is given = ap (λ z. own z at) (given refl)
shown_same chip n seen at false is given = own_blind seen (neighbour_states (records_of_chip chip) n) at is

own_applied : (chip : List NodeState) (node : NodeId) (new : NodeState) (kind : OwnEventKind) (saved : List (NodePlace × ℕ)) (seen : SeenNeighbours) (look : Bool) → node.number < length chip
    → refusal_of_own_event (record_of_node (node_at chip node.number)) ≡ None → HasAtMostOneStatus (node_at chip node.number)
    → reads_io_next (record_of_node (node_at chip node.number)) ≡ look → (look ≡ true → seen ≡ neighbour_states (records_of_chip chip) node.number)
    → (kind, record_of_node new) ≡ own seen (record_of_node (node_at chip node.number)) → {changes : List NodeChange} → IsUndoLog changes (node_at chip node.number) new saved
    → IsEventApplied chip (event.Own node) (effect_of_own_event (record { kind = kind; look = look }) saved) (chip_with_node chip node.number new)
own_applied chip node new kind saved seen true l ready apart is given made saves = record {
  of_kind = tt;
  done = own_done chip node new kind ready (made ∙ shown_same chip node.number seen _ true is given);
  look = ap (λ z. reads_io_next z) (node_record_at-records_of_chip chip node.number) ∙ is;
  state_after_undo = restored_back chip node.number new saved l saves.state_after_undo;
  ready = own_ready chip node.number new saved l saves.state_after_undo saves.fit apart;
}
own_applied chip node new kind saved seen false l ready apart is given made saves = record {
  of_kind = tt;
  done = own_done chip node new kind ready (made ∙ shown_same chip node.number seen _ false is given);
  look = ap (λ z. reads_io_next z) (node_record_at-records_of_chip chip node.number) ∙ is;
  state_after_undo = restored_back chip node.number new saved l saves.state_after_undo;
  ready = own_ready chip node.number new saved l saves.state_after_undo saves.fit apart;
}

-- the same for a call that gets what the event carries out as an argument
pub due_applied : (chip : List NodeState) (node : NodeId) (at new : NodeState) (kind : OwnEventKind) (saved : List (NodePlace × ℕ)) (seen : SeenNeighbours) (due : NextAction) (look : Bool) → node.number < length chip → at ≡ node_at chip node.number
    → refusal_of_own_event (record_of_node (node_at chip node.number)) ≡ None → due ≡ next_action_of_node (record_of_node (node_at chip node.number))
    → is_look_action due (record_of_node (node_at chip node.number)) ≡ look → (look ≡ true → seen ≡ neighbour_states (records_of_chip chip) node.number)
    → (kind, record_of_node new) ≡ own seen (record_of_node at) → {changes : List NodeChange} → IsUndoLog changes at new saved
    → IsEventApplied chip (event.Own node) (effect_of_own_event (record { kind = kind; look = look }) saved) (chip_with_node chip node.number new)
due_applied chip node at new kind saved seen due look l is ready due_is computed_flow given made {changes} saves =
    own_applied chip node new kind saved seen look l ready (apart_from_ready (node_at chip node.number) ready) (looks_due due (record_of_node (node_at chip node.number)) look due_is computed_flow) given
    (subst (λ z. (kind, record_of_node new) ≡ own seen (record_of_node z)) is made) (subst (λ z. IsUndoLog changes z new saved) is saves)

-- the effect has whether the event looked
pub applied_cause : (old new : List NodeState) (event : Event) (effect : Effect) → IsEventApplied old event effect new → event_with_look_on_chip (records_of_chip old) event ≡ event_with_look_from_effect event effect
applied_cause old new event effect made = ap (λ z. made_cause event z) made.look
  where
    made_cause : Event → Bool → EventWithLook
    made_cause event look = record { event = event; look = look }

pub pass_applied : (chip : List NodeState) (writer reader : NodeId) (side : Side) (new_writer new_reader : NodeState) (word : ℕ) (gave took : List (NodePlace × ℕ))
    → writer.number < length chip → reader.number < length chip → writer.number ≢ reader.number
    → is_transfer_ready writer.number reader.number side (node_record_at (records_of_chip chip) writer.number).wait (node_record_at (records_of_chip chip) reader.number).wait ≡ true
    → word ≡ register_t (record_of_node (node_at chip writer.number))
    → record_of_node new_writer ≡ sent (record_of_node (node_at chip writer.number)) → {gives : List NodeChange} → IsUndoLog gives (node_at chip writer.number) new_writer gave → HasAtMostOneStatus (node_at chip writer.number)
    → record_of_node new_reader ≡ taken word (record_of_node (node_at chip reader.number)) → {takes : List NodeChange} → IsUndoLog takes (node_at chip reader.number) new_reader took → HasAtMostOneStatus (node_at chip reader.number)
    → IsEventApplied chip (event.Pass writer reader side) (effect.Pass word gave took) (chip_with_node (chip_with_node chip writer.number new_writer) reader.number new_reader)
pass_applied chip writer reader side x y word gave took lw lr other open_ told send_changes given apart_w take_changes taken_ apart_r =
    let w = writer.number in
    let r = reader.number in
    let both : List NodeState = chip_with_node (chip_with_node chip w x) r y in
    let read_w : node_record_at (records_of_chip chip) w ≡ record_of_node (node_at chip w) = node_record_at-records_of_chip chip w in
    let read_r : node_record_at (records_of_chip chip) r ≡ record_of_node (node_at chip r) = node_record_at-records_of_chip chip r in
    let first : node_at both w ≡ x = get_or-set_other (set chip w x) r w y default_node other ∙ get_or-set_same chip w x default_node lw in
    let lr2 : r < length (set chip w x) = subst (λ z. r < z) (sym (length-set chip w x)) lr in
    let second : node_at both r ≡ y = get_or-set_same (set chip w x) r y default_node lr2 in
    let back_r : chip_with_restored_node both r took ≡ chip_with_node chip w x =
    restored_back (set chip w x) r y took lr2 (taken_.state_after_undo ∙ sym (get_or-set_other chip w r x default_node (λ e. other (sym e)))) in
    record {
      of_kind = other;
      done =
          ap (λ z. some_if_allowed (refusal_unless_matched z) (chip_after_pass (records_of_chip chip) w r (node_record_at (records_of_chip chip) w) (node_record_at (records_of_chip chip) r))) open_
          ∙ ap (λ z. Some (chip_after_pass (records_of_chip chip) w r z (node_record_at (records_of_chip chip) r))) read_w
          ∙ ap (λ z. Some (chip_after_pass (records_of_chip chip) w r (record_of_node (node_at chip w)) z)) read_r
          ∙ ap (λ z. Some (set (set (records_of_chip chip) w (sent (record_of_node (node_at chip w)))) r (taken z (record_of_node (node_at chip r))), PassedWord z)) (sym told)
          ∙ ap (λ z. Some (set (set (records_of_chip chip) w z) r (taken word (record_of_node (node_at chip r))), PassedWord word)) (sym send_changes)
          ∙ ap (λ z. Some (set (set (records_of_chip chip) w (record_of_node x)) r z, PassedWord word)) (sym take_changes)
          ∙ ap (λ z. Some (set z r (record_of_node y), PassedWord word)) (sym (records_of_chip-chip_with_node chip w x))
          ∙ ap (λ z. Some (z, PassedWord word)) (sym (records_of_chip-chip_with_node (chip_with_node chip w x) r y));
      look = refl;
      state_after_undo = ap (λ z. chip_with_restored_node z w gave) back_r ∙ restored_back chip w x gave lw given.state_after_undo;
      ready = (
        other,
        record { fit = given.fit; apart = subst (λ z. HasAtMostOneStatus (node_with_restored_values z gave)) (sym first) (subst (λ z. HasAtMostOneStatus z) (sym given.state_after_undo) apart_w) },
        record { fit = taken_.fit; apart = subst (λ z. HasAtMostOneStatus (node_with_restored_values z took)) (sym second) (subst (λ z. HasAtMostOneStatus z) (sym taken_.state_after_undo) apart_r) },
      );
    }

-- the two ends of a pass are two nodes
pub open_apart : (writer reader : ℕ) (side : Side) (posted awaited : Wait) → is_transfer_ready writer reader side posted awaited ≡ true → writer ≢ reader
open_apart writer reader side posted awaited h e =
    let linked : equals_optional_number (neighbour_number writer side) reader ≡ true = (and_parts _ _ (and_parts _ _ h).0).0 in
    go (neighbour_number writer side) refl linked
  where
    go : (found : Option ℕ) → neighbour_number writer side ≡ found → equals_optional_number found reader ≡ true → ⊥
    go None at linked = cc
    go (Some m) at linked = neighbour_number-other writer m side at (eqb-true m reader linked ∙ sym e)
