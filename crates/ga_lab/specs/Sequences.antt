-- Causal equivalence of sequences of calls (Danos and Krivine, "Reversible Communicating Systems", 2004: causal equivalence and causal
-- consistency): the least congruence in which a step and its undo are nothing, and two independent steps swap.
--
-- An undo here drops the newest event, whichever that is, so it follows only what leads to one list. A step or a rollback names
-- its node, and follows whatever is equivalent. The count of made events never falls; it only has to have room.
use Rattle.std.specs.Prelude.{◌≡◌, ℕ, zero, suc, ◌+◌, ◌-◌, ◌<◌, ◌^◌, not, IsOk, List, [], ◌∷◌, ◌++◌, length, map, Option, Some, None}
use Rattle.ga_grid.specs.declared.node_id.NodeId.{NodeId}
use Rattle.ga_event.specs.declared.event.Event.{Event}
use Rattle.ga_event.specs.declared.event.EventWithLook.{EventWithLook}
use Rattle.ga_event.specs.Apply.{event_refusal, event_with_look_on_chip}
use Rattle.ga_causal.specs.Dependence.{dependent_flags, unflagged_elements, HasNoLooks, position_of_step}
use Rattle.ga_causal.specs.Equivalence.{AreIndependentEvents}
use Rattle.ga_lab.specs.Calls.{MachineCall, step, undo, rewind, state_after_machine_call, state_after_machine_calls, AreEquivalentStates}
use Rattle.ga_lab.specs.Machine.{own_or_writing_node, MachineState, chip_of_machine, machine_events_with_looks, step_answer}

-- no call is an undo
abbrev pub HasNoUndo : List MachineCall → Type 0
HasNoUndo [] = Unit {0}
HasNoUndo (step n ∷ calls) = HasNoUndo calls
HasNoUndo (undo ∷ calls) = ⊥
HasNoUndo (rewind n k ∷ calls) = HasNoUndo calls

-- a number of undos
abbrev pub undo_calls : ℕ → List MachineCall
undo_calls zero = []
undo_calls (suc most) = undo ∷ undo_calls most

-- more events can be counted than there are calls
abbrev pub CanCountAllCalls : MachineState → List MachineCall → Type 0
CanCountAllCalls s calls = s.made + length calls < 2 ^ 64

-- whether the event is enabled
abbrev pub IsEventEnabled : MachineState → Event → Type 0
IsEventEnabled s event = event_refusal (chip_of_machine s) event ≡ None

-- From a machine on, the one sequence is made from the other by these rules.
pub data AreCausallyEquivalent : MachineState → List MachineCall → List MachineCall → Type 0 where
  itself : {s : MachineState} {xs : List MachineCall} → AreCausallyEquivalent s xs xs
  back : {s : MachineState} {xs ys : List MachineCall} → AreCausallyEquivalent s xs ys → AreCausallyEquivalent s ys xs
  chained : {s : MachineState} {xs ys zs : List MachineCall} → AreCausallyEquivalent s xs ys → AreCausallyEquivalent s ys zs → AreCausallyEquivalent s xs zs
  -- one call more at the beginning of both sequences
  before : {s : MachineState} {call : MachineCall} {xs ys : List MachineCall} → AreCausallyEquivalent (state_after_machine_call s call) xs ys → AreCausallyEquivalent s (call ∷ xs) (call ∷ ys)
  -- the same calls more at the end of both sequences: none is an undo, or (in `onward`) both sequences lead to the same history
  more : {s : MachineState} (xs ys zs : List MachineCall) → HasNoUndo zs → CanCountAllCalls s (xs ++ zs) → CanCountAllCalls s (ys ++ zs)
      → AreCausallyEquivalent s xs ys → AreCausallyEquivalent s (xs ++ zs) (ys ++ zs)
  onward : {s : MachineState} (xs ys zs : List MachineCall) → (state_after_machine_calls s xs).kept ≡ (state_after_machine_calls s ys).kept
      → CanCountAllCalls s (xs ++ zs) → CanCountAllCalls s (ys ++ zs) → AreCausallyEquivalent s xs ys → AreCausallyEquivalent s (xs ++ zs) (ys ++ zs)
  -- a refused call is nothing
  refused : {s : MachineState} {call : MachineCall} → state_after_machine_call s call ≡ s → AreCausallyEquivalent s (call ∷ []) []
  -- a pass is made by a step of either of its nodes
  either : {s : MachineState} {n m : NodeId} → state_after_machine_call s (step n) ≡ state_after_machine_call s (step m) → AreCausallyEquivalent s (step n ∷ []) (step m ∷ [])
  -- a step and its undo are nothing
  cancelled : {s : MachineState} {n : NodeId} → IsOk (step_answer s n) → AreCausallyEquivalent s (step n ∷ undo ∷ []) []
  -- two independent steps swap
  turned : {s : MachineState} {e f : Event} → length s.kept + 1 < s.limit → s.made + 1 < 2 ^ 64 - 1 → IsEventEnabled s e → IsEventEnabled s f
      → AreIndependentEvents (event_with_look_on_chip (chip_of_machine s) e) (event_with_look_on_chip (chip_of_machine s) f)
      → AreCausallyEquivalent s (step (own_or_writing_node e) ∷ step (own_or_writing_node f) ∷ []) (step (own_or_writing_node f) ∷ step (own_or_writing_node e) ∷ [])
  -- a rollback is undos, where these lead to the same but for the order of independent events
  rolled : {s : MachineState} {n k : ℕ} (most : ℕ) → AreEquivalentStates (state_after_machine_call s (rewind n k)) (state_after_machine_calls s (undo_calls most))
      → AreCausallyEquivalent s (rewind n k ∷ []) (undo_calls most)

-- the events that a rollback to the step at this place takes
abbrev pub removed_events : List EventWithLook → Option ℕ → List EventWithLook
removed_events events None = []
removed_events events (Some place) = unflagged_elements (map not (dependent_flags events place)) events

-- no rollback among the calls takes a look
abbrev pub RemovesNoLook : MachineState → List MachineCall → Type 0
RemovesNoLook s [] = Unit {0}
RemovesNoLook s (step n ∷ calls) = RemovesNoLook (state_after_machine_call s (step n)) calls
RemovesNoLook s (undo ∷ calls) = RemovesNoLook (state_after_machine_call s undo) calls
RemovesNoLook s (rewind n k ∷ calls) =
    HasNoLooks (removed_events (machine_events_with_looks s) (position_of_step (machine_events_with_looks s) n k)) × RemovesNoLook (state_after_machine_call s (rewind n k)) calls
