-- Every event keeps the nodes of a chip steady.
use Rattle.std.specs.Prelude.{option_map, option_and_then}
use Rattle.std.proofs.Common.{◌≡◌, ℕ, ◌<◌, List, [], ◌∷◌, length, set, Option, Some, None, IfSome, inl, inr, refl, sym, subst, get_or-set_other, get_or-set_same}
use Rattle.std.proofs.lemmas.Bool.{cases_eq, cases_lt}
use Rattle.std.proofs.lemmas.List.{set_past}
use Rattle.ga_node.specs.Record.{NodeRecord, record_of_node, HasWaitFittingSlotAndStop}
use Rattle.ga_node.specs.Table.{own, sent}
use Rattle.ga_node.specs.declared.kind.EventRefusal.{EventRefusal}
use Rattle.ga_node.proofs.Steadiness.{own_steady, sent_steady, taken_steady}
use Rattle.ga_grid.specs.Chip.{default_node, node_record_at, HaveWaitsFittingSlotsAndStops}
use Rattle.ga_event.specs.declared.event.EventWithLook.{EventWithLook}
use Rattle.ga_event.specs.declared.event.Event.{Event}
use Rattle.ga_event.specs.declared.event.Event.TheVariants.{Own, Pass}
use Rattle.ga_event.specs.Apply.{MadeEventOutcome, neighbour_states, event_refusal, some_if_allowed, event_result, apply, event_with_look_on_chip, run_events, replay}

set_steady : (chip : List NodeRecord) (n : ℕ) (node : NodeRecord) → HaveWaitsFittingSlotsAndStops chip → HasWaitFittingSlotAndStop node → HaveWaitsFittingSlotsAndStops (set chip n node)
set_steady chip n node steady new = λ m within.
    elim (cases_eq m n) [
      | inl e ↦ here m within e
      | inr other ↦ subst HasWaitFittingSlotAndStop (sym (get_or-set_other chip n m node (record_of_node default_node) other)) (steady m within)
    ]
  where
    here : (m : ℕ) → m < 144 → m ≡ n → HasWaitFittingSlotAndStop (node_record_at (set chip n node) m)
    here m within e =
        elim (cases_lt n (length chip)) [
          | inl inside ↦ subst (λ k. HasWaitFittingSlotAndStop (node_record_at (set chip n node) k)) (sym e) (subst HasWaitFittingSlotAndStop (sym (get_or-set_same chip n node (record_of_node default_node) inside)) new)
          | inr past ↦ subst (λ c. HasWaitFittingSlotAndStop (node_record_at c m)) (sym (set_past chip n node past)) (steady m within)
        ]

after_steady : (chip : List NodeRecord) (event : Event) → HaveWaitsFittingSlotsAndStops chip → event_refusal chip event ≡ None → HaveWaitsFittingSlotsAndStops (event_result chip event).0
after_steady chip (Own node) steady ready =
    let n = node.number in
    set_steady chip n (own (neighbour_states chip n) (node_record_at chip n)).1 steady (own_steady (neighbour_states chip n) (node_record_at chip n) ready)
after_steady chip (Pass writer reader side) steady ready =
    let w = writer.number in
    let r = reader.number in
    set_steady (set chip w (sent (node_record_at chip w))) r _ (set_steady chip w _ steady (sent_steady (node_record_at chip w))) (taken_steady _ (node_record_at chip r) (steady r reader.in_range))

pub apply_steady : (chip : List NodeRecord) (event : Event) → HaveWaitsFittingSlotsAndStops chip → IfSome (apply chip event) (λ done. HaveWaitsFittingSlotsAndStops done.0)
apply_steady chip event steady = go (event_refusal chip event) refl
  where
    go : (why : Option EventRefusal) → event_refusal chip event ≡ why → IfSome (some_if_allowed why (event_result chip event)) (λ done. HaveWaitsFittingSlotsAndStops done.0)
    go None ready = after_steady chip event steady ready
    go (Some reason) refused = tt

-- a run with one more event at its front
abbrev with_first : EventWithLook × MadeEventOutcome → Option (List NodeRecord × List (EventWithLook × MadeEventOutcome)) → Option (List NodeRecord × List (EventWithLook × MadeEventOutcome))
with_first told rest = option_map (λ (done : List NodeRecord × List (EventWithLook × MadeEventOutcome)). (done.0, told ∷ done.1)) rest

pub run_steady : (chip : List NodeRecord) (events : List Event) → HaveWaitsFittingSlotsAndStops chip → IfSome (run_events chip events) (λ done. HaveWaitsFittingSlotsAndStops done.0)
run_steady chip [] steady = steady
run_steady chip (event ∷ events) steady = go (λ next h. run_steady next events h) (apply chip event) (apply_steady chip event steady)
  where
    more : (told : EventWithLook × MadeEventOutcome) (rest : Option (List NodeRecord × List (EventWithLook × MadeEventOutcome))) → IfSome rest (λ (done : List NodeRecord × List (EventWithLook × MadeEventOutcome)). HaveWaitsFittingSlotsAndStops done.0)
        → IfSome (with_first told rest) (λ (done : List NodeRecord × List (EventWithLook × MadeEventOutcome)). HaveWaitsFittingSlotsAndStops done.0)
    more told None h = tt
    more told (Some done) h = h

    go : ((next : List NodeRecord) → HaveWaitsFittingSlotsAndStops next → IfSome (run_events next events) (λ done. HaveWaitsFittingSlotsAndStops done.0))
        → (first : Option (List NodeRecord × MadeEventOutcome)) → IfSome first (λ done. HaveWaitsFittingSlotsAndStops done.0)
        → IfSome (option_and_then (λ (done : List NodeRecord × MadeEventOutcome). with_first (event_with_look_on_chip chip event, done.1) (run_events done.0 events)) first) (λ done. HaveWaitsFittingSlotsAndStops done.0)
    go others None h = tt
    go others (Some done) h = more (event_with_look_on_chip chip event, done.1) (run_events done.0 events) (others done.0 h)

pub replay_steady : (chip : List NodeRecord) (events : List Event) → HaveWaitsFittingSlotsAndStops chip → IfSome (replay chip events) HaveWaitsFittingSlotsAndStops
replay_steady chip events steady = go (run_events chip events) (run_steady chip events steady)
  where
    go : (done : Option (List NodeRecord × List (EventWithLook × MadeEventOutcome))) → IfSome done (λ d. HaveWaitsFittingSlotsAndStops d.0) → IfSome (option_map (λ (d : List NodeRecord × List (EventWithLook × MadeEventOutcome)). d.0) done) HaveWaitsFittingSlotsAndStops
    go None h = tt
    go (Some d) h = h
