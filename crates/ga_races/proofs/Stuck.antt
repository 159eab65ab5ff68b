-- Deadlocked nodes.
use Rattle.std.proofs.Common.{◌≡◌, ℕ, ◌==◌, Bool, true, false, ◌&&◌, ◌||◌, List, [], ◌∷◌, Some, None, true≢false, refl, sym, ◌∙◌, ap, subst, IfSome}
use Rattle.std.specs.Prelude.{Option, option_map, option_and_then}
use Rattle.std.proofs.lemmas.Bool.{or_left, or_right, and_parts, ne_eqb, or_from}
use Rattle.ga_ports.specs.declared.side.Side.{Side}
use Rattle.ga_node.specs.Record.{NodeRecord}
use Rattle.ga_node.specs.Table.{refusal_of_own_event}
use Rattle.ga_node.specs.declared.kind.EventRefusal.{EventRefusal}
use Rattle.ga_grid.specs.declared.node_id.NodeId.{NodeId}
use Rattle.ga_grid.specs.Grid.{neighbour_number}
use Rattle.ga_grid.specs.Chip.{node_record_at}
use Rattle.ga_grid.proofs.NodeIds.{neighbour_number-back}
use Rattle.ga_event.specs.declared.event.Event.{Event}
use Rattle.ga_event.specs.declared.event.Event.TheVariants.{Own, Pass}
use Rattle.ga_event.specs.declared.event.EventWithLook.{EventWithLook}
use Rattle.ga_event.specs.Apply.{MadeEventOutcome, event_with_look_on_chip, waits_to_write_side, waits_to_read_side, equals_optional_number, event_refusal, some_if_allowed, event_result, run_events, replay, AgreeOutsideMarks}
use Rattle.ga_event.specs.Touches.{touches}
use Rattle.ga_event.proofs.Locality.{apply_keeps}
use Rattle.ga_races.specs.Acts.{AreDeadlocked}
use Rattle.ga_races.proofs.Conflicts.{matched_of as matched, number_of}

-- the ends of an enabled pass
record Open (chip : List NodeRecord) (w r : NodeId) (side : Side) : Type 0 where
  near : neighbour_number w.number side ≡ Some r.number
  writes : waits_to_write_side (node_record_at chip w.number).wait side ≡ true
  reads : waits_to_read_side (node_record_at chip r.number).wait side ≡ true

opened : (chip : List NodeRecord) (w r : NodeId) (side : Side) → event_refusal chip (Pass w r side) ≡ None → Open chip w r side
opened chip w r side can =
    let all = and_parts (equals_optional_number (neighbour_number w.number side) r.number && waits_to_write_side (node_record_at chip w.number).wait side) (waits_to_read_side (node_record_at chip r.number).wait side) (matched _ can) in
    let ends = and_parts (equals_optional_number (neighbour_number w.number side) r.number) (waits_to_write_side (node_record_at chip w.number).wait side) all.0 in
    record { near = number_of (neighbour_number w.number side) r.number ends.0; writes = ends.1; reads = all.1 }

-- an enabled event touches none of them
not_passed : (chip : List NodeRecord) (marks : ℕ → Bool) (w r : NodeId) (side : Side) → AreDeadlocked chip marks → Open chip w r side → marks w.number ≡ true → marks r.number ≡ true → ⊥
not_passed chip marks w r side s o mw mr = true≢false (sym o.reads ∙ s.apart w.number r.number side mw mr o.near o.writes)

writer_free : (chip : List NodeRecord) (marks : ℕ → Bool) (w r : NodeId) (side : Side) → AreDeadlocked chip marks → Open chip w r side → marks w.number ≡ true → ⊥
writer_free chip marks w r side s o m =
    not_passed chip marks w r side s o m
    (s.inside w.number r.number side m (or_left (waits_to_write_side (node_record_at chip w.number).wait side) (waits_to_read_side (node_record_at chip w.number).wait side) o.writes) o.near)

reader_free : (chip : List NodeRecord) (marks : ℕ → Bool) (w r : NodeId) (side : Side) → AreDeadlocked chip marks → Open chip w r side → marks r.number ≡ true → ⊥
reader_free chip marks w r side s o m =
    not_passed chip marks w r side s o
    (s.inside r.number w.number side m (or_right (waits_to_write_side (node_record_at chip r.number).wait side) (waits_to_read_side (node_record_at chip r.number).wait side) o.reads)
    (neighbour_number-back w.number r.number side w.in_range o.near)) m

apart_from : (a n : ℕ) → (n ≡ a → ⊥) → (a == n) ≡ false
apart_from a n ne = ne_eqb a n (λ e. ne (sym e))

untouched : (chip : List NodeRecord) (marks : ℕ → Bool) (e : Event) (n : ℕ) → AreDeadlocked chip marks → event_refusal chip e ≡ None → marks n ≡ true → touches e n ≡ false
untouched chip marks (Own k) n s can m =
    or_from (k.number == n) false (apart_from k.number n (λ e. s.halted n m (ap (λ z. refusal_of_own_event (node_record_at chip z)) e ∙ can))) refl
untouched chip marks (Pass w r side) n s can m =
    or_from (w.number == n) ((r.number == n) || false)
    (apart_from w.number n (λ e. writer_free chip marks w r side s (opened chip w r side can) (subst (λ z. marks z ≡ true) e m)))
    (or_from (r.number == n) false (apart_from r.number n (λ e. reader_free chip marks w r side s (opened chip w r side can) (subst (λ z. marks z ≡ true) e m))) refl)

-- and they are deadlocked on each chip on which their records are the same
abbrev Stand : List NodeRecord → List NodeRecord → (ℕ → Bool) → Type 0
Stand c d marks = (n : ℕ) → marks n ≡ true → node_record_at c n ≡ node_record_at d n

stuck_on : (c d : List NodeRecord) (marks : ℕ → Bool) → AreDeadlocked c marks → Stand c d marks → AreDeadlocked d marks
stuck_on c d marks s same = record {
  halted = λ n m h. s.halted n m (ap refusal_of_own_event (same n m) ∙ h);
  inside = λ n k side m h near. s.inside n k side m (ap (λ (z : NodeRecord). waits_to_write_side z.wait side || waits_to_read_side z.wait side) (same n m) ∙ h) near;
  apart = λ n k side m mk near h. ap (λ (z : NodeRecord). waits_to_read_side z.wait side) (sym (same k mk)) ∙ s.apart n k side m mk near (ap (λ (z : NodeRecord). waits_to_write_side z.wait side) (same n m) ∙ h);
}

stand_after : (c : List NodeRecord) (marks : ℕ → Bool) (e : Event) → AreDeadlocked c marks → event_refusal c e ≡ None → Stand c (event_result c e).0 marks
stand_after c marks e s can n m =
    let a : AgreeOutsideMarks (touches e) c (event_result c e).0 = subst (λ o. IfSome (some_if_allowed o (event_result c e)) (λ done. AgreeOutsideMarks (touches e) c done.0)) can (apply_keeps c e) in
    a.same n (untouched c marks e n s can m)

pub stays : (c : List NodeRecord) (events : List Event) (marks : ℕ → Bool) → AreDeadlocked c marks → IfSome (replay c events) (λ later. Stand c later marks)
stays c [] marks s = λ n m. refl
stays c (e ∷ es) marks s = go (event_refusal c e) refl
    (λ can. stays (event_result c e).0 es marks (stuck_on c (event_result c e).0 marks s (stand_after c marks e s can)))
  where
    more : (first : List NodeRecord × MadeEventOutcome) (o : Option (List NodeRecord × List (EventWithLook × MadeEventOutcome))) → Stand c first.0 marks
        → IfSome (option_map {U = List NodeRecord} (λ done. done.0) o) (λ later. Stand first.0 later marks)
        → IfSome (option_map {U = List NodeRecord} (λ done. done.0) (option_map {U = List NodeRecord × List (EventWithLook × MadeEventOutcome)} (λ rest. (rest.0, (event_with_look_on_chip c e, first.1) ∷ rest.1)) o)) (λ later. Stand c later marks)
    more first None on h = tt
    more first (Some rest) on h = λ n m. on n m ∙ h n m

    go : (o : Option EventRefusal) → event_refusal c e ≡ o
        → (event_refusal c e ≡ None → IfSome (replay (event_result c e).0 es) (λ later. Stand (event_result c e).0 later marks))
        → IfSome (option_map {U = List NodeRecord} (λ done. done.0) (option_and_then (λ first. option_map {U = List NodeRecord × List (EventWithLook × MadeEventOutcome)} (λ rest. (rest.0, (event_with_look_on_chip c e, first.1) ∷ rest.1)) (run_events first.0 es)) (some_if_allowed o (event_result c e)))) (λ later. Stand c later marks)
    go None is later = more (event_result c e) (run_events (event_result c e).0 es) (stand_after c marks e s is) (later is)
    go (Some why) is later = tt
