-- The lines of the kept events, and where they lead.
use Rattle.std.proofs.Common.{◌≡◌, ℕ, zero, suc, ◌+◌, ◌≤◌, List, [], ◌∷◌, ◌++◌, length, drop, take, Some, None, refl, sym, ap, ◌∙◌, arith}
use Rattle.std.specs.Prelude.{Option, IsSome, map, flat_map, option_and_then, slice_get}
use Rattle.std.proofs.lemmas.List.{length-map, drop_all}
use Rattle.ga_grid.specs.declared.node_id.NodeId.{NodeId}
use Rattle.ga_event.specs.declared.event.Event.{Event}
use Rattle.ga_event.specs.declared.event.Event.TheVariants as event
use Rattle.ga_event.specs.declared.event.EventWithLook.{EventWithLook}
use Rattle.ga_event.specs.declared.made.MadeEvent.{MadeEvent}
use Rattle.ga_event.specs.Apply.{MadeEventOutcome, ExecutedOwn, PassedWord, replay}
use Rattle.ga_event.specs.Told.{made_event_after, made_event_at_place, events_without_outcomes}
use Rattle.ga_lab.specs.Machine.{MachineState, machine_events_with_outcomes, machine_events_with_looks, own_or_writing_node}
use Rattle.ga_scheduler.proofs.WordCounts.{kept_told}
use Rattle.ga_explorer_text.specs.Saved.{step_command_line, saved_event_line, saved_session_lines, text_with_line_feed, saved_session_text}
use Rattle.ga_explorer_text.specs.inner.{acting_node_of_made_event, optional_event_line, line_of_event_with_look}
use Rattle.ga_explorer_text.proofs.Saying.{no_lines}

same_Some : {A : Type 0} (x y : A) → Some x ≡ Some y → x ≡ y
same_Some x y h = cc

-- the line of an event, and those after it
next_of : (events : List Event) (i : ℕ)
    → flat_map text_with_line_feed (drop i (map saved_event_line events)) ≡ optional_event_line (slice_get events i) ++ flat_map text_with_line_feed (drop (i + 1) (map saved_event_line events))
next_of [] zero = refl
next_of [] (suc i) = sym (ap (flat_map text_with_line_feed) (drop_all {X = List ℕ} (suc i + 1) [] (omega arith)))
next_of (e ∷ es) zero = refl
next_of (e ∷ es) (suc i) =
    next_of es i ∙ ap (λ (z : ℕ). optional_event_line (slice_get es i) ++ flat_map text_with_line_feed (drop z (map saved_event_line (e ∷ es)))) (let q : suc (i + 1) ≡ suc i + 1 = omega arith in q)

pub next_saved : (s : MachineState) (i : ℕ) (text : List ℕ) → text ≡ optional_event_line (slice_get s.kept i)
    → flat_map text_with_line_feed (drop i (saved_session_lines s)) ≡ text ++ flat_map text_with_line_feed (drop (i + 1) (saved_session_lines s))
next_saved s i text e = next_of s.kept i ∙ ap (λ (z : List ℕ). z ++ flat_map text_with_line_feed (drop (i + 1) (saved_session_lines s))) (sym e)

pub all_saved : (s : MachineState) (i : ℕ) → length s.kept ≤ i → flat_map text_with_line_feed (drop i (saved_session_lines s)) ≡ []
all_saved s i past = no_lines text_with_line_feed (saved_session_lines s) i (let q : length (map saved_event_line s.kept) ≡ length s.kept = length-map s.kept saved_event_line in omega arith)

-- the report at a place is of the event there
pub record ToldOf (events : List Event) (i : ℕ) (m : MadeEvent) : Type 0 where
  pub here : Event
  pub is : slice_get events i ≡ Some here
  pub actor : own_or_writing_node here ≡ acting_node_of_made_event m

actor_is : (before : List Event) (e : Event) (what : MadeEventOutcome) (m : MadeEvent) → Some m ≡ made_event_after before e what → own_or_writing_node e ≡ acting_node_of_made_event m
actor_is before (event.Own n) (ExecutedOwn kind) m h = ap acting_node_of_made_event (same_Some _ m (sym h))
actor_is before (event.Pass w r side) (PassedWord word) m h = ap acting_node_of_made_event (same_Some _ m (sym h))
actor_is before (event.Own n) (PassedWord word) m h = absurd (cc)
actor_is before (event.Pass w r side) (ExecutedOwn kind) m h = absurd (cc)

event_at : (told : List (EventWithLook × MadeEventOutcome)) (i : ℕ) (x : EventWithLook × MadeEventOutcome) → slice_get told i ≡ Some x → slice_get (events_without_outcomes told) i ≡ Some x.0.event
event_at [] i x h = absurd (cc)
event_at (y ∷ ys) zero x h = ap (λ (z : EventWithLook × MadeEventOutcome). Some z.0.event) (same_Some y x h)
event_at (y ∷ ys) (suc i) x h = event_at ys i x h

told_of : (told : List (EventWithLook × MadeEventOutcome)) (i : ℕ) (m : MadeEvent) → Some m ≡ made_event_at_place told i → ToldOf (events_without_outcomes told) i m
told_of told i m h = go (slice_get told i) refl h
  where
    go : (o : Option (EventWithLook × MadeEventOutcome)) → slice_get told i ≡ o → Some m ≡ option_and_then {U = MadeEvent} (λ x. made_event_after (events_without_outcomes (take i told)) x.0.event x.1) o
        → ToldOf (events_without_outcomes told) i m
    go None is k = absurd (cc)
    go (Some x) is k = record { here = x.0.event; is = event_at told i x is; actor = actor_is (events_without_outcomes (take i told)) x.0.event x.1 m k }

pub saved_at : (s : MachineState) (i : ℕ) (m : MadeEvent) (n : NodeId) → IsSome (replay s.load s.kept) → Some m ≡ made_event_at_place (machine_events_with_outcomes s) i → n ≡ acting_node_of_made_event m
    → text_with_line_feed (step_command_line n) ≡ optional_event_line (slice_get s.kept i)
saved_at s i m n some h actor =
    let t : ToldOf (events_without_outcomes (machine_events_with_outcomes s)) i m = told_of (machine_events_with_outcomes s) i m h in
    ap (λ z. text_with_line_feed (step_command_line z)) (actor ∙ sym t.actor)
    ∙ ap optional_event_line (sym t.is) ∙ ap (λ z. optional_event_line (slice_get z i)) (kept_told s some)

none_of : (events : List Event) (i : ℕ) → length events ≤ i → slice_get events i ≡ None
none_of [] i past = refl
none_of (e ∷ es) zero past = absurd (omega arith)
none_of (e ∷ es) (suc i) past = none_of es i (omega arith)

pub none_at : (s : MachineState) (i : ℕ) → length s.kept ≤ i → [] ≡ optional_event_line (slice_get s.kept i)
none_at s i past = ap optional_event_line (sym (none_of s.kept i past))

-- the lines of a list of events are those of their reports
lines_listed : (told : List (EventWithLook × MadeEventOutcome)) → flat_map line_of_event_with_look (map (λ (x : EventWithLook × MadeEventOutcome). x.0) told) ≡ flat_map text_with_line_feed (map saved_event_line (events_without_outcomes told))
lines_listed [] = refl
lines_listed (x ∷ xs) = ap (λ (z : List ℕ). text_with_line_feed (saved_event_line x.0.event) ++ z) (lines_listed xs)

pub listed_saved : (s : MachineState) (causes : List EventWithLook) → IsSome (replay s.load s.kept) → causes ≡ machine_events_with_looks s → flat_map line_of_event_with_look causes ≡ saved_session_text s
listed_saved s causes some h =
    ap (flat_map line_of_event_with_look) h ∙ lines_listed (machine_events_with_outcomes s) ∙ ap (λ z. flat_map text_with_line_feed (map saved_event_line z)) (kept_told s some)
