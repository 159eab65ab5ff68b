-- A node's history is determined by its local history (`local_history`).
use Rattle.std.proofs.Common.{◌≡◌, ℕ, ◌+◌, Bool, true, false, cond, List, [], ◌∷◌, ◌++◌, map, Some, None, refl, sym, ◌∙◌, ap, arith, get_or}
use Rattle.std.specs.Prelude.{Option, option_to_list}
use Rattle.std.specs.List.{filter, flat_map}
use Rattle.std.proofs.lemmas.List.Sums.{sum_by-append}
use Rattle.std.proofs.lemmas.List.Concat.{flat_map-append}
use Rattle.ga_event.specs.declared.event.Event.{Event}
use Rattle.ga_event.specs.declared.event.Event.TheVariants as event
use Rattle.ga_event.specs.declared.event.EventWithLook.{EventWithLook}
use Rattle.ga_event.specs.Touches.{event_nodes, looked_at_nodes, nodes_observed_by_event, touches as event_touches}
use Rattle.ga_event.specs.Apply.{MadeEventOutcome, ExecutedOwn, PassedWord}
use Rattle.ga_causal.specs.Dependence.{event_with_look_touches_node}
use Rattle.ga_causal.specs.Equivalence.{local_history_with_outcomes}
use Rattle.ga_causal.specs.Steps.{step_counts_after_event}
use Rattle.ga_causal.proofs.Equivalences.{numbers}
use Rattle.ga_causal.proofs.Consistent.{told_after}
use Rattle.ga_event.specs.declared.made.MadeEvent.{MadeEvent}
use Rattle.ga_event.specs.declared.made.MadeEvent.TheVariants as made
use Rattle.ga_event.specs.Told.{count_steps, made_event_after, made_events_of_node_after, made_events_of_node}

-- an event as made, by its step numbers and its outcome
abbrev made_by : Event → List ℕ → MadeEventOutcome → Option MadeEvent
made_by (event.Own node) ns (ExecutedOwn kind) = Some (made.Own node (get_or ns 0 0) kind)
made_by (event.Pass w r side) ns (PassedWord word) = Some (made.Pass w (get_or ns 0 0) r (get_or ns 1 0) word)
made_by (event.Own node) ns (PassedWord word) = None
made_by (event.Pass w r side) ns (ExecutedOwn kind) = None

abbrev pub made_of : (EventWithLook × List ℕ) × MadeEventOutcome → List MadeEvent
made_of x = option_to_list (made_by x.0.0.event x.0.1 x.1)

made_here : (before : List Event) (s : ℕ → ℕ) → ((m : ℕ) → s m ≡ count_steps m before) → (e : Event) (others : List ℕ) (told : MadeEventOutcome) → made_event_after before e told ≡ made_by e (map (λ m. s m + 1) (event_nodes e ++ others)) told
made_here before s h (event.Own node) others (ExecutedOwn kind) = ap (λ (z : ℕ). Some (made.Own node (z + 1) kind)) (sym (h node.number))
made_here before s h (event.Pass w r side) others (PassedWord word) =
    ap (λ (z : ℕ). Some (made.Pass w (z + 1) r (count_steps r.number before + 1) word)) (sym (h w.number))
    ∙ ap (λ (z : ℕ). Some (made.Pass w (s w.number + 1) r (z + 1) word)) (sym (h r.number))
made_here before s h (event.Own node) others (PassedWord word) = refl
made_here before s h (event.Pass w r side) others (ExecutedOwn kind) = refl

made_numbered : (before : List Event) (s : ℕ → ℕ) → ((m : ℕ) → s m ≡ count_steps m before) → (c : EventWithLook) (told : MadeEventOutcome) → made_event_after before c.event told ≡ made_by c.event (numbers s c) told
unfolding nodes_observed_by_event
made_numbered before s h c told = made_here before s h c.event (looked_at_nodes c.event c.look) told

one_more : (before : List Event) (s : ℕ → ℕ) → ((m : ℕ) → s m ≡ count_steps m before) → (c : EventWithLook) (m : ℕ) → step_counts_after_event s c m ≡ count_steps m (before ++ c.event ∷ [])
one_more before s h c m = go (event_with_look_touches_node c m) (sum_by-append (λ (e : Event). cond (event_touches e m) 1 0) before (c.event ∷ []))
  where
    go : (b : Bool) → count_steps m (before ++ c.event ∷ []) ≡ count_steps m before + (0 + cond b 1 0) → cond b (s m + 1) (s m) ≡ count_steps m (before ++ c.event ∷ [])
    go true q = let p = h m in omega arith
    go false q = let p = h m in omega arith

joined : (b : Bool) (x : (EventWithLook × List ℕ) × MadeEventOutcome) (xs : List ((EventWithLook × List ℕ) × MadeEventOutcome)) (front back : List MadeEvent) → front ≡ made_of x → back ≡ flat_map made_of xs → cond b front [] ++ back ≡ flat_map made_of (cond b (x ∷ xs) xs)
joined true x xs front back p q = ap (λ z. z ++ back) p ∙ ap (λ z. made_of x ++ z) q
joined false x xs front back p q = q

mades_accounted : (n : ℕ) (before : List Event) (s : ℕ → ℕ) (xs : List (EventWithLook × MadeEventOutcome)) → ((m : ℕ) → s m ≡ count_steps m before) → made_events_of_node_after before xs n ≡ flat_map made_of (filter (λ x. event_with_look_touches_node x.0.0 n) (told_after s xs))
mades_accounted n before s [] h = refl
mades_accounted n before s (x ∷ xs) h =
    joined (event_with_look_touches_node x.0 n) ((x.0, numbers s x.0), x.1) (filter (λ y. event_with_look_touches_node y.0.0 n) (told_after (step_counts_after_event s x.0) xs)) (option_to_list (made_event_after before x.0.event x.1)) (made_events_of_node_after (before ++ x.0.event ∷ []) xs n)
    (ap option_to_list (made_numbered before s h x.0 x.1))
    (mades_accounted n (before ++ x.0.event ∷ []) (step_counts_after_event s x.0) xs (one_more before s h x.0))

-- a node's history is made of its local history with outcomes
pub history_accounted : (told : List (EventWithLook × MadeEventOutcome)) (n : ℕ) → made_events_of_node told n ≡ flat_map made_of (local_history_with_outcomes n told)
history_accounted told n = mades_accounted n [] (λ m. 0) told (λ m. refl)

pub history_begins : (told left : List (EventWithLook × MadeEventOutcome)) (n : ℕ) → (later : List ((EventWithLook × List ℕ) × MadeEventOutcome)) × (local_history_with_outcomes n told ≡ local_history_with_outcomes n left ++ later) → (later : List MadeEvent) × (made_events_of_node told n ≡ made_events_of_node left n ++ later)
history_begins told left n (later, q) = (
  flat_map made_of later,
  history_accounted told n ∙ ap (flat_map made_of) q ∙ flat_map-append made_of (local_history_with_outcomes n left) later ∙ ap (λ z. z ++ flat_map made_of later) (sym (history_accounted left n)),
)
