-- Each listed step is a cause of the queried one.
use Rattle.std.proofs.Common.{◌≡◌, ℕ, zero, suc, ◌+◌, ◌==◌, Bool, true, false, ◌||◌, cond, List, [], ◌∷◌, ◌++◌, Some, None, refl, sym, ◌∙◌, ap, subst, arith, ◌≤◌, ◌-◌, map, inl, inr}
use Rattle.std.specs.Prelude.{Option, option_map, option_and_then, option_to_list, unwrap_or, IsSome}
use Rattle.std.specs.List.{slice_get, All}
use Rattle.std.proofs.lemmas.Option.{same_Some}
use Rattle.std.proofs.lemmas.Bool.{eq-eqb}
use Rattle.std.proofs.lemmas.List.Sums.{sum_by-append}
use Rattle.ga_node.specs.Record.{NodeRecord}
use Rattle.ga_node.specs.declared.kind.EventRefusal.{EventRefusal}
use Rattle.ga_grid.specs.declared.node_id.NodeId.{NodeId}
use Rattle.ga_event.specs.declared.event.Event.{Event}
use Rattle.ga_event.specs.declared.event.Event.TheVariants as event
use Rattle.ga_event.specs.declared.event.EventWithLook.{EventWithLook}
use Rattle.ga_event.specs.declared.made.MadeEvent.{MadeEvent}
use Rattle.ga_event.specs.declared.made.MadeEvent.TheVariants as made
use Rattle.ga_event.specs.Apply.{MadeEventOutcome, ExecutedOwn, PassedWord, event_result, event_refusal, event_with_look_on_chip, some_if_allowed, run_events}
use Rattle.ga_event.specs.Touches.{touches}
use Rattle.ga_event.specs.Told.{events_with_look_without_outcomes, count_steps, made_event_after, made_events_of_node_after}
use Rattle.ga_causal.specs.Dependence.{event_with_look_touches_node, position_of_step, DependsOn, itself, through}
use Rattle.ga_causal.proofs.LocalHistories.{place-first, place-touched, place-other}
use Rattle.ga_lab.specs.Machine.{MachineState, run_events_with_outcomes, machine_events_with_outcomes, machine_events_with_looks, history_of_node}
use Rattle.ga_provenance.proofs.Ran.{empty_some}
use Rattle.ga_provenance.specs.declared.asked.QueriedPart.{QueriedPart}
use Rattle.ga_provenance.specs.declared.asked.QueriedPart.TheVariants.{PartAfter, PartBefore, Nothing}
use Rattle.ga_provenance.specs.declared.value.PartValue.{PartValue}
use Rattle.ga_provenance.specs.Origins.{node_after_steps, value_made_by_step, value_flow_at_step, moved_source_part_at, part_to_list_for_value_flow, origin_after_steps, origin_of_value}
use Rattle.ga_provenance.specs.Asked.{queried_event_part, queried_part_value, queried_value}
use Rattle.std.proofs.lemmas.List.Elements.{All-nil, All-cons, All-map, All-weaker, All-contains}
use Rattle.ga_causal.proofs.Places.{stands_exact, older_step}
use Rattle.ga_event.specs.declared.flow.part.NodePart.{NodePart}
use Rattle.ga_event.specs.declared.flow.part.NodePart.TheVariants.{Data, Return, Ram, Rom, A, B, P, I, Io, Carry, Slot, Wait, Stop, OutsideWord}
use Rattle.ga_event.specs.Flow.{ValueFlow, CopiedFromPart, From, top_data_part}
use Rattle.ga_provenance.specs.Sources.{source_of_sent_word, source_values_of_flow, value_sources_after, value_sources, IsCauseOfValue, IsLoadedOrCauseOfValue}
use Rattle.ga_provenance.specs.Lines.{source_origins, IsProvenance, origin, source}

-- ---- a node's step that is a pass is a step of the writer too

-- the outcome of an event is of its kind
is_fit : Event → MadeEventOutcome → Bool
is_fit (event.Own node) (ExecutedOwn kind) = true
is_fit (event.Own node) (PassedWord word) = false
is_fit (event.Pass w r side) (ExecutedOwn kind) = false
is_fit (event.Pass w r side) (PassedWord word) = true

abbrev AreFit : List (EventWithLook × MadeEventOutcome) → Type 0
AreFit [] = Unit {0}
AreFit (x ∷ xs) = (is_fit x.0.event x.1 ≡ true) × AreFit xs

fits : (chip : List NodeRecord) (e : Event) → is_fit e (event_result chip e).1 ≡ true
unfolding is_fit
fits chip (event.Own node) = refl
fits chip (event.Pass w r side) = refl

-- of all events of a list that can be made
run_fits : (chip : List NodeRecord) (events : List Event) (done : List NodeRecord × List (EventWithLook × MadeEventOutcome)) → run_events chip events ≡ Some done → AreFit done.1
run_fits chip [] done e = subst AreFit (ap (λ (z : List NodeRecord × List (EventWithLook × MadeEventOutcome)). z.1) (same_Some _ _ e)) tt
run_fits chip (x ∷ xs) done e = at_first (event_refusal chip x) (λ rest is. run_fits (event_result chip x).0 xs rest is) (fits chip x) e
  where
    at_rest : (r : Option (List NodeRecord × List (EventWithLook × MadeEventOutcome))) → ((rest : List NodeRecord × List (EventWithLook × MadeEventOutcome)) → r ≡ Some rest → AreFit rest.1) → is_fit x (event_result chip x).1 ≡ true
        → option_map {U = List NodeRecord × List (EventWithLook × MadeEventOutcome)} (λ rest. (rest.0, (event_with_look_on_chip chip x, (event_result chip x).1) ∷ rest.1)) r ≡ Some done → AreFit done.1
    at_rest None f fit h = absurd (cc)
    at_rest (Some rest) f fit h = subst AreFit (ap (λ (z : List NodeRecord × List (EventWithLook × MadeEventOutcome)). z.1) (same_Some _ _ h)) (fit, f rest refl)

    at_first : (why : Option EventRefusal) → ((rest : List NodeRecord × List (EventWithLook × MadeEventOutcome)) → run_events (event_result chip x).0 xs ≡ Some rest → AreFit rest.1) → is_fit x (event_result chip x).1 ≡ true
        → option_and_then {U = List NodeRecord × List (EventWithLook × MadeEventOutcome)} (λ first. option_map {U = List NodeRecord × List (EventWithLook × MadeEventOutcome)} (λ rest. (rest.0, (event_with_look_on_chip chip x, first.1) ∷ rest.1)) (run_events first.0 xs)) (some_if_allowed why (event_result chip x)) ≡ Some done
        → AreFit done.1
    at_first None f fit h = at_rest (run_events (event_result chip x).0 xs) f fit h
    at_first (Some why) f fit h = absurd (cc)

told_fits : (s : MachineState) → AreFit (machine_events_with_outcomes s)
told_fits s = go (run_events s.load s.kept) (λ done is. run_fits s.load s.kept done is)
  where
    go : (o : Option (List NodeRecord × List (EventWithLook × MadeEventOutcome))) → ((done : List NodeRecord × List (EventWithLook × MadeEventOutcome)) → o ≡ Some done → AreFit done.1) → AreFit (run_events_with_outcomes o)
    go None f = tt
    go (Some done) f = f done refl

-- ---- the place of a step that is a pass

-- step k + 1 of a node after some events is step i of the writer
record IsSent (causes : List EventWithLook) (before : List Event) (n k w i : ℕ) : Type 0 where
  place : ℕ
  steps : ℕ
  number : i ≡ count_steps w before + suc steps
  own : position_of_step causes n (suc k) ≡ Some place
  writers : position_of_step causes w (suc steps) ≡ Some place

-- a step of a node after one more event
own_later : (c : EventWithLook) (cs : List EventWithLook) (n k place : ℕ) → event_with_look_touches_node c n ≡ true → position_of_step cs n (suc k) ≡ Some place → position_of_step (c ∷ cs) n (suc (suc k)) ≡ Some (suc place)
own_later c cs n k place touched is = place-touched c cs n k touched ∙ ap (option_map suc) is

own_past : (c : EventWithLook) (cs : List EventWithLook) (n k place : ℕ) → event_with_look_touches_node c n ≡ false → position_of_step cs n (suc k) ≡ Some place → position_of_step (c ∷ cs) n (suc k) ≡ Some (suc place)
own_past c cs n k place other is = place-other c cs n k other ∙ ap (option_map suc) is

one_more : (before : List Event) (e : Event) (w : ℕ) → count_steps w (before ++ e ∷ []) ≡ count_steps w before + (0 + cond (touches e w) 1 0)
one_more before e w = sum_by-append (λ (x : Event). cond (touches x w) 1 0) before (e ∷ [])

-- of the writer, whose steps may be one more
later : (before : List Event) (c : EventWithLook) (cs : List EventWithLook) (n k j w i : ℕ) → IsSent cs (before ++ c.event ∷ []) n k w i
    → ((place : ℕ) → position_of_step cs n (suc k) ≡ Some place → position_of_step (c ∷ cs) n (suc j) ≡ Some (suc place)) → IsSent (c ∷ cs) before n j w i
later before c cs n k j w i sent on = go (event_with_look_touches_node c w) refl (one_more before c.event w)
  where
    go : (b : Bool) → event_with_look_touches_node c w ≡ b → count_steps w (before ++ c.event ∷ []) ≡ count_steps w before + (0 + cond b 1 0) → IsSent (c ∷ cs) before n j w i
    go true is steps = record {
      place = suc sent.place;
      steps = suc sent.steps;
      number = let q = sent.number in omega (arith, q, steps);
      own = on sent.place sent.own;
      writers = own_later c cs w sent.steps sent.place is sent.writers;
    }
    go false is steps = record {
      place = suc sent.place;
      steps = sent.steps;
      number = let q = sent.number in omega (arith, q, steps);
      own = on sent.place sent.own;
      writers = own_past c cs w sent.steps sent.place is sent.writers;
    }

touches_writer : (w r : ℕ) → ((w == w) || ((r == w) || false)) ≡ true
touches_writer w r = ap (λ b. b || ((r == w) || false)) (eq-eqb w w refl)

-- the first of some events, and those after it
first_told : (before : List Event) (c : EventWithLook) (cs : List EventWithLook) (t : MadeEventOutcome) (rest : List MadeEvent) (n k : ℕ) (w r : NodeId) (i j word : ℕ) (b : Bool) → event_with_look_touches_node c n ≡ b → is_fit c.event t ≡ true
    → ((h : ℕ) → slice_get rest h ≡ Some (made.Pass w i r j word) → IsSent cs (before ++ c.event ∷ []) n h w.number i)
    → slice_get ((cond b (option_to_list (made_event_after before c.event t)) []) ++ rest) k ≡ Some (made.Pass w i r j word) → IsSent (c ∷ cs) before n k w.number i
unfolding is_fit
first_told before c cs t rest n k w r i j word false other fit event_result h =
    later before c cs n k k w.number i (event_result k h) (λ place is. own_past c cs n k place other is)
first_told before c cs t rest n k w r i j word true touched fit event_result h = go c.event refl t fit k h
  where
    go : (e : Event) → c.event ≡ e → (t : MadeEventOutcome) → is_fit e t ≡ true → (k : ℕ) → slice_get (option_to_list (made_event_after before e t) ++ rest) k ≡ Some (made.Pass w i r j word) → IsSent (c ∷ cs) before n k w.number i
    go (event.Own node) is (ExecutedOwn kind) fit zero h = absurd (cc)
    go (event.Own node) is (ExecutedOwn kind) fit (suc k) h = later before c cs n k (suc k) w.number i (event_result k h) (λ place at. own_later c cs n k place touched at)
    go (event.Own node) is (PassedWord other) fit k h = absurd (cc)
    go (event.Pass from to side) is (ExecutedOwn kind) fit k h = absurd (cc)
    go (event.Pass from to side) is (PassedWord other) fit zero h =
        let writer : from ≡ w = cc in
        let number : count_steps from.number before + 1 ≡ i = cc in
        record {
          place = 0;
          steps = 0;
          number = sym number ∙ ap (λ (z : NodeId). count_steps z.number before + 1) writer;
          own = place-first c cs n touched;
          writers = place-first c cs w.number (ap (λ z. touches z w.number) is ∙ ap (λ (z : NodeId). touches (event.Pass z to side) w.number) writer ∙ touches_writer w.number to.number);
        }
    go (event.Pass from to side) is (PassedWord other) fit (suc k) h = later before c cs n k (suc k) w.number i (event_result k h) (λ place at. own_later c cs n k place touched at)

sent_behind : (before : List Event) (xs : List (EventWithLook × MadeEventOutcome)) (n k : ℕ) (w r : NodeId) (i j word : ℕ) → AreFit xs → slice_get (made_events_of_node_after before xs n) k ≡ Some (made.Pass w i r j word)
    → IsSent (events_with_look_without_outcomes xs) before n k w.number i
sent_behind before [] n k w r i j word fit h = absurd (empty_some k (made.Pass w i r j word) h)
sent_behind before (x ∷ xs) n k w r i j word fit h =
    first_told before x.0 (events_with_look_without_outcomes xs) x.1 (made_events_of_node_after (before ++ x.0.event ∷ []) xs n) n k w r i j word (touches x.0.event n) refl fit.0
    (λ g at. sent_behind (before ++ x.0.event ∷ []) xs n g w r i j word fit.1 at) h

-- a step that is a pass is step i of the writer, and i isn't 0
pub record IsOne (s : MachineState) (n k w i : ℕ) : Type 0 where
  pub place : ℕ
  pub before : ℕ
  pub number : i ≡ suc before
  pub own : position_of_step (machine_events_with_looks s) n (suc k) ≡ Some place
  pub writers : position_of_step (machine_events_with_looks s) w i ≡ Some place

pub sent_is : (s : MachineState) (n k : ℕ) (w r : NodeId) (i j word : ℕ) → slice_get (history_of_node s n) k ≡ Some (made.Pass w i r j word) → IsOne s n k w.number i
sent_is s n k w r i j word h =
    let sent : IsSent (machine_events_with_looks s) [] n k w.number i = sent_behind [] (machine_events_with_outcomes s) n k w r i j word (told_fits s) h in
    let is : i ≡ suc sent.steps = (let q = sent.number in omega (arith, q)) in
    record { place = sent.place; before = sent.steps; number = is; own = sent.own; writers = ap (position_of_step (machine_events_with_looks s) w.number) is ∙ sent.writers }

-- ---- each listed step is a cause of the queried one

-- ---- the value that a step selects

pub asked_here : (s : MachineState) (node : NodeId) (step k : ℕ) (told : MadeEvent) (before : NodeRecord) (asked : QueriedPart) (value : Option PartValue) → suc k ≡ step
    → Some told ≡ slice_get (history_of_node s node.number) k → before ≡ node_after_steps s node.number k → asked ≡ queried_event_part told before node.number → value ≡ queried_part_value node k asked
    → value ≡ queried_value s node step
asked_here s node step k told before asked value is tells stood means e =
    e
    ∙ ap (queried_part_value node k) (means ∙ ap (λ (n : NodeRecord). queried_event_part told n node.number) stood)
    ∙ ap (option_and_then (λ (t : MadeEvent). queried_part_value node k (queried_event_part t (node_after_steps s node.number k) node.number))) tells
    ∙ ap (queried_value s node) is

-- it was in the node, after the step or before it
at_or_before : (node : NodeId) (k : ℕ) (asked : QueriedPart) (value : PartValue) → queried_part_value node k asked ≡ Some value → (value.node ≡ node) × (value.step ≤ suc k)
at_or_before node k (PartAfter at) value e =
    let is = same_Some (value_made_by_step node (suc k) at) value e in
    (sym (ap (λ (z : PartValue). z.node) is), let t : suc k ≡ value.step = ap (λ (z : PartValue). z.step) is in omega (arith, t))
at_or_before node k (PartBefore at) value e =
    let is = same_Some (value_made_by_step node k at) value e in
    (sym (ap (λ (z : PartValue). z.node) is), let t : k ≡ value.step = ap (λ (z : PartValue). z.step) is in omega (arith, t))
at_or_before node k Nothing value e = absurd (cc)

pub asked_near : (s : MachineState) (node : NodeId) (step : ℕ) (value : PartValue) → queried_value s node step ≡ Some value → (value.node ≡ node) × (value.step ≤ step)
asked_near s node zero value e = absurd (cc)
asked_near s node (suc k) value e = go (slice_get (history_of_node s node.number) k) e
  where
    go : (o : Option MadeEvent) → option_and_then (λ (told : MadeEvent). queried_part_value node k (queried_event_part told (node_after_steps s node.number k) node.number)) o ≡ Some value
        → (value.node ≡ node) × (value.step ≤ suc k)
    go None h = absurd (cc)
    go (Some told) h = at_or_before node k (queried_event_part told (node_after_steps s node.number k) node.number) value h

joined : (events : List EventWithLook) (a b c : ℕ) → DependsOn events a b → DependsOn events b c → DependsOn events a c
joined events a b c first itself = first
joined events a b c first (through {middle} d s) = through (joined events a b middle first d) s

found : (o : Option ℕ) → IsSome o → (q : ℕ) × (o ≡ Some q)
found None is = absurd (cc)
found (Some q) is = (q, refl)

-- an earlier step of the node
pub earlier_step : (s : MachineState) (asked value other : PartValue) (k : ℕ) → other.step ≡ suc k → other.node ≡ value.node → other.step ≤ value.step → IsCauseOfValue s value asked → IsCauseOfValue s other asked
earlier_step s asked value other k is node less cause =
    let stands = (stands_exact (machine_events_with_looks s) value.node.number value.step).0 (subst IsSome (sym cause.cause_place) refl) in
    let at : (q : ℕ) × (position_of_step (machine_events_with_looks s) value.node.number other.step ≡ Some q) =
    found (position_of_step (machine_events_with_looks s) value.node.number other.step) ((stands_exact (machine_events_with_looks s) value.node.number other.step).1 (omega (arith, is), omega (arith, less, stands.1))) in
    record {
      cause = at.0;
      effect = cause.effect;
      cause_place = ap (λ (z : NodeId). position_of_step (machine_events_with_looks s) z.number other.step) node ∙ at.1;
      effect_place = cause.effect_place;
      depends = joined (machine_events_with_looks s) at.0 cause.cause cause.effect (older_step (machine_events_with_looks s) value.node.number other.step value.step at.0 cause.cause at.1 cause.cause_place less) cause.depends;
    }

pub earlier : (s : MachineState) (asked value other : PartValue) → other.node ≡ value.node → other.step ≤ value.step → IsLoadedOrCauseOfValue s asked value → IsLoadedOrCauseOfValue s asked other
earlier s asked value other node less named = go other.step refl named
  where
    go : (k : ℕ) → other.step ≡ k → IsLoadedOrCauseOfValue s asked value → IsLoadedOrCauseOfValue s asked other
    go zero is named = inl is
    go (suc k) is (inl none) = absurd (omega (arith, is, less, none))
    go (suc k) is (inr cause) = inr (earlier_step s asked value other k is node less cause)

-- where a value was made
pub made_before : (s : MachineState) (node : NodeId) (k : ℕ) (at : NodePart) → ((origin_after_steps s node k at).node ≡ node) × ((origin_after_steps s node k at).step ≤ k)
made_before s node zero at = (refl, omega arith)
made_before s node (suc k) at = go (moved_source_part_at s node.number k at) (made_before s node k)
  where
    go : (o : Option NodePart) → ((from : NodePart) → ((origin_after_steps s node k from).node ≡ node) × ((origin_after_steps s node k from).step ≤ k))
        → let value : PartValue = unwrap_or (option_map (origin_after_steps s node k) o) (value_made_by_step node (suc k) (part_to_list_for_value_flow (value_flow_at_step s node.number k at) at)) in (value.node ≡ node) × (value.step ≤ suc k)
    go None before = (refl, omega arith)
    go (Some from) before = let b = before from in (b.0, omega (arith, b.1))

pub named_origin : (s : MachineState) (asked value : PartValue) → IsLoadedOrCauseOfValue s asked value → IsLoadedOrCauseOfValue s asked (origin_of_value s value)
named_origin s asked value named =
    let before = made_before s value.node value.step value.part in earlier s asked value (origin_of_value s value) before.0 before.1 named

-- what it came from: parts of the node, and T of the writer
named_parts : (s : MachineState) (asked value : PartValue) (k : ℕ) → k ≤ value.step → IsLoadedOrCauseOfValue s asked value → (parts : List NodePart) → All (IsLoadedOrCauseOfValue s asked) (map (value_made_by_step value.node k) parts)
named_parts s asked value k less named [] = All-nil (IsLoadedOrCauseOfValue s asked)
named_parts s asked value k less named (at ∷ rest) =
    All-cons (IsLoadedOrCauseOfValue s asked) (value_made_by_step value.node k at) (map (value_made_by_step value.node k) rest)
    (earlier s asked value (value_made_by_step value.node k at) refl less named)
    (named_parts s asked value k less named rest)

pub named_sender : (s : MachineState) (asked value : PartValue) (k : ℕ) → value.step ≡ suc k → IsLoadedOrCauseOfValue s asked value
    → (told : Option MadeEvent) → slice_get (history_of_node s value.node.number) k ≡ told → All (IsLoadedOrCauseOfValue s asked) (option_to_list (source_of_sent_word told))
named_sender s asked value k is named None h = All-nil (IsLoadedOrCauseOfValue s asked)
named_sender s asked value k is named (Some (made.Own node step kind)) h = All-nil (IsLoadedOrCauseOfValue s asked)
named_sender s asked value k is named (Some (made.Pass w i r j word)) h =
    All-cons (IsLoadedOrCauseOfValue s asked) (value_made_by_step w (i - 1) top_data_part) [] (at_writer (sent_is s value.node.number k w r i j word h) named) (All-nil (IsLoadedOrCauseOfValue s asked))
  where
    at_writer : IsOne s value.node.number k w.number i → IsLoadedOrCauseOfValue s asked value → IsLoadedOrCauseOfValue s asked (value_made_by_step w (i - 1) top_data_part)
    at_writer one (inl none) = absurd (omega (arith, is, none))
    at_writer one (inr cause) =
        let q = one.number in
        let same : one.place ≡ cause.cause = (let a : Some one.place ≡ Some cause.cause = sym one.own ∙ ap (position_of_step (machine_events_with_looks s) value.node.number) (sym is) ∙ cause.cause_place in cc) in
        earlier s asked (value_made_by_step w i top_data_part) (value_made_by_step w (i - 1) top_data_part) refl (omega (arith, q))
        (inr (record { cause = one.place; effect = cause.effect; cause_place = one.writers; effect_place = cause.effect_place; depends = subst (λ (z : ℕ). DependsOn (machine_events_with_looks s) z cause.effect) (sym same) cause.depends }))

named_by : (s : MachineState) (asked value : PartValue) (k : ℕ) → value.step ≡ suc k → IsLoadedOrCauseOfValue s asked value → (told : Option MadeEvent) → slice_get (history_of_node s value.node.number) k ≡ told
    → (flow : ValueFlow) → All (IsLoadedOrCauseOfValue s asked) (source_values_of_flow value.node k told flow)
named_by s asked value k is named told h (CopiedFromPart OutsideWord) = named_sender s asked value k is named told h
named_by s asked value k is named told h (CopiedFromPart (Data at)) = named_parts s asked value k (omega (arith, is)) named (Data at ∷ [])
named_by s asked value k is named told h (CopiedFromPart (Return at)) = named_parts s asked value k (omega (arith, is)) named (Return at ∷ [])
named_by s asked value k is named told h (CopiedFromPart (Ram at)) = named_parts s asked value k (omega (arith, is)) named (Ram at ∷ [])
named_by s asked value k is named told h (CopiedFromPart (Rom at)) = named_parts s asked value k (omega (arith, is)) named (Rom at ∷ [])
named_by s asked value k is named told h (CopiedFromPart A) = named_parts s asked value k (omega (arith, is)) named (A ∷ [])
named_by s asked value k is named told h (CopiedFromPart B) = named_parts s asked value k (omega (arith, is)) named (B ∷ [])
named_by s asked value k is named told h (CopiedFromPart P) = named_parts s asked value k (omega (arith, is)) named (P ∷ [])
named_by s asked value k is named told h (CopiedFromPart I) = named_parts s asked value k (omega (arith, is)) named (I ∷ [])
named_by s asked value k is named told h (CopiedFromPart Io) = named_parts s asked value k (omega (arith, is)) named (Io ∷ [])
named_by s asked value k is named told h (CopiedFromPart Carry) = named_parts s asked value k (omega (arith, is)) named (Carry ∷ [])
named_by s asked value k is named told h (CopiedFromPart Slot) = named_parts s asked value k (omega (arith, is)) named (Slot ∷ [])
named_by s asked value k is named told h (CopiedFromPart Wait) = named_parts s asked value k (omega (arith, is)) named (Wait ∷ [])
named_by s asked value k is named told h (CopiedFromPart Stop) = named_parts s asked value k (omega (arith, is)) named (Stop ∷ [])
named_by s asked value k is named told h (From parts) = named_parts s asked value k (omega (arith, is)) named parts

named_sources : (s : MachineState) (asked value : PartValue) → IsLoadedOrCauseOfValue s asked value → All (IsLoadedOrCauseOfValue s asked) (value_sources s value)
named_sources s asked value named = go value.step refl
  where
    go : (k : ℕ) → value.step ≡ k → All (IsLoadedOrCauseOfValue s asked) (value_sources_after s value.node k value.part)
    go zero is = All-nil (IsLoadedOrCauseOfValue s asked)
    go (suc k) is = named_by s asked value k is named (slice_get (history_of_node s value.node.number) k) refl (value_flow_at_step s value.node.number k value.part)

-- so are all from which it was made, as the steps made them
pub named_origins : (s : MachineState) (asked value : PartValue) → IsLoadedOrCauseOfValue s asked value → All (IsLoadedOrCauseOfValue s asked) (source_origins s value)
named_origins s asked value named =
    All-map (IsLoadedOrCauseOfValue s asked) (origin_of_value s) (value_sources s value)
    (All-weaker (IsLoadedOrCauseOfValue s asked) (λ (x : PartValue). IsLoadedOrCauseOfValue s asked (origin_of_value s x)) (named_origin s asked) (value_sources s value) (named_sources s asked value named))

provenance_named : (s : MachineState) (asked value found : PartValue) → IsLoadedOrCauseOfValue s asked value → IsProvenance s value found → IsLoadedOrCauseOfValue s asked found
provenance_named s asked value found named origin = named_origin s asked value named
provenance_named s asked value found named (source {value = v} of x in_sources) =
    All-contains (IsLoadedOrCauseOfValue s asked) (source_origins s v) x (named_origins s asked v (provenance_named s asked value v named of)) in_sources

pub provenance_caused : (s : MachineState) (value found : PartValue) (place : ℕ) → position_of_step (machine_events_with_looks s) value.node.number value.step ≡ Some place → IsProvenance s value found → IsLoadedOrCauseOfValue s value found
provenance_caused s value found place is of =
    provenance_named s value value found (inr (record { cause = place; effect = place; cause_place = is; effect_place = is; depends = itself })) of

pub selected_caused : (s : MachineState) (node : NodeId) (step place : ℕ) (value found : PartValue) → position_of_step (machine_events_with_looks s) node.number step ≡ Some place → queried_value s node step ≡ Some value → IsProvenance s value found
    → IsLoadedOrCauseOfValue s (value_made_by_step node step top_data_part) found
selected_caused s node step place value found is asked of =
    let near = asked_near s node step value asked in
    let here = value_made_by_step node step top_data_part in
    provenance_named s here value found
    (earlier s here here value near.0 near.1 (inr (record { cause = place; effect = place; cause_place = is; effect_place = is; depends = itself }))) of
