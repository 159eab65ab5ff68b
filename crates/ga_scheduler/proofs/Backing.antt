-- The search back for a condition, and the step that it finds.
use Rattle.std.proofs.Common.{◌≡◌, ℕ, zero, suc, ◌+◌, ◌-◌, ◌<◌, ◌≤◌, ◌&&◌, ◌||◌, Bool, true, false, cond, max, List, [], ◌∷◌, length, take, take_all, drop, get_or, Option, Some, None, refl, sym, ◌∙◌, ap, subst, arith, add-one, ⊎_elim, ◌==◌, ◌++◌}
use Rattle.std.specs.Prelude.{is_some, option_map, ◌↔◌, IsSome}
use Rattle.std.proofs.lemmas.Bool.{cases_lt, eqb-true}
use Rattle.std.proofs.lemmas.Option.{same_Some, slice_get_within, get_or_from_slice_get}
use Rattle.std.proofs.lemmas.List.{drop_more, drop_all, take-append-drop, length-take}
use Rattle.ga_grid.specs.declared.node_id.NodeId.{NodeId}
use Rattle.ga_event.specs.Told.{count_steps, made_event_at_place, made_event_after, events_with_look_without_outcomes, events_without_outcomes}
use Rattle.ga_event.specs.declared.made.MadeEvent.{MadeEvent}
use Rattle.ga_lab.specs.Machine.{MachineState, NodeAtStep, node_at_step, earlier_state, state_after_undo, machine_events_with_outcomes, BackwardState, backward_state, made_event_before, machine_events_with_looks, count_removed_events}
use Rattle.ga_scheduler.specs.declared.condition.Condition.{Condition}
use Rattle.ga_scheduler.specs.Conditions.{holds_after_made_event, first_holding_condition, is_step_of_node}
use Rattle.ga_scheduler.specs.Running.{first_condition_held_by_event}
use Rattle.ga_scheduler.specs.Backward.{first_held_condition_index, is_step_of_optional_node, has_condition_held_at, newest_matching_event_before, IsNewestMatchingEvent, machine_after_undos, find_newest_matching_event, step_number_of_event, event_count_removed_by_back_until}
use Rattle.ga_scheduler.specs.inner.{holds_after_optional_event, holds_at_considered_event, newest_held_prefix_length, longest_held_prefix_length, last_event_position}
use Rattle.ga_scheduler.proofs.Newest.{undone_earlier, whole_earlier, of_made, ToldAt, told_at}
use Rattle.std.specs.Result.{result_ok}
use Rattle.ga_event.specs.declared.event.Event.{Event}
use Rattle.ga_event.specs.declared.event.Event.TheVariants as event
use Rattle.ga_event.specs.declared.event.EventWithLook.{EventWithLook}
use Rattle.ga_event.specs.Apply.{MadeEventOutcome, ExecutedOwn, PassedWord}
use Rattle.ga_event.specs.declared.made.MadeEvent.TheVariants as made
use Rattle.ga_causal.specs.Dependence.{event_with_look_touches_node, position_of_step}
use Rattle.ga_causal.proofs.Places.{touching_in, place_split}

-- ---- the search back for a condition, event by event and condition by condition

-- ---- one condition

one_within : (b : Bool) (x n : ℕ) → x ≤ n → cond b (suc n) x ≤ suc n
one_within true x n l = omega arith
one_within false x n l = omega (arith, l)

pub upto_within : (c : Condition) (only : Option NodeId) (s : MachineState) (n : ℕ) → newest_held_prefix_length c only s n ≤ n
upto_within c only s zero = omega arith
upto_within c only s (suc n) = one_within (holds_at_considered_event c only s n) (newest_held_prefix_length c only s n) n (upto_within c only s n)

-- after an event
pub upto_more : (c : Condition) (only : Option NodeId) (s : MachineState) (n m : ℕ) (b : Bool) → m ≡ n + 1 → holds_at_considered_event c only s n ≡ b → newest_held_prefix_length c only s m ≡ cond b m (newest_held_prefix_length c only s n)
upto_more c only s n m b e h =
    ap (newest_held_prefix_length c only s) (e ∙ add-one n) ∙ ap (λ (z : Bool). cond z (suc n) (newest_held_prefix_length c only s n)) h ∙ ap (λ (z : ℕ). cond b z (newest_held_prefix_length c only s n)) (sym (add-one n) ∙ sym e)

-- the report of the event
pub held_as : (c : Condition) (only : Option NodeId) (s : MachineState) (n : ℕ) (m : MadeEvent) (a h : Bool) → made_event_at_place (machine_events_with_outcomes s) n ≡ Some m → a ≡ is_step_of_optional_node only (Some m)
    → h ≡ holds_after_made_event c m (earlier_state s (n + 1)) → holds_at_considered_event c only s n ≡ a && h
held_as c only s n m a h is among here =
    ap (λ (z : Option MadeEvent). is_step_of_optional_node only z && holds_after_optional_event c z (earlier_state s (n + 1))) is
    ∙ ap (λ (z : Bool). z && holds_after_made_event c m (earlier_state s (n + 1))) (sym among) ∙ ap (λ (z : Bool). a && z) (sym here)

and_false : (a : Bool) → a && false ≡ false
and_false true = refl
and_false false = refl

pub not_among : (c : Condition) (only : Option NodeId) (s : MachineState) (n : ℕ) (m : MadeEvent) → made_event_at_place (machine_events_with_outcomes s) n ≡ Some m → false ≡ is_step_of_optional_node only (Some m) → holds_at_considered_event c only s n ≡ false
not_among c only s n m is among =
    ap (λ (z : Option MadeEvent). is_step_of_optional_node only z && holds_after_optional_event c z (earlier_state s (n + 1))) is ∙ ap (λ (z : Bool). z && holds_after_made_event c m (earlier_state s (n + 1))) (sym among)

-- ---- some conditions

pub all_within : (cs : List Condition) (only : Option NodeId) (s : MachineState) (n : ℕ) → longest_held_prefix_length cs only s n ≤ n
all_within [] only s n = omega arith
all_within (c ∷ cs) only s n = omega (arith, upto_within c only s n, all_within cs only s n)

some_mapped : (o : Option ℕ) → is_some (option_map suc o) ≡ is_some o
some_mapped None = refl
some_mapped (Some x) = refl

some_first : (b : Bool) (o : Option ℕ) → is_some (cond b (Some 0) (option_map suc o)) ≡ b || is_some o
some_first true o = refl
some_first false o = some_mapped o

some_held : (c : Condition) (cs : List Condition) (told : Option MadeEvent) (t : MachineState) → is_some (first_condition_held_by_event (c ∷ cs) told t) ≡ holds_after_optional_event c told t || is_some (first_condition_held_by_event cs told t)
unfolding first_holding_condition
some_held c cs None t = refl
some_held c cs (Some m) t = some_first (holds_after_made_event c m t) (first_holding_condition cs m t)

none_asked : (told : Option MadeEvent) (t : MachineState) → is_some (first_condition_held_by_event [] told t) ≡ false
unfolding first_holding_condition
none_asked None t = refl
none_asked (Some m) t = refl

max_step : (a h g : Bool) (n x y : ℕ) → x ≤ n → y ≤ n → max (cond (a && h) (suc n) x) (cond (a && g) (suc n) y) ≡ cond (a && (h || g)) (suc n) (max x y)
max_step false h g n x y l k = refl
max_step true true true n x y l k = omega arith
max_step true true false n x y l k = omega (arith, k)
max_step true false true n x y l k = omega (arith, l)
max_step true false false n x y l k = refl

all_step : (cs : List Condition) (only : Option NodeId) (s : MachineState) (n : ℕ)
    → longest_held_prefix_length cs only s (suc n) ≡ cond (is_step_of_optional_node only (made_event_at_place (machine_events_with_outcomes s) n) && is_some (first_held_condition_index cs s n)) (suc n) (longest_held_prefix_length cs only s n)
all_step [] only s n =
    sym (ap (λ (z : Bool). cond z (suc n) 0) (ap (λ (z : Bool). is_step_of_optional_node only (made_event_at_place (machine_events_with_outcomes s) n) && z) (none_asked (made_event_at_place (machine_events_with_outcomes s) n) (earlier_state s (n + 1)))
    ∙ and_false (is_step_of_optional_node only (made_event_at_place (machine_events_with_outcomes s) n))))
all_step (c ∷ cs) only s n =
    let a : Bool = is_step_of_optional_node only (made_event_at_place (machine_events_with_outcomes s) n) in
    let h : Bool = holds_after_optional_event c (made_event_at_place (machine_events_with_outcomes s) n) (earlier_state s (n + 1)) in
    let g : Bool = is_some (first_held_condition_index cs s n) in
    ap (λ (z : ℕ). max (newest_held_prefix_length c only s (suc n)) z) (all_step cs only s n)
    ∙ max_step a h g n (newest_held_prefix_length c only s n) (longest_held_prefix_length cs only s n) (upto_within c only s n) (all_within cs only s n)
    ∙ ap (λ (z : Bool). cond (a && z) (suc n) (max (newest_held_prefix_length c only s n) (longest_held_prefix_length cs only s n))) (sym (some_held c cs (made_event_at_place (machine_events_with_outcomes s) n) (earlier_state s (n + 1))))

all_zero : (cs : List Condition) (only : Option NodeId) (s : MachineState) → longest_held_prefix_length cs only s 0 ≡ 0
all_zero [] only s = refl
all_zero (c ∷ cs) only s = ap (λ (z : ℕ). max 0 z) (all_zero cs only s)

place_step : (b : Bool) (n x : ℕ) → cond b (Some n) (last_event_position x) ≡ last_event_position (cond b (suc n) x)
place_step true n x = refl
place_step false n x = refl

pub newest_is : (cs : List Condition) (only : Option NodeId) (s : MachineState) (n : ℕ) → newest_matching_event_before cs only s n ≡ last_event_position (longest_held_prefix_length cs only s n)
newest_is cs only s zero = ap last_event_position (sym (all_zero cs only s))
newest_is cs only s (suc n) =
    let b : Bool = is_step_of_optional_node only (made_event_at_place (machine_events_with_outcomes s) n) && is_some (first_held_condition_index cs s n) in
    ap (λ (o : Option ℕ). cond b (Some n) o) (newest_is cs only s n)
    ∙ place_step b n (longest_held_prefix_length cs only s n)
    ∙ ap last_event_position (sym (all_step cs only s n))

pub place_behind : (upto n : ℕ) → upto ≡ n + 1 → Some n ≡ last_event_position upto
place_behind upto n e = ap last_event_position (sym (add-one n) ∙ sym e)

-- ---- what is found, as a law

pub newest_found : (cs : List Condition) (only : Option NodeId) (s : MachineState) (n place : ℕ) → newest_matching_event_before cs only s n ≡ Some place → IsNewestMatchingEvent cs only s n place
newest_found cs only s zero place h = absurd (cc)
newest_found cs only s (suc n) place h = by_test (has_condition_held_at cs only s n) refl h (λ k. newest_found cs only s n place k)
  where
    by_test : (b : Bool) → has_condition_held_at cs only s n ≡ b → cond b (Some n) (newest_matching_event_before cs only s n) ≡ Some place
        → (newest_matching_event_before cs only s n ≡ Some place → IsNewestMatchingEvent cs only s n place) → IsNewestMatchingEvent cs only s (suc n) place
    by_test true is k before =
        let e : n ≡ place = same_Some n place k in
        record {
          within = omega (arith, e);
          here = ap (has_condition_held_at cs only s) (sym e) ∙ is;
          later = λ p l m. absurd (omega (arith, e, l, m));
        }
    by_test false is k before =
        let r : IsNewestMatchingEvent cs only s n place = before k in
        record {
          within = omega (arith, r.within);
          here = r.here;
          later = λ p l m. ⊎_elim (λ less. r.later p l less) (λ more. (let e : p ≡ n = omega (arith, more, m) in ap (has_condition_held_at cs only s) e ∙ is)) (cases_lt p n);
        }

pub none_found : (cs : List Condition) (only : Option NodeId) (s : MachineState) (n : ℕ) → newest_matching_event_before cs only s n ≡ None → (p : ℕ) → p < n → has_condition_held_at cs only s p ≡ false
none_found cs only s zero h p l = absurd (omega arith)
none_found cs only s (suc n) h p l = by_test (has_condition_held_at cs only s n) refl h (λ k q m. none_found cs only s n k q m)
  where
    by_test : (b : Bool) → has_condition_held_at cs only s n ≡ b → cond b (Some n) (newest_matching_event_before cs only s n) ≡ None
        → (newest_matching_event_before cs only s n ≡ None → (q : ℕ) → q < n → has_condition_held_at cs only s q ≡ false) → has_condition_held_at cs only s p ≡ false
    by_test true is k before = absurd (cc)
    by_test false is k before = ⊎_elim (λ less. before k p less) (λ more. (let e : p ≡ n = omega (arith, more, l) in ap (has_condition_held_at cs only s) e ∙ is)) (cases_lt p n)

-- ---- the walk over the events

-- the report of the event just before a place
told_prev : (s : MachineState) (n : ℕ) (m : MadeEvent) → 0 < n → Some m ≡ made_event_before s n → made_event_at_place (machine_events_with_outcomes s) (n - 1) ≡ Some m
told_prev s zero m l h = absurd (omega arith)
told_prev s (suc n) m l h = ap (made_event_at_place (machine_events_with_outcomes s)) (let e : suc n - 1 ≡ n = omega arith in e) ∙ sym h

pub told_before : (s : MachineState) (n : ℕ) (m : MadeEvent) (events : BackwardState) → 0 < n → events ≡ backward_state s n → Some m ≡ made_event_before events.machine events.place → made_event_at_place (machine_events_with_outcomes s) (n - 1) ≡ Some m
told_before s n m events l is told = told_prev s n m l (subst (λ (z : BackwardState). Some m ≡ made_event_before z.machine z.place) is told)

-- one event back
pub back_before : (s : MachineState) (n : ℕ) (events back : BackwardState) → events ≡ backward_state s n → back ≡ record events { place = events.place - 1 } → back ≡ backward_state s (n - 1)
back_before s n events back is left = left ∙ ap (λ (z : BackwardState). record z { place = z.place - 1 }) is

-- if no event is found at it, the search continues below, and ends where it may
pub below : (c : Condition) (only : Option NodeId) (s : MachineState) (least n m total : ℕ) → m + 1 ≡ n → holds_at_considered_event c only s m ≡ false
    → max least (newest_held_prefix_length c only s n) ≡ max least total → max least (newest_held_prefix_length c only s m) ≡ max least total
below c only s least n m total e h same =
    ap (λ (z : ℕ). max least z) (sym (upto_more c only s m n false (sym e) h)) ∙ same

pub found : (c : Condition) (only : Option NodeId) (s : MachineState) (least n m total : ℕ) → m + 1 ≡ n → least < n → holds_at_considered_event c only s m ≡ true
    → max least (newest_held_prefix_length c only s n) ≡ max least total → n ≡ max least total
found c only s least n m total e l h same =
    (let q : n ≡ max least n = omega (arith, l) in q) ∙ ap (λ (z : ℕ). max least z) (sym (upto_more c only s m n true (sym e) h)) ∙ same

pub ended : (c : Condition) (only : Option NodeId) (s : MachineState) (least n total : ℕ) → n ≤ least
    → max least (newest_held_prefix_length c only s n) ≡ max least total → least ≡ max least total
ended c only s least n total l same = (let q : least ≡ max least (newest_held_prefix_length c only s n) = omega (arith, l, upto_within c only s n) in q) ∙ same

-- a walk that is after the event which the other events precede
pub stands_now : (w : NodeAtStep) (t : BackwardState) (s : MachineState) (n : NodeId) (k place m : ℕ) → w.machine ≡ s → w.node ≡ n → w.step ≡ k → k ≡ count_steps n.number (take place s.kept)
    → t ≡ backward_state s m → m + 1 ≡ place → w ≡ node_at_step t.machine n (count_steps n.number (take (t.place + 1) t.machine.kept))
stands_now w t s n k place m machine node step at told e =
    let here : w ≡ node_at_step s n k = ap (λ (z : MachineState). node_at_step z w.node w.step) machine ∙ ap (λ (z : NodeId). node_at_step s z w.step) node ∙ ap (node_at_step s n) step in
    subst (λ (z : BackwardState). w ≡ node_at_step z.machine n (count_steps n.number (take (z.place + 1) z.machine.kept))) (sym told)
    (here ∙ ap (node_at_step s n) at ∙ ap (λ (z : ℕ). node_at_step s n (count_steps n.number (take z s.kept))) (sym e))

pub steps_whole : (s : MachineState) (n place : ℕ) → place ≡ length s.kept → count_steps n (take place s.kept) ≡ count_steps n s.kept
steps_whole s n place e = ap (λ (z : ℕ). count_steps n (take z s.kept)) e ∙ ap (count_steps n) (take_all (length s.kept) s.kept (omega arith))

-- one condition more
pub one_more : (cs : List Condition) (only : Option NodeId) (s : MachineState) (n i upto next total : ℕ) (d : Condition) → i < length cs
    → next ≡ max upto (newest_held_prefix_length (get_or cs i d) only s n) → max upto (longest_held_prefix_length (drop i cs) only s n) ≡ total → max next (longest_held_prefix_length (drop (i + 1) cs) only s n) ≡ total
one_more cs only s n i upto next total d l e same =
    let parts : longest_held_prefix_length (drop i cs) only s n ≡ max (newest_held_prefix_length (get_or cs i d) only s n) (longest_held_prefix_length (drop (i + 1) cs) only s n) = ap (λ z. longest_held_prefix_length z only s n) (drop_more cs i d l) in
    omega (arith, e, same, parts)

pub none_more : (cs : List Condition) (only : Option NodeId) (s : MachineState) (n i upto total : ℕ) → length cs ≤ i → max upto (longest_held_prefix_length (drop i cs) only s n) ≡ total → upto ≡ total
none_more cs only s n i upto total l same =
    let none : longest_held_prefix_length (drop i cs) only s n ≡ 0 = ap (λ z. longest_held_prefix_length z only s n) (drop_all i cs l) in
    omega (arith, same, none)

-- ---- undos

pub undone_once : (s : MachineState) (n m : ℕ) → n ≤ length s.kept → m + 1 ≡ n → state_after_undo (earlier_state s n) ≡ earlier_state s m
undone_once s n m l e = ap (λ (z : ℕ). state_after_undo (earlier_state s z)) (sym e) ∙ undone_earlier s m (omega (arith, l, e))

pub undone_all : (s : MachineState) (count : ℕ) → count ≤ length s.kept → machine_after_undos count s ≡ earlier_state s (length s.kept - count)
undone_all s zero l = sym (whole_earlier s) ∙ (let e : length s.kept ≡ length s.kept - 0 = omega arith in ap (earlier_state s) e)
undone_all s (suc count) l =
    ap state_after_undo (undone_all s count (omega (arith, l)))
    ∙ undone_once s (length s.kept - count) (length s.kept - suc count) (omega arith) (omega (arith, l))

pub undone_from : (s : MachineState) (place : ℕ) → place ≤ length s.kept → machine_after_undos (length s.kept - place) s ≡ earlier_state s place
undone_from s place l =
    undone_all s (length s.kept - place) (omega arith)
    ∙ (let e : length s.kept - (length s.kept - place) ≡ place = omega (arith, l) in ap (earlier_state s) e)

-- ---- the step of a node that a search backwards finds is the event at that place

-- the report of an event has the number of its step of each of its nodes
number_behind : (before : List Event) (e : Event) (what : MadeEventOutcome) (m : MadeEvent) (n : ℕ) → made_event_after before e what ≡ Some m → is_step_of_node n m ≡ true
    → step_number_of_event n (Some m) ≡ count_steps n before + 1
number_behind before (event.Own node) (ExecutedOwn kind) m n is own =
    let e : made.Own node (count_steps node.number before + 1) kind ≡ m = same_Some (made.Own node (count_steps node.number before + 1) kind) m is in
    ap (λ (z : MadeEvent). step_number_of_event n (Some z)) (sym e)
    ∙ ap (λ (z : ℕ). count_steps z before + 1) (eqb-true node.number n (ap (is_step_of_node n) e ∙ own))
number_behind before (event.Own node) (PassedWord word) m n is own = absurd (cc)
number_behind before (event.Pass w r side) (ExecutedOwn kind) m n is own = absurd (cc)
number_behind before (event.Pass w r side) (PassedWord word) m n is own =
    let e : made.Pass w (count_steps w.number before + 1) r (count_steps r.number before + 1) word ≡ m =
    same_Some (made.Pass w (count_steps w.number before + 1) r (count_steps r.number before + 1) word) m is in
    ap (λ (z : MadeEvent). step_number_of_event n (Some z)) (sym e) ∙ by_end (w.number == n) refl (ap (is_step_of_node n) e ∙ own)
  where
    by_end : (b : Bool) → (w.number == n) ≡ b → (b || (r.number == n)) ≡ true
        → cond b (count_steps w.number before + 1) (count_steps r.number before + 1) ≡ count_steps n before + 1
    by_end true at h = ap (λ (z : ℕ). count_steps z before + 1) (eqb-true w.number n at)
    by_end false at h = ap (λ (z : ℕ). count_steps z before + 1) (eqb-true r.number n h)

causes_apart : (xs ys : List (EventWithLook × MadeEventOutcome)) → events_with_look_without_outcomes (xs ++ ys) ≡ events_with_look_without_outcomes xs ++ events_with_look_without_outcomes ys
causes_apart [] ys = refl
causes_apart (x ∷ xs) ys = ap (λ (z : List EventWithLook). x.0 ∷ z) (causes_apart xs ys)

causes_many : (xs : List (EventWithLook × MadeEventOutcome)) → length (events_with_look_without_outcomes xs) ≡ length xs
causes_many [] = refl
causes_many (x ∷ xs) = ap suc (causes_many xs)

placed : (told : List (EventWithLook × MadeEventOutcome)) (n place : ℕ) (m : MadeEvent) → made_event_at_place told place ≡ Some m → is_step_of_node n m ≡ true
    → position_of_step (events_with_look_without_outcomes told) n (step_number_of_event n (Some m)) ≡ Some place
placed told n place m is own =
    let a : ToldAt told place m = told_at told place m is in
    let within : place < length told = slice_get_within told place a.one a.is in
    let before : List (EventWithLook × MadeEventOutcome) = take place told in
    let behind : List (EventWithLook × MadeEventOutcome) = drop (place + 1) told in
    let apart : before ++ a.one ∷ behind ≡ told =
    ap (λ (z : List (EventWithLook × MadeEventOutcome)). before ++ z) (sym (drop_more told place a.one within ∙ ap (λ (z : EventWithLook × MadeEventOutcome). z ∷ behind) (get_or_from_slice_get told place a.one a.one a.is)))
    ∙ take-append-drop place told in
    let number : step_number_of_event n (Some m) ≡ suc (count_steps n (events_without_outcomes before)) =
    number_behind (events_without_outcomes before) a.one.0.event a.one.1 m n a.made own ∙ add-one (count_steps n (events_without_outcomes before)) in
    let touched : event_with_look_touches_node a.one.0 n ≡ true = of_made (events_without_outcomes before) a.one.0.event a.one.1 m n a.made ∙ own in
    let many : length (events_with_look_without_outcomes before) ≡ place = causes_many before ∙ (let q : length before ≡ place = omega (arith, length-take place told, within) in q) in
    ap (position_of_step (events_with_look_without_outcomes told) n) number
    ∙ ap (λ (z : List EventWithLook). position_of_step z n (suc (count_steps n (events_without_outcomes before)))) (sym (ap events_with_look_without_outcomes apart) ∙ causes_apart before (a.one ∷ behind))
    ∙ place_split n (count_steps n (events_without_outcomes before)) (events_with_look_without_outcomes before) a.one.0 (events_with_look_without_outcomes behind) (touching_in n (events_with_look_without_outcomes before)) touched
    ∙ ap Some many

among_placed : (s : MachineState) (node : NodeId) (place : ℕ) (o : Option MadeEvent) → made_event_at_place (machine_events_with_outcomes s) place ≡ o → is_step_of_optional_node (Some node) o ≡ true
    → position_of_step (machine_events_with_looks s) node.number (step_number_of_event node.number o) ≡ Some place
among_placed s node place None is h = absurd (cc)
among_placed s node place (Some m) is h = placed (machine_events_with_outcomes s) node.number place m is h

left_true : (a b : Bool) → (a && b) ≡ true → a ≡ true
left_true true b h = refl
left_true false b h = h

pub found_placed : (until : List Condition) (node : NodeId) (s : MachineState) (place : ℕ) → find_newest_matching_event until (Some node) s ≡ Some place
    → position_of_step (machine_events_with_looks s) node.number (step_number_of_event node.number (made_event_at_place (machine_events_with_outcomes s) place)) ≡ Some place
found_placed until node s place h =
    let found : IsNewestMatchingEvent until (Some node) s (length s.kept) place = newest_found until (Some node) s (length s.kept) place h in
    among_placed s node place (made_event_at_place (machine_events_with_outcomes s) place) refl (left_true (is_step_of_optional_node (Some node) (made_event_at_place (machine_events_with_outcomes s) place)) _ found.here)

-- so some events go
some_goes : (s : MachineState) (only : Option NodeId) (o : Option ℕ)
    → ((node : NodeId) (place : ℕ) → only ≡ Some node → o ≡ Some place
    → position_of_step (machine_events_with_looks s) node.number (step_number_of_event node.number (made_event_at_place (machine_events_with_outcomes s) place)) ≡ Some place)
    → is_some (event_count_removed_by_back_until only s o) ≡ is_some o
some_goes s only None f = refl
some_goes s None (Some place) f = refl
some_goes s (Some node) (Some place) f = ap (λ (z : Option ℕ). is_some (result_ok (count_removed_events (machine_events_with_looks s) z))) (f node place refl refl)

pub found_some : (until : List Condition) (only : Option NodeId) (s : MachineState) → IsSome (event_count_removed_by_back_until only s (find_newest_matching_event until only s)) ↔ IsSome (find_newest_matching_event until only s)
found_some until only s =
    let same : is_some (event_count_removed_by_back_until only s (find_newest_matching_event until only s)) ≡ is_some (find_newest_matching_event until only s) =
    some_goes s only (find_newest_matching_event until only s) (λ node place e h. found_placed until node s place (ap (λ (z : Option NodeId). find_newest_matching_event until z s) (sym e) ∙ h)) in
    (λ h. sym same ∙ h, λ h. same ∙ h)
