-- Lists without looks: their races are passes, and a rollback shows each.
use Rattle.std.proofs.Common.{◌≡◌, ◌≢◌, ℕ, suc, ◌==◌, Bool, true, false, cond, ◌⊎◌, inl, inr, List, [], ◌∷◌, ◌++◌, ◌+◌, ◌<◌, ◌≤◌, length, Option, Some, None, ◌↔◌, option_map, refl, sym, ◌∙◌, ap, subst, arith}
use Rattle.std.specs.List.{list_any}
use Rattle.std.proofs.lemmas.Bool.{cases_Bool, cases_eq, both_ways, false_from_ne_true}
use Rattle.std.proofs.lemmas.Option.{same_Some}
use Rattle.std.proofs.lemmas.List.Sums.{sum_by-append, sum_by-cons}
use Rattle.ga_node.specs.Io.{io_word}
use Rattle.ga_node.specs.Record.{NodeRecord}
use Rattle.ga_node.specs.Table.{reads_io_next, register_t}
use Rattle.ga_ports.specs.declared.side.Side.{Side}
use Rattle.ga_grid.specs.declared.node_id.NodeId.{NodeId}
use Rattle.ga_grid.specs.Chip.{node_record_at}
use Rattle.ga_event.specs.declared.event.Event.{Event}
use Rattle.ga_event.specs.declared.event.Event.TheVariants.{Own, Pass}
use Rattle.ga_event.specs.declared.event.EventWithLook.{EventWithLook}
use Rattle.ga_event.specs.Touches.{event_nodes, touches, observes_marked_node}
use Rattle.ga_event.specs.Apply.{MadeEventOutcome, waits_to_write_side, neighbour_states, event_result, is_look, event_with_look_on_chip, run_events, replay}
use Rattle.ga_event.specs.Told.{count_steps, events_of_causes}
use Rattle.ga_event.proofs.Locality.{touched_free, AgreeOutsideMarks-sym}
use Rattle.ga_causal.specs.Dependence.{event_with_look_touches_node, marked_nodes_after_event, rest, remaining_events_or_all, events_after_rewind, HasNoLooks}
use Rattle.ga_causal.specs.Equivalence.{event_observes_node, AreIndependentEvents, AreEquivalentLists}
use Rattle.ga_causal.specs.Equivalence as equivalence
use Rattle.ga_causal.specs.Steps.{count_touching_events}
use Rattle.ga_causal.specs.Words.{outside_word_of_event}
use Rattle.ga_causal.proofs.LocalHistories.{marked_nodes_after_event-stays}
use Rattle.ga_causal.proofs.Taken.{seen_blind}
use Rattle.ga_causal.proofs.Consistent.{made_of}
use Rattle.ga_causal.proofs.Places.{place_split, touching_in}
use Rattle.ga_causal.proofs.Moved.{rolled_back}
use Rattle.ga_causal.proofs.Runs.{causes, kept, keeps_of, run_more, run_kept, first_of_run, replay_equivalent}
use Rattle.ga_causal.proofs.Words.{after_is, ran}
use Rattle.ga_races.specs.Orders.{IsEnabled, IsTerminalChip, AreIndependentOnChip, AreReorderings, same, swapped, later, joined, IsRace, HasNoRace, AreConflictingPasses}
use Rattle.ga_races.proofs.Independence.{apply_is, first_of, stays, touches_own, touches_writer, touches_reader, still_enabled, any_at, any_of, independent_of, apart-sym, independent_on_chip}
use Rattle.ga_races.proofs.Orders.{order_replay, order_read, steps_read, is_some_of, enabled_after, no_race-order, no_race-tail, completed_quiet, brought, IsFirst, IsSpared}
use Rattle.ga_races.proofs.Conflicts.{actor, one_event, one_side, open_of, common_node}
use Rattle.ga_races.proofs.Exact.{replay_into}

-- ---- lists without looks

abbrev pub LookFree : List NodeRecord → List Event → Type 0
LookFree c [] = Unit {0}
LookFree c (e ∷ es) = (is_look c e ≡ false) × LookFree (event_result c e).0 es

pub look_free : (es : List Event) (c last : List NodeRecord) (ts : List (EventWithLook × MadeEventOutcome)) → run_events c es ≡ Some (last, ts) → HasNoLooks (causes ts) → LookFree c es
look_free [] c last ts is none = tt
look_free (e ∷ es) c last ts is none =
    let m = first_of_run c e es last ts is in
    let p : HasNoLooks (causes ((event_with_look_on_chip c e, m.told) ∷ m.others)) = subst (λ (z : List (EventWithLook × MadeEventOutcome)). HasNoLooks (causes z)) m.all none in
    (p.0, subst (λ d. LookFree d es) (sym (ap (λ (z : List NodeRecord × MadeEventOutcome). z.0) (after_is c m.mid e m.told m.first))) (look_free es m.mid last m.others m.then p.1))

-- whether an event looks depends on a node that it touches
pub look_still : (c : List NodeRecord) (e f : Event) → IsEnabled c f → ((n : ℕ) → touches e n ≡ true → touches f n ≡ false) → is_look (event_result c f).0 e ≡ is_look c e
look_still c (Own a) f can apart = ap (λ (z : NodeRecord). reads_io_next z) (sym ((stays c f can).same a.number (apart a.number (touches_own a))))
look_still c (Pass w r side) f can apart = refl

-- and so is the word of one that doesn't
pub word_still : (c : List NodeRecord) (e f : Event) → IsEnabled c f → ((n : ℕ) → touches e n ≡ true → touches f n ≡ false) → is_look c e ≡ false → outside_word_of_event (event_result c f).0 e ≡ outside_word_of_event c e
word_still c (Own a) f can apart blind =
    ap (λ (b : Bool). cond {A = Option ℕ} b (Some (io_word (neighbour_states (event_result c f).0 a.number))) None) (look_still c (Own a) f can apart ∙ blind)
    ∙ sym (ap (λ (b : Bool). cond {A = Option ℕ} b (Some (io_word (neighbour_states c a.number))) None) blind)
word_still c (Pass w r side) f can apart blind = ap (λ (z : NodeRecord). Some (register_t z)) (sym ((stays c f can).same w.number (apart w.number (touches_writer w r side))))

-- there independent events see none of each other's nodes, and an order is made by their swaps
sees_none : (c : List NodeRecord) (e : Event) (n : ℕ) → is_look c e ≡ false → event_observes_node (event_with_look_on_chip c e) n ≡ true → touches e n ≡ true
sees_none c e n blind h = subst (λ (z : List ℕ). list_any (λ m. m == n) z ≡ true) (seen_blind (event_with_look_on_chip c e) blind) h

free_apart : (c : List NodeRecord) (e f : Event) → AreIndependentOnChip c e f → is_look c e ≡ false → is_look c f ≡ false → AreIndependentEvents (event_with_look_on_chip c e) (event_with_look_on_chip c f)
free_apart c e f free le lf = record {
  first = λ n h seen. both_ways (touches f n) (free.apart n h) (sees_none c f n lf seen);
  second = λ n h seen. both_ways (touches f n) (free.apart n (sees_none c e n le seen)) h;
}

pub equivalent_of : (c : List NodeRecord) (xs ys : List Event) → AreReorderings c xs ys → LookFree c xs → AreEquivalentLists c xs ys × LookFree c ys
equivalent_of c xs ys same free = (equivalence.same, free)
equivalent_of c xs ys (swapped {e} {f} {xs = zs} cane canf h) free =
    let back = apart-sym e f h.apart in
    let lf : is_look c f ≡ false = sym (look_still c f e cane back) ∙ free.1.0 in
    (equivalence.swapped (free_apart c e f h free.0 lf), (lf, (look_still c e f canf h.apart ∙ free.0, subst (λ d. LookFree d zs) (independent_on_chip c e f cane canf h) free.1.1)))
equivalent_of c xs ys (later {e} {xs = us} {ys = vs} can h) free =
    let k = equivalent_of (event_result c e).0 us vs h free.1 in
    (equivalence.later (apply_is c e can) k.0, (free.0, k.1))
equivalent_of c xs ys (joined {ys = zs} h k) free =
    let a = equivalent_of c xs zs h free in
    let b = equivalent_of c zs ys k a.1 in
    (equivalence.joined a.0 b.0, b.1)

-- ---- the parts of a run

record Parts (c now last : List NodeRecord) (fs ys : List Event) (us : List (EventWithLook × MadeEventOutcome)) : Type 0 where
  one : List (EventWithLook × MadeEventOutcome)
  two : List (EventWithLook × MadeEventOutcome)
  first : run_events c fs ≡ Some (now, one)
  then : run_events now ys ≡ Some (last, two)
  all : us ≡ one ++ two

parts_of : (fs ys : List Event) (c now last : List NodeRecord) (us : List (EventWithLook × MadeEventOutcome)) → replay c fs ≡ Some now → run_events c (fs ++ ys) ≡ Some (last, us) → Parts c now last fs ys us
parts_of [] ys c now last us h is =
    let e : c ≡ now = same_Some c now h in
    record { one = []; two = us; first = ap (λ (z : List NodeRecord). Some (z, let ts : List (EventWithLook × MadeEventOutcome) = [] in ts)) e; then = subst (λ d. run_events d ys ≡ Some (last, us)) e is; all = refl }
parts_of (e ∷ fs) ys c now last us h is =
    let m = first_of_run c e (fs ++ ys) last us is in
    let p = first_of c e fs now h in
    let at : (event_result c e).0 ≡ m.mid = ap (λ (z : List NodeRecord × MadeEventOutcome). z.0) (after_is c m.mid e m.told m.first) in
    let k = parts_of fs ys m.mid now last m.others (subst (λ d. replay d fs ≡ Some now) at p.then) m.then in
    record {
      one = (event_with_look_on_chip c e, m.told) ∷ k.one;
      two = k.two;
      first = run_more c e fs m.mid now m.told k.one m.first k.first;
      then = k.then;
      all = m.all ∙ ap (λ (z : List (EventWithLook × MadeEventOutcome)). (event_with_look_on_chip c e, m.told) ∷ z) k.all;
    }

causes-append : (xs ys : List (EventWithLook × MadeEventOutcome)) → causes (xs ++ ys) ≡ causes xs ++ causes ys
causes-append [] ys = refl
causes-append (x ∷ xs) ys = ap (λ (z : List EventWithLook). x.0 ∷ z) (causes-append xs ys)

events-append : (xs ys : List EventWithLook) → events_of_causes (xs ++ ys) ≡ events_of_causes xs ++ events_of_causes ys
events-append [] ys = refl
events-append (x ∷ xs) ys = ap (λ (z : List Event). x.event ∷ z) (events-append xs ys)

-- the list that a rollback of the event after `xs` leaves
rest_split : (xs : List EventWithLook) (x : EventWithLook) (ys : List EventWithLook) → rest (xs ++ x ∷ ys) (length xs) ≡ xs ++ kept (event_with_look_touches_node x) ys
rest_split [] x ys = refl
rest_split (e ∷ xs) x ys = ap (λ (z : List EventWithLook). e ∷ z) (rest_split xs x ys)

rewound_split : (n : ℕ) (xs : List EventWithLook) (x : EventWithLook) (ys : List EventWithLook) → event_with_look_touches_node x n ≡ true → events_after_rewind (xs ++ x ∷ ys) n (suc (count_touching_events n xs)) ≡ xs ++ kept (event_with_look_touches_node x) ys
rewound_split n xs x ys h = ap (λ (o : Option ℕ). remaining_events_or_all (xs ++ x ∷ ys) o) (place_split n (count_touching_events n xs) xs x ys refl h) ∙ rest_split xs x ys

-- ---- what remains if a pass is removed

abbrev pub reader_of : Event → ℕ
reader_of (Own a) = a.number
reader_of (Pass w r side) = r.number

-- two rivals are for the same reader, and both touch it
same_reader : (p q g : Event) → AreConflictingPasses p q → AreConflictingPasses g q → reader_of g ≡ reader_of p
same_reader p q g a b =
    ap reader_of b.one ∙ ap reader_of (sym b.two) ∙ ap reader_of a.two ∙ ap reader_of (sym a.one)

touches_reader_of : (p q : Event) → AreConflictingPasses p q → touches p (reader_of p) ≡ true
touches_reader_of p q a = subst (λ (z : Event). touches z (reader_of z) ≡ true) (sym a.one) (touches_reader a.first a.reader a.side)

touches_reader_too : (p q : Event) → AreConflictingPasses p q → touches q (reader_of p) ≡ true
touches_reader_too p q a =
    subst (λ (z : ℕ). touches q z ≡ true) (sym (ap reader_of a.one))
    (subst (λ (z : Event). touches z a.reader.number ≡ true) (sym a.two) (touches_reader a.second a.reader a.other))

-- an event that sees no marked node touches none
pub no_touch : (marks : ℕ → Bool) (e : EventWithLook) (n : ℕ) → observes_marked_node marks e ≡ false → marks n ≡ true → touches e.event n ≡ false
no_touch marks e n free m = false_from_ne_true (touches e.event n) (λ u. both_ways (list_any marks (event_nodes e.event)) (touched_free marks e free) (any_at marks (event_nodes e.event) n u m))

-- an event that touches no node of a pass leaves its rival open too
rival_spared : (c : List NodeRecord) (p q e : Event) → AreConflictingPasses p q → IsEnabled c q → IsEnabled c e → ((n : ℕ) → touches p n ≡ true → touches e n ≡ false) → (n : ℕ) → touches q n ≡ true → touches e n ≡ false
rival_spared c p q e a canq cane apart n register_t = false_from_ne_true (touches e n) (λ u. elim (cases_eq (actor e) (actor q)) [
  | inl eq ↦ not_reader (subst (λ (z : Event). touches z (reader_of p) ≡ true) (sym (one_event c e q cane canq eq)) (touches_reader_too p q a))
  | inr ne ↦ (let b : AreConflictingPasses e q = common_node c e q n cane canq (λ w. ne (ap actor w)) u register_t in
      not_reader (subst (λ (z : ℕ). touches e z ≡ true) (same_reader p q e a b) (touches_reader_of e q b)))
])
  where
    not_reader : touches e (reader_of p) ≡ true → ⊥
    not_reader k = both_ways (touches e (reader_of p)) (apart (reader_of p) (touches_reader_of p q a)) k

stays_open : (es : List EventWithLook) (marks : ℕ → Bool) (c last : List NodeRecord) (p q : Event) → AreConflictingPasses p q → ((n : ℕ) → touches p n ≡ true → marks n ≡ true) → IsEnabled c p → IsEnabled c q
    → replay c (events_of_causes (kept marks es)) ≡ Some last → IsEnabled last p × IsEnabled last q
stays_open [] marks c last p q a m canp canq h = (subst (λ z. IsEnabled z p) (same_Some c last h) canp, subst (λ z. IsEnabled z q) (same_Some c last h) canq)
stays_open (e ∷ es) marks c last p q a m canp canq h =
    go (observes_marked_node marks e) refl h (λ d cp cq k. stays_open es (marked_nodes_after_event marks e) d last p q a (λ n t. marked_nodes_after_event-stays marks e n (m n t)) cp cq k)
  where
    go : (b : Bool) → observes_marked_node marks e ≡ b → replay c (events_of_causes (cond b (kept (marked_nodes_after_event marks e) es) (e ∷ kept (marked_nodes_after_event marks e) es))) ≡ Some last
        → ((d : List NodeRecord) → IsEnabled d p → IsEnabled d q → replay d (events_of_causes (kept (marked_nodes_after_event marks e) es)) ≡ Some last → IsEnabled last p × IsEnabled last q) → IsEnabled last p × IsEnabled last q
    go true is k more = more c canp canq k
    go false is k more =
        let f = first_of c e.event (events_of_causes (kept (marked_nodes_after_event marks e) es)) last k in
        let apart : (n : ℕ) → touches p n ≡ true → touches e.event n ≡ false = λ n t. no_touch marks e n is (m n t) in
        more (event_result c e.event).0 (still_enabled c p e.event apart f.can canp) (still_enabled c q e.event (rival_spared c p q e.event a canq f.can apart) f.can canq) f.then

-- ---- a race of two passes shows after a rollback of one of them

abbrev pub Shows : List NodeRecord → List EventWithLook → Event → Event → Type 0
Shows c es p q = (k : ℕ) × (now : List NodeRecord) × (replay c (events_of_causes (events_after_rewind es (reader_of p) k)) ≡ Some now) × IsEnabled now p × IsEnabled now q

-- by a step that exists
abbrev pub ShowsWithin : List NodeRecord → List EventWithLook → List Event → Event → Event → Type 0
ShowsWithin c es events p q =
    (k : ℕ) × (0 < k) × (k ≤ count_steps (reader_of p) events) × (now : List NodeRecord)
    × (replay c (events_of_causes (events_after_rewind es (reader_of p) k)) ≡ Some now) × IsEnabled now p × IsEnabled now q

module _ (c last : List NodeRecord) (es : List Event) (ts : List (EventWithLook × MadeEventOutcome)) (is : run_events c es ≡ Some (last, ts)) (none : HasNoLooks (causes ts)) (step other : Event) (r : IsRace c es step other) (a : AreConflictingPasses step other) where
  whole : List Event
  whole = r.before ++ step ∷ r.later

  led : replay c es ≡ Some last
  led = ap (λ (o : Option (List NodeRecord × List (EventWithLook × MadeEventOutcome))). option_map (λ z. z.0) o) is

  other_run : (us : List (EventWithLook × MadeEventOutcome)) × (run_events c (r.before ++ step ∷ r.later) ≡ Some (last, us))
  other_run = ran c last (r.before ++ step ∷ r.later) (sym (order_replay c es (r.before ++ step ∷ r.later) r.order) ∙ led)

  alike : AreEquivalentLists c es (r.before ++ step ∷ r.later)
  alike = (equivalent_of c es (r.before ++ step ∷ r.later) r.order (look_free es c last ts is none)).0

  many : count_steps (reader_of step) r.before + 1 ≤ count_steps (reader_of step) es
  many =
      let n : ℕ = reader_of step in
      let all : count_steps n es ≡ count_steps n (r.before ++ step ∷ r.later) =
      sym (steps_read n c es) ∙ ap length (order_read n c es (r.before ++ step ∷ r.later) r.order) ∙ steps_read n c (r.before ++ step ∷ r.later) in
      let split : count_steps n (r.before ++ step ∷ r.later) ≡ count_steps n r.before + count_steps n (step ∷ r.later) = sum_by-append (λ (z : Event). cond (touches z n) 1 0) r.before (step ∷ r.later) in
      let first : count_steps n (step ∷ r.later) ≡ cond {A = ℕ} (touches step n) 1 0 + count_steps n r.later = sum_by-cons (λ (z : Event). cond (touches z n) 1 0) step r.later in
      let one : cond {A = ℕ} (touches step n) 1 0 ≡ 1 = ap (λ (b : Bool). cond {A = ℕ} b 1 0) (touches_reader_of step other a) in
      omega (arith, all, split, first, one)

  shown_state : ShowsWithin c (causes ts) es step other
  shown_state =
      let us = other_run.0 in
      let p = parts_of r.before (step ∷ r.later) c r.now last us r.led other_run.1 in
      let m = first_of_run r.now step r.later last p.two p.then in
      let x : EventWithLook = event_with_look_on_chip r.now step in
      let n : ℕ = reader_of step in
      let k : ℕ = suc (count_touching_events n (causes p.one)) in
      let all : causes us ≡ causes p.one ++ x ∷ causes m.others = ap causes (p.all ∙ ap (λ (z : List (EventWithLook × MadeEventOutcome)). p.one ++ z) m.all) ∙ causes-append p.one ((x, m.told) ∷ m.others) in
      let left : events_after_rewind (causes us) n k ≡ causes p.one ++ kept (event_with_look_touches_node x) (causes m.others) =
      ap (λ (z : List EventWithLook). events_after_rewind z n k) all ∙ rewound_split n (causes p.one) x (causes m.others) (touches_reader_of step other a) in
      let before : events_of_causes (causes p.one) ≡ r.before = (made_of c r.now r.before p.one p.first).1 in
      let events : events_of_causes (events_after_rewind (causes us) n k) ≡ r.before ++ events_of_causes (kept (event_with_look_touches_node x) (causes m.others)) =
      ap events_of_causes left ∙ events-append (causes p.one) (kept (event_with_look_touches_node x) (causes m.others)) ∙ ap (λ (z : List Event). z ++ events_of_causes (kept (event_with_look_touches_node x) (causes m.others))) before in
      let rolled = rolled_back c last last es (r.before ++ step ∷ r.later) ts us is other_run.1 alike ((n, k) ∷ []) in
      let runs = run_kept (event_with_look_touches_node x) r.later m.mid r.now last m.others (AgreeOutsideMarks-sym (event_with_look_touches_node x) r.now m.mid (keeps_of r.now step m.mid m.told m.first)) m.then in
      let there : replay r.now (events_of_causes (kept (event_with_look_touches_node x) (causes m.others))) ≡ Some runs.0 = ap (λ (o : Option (List NodeRecord × List (EventWithLook × MadeEventOutcome))). option_map (λ z. z.0) o) runs.1 in
      let here : replay c (events_of_causes (events_after_rewind (causes ts) n k)) ≡ Some runs.0 =
      replay_equivalent c (events_of_causes (events_after_rewind (causes ts) n k)) (events_of_causes (events_after_rewind (causes us) n k)) rolled
      ∙ ap (λ (z : List Event). replay c z) events ∙ replay_into r.before (events_of_causes (kept (event_with_look_touches_node x) (causes m.others))) c r.now r.led ∙ there in
      let can : IsEnabled r.now step = enabled_after r.before c r.now step r.later r.led (is_some_of (replay c (r.before ++ step ∷ r.later)) last (sym (order_replay c es (r.before ++ step ∷ r.later) r.order) ∙ led)) in
      let open_ = stays_open (causes m.others) (event_with_look_touches_node x) r.now runs.0 step other a (λ i t. t) can r.can there in
      let number : count_touching_events n (causes p.one) ≡ count_steps n r.before = touching_in n (causes p.one) ∙ ap (count_steps n) before in
      (k, omega arith, omega (arith, number, many), runs.0, here, open_.0, open_.1)

pub race_shows : (c last : List NodeRecord) (es : List Event) (ts : List (EventWithLook × MadeEventOutcome)) → run_events c es ≡ Some (last, ts) → HasNoLooks (causes ts) → (step other : Event) → IsRace c es step other → AreConflictingPasses step other → Shows c (causes ts) step other
race_shows c last es ts is none step other r a = let w = shown_state c last es ts is none step other r a in (w.0, w.3, w.4, w.5, w.6)

-- ---- where all ends, or nothing that comes next looks

-- an event that is enabled and is never made in another way looks at nothing; if the list has no look, no enabled event looks
abbrev pub IsBlind : List NodeRecord → Type 0
IsBlind c = (e : Event) → IsEnabled c e → is_look c e ≡ false

pub end_blind : (c : List NodeRecord) → IsTerminalChip c → IsBlind c
end_blind c end e can = absurd (end e can)

blind_later : (es : List Event) (c last : List NodeRecord) (e : Event) → LookFree c es → replay c es ≡ Some last → IsBlind last → IsEnabled c e → is_look c e ≡ false
blind_later [] c last e free h end can = subst (λ z. is_look z e ≡ false) (sym (same_Some c last h)) (end e (subst (λ z. IsEnabled z e) (same_Some c last h) can))
blind_later (f ∷ es) c last e free h end can =
    let p = first_of c f es last h in
    elim (cases_eq (actor f) (actor e)) [
      | inl q ↦ subst (λ (z : Event). is_look c z ≡ false) (one_event c f e p.can can q) free.0
      | inr ne ↦ elim (cases_Bool (list_any (touches e) (event_nodes f))) [
        | inl register_t ↦ (let k = any_of (touches e) (event_nodes f) register_t in
            let b = common_node c e f k.node can p.can (λ w. ne (sym (ap actor w))) k.marked_nodes k.listed in
            subst (λ (z : Event). is_look c z ≡ false) (sym b.one) refl)
        | inr none ↦ (let apart = independent_of e f none in
            sym (look_still c e f p.can apart) ∙ blind_later es (event_result c f).0 last e free.1 p.then end (still_enabled c e f apart p.can can))
      ]
    ]

look_free_into : (fs ys : List Event) (c now : List NodeRecord) → replay c fs ≡ Some now → LookFree c (fs ++ ys) → LookFree now ys
look_free_into [] ys c now h free = subst (λ d. LookFree d ys) (same_Some c now h) free
look_free_into (e ∷ fs) ys c now h free = let p = first_of c e fs now h in look_free_into fs ys (event_result c e).0 now p.then free.1

-- so its races are of passes
pub race_rivals : (c last : List NodeRecord) (es : List Event) (ts : List (EventWithLook × MadeEventOutcome)) → run_events c es ≡ Some (last, ts) → HasNoLooks (causes ts) → IsBlind last → (step other : Event) → IsRace c es step other → AreConflictingPasses step other
race_rivals c last es ts is none end step other r = elim (cases_Bool (list_any (touches step) (event_nodes other))) [
  | inl register_t ↦ (let k = any_of (touches step) (event_nodes other) register_t in common_node r.now step other k.node can r.can r.differ k.marked_nodes k.listed)
  | inr no_node ↦ (let apart = independent_of step other no_node in
      let blind = blind_later (step ∷ r.later) r.now last other free there end r.can in
      absurd (r.bound (record { apart = apart; first = word_still r.now step other r.can apart free.0; second = word_still r.now other step can (apart-sym step other apart) blind })))
]
  where
    led : replay c es ≡ Some last
    led = ap (λ (o : Option (List NodeRecord × List (EventWithLook × MadeEventOutcome))). option_map (λ z. z.0) o) is

    all : replay c (r.before ++ step ∷ r.later) ≡ Some last
    all = sym (order_replay c es (r.before ++ step ∷ r.later) r.order) ∙ led

    can : IsEnabled r.now step
    can = enabled_after r.before c r.now step r.later r.led (is_some_of (replay c (r.before ++ step ∷ r.later)) last all)

    there : replay r.now (step ∷ r.later) ≡ Some last
    there = sym (replay_into r.before (step ∷ r.later) c r.now r.led) ∙ all

    free : LookFree r.now (step ∷ r.later)
    free = look_free_into r.before (step ∷ r.later) c r.now r.led ((equivalent_of c es (r.before ++ step ∷ r.later) r.order (look_free es c last ts is none)).1)

-- and a list without looks that ends is without a race where no rollback of one of its steps leaves two neighbours that wait to
-- write to one reader
abbrev pub NoneShows : List NodeRecord → List EventWithLook → Type 0
NoneShows c es = (k : ℕ) (now : List NodeRecord) (w x r : NodeId) (side other : Side) → replay c (events_of_causes (events_after_rewind es r.number k)) ≡ Some now → IsEnabled now (Pass w r side) → IsEnabled now (Pass x r other) → side ≢ other → ⊥

abbrev pub NoneShowsWithin : List NodeRecord → List EventWithLook → List Event → Type 0
NoneShowsWithin c es events =
    (k : ℕ) (now : List NodeRecord) (w x r : NodeId) (side other : Side) → 0 < k → k ≤ count_steps r.number events
    → replay c (events_of_causes (events_after_rewind es r.number k)) ≡ Some now → IsEnabled now (Pass w r side) → IsEnabled now (Pass x r other) → side ≢ other → ⊥

pub none_races_within : (c last : List NodeRecord) (es : List Event) (ts : List (EventWithLook × MadeEventOutcome)) → run_events c es ≡ Some (last, ts) → HasNoLooks (causes ts) → IsBlind last → NoneShowsWithin c (causes ts) es → HasNoRace c es
none_races_within c last es ts is none end free step other r =
    let a = race_rivals c last es ts is none end step other r in
    let k = shown_state c last es ts is none step other r a in
    free k.0 k.3 a.first a.second a.reader a.side a.other k.1
    (subst (λ (z : Event). k.0 ≤ count_steps (reader_of z) es) a.one k.2)
    (ap (λ (z : Event). replay c (events_of_causes (events_after_rewind (causes ts) (reader_of z) k.0))) (sym a.one) ∙ k.4)
    (subst (λ (z : Event). IsEnabled k.3 z) a.one k.5) (subst (λ (z : Event). IsEnabled k.3 z) a.two k.6) a.sides

pub none_races : (c last : List NodeRecord) (es : List Event) (ts : List (EventWithLook × MadeEventOutcome)) → run_events c es ≡ Some (last, ts) → HasNoLooks (causes ts) → IsBlind last → NoneShows c (causes ts) → HasNoRace c es
none_races c last es ts is none end free = none_races_within c last es ts is none end (λ k now w x r side other first within. free k now w x r side other)

-- ---- and where it has no race none shows

-- a race of a list's rest is one of the list
race_behind : (fs ys es : List Event) (c now : List NodeRecord) → replay c fs ≡ Some now → AreReorderings c es (fs ++ ys) → HasNoRace c es → HasNoRace now ys
race_behind [] ys es c now led h calm = subst (λ d. HasNoRace d ys) (same_Some c now led) (no_race-order c es ys h calm)
race_behind (e ∷ fs) ys es c now led h calm =
    let p = first_of c e fs now led in
    race_behind fs ys (fs ++ ys) (event_result c e).0 now p.then same (no_race-tail c e (fs ++ ys) p.can (no_race-order c es (e ∷ fs ++ ys) h calm))

pub none_shows : (c last : List NodeRecord) (es : List Event) (ts : List (EventWithLook × MadeEventOutcome)) → run_events c es ≡ Some (last, ts) → HasNoLooks (causes ts) → IsTerminalChip last → HasNoRace c es → NoneShows c (causes ts)
none_shows c last es ts is none end calm k now w x r side other led canp canq ne =
    let h : replay c es ≡ Some last = ap (λ (o : Option (List NodeRecord × List (EventWithLook × MadeEventOutcome))). option_map (λ z. z.0) o) is in
    let xs : List Event = events_of_causes (events_after_rewind (causes ts) r.number k) in
    let d = completed_quiet xs es c last now led h calm end in
    let there : replay now d.0 ≡ Some last = sym (replay_into xs d.0 c now led) ∙ sym (order_replay c es (xs ++ d.0) d.1) ∙ h in
    first_or_end d.0 (race_behind xs d.0 es c now led d.1 calm) (brought d.0 now last (Pass w r side) there (race_behind xs d.0 es c now led d.1 calm) canp)
  where
    other_writer : w.number ≡ x.number → ⊥
    other_writer e = ne (one_side (node_record_at now w.number).wait side other (open_of now w r side canp).writes
        (subst (λ (z : ℕ). waits_to_write_side (node_record_at now z).wait other ≡ true) (sym e) (open_of now x r other canq).writes))

    not_free : AreIndependentOnChip now (Pass w r side) (Pass x r other) → ⊥
    not_free free = both_ways (touches (Pass x r other) r.number) (free.apart r.number (touches_reader w r side)) (touches_reader x r other)

    first_or_end : (ys : List Event) → HasNoRace now ys → IsFirst now ys (Pass w r side) ⊎ IsSpared now ys (Pass w r side) last → ⊥
    first_or_end ys quiet (inr s) = end (Pass w r side) s.can
    first_or_end ys quiet (inl b) =
        quiet (Pass w r side) (Pass x r other)
        (record { before = []; later = b.others; now = now; order = b.order; led = refl; can = canq; differ = λ e. other_writer (ap actor e); bound = not_free })

pub decided : (c last : List NodeRecord) (es : List Event) (ts : List (EventWithLook × MadeEventOutcome)) → run_events c es ≡ Some (last, ts) → HasNoLooks (causes ts) → IsTerminalChip last → HasNoRace c es ↔ NoneShows c (causes ts)
decided c last es ts is none end = (λ calm. none_shows c last es ts is none end calm, λ h. none_races c last es ts is none (end_blind last end) h)
