-- A session of which no step is reported as a race has no race.
use Rattle.std.proofs.Common.{◌≡◌, ℕ, zero, suc, ◌+◌, ◌<◌, ◌≤◌, ◌%◌, ◌==◌, cond, Bool, true, false, ◌||◌, ◌&&◌, inl, inr, List, [], ◌∷◌, ◌++◌, Option, Some, None, IsSome, is_none, true≢false, Ok, eq-eqb, lt-ltb, refl, sym, ◌∙◌, ap, subst, arith}
use Rattle.std.specs.Prelude.{is_some}
use Rattle.std.specs.List.{slice_get, All}
use Rattle.std.proofs.lemmas.Bool.{cases_eq, or_cases, or_parts, and_parts, both_ways, eqb-true}
use Rattle.std.proofs.lemmas.Option.{same_Some}
use Rattle.ga_ports.specs.declared.side.Side.{Side}
use Rattle.ga_ports.specs.declared.side.Side.TheVariants.{Right, Down, Left, Up}
use Rattle.ga_node.specs.Record.{NodeRecord}
use Rattle.ga_node.specs.Table.{register_t, wait_refusal, refusal_of_own_event, reads_io_next}
use Rattle.ga_node.specs.declared.wait.Wait.{Wait}
use Rattle.ga_node.specs.declared.wait.Wait.TheVariants.{Nothing, Fetch, Read, Write}
use Rattle.ga_grid.specs.declared.node_id.NodeId.{NodeId}
use Rattle.ga_grid.specs.Grid.{node_id, neighbour_number}
use Rattle.ga_grid.specs.Chip.{node_record_at}
use Rattle.ga_grid.proofs.NodeIds.{node_id-number, neighbour_number-back}
use Rattle.ga_event.specs.declared.event.Event.{Event}
use Rattle.ga_event.specs.declared.event.Event.TheVariants as event
use Rattle.ga_event.specs.declared.event.EventWithLook.{EventWithLook}
use Rattle.ga_event.specs.declared.made.MadeEvent.{MadeEvent}
use Rattle.ga_event.specs.declared.made.MadeEvent.TheVariants as made
use Rattle.ga_event.specs.Touches.{touches}
use Rattle.ga_event.specs.Apply.{waits_to_write_side, waits_to_read_side, equals_optional_number, refusal_unless_matched, replay}
use Rattle.ga_event.specs.Next.{next_event_of_node}
use Rattle.ga_event.proofs.Nexts.{neighbour_number-within as neighbour_small}
use Rattle.ga_lab.proofs.Forward.{made_is_next}
use Rattle.ga_event.specs.Told.{count_steps, events_of_causes}
use Rattle.ga_causal.specs.Dependence.{events_after_rewind, HasNoLooks}
use Rattle.ga_causal.proofs.Runs.{causes}
use Rattle.ga_lab.specs.Machine.{MachineState, initial_state, chip_of_machine, machine_events_with_looks, history_of_node, run_events_with_outcomes, state_after_rewind}
use Rattle.ga_lab.specs.Calls.{MachineCall, state_after_machine_calls}
use Rattle.ga_lab.proofs.Called.{Runs, chip_is, runs_some, first_runs, calls_load}
use Rattle.ga_races.specs.Orders.{IsEnabled, AreReorderings, IsTerminalChip, HasNoRace, node_has_event}
use Rattle.ga_races.proofs.Orders.{beginning_within}
use Rattle.ga_races.proofs.Conflicts.{Open, open_of, one_side, one_way}
use Rattle.ga_races.proofs.Blind.{IsBlind, NoneShowsWithin, none_races_within}
use Rattle.ga_race_detector.specs.Races.{word_offered_by_neighbour, alternative_word, race_with_offer, races_on_side, races_of_pass, races_of_event, races_of_numbered_step, races_of_first_steps, races_of_node, races_of_nodes_below, requested_races, has_look_event, is_next_event_look, has_next_look_event, has_made_or_next_look, first_ready_node, IsRealizableRace}
use Rattle.ga_races.proofs.Ready.{none_of}
use Rattle.ga_race_detector.proofs.Offering.{on_the_way, same_end, no_next, is_offered}
use Rattle.std.proofs.lemmas.List.Elements.{All-nil, All-append}
use Rattle.std.proofs.Math.Nat.{mod-eq_of_lt}
use Rattle.ga_race_detector.specs.declared.races.Race.{Race}
use Rattle.ga_race_detector.proofs.Behind.{IsOf, TakenBack, taken_back, chip_at}

-- ---- parts of nothing are nothing

left_none : {A : Type 0} (xs ys : List A) → xs ++ ys ≡ [] → xs ≡ []
left_none [] ys h = refl
left_none (x ∷ xs) ys h = absurd (cc)

right_none : {A : Type 0} (xs ys : List A) → xs ++ ys ≡ [] → ys ≡ []
right_none [] ys h = h
right_none (x ∷ xs) ys h = absurd (cc)

none_of_node : (s : MachineState) (m n : ℕ) → races_of_nodes_below s m ≡ [] → n < m → races_of_node s (node_id n) ≡ []
unfolding races_of_nodes_below
none_of_node s zero n h l = absurd (omega arith)
none_of_node s (suc m) n h l = elim (cases_eq n m) [
  | inl q ↦ ap (λ (z : ℕ). races_of_node s (node_id z)) q ∙ right_none (races_of_nodes_below s m) (races_of_node s (node_id m)) h
  | inr ne ↦ none_of_node s m n (left_none (races_of_nodes_below s m) (races_of_node s (node_id m)) h) (omega (arith, l, ne))
]

none_at : (s : MachineState) (node : NodeId) (k p : ℕ) → races_of_first_steps s node k ≡ [] → p < k → races_of_numbered_step s node p ≡ []
unfolding races_of_first_steps
none_at s node zero p h l = absurd (omega arith)
none_at s node (suc k) p h l = elim (cases_eq p k) [
  | inl q ↦ ap (races_of_numbered_step s node) q ∙ right_none (races_of_first_steps s node k) (races_of_numbered_step s node k) h
  | inr ne ↦ none_at s node k p (left_none (races_of_first_steps s node k) (races_of_numbered_step s node k) h) (omega (arith, l, ne))
]

-- ---- a word that is offered

pub record Offer (chip : List NodeRecord) (r : ℕ) (side : Side) : Type 0 where
  pub writer : ℕ
  pub word : ℕ
  pub near : neighbour_number r side ≡ Some writer
  pub is : alternative_word chip r side ≡ Some word
  pub writes : waits_to_write_side (node_record_at chip writer).wait side ≡ true
  pub reads : waits_to_read_side (node_record_at chip r).wait side ≡ true
  pub carries : word ≡ register_t (node_record_at chip writer)

pub offer_of : (chip : List NodeRecord) (r : ℕ) (side : Side) → IsSome (alternative_word chip r side) → Offer chip r side
offer_of chip r side some = go (neighbour_number r side) refl some
  where
    at : (w : ℕ) → neighbour_number r side ≡ Some w → (b : Bool) → (waits_to_write_side (node_record_at chip w).wait side && waits_to_read_side (node_record_at chip r).wait side) ≡ b
        → IsSome (cond b (Some (register_t (node_record_at chip w))) None) → Offer chip r side
    at w near true both some =
        let p = and_parts (waits_to_write_side (node_record_at chip w).wait side) (waits_to_read_side (node_record_at chip r).wait side) both in
        record {
          writer = w;
          word = register_t (node_record_at chip w);
          near = near;
          is = ap (λ (o : Option ℕ). word_offered_by_neighbour chip r side o) near ∙ ap (λ (b : Bool). cond {A = Option ℕ} b (Some (register_t (node_record_at chip w))) None) both;
          writes = p.0;
          reads = p.1;
          carries = refl;
        }
    at w near false both some = absurd (cc)

    go : (o : Option ℕ) → neighbour_number r side ≡ o → IsSome (word_offered_by_neighbour chip r side o) → Offer chip r side
    go None near some = absurd (cc)
    go (Some w) near some = at w near (waits_to_write_side (node_record_at chip w).wait side && waits_to_read_side (node_record_at chip r).wait side) refl some

-- ---- who reads

reads_none : (wait : Wait) (stop : ℕ) (side : Side) → wait_refusal wait stop ≡ None → waits_to_read_side wait side ≡ true → ⊥
reads_none Nothing stop side h k = true≢false (sym k)
reads_none (Fetch sides) stop side h k = absurd (cc)
reads_none (Read sides) stop side h k = absurd (cc)
reads_none (Write posted) stop side h k = true≢false (sym k)

own_touched : (a n : ℕ) → ((a == n) || false) ≡ true → a ≡ n
own_touched a n h = elim (or_cases (a == n) false h) [ inl q ↦ eqb-true a n q | inr q ↦ absurd (both_ways false refl q) ]

-- ---- a step after whose rollback words are offered took one

-- no race of a step is reported over a side: the writer there is therefore the one that it took its word from
same_writer : (s : MachineState) (r : NodeId) (k : ℕ) (w : NodeId) (word : ℕ) (side : Side) (o : Offer (chip_of_machine (state_after_rewind s r.number k)) r.number side)
    → races_on_side s r k w word side ≡ [] → o.writer ≡ w.number
same_writer s r k w word side o none =
    go (o.writer == w.number) refl
    (sym (ap (λ (z : Option ℕ). race_with_offer r k w word z (alternative_word (chip_of_machine (state_after_rewind s r.number k)) r.number side)) o.near ∙ ap (race_with_offer r k w word (Some o.writer)) o.is) ∙ none)
  where
    go : (b : Bool) → (o.writer == w.number) ≡ b
        → cond {A = List Race} b [] (record { reader = r; step = k; writer = w; word = word; other = node_id o.writer; offered = o.word } ∷ []) ≡ [] → o.writer ≡ w.number
    go true is h = eqb-true o.writer w.number is
    go false is h = absurd (cc)

over_any : (s : MachineState) (r : NodeId) (k : ℕ) (w : NodeId) (word : ℕ) (side : Side) → races_of_pass s r k w word ≡ [] → races_on_side s r k w word side ≡ []
over_any s r k w word side h = at side
  where
    right : List Race
    right = races_on_side s r k w word Right

    down : List Race
    down = races_on_side s r k w word Down

    left : List Race
    left = races_on_side s r k w word Left

    up : List Race
    up = races_on_side s r k w word Up

    at : (side : Side) → races_on_side s r k w word side ≡ []
    at Right = left_none right (down ++ (left ++ up)) h
    at Down = left_none down (left ++ up) (right_none right (down ++ (left ++ up)) h)
    at Left = left_none left up (right_none down (left ++ up) (right_none right (down ++ (left ++ up)) h))
    at Up = right_none left up (right_none down (left ++ up) (right_none right (down ++ (left ++ up)) h))

-- the two sides are one
one_offer : (s : MachineState) (r : NodeId) (k : ℕ) (m : MadeEvent) (e : Event) (mid : List NodeRecord) (side other : Side) → IsOf m e → IsEnabled mid e → touches e r.number ≡ true
    → node_record_at mid r.number ≡ node_record_at (chip_of_machine (state_after_rewind s r.number k)) r.number → races_of_event s r k (Some m) ≡ []
    → Offer (chip_of_machine (state_after_rewind s r.number k)) r.number side → Offer (chip_of_machine (state_after_rewind s r.number k)) r.number other → side ≡ other
one_offer s r k (made.Own n j kind) e mid side other of can touch same none p q =
    let own : IsEnabled mid (event.Own of.0) = subst (λ (z : Event). IsEnabled mid z) of.1 can in
    let here : of.0.number ≡ r.number = own_touched of.0.number r.number (subst (λ (z : Event). touches z r.number ≡ true) of.1 touch) in
    let free : refusal_of_own_event (node_record_at mid r.number) ≡ None = subst (λ (z : ℕ). refusal_of_own_event (node_record_at mid z) ≡ None) here own in
    absurd (reads_none (node_record_at mid r.number).wait (node_record_at mid r.number).stop side free (subst (λ (z : NodeRecord). waits_to_read_side z.wait side ≡ true) (sym same) p.reads))
one_offer s r k (made.Pass w i x j word) e mid side other of can touch same none p q =
    go (x.number == r.number) refl none
  where
    open_ : Open mid w x of.0
    open_ = open_of mid w x of.0 (subst (λ (z : Event). IsEnabled mid z) of.1 can)

    writer_here : (x.number == r.number) ≡ false → w.number ≡ r.number
    writer_here not = elim (or_cases (w.number == r.number) ((x.number == r.number) || false) (subst (λ (z : Event). touches z r.number ≡ true) of.1 touch)) [
      | inl y ↦ eqb-true w.number r.number y
      | inr y ↦ absurd (elim (or_cases (x.number == r.number) false y) [ inl z ↦ true≢false (sym z ∙ not) | inr z ↦ both_ways false refl z ])
    ]

    go : (b : Bool) → (x.number == r.number) ≡ b → cond {A = List Race} b (races_of_pass s r k w word) [] ≡ [] → side ≡ other
    go true is h =
        let chip = chip_of_machine (state_after_rewind s r.number k) in
        let a : p.writer ≡ w.number = same_writer s r k w word side p (over_any s r k w word side h) in
        let b : q.writer ≡ w.number = same_writer s r k w word other q (over_any s r k w word other h) in
        one_side (node_record_at chip w.number).wait side other (subst (λ (z : ℕ). waits_to_write_side (node_record_at chip z).wait side ≡ true) a p.writes)
        (subst (λ (z : ℕ). waits_to_write_side (node_record_at chip z).wait other ≡ true) b q.writes)
    go false is h =
        let writes : waits_to_write_side (node_record_at mid r.number).wait of.0 ≡ true = subst (λ (z : ℕ). waits_to_write_side (node_record_at mid z).wait of.0 ≡ true) (writer_here is) open_.writes in
        absurd (one_way (node_record_at mid r.number).wait of.0 side writes (subst (λ (z : NodeRecord). waits_to_read_side z.wait side ≡ true) (sym same) p.reads))

-- no two words are offered after a rollback of a step that exists
none_two : (s : MachineState) → Runs s → requested_races s None ≡ [] → (r : NodeId) (p : ℕ) (side other : Side) → p < count_steps r.number s.kept
    → IsSome (alternative_word (chip_of_machine (state_after_rewind s r.number (suc p))) r.number side) → IsSome (alternative_word (chip_of_machine (state_after_rewind s r.number (suc p))) r.number other) → side ≡ other
none_two s runs none r p side other within so si =
    one_offer s r (suc p) b.made b.event b.mid side other b.of b.can b.touch b.same told (offer_of chip r.number side so) (offer_of chip r.number other si)
  where
    chip : List NodeRecord
    chip = chip_of_machine (state_after_rewind s r.number (suc p))

    b : TakenBack s r.number p
    b = taken_back s runs r.number p within

    of_node : races_of_node s r ≡ []
    of_node = subst (λ (z : NodeId). races_of_node s z ≡ []) (node_id-number r) (none_of_node s 144 r.number none r.in_range)

    told : races_of_event s r (suc p) (Some b.made) ≡ []
    told = ap (λ (z : ℕ). races_of_event s r z (Some b.made)) (let q : suc p ≡ p + 1 = omega arith in q) ∙ ap (races_of_event s r (p + 1)) (sym b.told) ∙ none_at s r (count_steps r.number s.kept) p of_node within

-- ---- nothing looks

none_look : (causes : List EventWithLook) → has_look_event causes ≡ false → HasNoLooks causes
unfolding has_look_event
none_look [] h = tt
none_look (c ∷ cs) h = let p : (c.look ≡ false) × (has_look_event cs ≡ false) = or_parts c.look (has_look_event cs) h in (p.0, none_look cs p.1)

none_next : (chip : List NodeRecord) (m n : ℕ) → has_next_look_event chip m ≡ false → n < m → is_next_event_look chip n ≡ false
unfolding has_next_look_event
none_next chip zero n h l = absurd (omega arith)
none_next chip (suc m) n h l =
    let p : (is_next_event_look chip m ≡ false) × (has_next_look_event chip m ≡ false) = or_parts (is_next_event_look chip m) (has_next_look_event chip m) h in
    elim (cases_eq n m) [ inl q ↦ ap (is_next_event_look chip) q ∙ p.0 | inr ne ↦ none_next chip m n p.1 (omega (arith, l, ne)) ]

blind : (chip : List NodeRecord) → has_next_look_event chip 144 ≡ false → IsBlind chip
blind chip h (event.Own a) can =
    sym (ap (λ z. is_none z && reads_io_next (node_record_at chip a.number)) can) ∙ none_next chip 144 a.number h a.in_range
blind chip h (event.Pass w r side) can = refl

at_end : (chip : List NodeRecord) → first_ready_node chip ≡ None → IsTerminalChip chip
at_end chip h = (no_next chip).1 none
  where
    go : (n : NodeId) (e : Event) → next_event_of_node chip n ≡ Ok e → node_has_event chip n.number ≡ true
    go n e is = let l : n.number < 144 = n.in_range in let q : node_id n.number ≡ n = node_id-number n in grind (arith, lt-ltb)

    idle : (n : NodeId) → node_has_event chip n.number ≡ false
    idle n = (let q : n.number ≡ (0 + n.number) % 144 = (let l : n.number < 144 = n.in_range in omega (arith, l)) in ap (node_has_event chip) q) ∙ none_of (node_has_event chip) 0 144 n.number h n.in_range

    none : (n : NodeId) (e : Event) → next_event_of_node chip n ≡ Ok e → ⊥
    none n e is = true≢false (sym (go n e is) ∙ idle n)

-- ---- so it has no race

-- what is reported of a session: no step, and that nothing looks
pub no_race : (s : MachineState) → Runs s → requested_races s None ≡ [] → has_made_or_next_look (machine_events_with_looks s) (chip_of_machine s) ≡ false → HasNoRace s.load s.kept
no_race s runs none calm =
    none_races_within s.load runs.last s.kept runs.told runs.run_is (subst (λ z. HasNoLooks z) told_all (none_look (machine_events_with_looks s) p.0))
    (subst (λ z. IsBlind z) (chip_is s runs) (blind (chip_of_machine s) p.1)) free
  where
    p : (has_look_event (machine_events_with_looks s) ≡ false) × (has_next_look_event (chip_of_machine s) 144 ≡ false)
    p = or_parts (has_look_event (machine_events_with_looks s)) (has_next_look_event (chip_of_machine s) 144) calm

    told_all : machine_events_with_looks s ≡ causes runs.told
    told_all = ap (λ o. causes (run_events_with_outcomes o)) runs.run_is

    free : NoneShowsWithin s.load (causes runs.told) s.kept
    free zero now w x r side other first within led canp canq ne = absurd (omega (arith, first))
    free (suc k) now w x r side other first within led canp canq ne =
        let here : replay s.load (state_after_rewind s r.number (suc k)).kept ≡ Some now = ap (λ z. replay s.load (events_of_causes (events_after_rewind z r.number (suc k)))) told_all ∙ led in
        let at : now ≡ chip_of_machine (state_after_rewind s r.number (suc k)) = sym (chip_at (replay s.load (state_after_rewind s r.number (suc k)).kept) now here) in
        ne (none_two s runs none r k side other (omega (arith, within))
        (subst (λ z. IsSome (alternative_word z r.number side)) at (is_offered now w r side canp))
        (subst (λ z. IsSome (alternative_word z r.number other)) at (is_offered now x r other canq)))

calm_session : (load : List NodeRecord) (limit : ℕ) (calls : List MachineCall) → requested_races (state_after_machine_calls (initial_state load limit) calls) None ≡ []
    → has_made_or_next_look (machine_events_with_looks (state_after_machine_calls (initial_state load limit) calls)) (chip_of_machine (state_after_machine_calls (initial_state load limit) calls)) ≡ false → HasNoRace load (state_after_machine_calls (initial_state load limit) calls).kept
calm_session load limit calls none calm =
    let s = state_after_machine_calls (initial_state load limit) calls in
    subst (λ z. HasNoRace z s.kept) (calls_load (initial_state load limit) calls) (no_race s (first_runs load limit calls) none calm)

pub every_way : (load : List NodeRecord) (limit bound : ℕ) (calls others : List MachineCall) → requested_races (state_after_machine_calls (initial_state load limit) calls) None ≡ []
    → has_made_or_next_look (machine_events_with_looks (state_after_machine_calls (initial_state load limit) calls)) (chip_of_machine (state_after_machine_calls (initial_state load limit) calls)) ≡ false → first_ready_node (chip_of_machine (state_after_machine_calls (initial_state load limit) calls)) ≡ None
    → (later : List Event) × AreReorderings load (state_after_machine_calls (initial_state load limit) calls).kept ((state_after_machine_calls (initial_state load bound) others).kept ++ later)
every_way load limit bound calls others none calm quiet =
    on_the_way load limit bound calls others (calm_session load limit calls none calm) (at_end (chip_of_machine (state_after_machine_calls (initial_state load limit) calls)) quiet)

pub every_end : (load : List NodeRecord) (limit bound : ℕ) (calls others : List MachineCall) → requested_races (state_after_machine_calls (initial_state load limit) calls) None ≡ []
    → has_made_or_next_look (machine_events_with_looks (state_after_machine_calls (initial_state load limit) calls)) (chip_of_machine (state_after_machine_calls (initial_state load limit) calls)) ≡ false → first_ready_node (chip_of_machine (state_after_machine_calls (initial_state load limit) calls)) ≡ None
    → first_ready_node (chip_of_machine (state_after_machine_calls (initial_state load bound) others)) ≡ None → chip_of_machine (state_after_machine_calls (initial_state load bound) others) ≡ chip_of_machine (state_after_machine_calls (initial_state load limit) calls)
every_end load limit bound calls others none calm quiet stop =
    same_end load limit bound calls others (calm_session load limit calls none calm) (at_end (chip_of_machine (state_after_machine_calls (initial_state load limit) calls)) quiet) (at_end (chip_of_machine (state_after_machine_calls (initial_state load bound) others)) stop)

pub no_other : (load : List NodeRecord) (limit bound : ℕ) (calls others : List MachineCall) → requested_races (state_after_machine_calls (initial_state load limit) calls) None ≡ []
    → has_made_or_next_look (machine_events_with_looks (state_after_machine_calls (initial_state load limit) calls)) (chip_of_machine (state_after_machine_calls (initial_state load limit) calls)) ≡ false
    → ((n : ℕ) → count_steps n (state_after_machine_calls (initial_state load bound) others).kept ≤ count_steps n (state_after_machine_calls (initial_state load limit) calls).kept)
    → (later : List Event) × AreReorderings load (state_after_machine_calls (initial_state load limit) calls).kept ((state_after_machine_calls (initial_state load bound) others).kept ++ later)
no_other load limit bound calls others none calm few =
    let s = state_after_machine_calls (initial_state load limit) calls in
    let z = state_after_machine_calls (initial_state load bound) others in
    beginning_within load s.kept z.kept (some_from load limit calls) (calm_session load limit calls none calm) (some_from load bound others) few
  where
    some_from : (load : List NodeRecord) (limit : ℕ) (calls : List MachineCall) → IsSome (replay load (state_after_machine_calls (initial_state load limit) calls).kept)
    some_from load limit calls =
        subst (λ z. IsSome (replay z (state_after_machine_calls (initial_state load limit) calls).kept)) (calls_load (initial_state load limit) calls) (runs_some (state_after_machine_calls (initial_state load limit) calls) (first_runs load limit calls))

-- ---- each reported race is one

can_pass : (chip : List NodeRecord) (w r : NodeId) (side : Side) → neighbour_number r.number side ≡ Some w.number → waits_to_write_side (node_record_at chip w.number).wait side ≡ true
    → waits_to_read_side (node_record_at chip r.number).wait side ≡ true → IsEnabled chip (event.Pass w r side)
can_pass chip w r side near writes reads =
    let there : neighbour_number w.number side ≡ Some r.number = neighbour_number-back r.number w.number side r.in_range near in
    let is : equals_optional_number (neighbour_number w.number side) r.number ≡ true = ap (λ (o : Option ℕ). equals_optional_number o r.number) there ∙ (let q : (r.number == r.number) ≡ true = grind (arith, eq-eqb) in q) in
    ap (λ (b : Bool). refusal_unless_matched (b && waits_to_write_side (node_record_at chip w.number).wait side && waits_to_read_side (node_record_at chip r.number).wait side)) is
    ∙ ap (λ (b : Bool). refusal_unless_matched (b && waits_to_read_side (node_record_at chip r.number).wait side)) writes
    ∙ ap refusal_unless_matched reads

all_one : {X : Type 0} (P : X → Type 0) (x : X) → P x → All P (x ∷ [])
all_one P x p zero d l = p
all_one P x p (suc k) d l = absurd (omega (arith, l))

over_made : (s : MachineState) (r : NodeId) (k : ℕ) (w : NodeId) (word : ℕ) (side : Side) → All (IsRealizableRace s) (races_on_side s r k w word side)
over_made s r k w word side =
    go (neighbour_number r.number side) refl (alternative_word (chip_of_machine (state_after_rewind s r.number k)) r.number side) refl
  where
    chip : List NodeRecord
    chip = chip_of_machine (state_after_rewind s r.number k)

    at : (x o : ℕ) → neighbour_number r.number side ≡ Some x → alternative_word chip r.number side ≡ Some o → (b : Bool) → (x == w.number) ≡ b
        → All (IsRealizableRace s) (cond {A = List Race} b [] (record { reader = r; step = k; writer = w; word = word; other = node_id x; offered = o } ∷ []))
    at x o near is true same = All-nil (IsRealizableRace s)
    at x o near is false same =
        let p : Offer chip r.number side = offer_of chip r.number side (ap is_some is) in
        let l : x < 144 = neighbour_small r.number x side r.in_range near in
        let number : (node_id x).number ≡ x = mod-eq_of_lt l in
        let beside : neighbour_number r.number side ≡ Some (node_id x).number = near ∙ ap Some (sym number) in
        let writer : p.writer ≡ (node_id x).number = same_Some p.writer (node_id x).number (sym p.near ∙ beside) in
        let can = can_pass chip (node_id x) r side beside (subst (λ (z : ℕ). waits_to_write_side (node_record_at chip z).wait side ≡ true) writer p.writes) p.reads in
        all_one (IsRealizableRace s) _ (record {
          side = side;
          next = made_is_next chip (event.Pass (node_id x) r side) can;
          word = sym (same_Some p.word o (sym p.is ∙ is) ∙ refl) ∙ p.carries ∙ ap (λ (z : ℕ). register_t (node_record_at chip z)) writer;
          differ = λ q. true≢false (sym (let e : (x == w.number) ≡ true = eq-eqb x w.number (sym number ∙ q) in e) ∙ same);
        })

    go : (o : Option ℕ) → neighbour_number r.number side ≡ o → (u : Option ℕ) → alternative_word chip r.number side ≡ u → All (IsRealizableRace s) (race_with_offer r k w word o u)
    go None near u is = All-nil (IsRealizableRace s)
    go (Some x) near None is = All-nil (IsRealizableRace s)
    go (Some x) near (Some o) is = at x o near is (x == w.number) refl

around_made : (s : MachineState) (r : NodeId) (k : ℕ) (w : NodeId) (word : ℕ) → All (IsRealizableRace s) (races_of_pass s r k w word)
around_made s r k w word =
    let made = over_made s r k w word in
    let over : Side → List Race = races_on_side s r k w word in
    All-append (IsRealizableRace s) (over Right) (over Down ++ (over Left ++ over Up)) (made Right)
    (All-append (IsRealizableRace s) (over Down) (over Left ++ over Up) (made Down) (All-append (IsRealizableRace s) (over Left) (over Up) (made Left) (made Up)))

told_made : (s : MachineState) (r : NodeId) (k : ℕ) (o : Option MadeEvent) → All (IsRealizableRace s) (races_of_event s r k o)
told_made s r k None = All-nil (IsRealizableRace s)
told_made s r k (Some (made.Own n j kind)) = All-nil (IsRealizableRace s)
told_made s r k (Some (made.Pass w i x j word)) = go (x.number == r.number)
  where
    go : (b : Bool) → All (IsRealizableRace s) (cond {A = List Race} b (races_of_pass s r k w word) [])
    go true = around_made s r k w word
    go false = All-nil (IsRealizableRace s)

before_made : (s : MachineState) (r : NodeId) (p : ℕ) → All (IsRealizableRace s) (races_of_first_steps s r p)
unfolding races_of_first_steps
before_made s r zero = All-nil (IsRealizableRace s)
before_made s r (suc p) = All-append (IsRealizableRace s) (races_of_first_steps s r p) (races_of_numbered_step s r p) (before_made s r p) (told_made s r (p + 1) (slice_get (history_of_node s r.number) p))

below_made : (s : MachineState) (n : ℕ) → All (IsRealizableRace s) (races_of_nodes_below s n)
unfolding races_of_nodes_below
below_made s zero = All-nil (IsRealizableRace s)
below_made s (suc n) = All-append (IsRealizableRace s) (races_of_nodes_below s n) (races_of_node s (node_id n)) (below_made s n) (before_made s (node_id n) (count_steps (node_id n).number s.kept))

pub all_made : (s : MachineState) (only : Option NodeId) → All (IsRealizableRace s) (requested_races s only)
all_made s None = below_made s 144
all_made s (Some node) = before_made s node (count_steps node.number s.kept)
