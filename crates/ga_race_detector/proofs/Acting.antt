-- Walking back over the history, node by node.
use Rattle.std.proofs.Common.{◌≡◌, ℕ, ◌+◌, ◌<◌, ◌≤◌, inl, inr, List, length, get_or, set, sym, subst, arith, get_or-set_other, ◌≢◌, zero, suc, ◌==◌, Bool, true, false, ◌||◌, cond, [], ◌∷◌, ◌++◌, take, Option, Some, refl, ◌∙◌, ap, ap₂, ne_eqb, length-append}
use Rattle.std.proofs.lemmas.List.{length-set, get_or-set_same, get_or-map, length-map, map-append, take_more, take_all}
use Rattle.std.proofs.lemmas.Bool.{cases_eq, or_from}
use Rattle.ga_event.specs.declared.event.EventWithLook.{EventWithLook}
use Rattle.ga_causal.specs.Dependence.{event_at, default_event_with_look}
use Rattle.ga_lab.specs.Machine.{MachineState, chip_of_machine, run_events_with_outcomes, machine_events_with_looks, earlier_state}
use Rattle.ga_race_detector.specs.declared.moments.StepCounts.{StepCounts}
use Rattle.ga_race_detector.specs.inner.Glances.{AreEventStepCounts, AreStepCountsOfEventsFrom, AreEventsStepCounts, zero_step_counts, HadWaitAndSteps, AllNodesHadWaitsAndSteps, IsEventAtPosition, IsAccessOfEventAtPosition}
use Rattle.std.specs.Prelude.{map, unwrap_or, slice_index}
use Rattle.std.proofs.Math.Seq.{take-append_seam, take-append-add}
use Rattle.std.proofs.lemmas.List.Sums.{sum_by-append}
use Rattle.ga_node.specs.Record.{NodeRecord}
use Rattle.ga_node.specs.State.{wait_of_code, IsWaitCode}
use Rattle.ga_ports.specs.declared.side.Side.{Side}
use Rattle.ga_grid.specs.Grid.{neighbour_number}
use Rattle.ga_grid.specs.Chip.{node_record_at}
use Rattle.ga_grid.specs.declared.node_id.NodeId.{NodeId}
use Rattle.ga_grid.proofs.NodeIds.{neighbour_number-other}
use Rattle.ga_event.specs.declared.event.Event.{Event}
use Rattle.ga_event.specs.declared.event.Event.TheVariants.{Own, Pass}
use Rattle.ga_event.specs.Touches.{touches}
use Rattle.ga_event.specs.Apply.{MadeEventOutcome, event_result, replay}
use Rattle.ga_event.specs.Told.{count_steps}
use Rattle.ga_races.specs.declared.act.EventAccess.{EventAccess}
use Rattle.ga_races.specs.declared.act.SideSet.{SideSet}
use Rattle.ga_races.specs.Orders.{IsEnabled}
use Rattle.ga_races.specs.HappensBefore.{TraceAction, default_trace_action, trace_action_of_event, trace_actions_of_events, trace_action_at, events_with_looks_of_trace_actions}
use Rattle.ga_races.specs.Acts.{trace_action_of_event_access, trace_actions_of_accesses}
use Rattle.ga_races.specs.inner.{sides_of_changed_shown_state, HasSidesChangedByEvent, AreActionListsAlike}
use Rattle.ga_races.proofs.Independence.{first_of, replay_more, stays, touches_own, touches_writer, touches_reader}
use Rattle.ga_races.proofs.Exact.{replay_into}
use Rattle.ga_races.proofs.Orders.{is_some_of}
use Rattle.ga_races.proofs.Kahn.{begins}
use Rattle.ga_races.proofs.Conflicts.{open_of, number_of}
use Rattle.ga_races.proofs.Before.{actions_length, causes_of_run}
use Rattle.ga_races.proofs.Sweeps.{Split, split_at, action_there}
use Rattle.ga_races.proofs.Shown.{act_changes}
use Rattle.ga_lab.proofs.Called.{Runs, runs_of}
use Rattle.ga_race_detector.proofs.Standing.{steps-cons}

-- ---- the state before each event of the history

pub moments_none : (s : MachineState) (place : ℕ) (causes : List EventWithLook) (moments : List StepCounts) → length moments ≤ place → AreStepCountsOfEventsFrom s place causes moments
moments_none s place causes moments past i from within = absurd (omega (arith, past, from, within))

pub moments_next : (s : MachineState) (place next : ℕ) (causes : List EventWithLook) (moments : List StepCounts) (moment : StepCounts) → place ≤ next + 1 → next < length moments → AreEventStepCounts s next (event_at causes next) moment
    → AreStepCountsOfEventsFrom s place causes moments → AreStepCountsOfEventsFrom s next causes (set moments next moment)
moments_next s place next causes moments moment up l is made i from within =
    let size : length (set moments next moment) ≡ length moments = length-set moments next moment in
    elim (cases_eq i next) [
      | inl q ↦ subst (λ (z : ℕ). AreEventStepCounts s z (event_at causes z) (get_or (set moments next moment) z zero_step_counts)) (sym q)
          (subst (AreEventStepCounts s next (event_at causes next)) (sym (get_or-set_same moments next moment zero_step_counts l)) is)
      | inr ne ↦ subst (AreEventStepCounts s i (event_at causes i)) (sym (get_or-set_other moments next i moment zero_step_counts ne)) (made i (omega (arith, from, ne, up)) (omega (arith, within, size)))
    ]

pub moments_all : (s : MachineState) (place : ℕ) (causes : List EventWithLook) (moments : List StepCounts) → place ≤ 0 → length moments ≡ length causes → AreStepCountsOfEventsFrom s place causes moments → AreEventsStepCounts s causes moments
moments_all s place causes moments low size made = record { size = size; each = λ i from within. made i (omega (arith, low)) within }

-- ---- the event at a place

pub record Made (s : MachineState) (p : ℕ) (e : Event) : Type 0 where
  pub can : IsEnabled (chip_of_machine (earlier_state s p)) e
  pub then : chip_of_machine (earlier_state s (p + 1)) ≡ (event_result (chip_of_machine (earlier_state s p)) e).0
  pub action : trace_action_at (trace_actions_of_events s.load s.kept) p ≡ trace_action_of_event (chip_of_machine (earlier_state s p)) e
  pub steps : (m : ℕ) → count_steps m (take (p + 1) s.kept) ≡ count_steps m (take p s.kept) + cond (touches e m) 1 0

-- the chip to which the first p events lead
chip_led : (s : MachineState) (xs : List Event) (p : ℕ) (now : List NodeRecord) → take p s.kept ≡ xs → replay s.load xs ≡ Some now → chip_of_machine (earlier_state s p) ≡ now
chip_led s xs p now is led = ap (λ (z : List Event). unwrap_or (replay s.load z) []) is ∙ ap (λ (o : Option (List NodeRecord)). unwrap_or o []) led

made_split : (s : MachineState) (mid : List Event) (y : Event) (post : List Event) (last : List NodeRecord) → s.kept ≡ mid ++ y ∷ post → replay s.load s.kept ≡ Some last → Made s (length mid) y
made_split s mid y post last is led =
    let whole : replay s.load (mid ++ y ∷ post) ≡ Some last = ap (replay s.load) (sym is) ∙ led in
    let b = begins mid (y ∷ post) s.load last whole in
    let f = first_of b.0 y post last (sym (replay_into mid (y ∷ post) s.load b.0 b.1) ∙ whole) in
    let front : take (length mid) s.kept ≡ mid = ap (take (length mid)) is ∙ take-append_seam mid (y ∷ post) in
    let more : take (length mid + 1) s.kept ≡ mid ++ y ∷ [] = ap (take (length mid + 1)) is ∙ take-append-add mid (y ∷ post) 1 in
    let first : chip_of_machine (earlier_state s (length mid)) ≡ b.0 = chip_led s mid (length mid) b.0 front b.1 in
    let second : chip_of_machine (earlier_state s (length mid + 1)) ≡ (event_result b.0 y).0 =
    chip_led s (mid ++ y ∷ []) (length mid + 1) (event_result b.0 y).0 more (replay_into mid (y ∷ []) s.load b.0 b.1 ∙ replay_more b.0 y [] f.can) in
    record {
      can = subst (λ (z : List NodeRecord). IsEnabled z y) (sym first) f.can;
      then = second ∙ ap (λ (z : List NodeRecord). (event_result z y).0) (sym first);
      action = ap (λ (z : List Event). trace_action_at (trace_actions_of_events s.load z) (length mid)) is ∙ action_there mid s.load b.0 y post b.1 ∙ ap (λ (z : List NodeRecord). trace_action_of_event z y) (sym first);
      steps = λ m. ap (count_steps m) more ∙ sum_by-append (λ (z : Event). cond (touches z m) 1 0) mid (y ∷ []) ∙ ap₂ (λ (a b : ℕ). a + b) (ap (count_steps m) (sym front)) (steps-cons m y [] ∙ none m (cond (touches y m) 1 0));
    }
  where
    none : (m x : ℕ) → x + count_steps m [] ≡ x
    none m x = let z : count_steps m [] ≡ 0 = refl in omega (arith, z)

pub causes_are : (s : MachineState) (last : List NodeRecord) → replay s.load s.kept ≡ Some last → events_with_looks_of_trace_actions (trace_actions_of_events s.load s.kept) ≡ machine_events_with_looks s
causes_are s last led =
    let r : Runs s = runs_of s (is_some_of (replay s.load s.kept) last led) in
    causes_of_run s.kept s.load r.last r.told r.run_is ∙ sym (ap (λ (o : Option (List NodeRecord × List (EventWithLook × MadeEventOutcome))). map (λ (x : EventWithLook × MadeEventOutcome). x.0) (run_events_with_outcomes o)) r.run_is)

pub cause_there : (xs : List TraceAction) (i : ℕ) → i < length xs → event_at (events_with_looks_of_trace_actions xs) i ≡ (trace_action_at xs i).cause
cause_there xs i l = get_or-map (λ (a : TraceAction). a.cause) xs i default_trace_action default_event_with_look l

pub made_at : (s : MachineState) (last : List NodeRecord) (p : ℕ) (cause : EventWithLook) → replay s.load s.kept ≡ Some last → IsEventAtPosition s p cause → Made s p cause.event
made_at s last p cause led at =
    let l : p < length s.kept = at.within in
    let sp : Split s.kept p = split_at s.kept p (omega (arith, l)) in
    go sp.mid sp.post sp.is sp.size
  where
    go : (mid post : List Event) → s.kept ≡ mid ++ post → length mid ≡ p → Made s p cause.event
    go mid [] is size =
        let a : length s.kept ≡ length mid + length {A = Event} [] = ap length is ∙ length-append mid [] in
        let b : length {A = Event} [] ≡ 0 = refl in
        let l : p < length s.kept = at.within in
        absurd (omega (arith, a, b, l, size))
    go mid (y ∷ post) is size =
        let m : Made s (length mid) y = made_split s mid y post last is led in
        let n : Made s p y = subst (λ (z : ℕ). Made s z y) size m in
        let long : length (trace_actions_of_events s.load s.kept) ≡ length s.kept = actions_length s.load s.kept in
        let l : p < length s.kept = at.within in
        let same : cause ≡ (trace_action_at (trace_actions_of_events s.load s.kept) p).cause =
        sym at.is ∙ ap (λ (z : List EventWithLook). event_at z p) (sym (causes_are s last led)) ∙ cause_there (trace_actions_of_events s.load s.kept) p (omega (arith, l, long)) in
        let is_y : cause.event ≡ y = ap (λ (z : EventWithLook). z.event) same ∙ ap (λ (a : TraceAction). a.cause.event) n.action in
        subst (λ (z : Event). Made s p z) (sym is_y) n

-- ---- nodes before and after it

pub stood_other : (s : MachineState) (p m code count : ℕ) (e : Event) → Made s p e → touches e m ≡ false → HadWaitAndSteps s m (p + 1) code count → HadWaitAndSteps s m p code count
stood_other s p m code count e made out stood =
    let more : count_steps m (take (p + 1) s.kept) ≡ count_steps m (take p s.kept) + cond (touches e m) 1 0 = made.steps m in
    let none : cond {A = ℕ} (touches e m) 1 0 ≡ 0 = ap (λ (b : Bool). cond {A = ℕ} b 1 0) out in
    let steps : count ≡ count_steps m (take (p + 1) s.kept) = stood.steps in
    record {
      wait = ap (λ (z : NodeRecord). z.wait) ((stays (chip_of_machine (earlier_state s p)) e made.can).same m out) ∙ ap (λ (z : List NodeRecord). (node_record_at z m).wait) (sym made.then) ∙ stood.wait;
      valid = stood.valid;
      steps = omega (arith, more, none, steps);
    }

pub step_more : (s : MachineState) (p m : ℕ) (e : Event) → Made s p e → touches e m ≡ true → count_steps m (take (p + 1) s.kept) ≡ count_steps m (take p s.kept) + 1
step_more s p m e made on = made.steps m ∙ ap (λ (b : Bool). count_steps m (take p s.kept) + cond {A = ℕ} b 1 0) on

some_steps : (s : MachineState) (p m code count : ℕ) (e : Event) → Made s p e → touches e m ≡ true → HadWaitAndSteps s m (p + 1) code count → 0 < count
some_steps s p m code count e made on stood =
    let more : count_steps m (take (p + 1) s.kept) ≡ count_steps m (take p s.kept) + 1 = step_more s p m e made on in
    let steps : count ≡ count_steps m (take (p + 1) s.kept) = stood.steps in
    omega (arith, more, steps)

pub stood_same : (s : MachineState) (m p a b x y : ℕ) → a ≡ x → b ≡ y → HadWaitAndSteps s m p x y → HadWaitAndSteps s m p a b
stood_same s m p a b x y q r stood = record { wait = stood.wait ∙ ap wait_of_code (sym q); valid = subst IsWaitCode (sym q) stood.valid; steps = r ∙ stood.steps }

-- what `back` requires of a node that the event touches
pub before_node : (s : MachineState) (last : List NodeRecord) (p m : ℕ) (cause : EventWithLook) (waits steps : List ℕ) → replay s.load s.kept ≡ Some last → IsEventAtPosition s p cause → AllNodesHadWaitsAndSteps s (p + 1) waits steps → touches cause.event m ≡ true → m < 144
    → (0 < slice_index steps m) × IsWaitCode (slice_index waits m)
before_node s last p m cause waits steps led at stood on l =
    (some_steps s p m (slice_index waits m) (slice_index steps m) cause.event (made_at s last p cause led at) on (stood m l), (stood m l).valid)

-- the sides of one node
side_is : (s : MachineState) (p m code old count more : ℕ) (e : Event) (sides : SideSet) → Made s p e → HadWaitAndSteps s m p code count → HadWaitAndSteps s m (p + 1) old more → sides ≡ sides_of_changed_shown_state (wait_of_code code) (wait_of_code old)
    → sides ≡ sides_of_changed_shown_state (node_record_at (chip_of_machine (earlier_state s p)) m).wait (node_record_at (event_result (chip_of_machine (earlier_state s p)) e).0 m).wait
side_is s p m code old count more e sides made now behind is =
    is ∙ ap₂ sides_of_changed_shown_state (sym now.wait) (sym behind.wait ∙ ap (λ (z : List NodeRecord). (node_record_at z m).wait) made.then)

act_at : (s : MachineState) (p : ℕ) (act : EventAccess) (e : Event) → Made s p e → act.cause.event ≡ e → HasSidesChangedByEvent (chip_of_machine (earlier_state s p)) (event_result (chip_of_machine (earlier_state s p)) e).0 act e → IsAccessOfEventAtPosition s p act
act_at s p act e made is has n l = act_changes (chip_of_machine (earlier_state s p)) e act n l made.can is has ∙ ap (λ (a : TraceAction). a.changes n) (sym made.action)

-- ---- an own event

module _ (s : MachineState) (last : List NodeRecord) (led : replay s.load s.kept ≡ Some last) (cause : EventWithLook) (m : NodeId) (own : cause.event ≡ Own m) (waits steps nwaits nsteps : List ℕ) (first second : SideSet)
    (here : (p q : ℕ) → HadWaitAndSteps s m.number q (slice_index waits m.number) (slice_index steps m.number) → count_steps m.number (take q s.kept) ≡ count_steps m.number (take p s.kept) + 1
    → HadWaitAndSteps s m.number p (slice_index nwaits m.number) (slice_index nsteps m.number))
    (sides : first ≡ sides_of_changed_shown_state (wait_of_code (slice_index nwaits m.number)) (wait_of_code (slice_index waits m.number)))
    (kept_waits : (n : ℕ) → n ≢ m.number → slice_index nwaits n ≡ slice_index waits n) (kept_steps : (n : ℕ) → n ≢ m.number → slice_index nsteps n ≡ slice_index steps n)
    (p : ℕ) (at : IsEventAtPosition s p cause) (stood : AllNodesHadWaitsAndSteps s (p + 1) waits steps) where
  own_made : Made s p (Own m)
  own_made = subst (Made s p) own (made_at s last p cause led at)

  own_here : HadWaitAndSteps s m.number p (slice_index nwaits m.number) (slice_index nsteps m.number)
  own_here = here p (p + 1) (stood m.number m.in_range) (step_more s p m.number (Own m) own_made (touches_own m))

  pub own_stood : AllNodesHadWaitsAndSteps s p nwaits nsteps
  own_stood n l = elim (cases_eq n m.number) [
    | inl q ↦ subst (λ (z : ℕ). HadWaitAndSteps s z p (slice_index nwaits z) (slice_index nsteps z)) (sym q) own_here
    | inr ne ↦ stood_other s p n (slice_index nwaits n) (slice_index nsteps n) (Own m) own_made (or_from (m.number == n) false (ne_eqb m.number n (λ q. ne (sym q))) refl)
        (stood_same s n (p + 1) (slice_index nwaits n) (slice_index nsteps n) (slice_index waits n) (slice_index steps n) (kept_waits n ne) (kept_steps n ne) (stood n l))
  ]

  pub own_changes : IsAccessOfEventAtPosition s p (record { cause = cause; first = first; second = second })
  own_changes = act_at s p (record { cause = cause; first = first; second = second }) (Own m) own_made own
      (side_is s p m.number (slice_index nwaits m.number) (slice_index waits m.number) (slice_index nsteps m.number) (slice_index steps m.number) (Own m) first own_made own_here (stood m.number m.in_range) sides)

-- ---- a pass

-- its ends are two nodes
pub ends_apart : (s : MachineState) (last : List NodeRecord) (p : ℕ) (cause : EventWithLook) (w r : NodeId) (side : Side) → replay s.load s.kept ≡ Some last → IsEventAtPosition s p cause → cause.event ≡ Pass w r side → r.number ≢ w.number
ends_apart s last p cause w r side led at pass =
    let made : Made s p (Pass w r side) = subst (Made s p) pass (made_at s last p cause led at) in
    let o = open_of (chip_of_machine (earlier_state s p)) w r side made.can in
    neighbour_number-other w.number r.number side (number_of (neighbour_number w.number side) r.number o.near)

module _ (s : MachineState) (last : List NodeRecord) (led : replay s.load s.kept ≡ Some last) (cause : EventWithLook) (w r : NodeId) (side : Side) (pass : cause.event ≡ Pass w r side) (waits steps mwaits msteps nwaits nsteps : List ℕ) (first second : SideSet)
    (here : (p q : ℕ) → HadWaitAndSteps s w.number q (slice_index waits w.number) (slice_index steps w.number) → count_steps w.number (take q s.kept) ≡ count_steps w.number (take p s.kept) + 1
    → HadWaitAndSteps s w.number p (slice_index mwaits w.number) (slice_index msteps w.number))
    (there : (p q : ℕ) → HadWaitAndSteps s r.number q (slice_index mwaits r.number) (slice_index msteps r.number) → count_steps r.number (take q s.kept) ≡ count_steps r.number (take p s.kept) + 1
    → HadWaitAndSteps s r.number p (slice_index nwaits r.number) (slice_index nsteps r.number))
    (one : first ≡ sides_of_changed_shown_state (wait_of_code (slice_index mwaits w.number)) (wait_of_code (slice_index waits w.number)))
    (two : second ≡ sides_of_changed_shown_state (wait_of_code (slice_index nwaits r.number)) (wait_of_code (slice_index mwaits r.number)))
    (kept_waits : (n : ℕ) → n ≢ w.number → slice_index mwaits n ≡ slice_index waits n) (kept_steps : (n : ℕ) → n ≢ w.number → slice_index msteps n ≡ slice_index steps n)
    (left_waits : (n : ℕ) → n ≢ r.number → slice_index nwaits n ≡ slice_index mwaits n) (left_steps : (n : ℕ) → n ≢ r.number → slice_index nsteps n ≡ slice_index msteps n)
    (p : ℕ) (at : IsEventAtPosition s p cause) (stood : AllNodesHadWaitsAndSteps s (p + 1) waits steps) where
  pass_made : Made s p (Pass w r side)
  pass_made = subst (Made s p) pass (made_at s last p cause led at)

  ends : r.number ≢ w.number
  ends = ends_apart s last p cause w r side led at pass

  writer_mid : HadWaitAndSteps s w.number p (slice_index mwaits w.number) (slice_index msteps w.number)
  writer_mid = here p (p + 1) (stood w.number w.in_range) (step_more s p w.number (Pass w r side) pass_made (touches_writer w r side))

  reader_mid : HadWaitAndSteps s r.number (p + 1) (slice_index mwaits r.number) (slice_index msteps r.number)
  reader_mid = stood_same s r.number (p + 1) (slice_index mwaits r.number) (slice_index msteps r.number) (slice_index waits r.number) (slice_index steps r.number) (kept_waits r.number ends) (kept_steps r.number ends) (stood r.number r.in_range)

  reader_now : HadWaitAndSteps s r.number p (slice_index nwaits r.number) (slice_index nsteps r.number)
  reader_now = there p (p + 1) reader_mid (step_more s p r.number (Pass w r side) pass_made (touches_reader w r side))

  writer_now : HadWaitAndSteps s w.number p (slice_index nwaits w.number) (slice_index nsteps w.number)
  writer_now = stood_same s w.number p (slice_index nwaits w.number) (slice_index nsteps w.number) (slice_index mwaits w.number) (slice_index msteps w.number) (left_waits w.number (λ q. ends (sym q))) (left_steps w.number (λ q. ends (sym q))) writer_mid

  pub pass_stood : AllNodesHadWaitsAndSteps s p nwaits nsteps
  pass_stood n l = elim (cases_eq n w.number) [
    | inl q ↦ subst (λ (z : ℕ). HadWaitAndSteps s z p (slice_index nwaits z) (slice_index nsteps z)) (sym q) writer_now
    | inr ne ↦ elim (cases_eq n r.number) [
      | inl q ↦ subst (λ (z : ℕ). HadWaitAndSteps s z p (slice_index nwaits z) (slice_index nsteps z)) (sym q) reader_now
      | inr apart ↦ stood_other s p n (slice_index nwaits n) (slice_index nsteps n) (Pass w r side) pass_made
          (or_from (w.number == n) (r.number == n || false) (ne_eqb w.number n (λ q. ne (sym q))) (or_from (r.number == n) false (ne_eqb r.number n (λ q. apart (sym q))) refl))
          (stood_same s n (p + 1) (slice_index nwaits n) (slice_index nsteps n) (slice_index waits n) (slice_index steps n) (left_waits n apart ∙ kept_waits n ne) (left_steps n apart ∙ kept_steps n ne) (stood n l))
    ]
  ]

  pub pass_changes : IsAccessOfEventAtPosition s p (record { cause = cause; first = first; second = second })
  pass_changes = act_at s p (record { cause = cause; first = first; second = second }) (Pass w r side) pass_made pass (
    side_is s p w.number (slice_index mwaits w.number) (slice_index waits w.number) (slice_index msteps w.number) (slice_index steps w.number) (Pass w r side) first pass_made writer_mid (stood w.number w.in_range) one,
    side_is s p r.number (slice_index nwaits r.number) (slice_index mwaits r.number) (slice_index nsteps r.number) (slice_index msteps r.number) (Pass w r side) second pass_made reader_now reader_mid two,
  )

-- ---- the whole list

-- from a place on the acts have what was changed
abbrev pub AreActsFrom : MachineState → ℕ → List EventAccess → Type 0
AreActsFrom s place acts = (i n : ℕ) → place ≤ i → i < length acts → n < 144 → (trace_action_at (trace_actions_of_accesses acts) i).changes n ≡ (trace_action_at (trace_actions_of_events s.load s.kept) i).changes n

abbrev pub HaveCauses : List EventAccess → List EventWithLook → Type 0
HaveCauses acts causes = (i : ℕ) → i < length acts → (trace_action_at (trace_actions_of_accesses acts) i).cause ≡ event_at causes i

pub plain_causes : (acts : List EventAccess) (causes : List EventWithLook) → events_with_looks_of_trace_actions (trace_actions_of_accesses acts) ≡ causes → HaveCauses acts causes
plain_causes acts causes is i l =
    let size : length (trace_actions_of_accesses acts) ≡ length acts = length-map acts trace_action_of_event_access in
    sym (cause_there (trace_actions_of_accesses acts) i (omega (arith, l, size))) ∙ ap (λ (z : List EventWithLook). event_at z i) is

pub plain_size : (acts : List EventAccess) (causes : List EventWithLook) → events_with_looks_of_trace_actions (trace_actions_of_accesses acts) ≡ causes → length acts ≡ length causes
plain_size acts causes is = sym (length-map acts trace_action_of_event_access) ∙ sym (length-map (trace_actions_of_accesses acts) (λ (a : TraceAction). a.cause)) ∙ ap length is

there : (acts : List EventAccess) (i : ℕ) (d : EventAccess) → i < length acts → trace_action_at (trace_actions_of_accesses acts) i ≡ trace_action_of_event_access (get_or acts i d)
there acts i d l = get_or-map trace_action_of_event_access acts i d default_trace_action l

set_here : (acts : List EventAccess) (i : ℕ) (act : EventAccess) → i < length acts → trace_action_at (trace_actions_of_accesses (set acts i act)) i ≡ trace_action_of_event_access act
set_here acts i act l =
    let size : length (set acts i act) ≡ length acts = length-set acts i act in
    there (set acts i act) i act (omega (arith, l, size)) ∙ ap trace_action_of_event_access (get_or-set_same acts i act act l)

set_there : (acts : List EventAccess) (i j : ℕ) (act : EventAccess) → j < length acts → j ≢ i → trace_action_at (trace_actions_of_accesses (set acts i act)) j ≡ trace_action_at (trace_actions_of_accesses acts) j
set_there acts i j act l ne =
    let size : length (set acts i act) ≡ length acts = length-set acts i act in
    there (set acts i act) j act (omega (arith, l, size)) ∙ ap trace_action_of_event_access (get_or-set_other acts i j act act ne) ∙ sym (there acts j act l)

pub acts_next : (s : MachineState) (place next : ℕ) (acts : List EventAccess) (act : EventAccess) → place ≤ next + 1 → next < length acts → IsAccessOfEventAtPosition s next act → AreActsFrom s place acts → AreActsFrom s next (set acts next act)
acts_next s place next acts act up l is made i n k m o =
    let size : length (set acts next act) ≡ length acts = length-set acts next act in
    elim (cases_eq i next) [
      | inl q ↦ ap (λ (z : ℕ). (trace_action_at (trace_actions_of_accesses (set acts next act)) z).changes n) q ∙ ap (λ (a : TraceAction). a.changes n) (set_here acts next act l) ∙ is n o ∙ ap (λ (z : ℕ). (trace_action_at (trace_actions_of_events s.load s.kept) z).changes n) (sym q)
      | inr ne ↦ ap (λ (a : TraceAction). a.changes n) (set_there acts next i act (omega (arith, m, size)) ne) ∙ made i n (omega (arith, k, ne, up)) (omega (arith, m, size)) o
    ]

pub causes_next : (next : ℕ) (acts : List EventAccess) (act : EventAccess) (causes : List EventWithLook) → next < length acts → act.cause ≡ event_at causes next → HaveCauses acts causes → HaveCauses (set acts next act) causes
causes_next next acts act causes l is have i m =
    let size : length (set acts next act) ≡ length acts = length-set acts next act in
    elim (cases_eq i next) [
      | inl q ↦ ap (λ (z : ℕ). (trace_action_at (trace_actions_of_accesses (set acts next act)) z).cause) q ∙ ap (λ (a : TraceAction). a.cause) (set_here acts next act l) ∙ is ∙ ap (event_at causes) (sym q)
      | inr ne ↦ ap (λ (a : TraceAction). a.cause) (set_there acts next i act (omega (arith, m, size)) ne) ∙ have i (omega (arith, m, size))
    ]

pub all_alike : (s : MachineState) (last : List NodeRecord) (place : ℕ) (acts : List EventAccess) (causes : List EventWithLook) → replay s.load s.kept ≡ Some last → causes ≡ machine_events_with_looks s → length acts ≡ length causes → place ≤ 0 → HaveCauses acts causes → AreActsFrom s place acts
    → AreActionListsAlike (trace_actions_of_accesses acts) (trace_actions_of_events s.load s.kept)
all_alike s last place acts causes led all count low have made =
    let size : length (trace_actions_of_accesses acts) ≡ length acts = length-map acts trace_action_of_event_access in
    let long : length (trace_actions_of_events s.load s.kept) ≡ length s.kept = actions_length s.load s.kept in
    let kept : length (machine_events_with_looks s) ≡ length (trace_actions_of_events s.load s.kept) = sym (ap length (causes_are s last led)) ∙ length-map (trace_actions_of_events s.load s.kept) (λ (a : TraceAction). a.cause) in
    let many : length causes ≡ length (machine_events_with_looks s) = ap length all in
    record {
      size = omega (arith, size, kept, count, many);
      cause = λ i l. have i (omega (arith, l, size)) ∙ ap (λ (z : List EventWithLook). event_at z i) (all ∙ sym (causes_are s last led)) ∙ cause_there (trace_actions_of_events s.load s.kept) i (omega (arith, l, size, count, many, kept));
      changes = λ i n l k. made i n (omega (arith, low)) (omega (arith, l, size)) k;
    }

pub causes_long : (s : MachineState) (last : List NodeRecord) → replay s.load s.kept ≡ Some last → length (machine_events_with_looks s) ≡ length s.kept
causes_long s last led =
    sym (ap length (causes_are s last led)) ∙ length-map (trace_actions_of_events s.load s.kept) (λ (a : TraceAction). a.cause) ∙ actions_length s.load s.kept

pub cause_at : (causes : List EventWithLook) (i : ℕ) (cause : EventWithLook) → i < length causes → cause ≡ get_or causes i cause → cause ≡ event_at causes i
cause_at causes i cause l is = is ∙ sym (same causes i l)
  where
    same : (xs : List EventWithLook) (i : ℕ) → i < length xs → event_at xs i ≡ get_or xs i cause
    same [] i l = absurd (omega (arith, l))
    same (x ∷ xs) zero l = refl
    same (x ∷ xs) (suc i) l = same xs i (omega (arith, l))

pub is_at : (s : MachineState) (last : List NodeRecord) (causes : List EventWithLook) (place : ℕ) (cause : EventWithLook) → replay s.load s.kept ≡ Some last → causes ≡ machine_events_with_looks s → place < length causes → cause ≡ get_or causes place cause → IsEventAtPosition s place cause
is_at s last causes place cause led all l is =
    let long : length (machine_events_with_looks s) ≡ length s.kept = causes_long s last led in
    let many : length causes ≡ length (machine_events_with_looks s) = ap length all in
    record {
      within = omega (arith, l, long, many);
      is = ap (λ (z : List EventWithLook). event_at z place) (sym all) ∙ sym (cause_at causes place cause l is);
    }

-- ---- one node

-- nodes in their current state
pub stood_set : (s : MachineState) (waits steps : List ℕ) (number at code count : ℕ) → length waits ≡ 144 → length steps ≡ 144 → number < 144 → at ≡ number → wait_of_code code ≡ (node_record_at (chip_of_machine s) at).wait → IsWaitCode code
    → count ≡ count_steps at s.kept → (p : ℕ) → take p s.kept ≡ s.kept → ((m : ℕ) → m < number → HadWaitAndSteps s m p (slice_index waits m) (slice_index steps m))
    → (m : ℕ) → m < number + 1 → HadWaitAndSteps s m p (slice_index (set waits at code) m) (slice_index (set steps at count) m)
stood_set s waits steps number at code count size long l is wait valid few p whole old m k = elim (cases_eq m at) [
  | inl q ↦ subst (λ (z : ℕ). HadWaitAndSteps s z p (slice_index (set waits at code) z) (slice_index (set steps at count) z)) (sym q) (record {
    wait = ap (λ (z : List Event). (node_record_at (unwrap_or (replay s.load z) []) at).wait) whole ∙ sym wait ∙ ap wait_of_code (sym (get_or-set_same waits at code 0 (omega (arith, size, l, is))));
    valid = subst IsWaitCode (sym (get_or-set_same waits at code 0 (omega (arith, size, l, is)))) valid;
    steps = get_or-set_same steps at count 0 (omega (arith, long, l, is)) ∙ few ∙ ap (count_steps at) (sym whole);
  })
  | inr ne ↦ stood_same s m p (slice_index (set waits at code) m) (slice_index (set steps at count) m) (slice_index waits m) (slice_index steps m)
      (get_or-set_other waits at m code 0 ne) (get_or-set_other steps at m count 0 ne) (old m (omega (arith, k, ne, is)))
]

-- a node before its last step
pub stood_before : (s : MachineState) (m : ℕ) (waits steps nwaits nsteps : List ℕ) (behind before had step : ℕ) → behind ≡ slice_index waits m → had ≡ slice_index steps m → step + 1 ≡ had → slice_index nwaits m ≡ before → slice_index nsteps m ≡ step → IsWaitCode before
    → ((p q : ℕ) → count_steps m (take p s.kept) ≡ step → count_steps m (take q s.kept) ≡ step + 1 → (node_record_at (chip_of_machine (earlier_state s q)) m).wait ≡ wait_of_code behind → (node_record_at (chip_of_machine (earlier_state s p)) m).wait ≡ wait_of_code before)
    → (p q : ℕ) → HadWaitAndSteps s m q (slice_index waits m) (slice_index steps m) → count_steps m (take q s.kept) ≡ count_steps m (take p s.kept) + 1
    → HadWaitAndSteps s m p (slice_index nwaits m) (slice_index nsteps m)
stood_before s m waits steps nwaits nsteps behind before had step read count one here now valid value p q stood more =
    let steps_then : slice_index steps m ≡ count_steps m (take q s.kept) = stood.steps in
    record {
      wait = value p q (omega (arith, steps_then, count, one, more)) (omega (arith, steps_then, count, one)) (stood.wait ∙ ap wait_of_code (sym read)) ∙ ap wait_of_code (sym here);
      valid = subst IsWaitCode (sym here) valid;
      steps = let g : step ≡ count_steps m (take p s.kept) = omega (arith, steps_then, count, one, more) in now ∙ g;
    }

-- ---- acts with no sides yet

pub plain_more : (acts : List EventAccess) (act : EventAccess) (causes : List EventWithLook) (i : ℕ) (cause : EventWithLook) → i < length causes → cause ≡ get_or causes i cause → act.cause ≡ cause → events_with_looks_of_trace_actions (trace_actions_of_accesses acts) ≡ take i causes
    → events_with_looks_of_trace_actions (trace_actions_of_accesses (acts ++ act ∷ [])) ≡ take (i + 1) causes
plain_more acts act causes i cause l is q h =
    ap events_with_looks_of_trace_actions (map-append trace_action_of_event_access acts (act ∷ [])) ∙ map-append (λ (a : TraceAction). a.cause) (trace_actions_of_accesses acts) (trace_action_of_event_access act ∷ []) ∙ ap₂ (λ (xs : List EventWithLook) (x : EventWithLook). xs ++ x ∷ []) h (q ∙ is) ∙ sym (take_more causes i cause l)

pub stood_from : (s : MachineState) (place next : ℕ) (waits steps : List ℕ) → place ≡ next + 1 → AllNodesHadWaitsAndSteps s place waits steps → AllNodesHadWaitsAndSteps s (next + 1) waits steps
stood_from s place next waits steps is stood = subst (λ (z : ℕ). AllNodesHadWaitsAndSteps s z waits steps) is stood

pub whole_list : (s : MachineState) (last : List NodeRecord) (causes : List EventWithLook) (place : ℕ) → replay s.load s.kept ≡ Some last → causes ≡ machine_events_with_looks s → place ≡ length causes → take place s.kept ≡ s.kept
whole_list s last causes place led all is =
    let long : length (machine_events_with_looks s) ≡ length s.kept = causes_long s last led in
    let many : length causes ≡ length (machine_events_with_looks s) = ap length all in
    take_all place s.kept (omega (arith, long, many, is))

pub none_made : (s : MachineState) (acts : List EventAccess) (place : ℕ) → length acts ≤ place → AreActsFrom s place acts
none_made s acts place l i n k m o = absurd (omega (arith, l, k, m))
