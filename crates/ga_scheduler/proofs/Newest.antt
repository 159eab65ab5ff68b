-- The reports of the events in the history, of the newest and of the first.
use Rattle.std.proofs.Common.{◌≡◌, ℕ, ◌+◌, ◌-◌, ◌<◌, Bool, true, false, cond, List, [], ◌∷◌, ◌++◌, length, take, Some, None, Ok, refl, sym, ◌∙◌, ap, arith, take_all, length-append, zero, suc, ◌==◌, if◌then◌else◌, ◌%◌, ◌≤◌, ◌&&◌, subst, add-one}
use Rattle.std.specs.Prelude.{Option, IsSome, option_and_then, option_map, slice_get, ◌||◌, option_to_list, nat_lt, slice_index}
use Rattle.std.proofs.lemmas.Option.{slice_get-map, slice_get_within, get_or_from_slice_get, same_Some}
use Rattle.std.proofs.lemmas.List.{take_more, append-nil, length-take}
use Rattle.std.proofs.lemmas.List.Sums.{sum_by-append}
use Rattle.ga_grid.specs.declared.node_id.NodeId.{NodeId}
use Rattle.ga_node.specs.declared.kind.OwnEventKind.{OwnEventKind}
use Rattle.ga_event.specs.declared.event.Event.{Event}
use Rattle.ga_event.specs.declared.event.Event.TheVariants as event
use Rattle.ga_event.specs.declared.event.EventWithLook.{EventWithLook}
use Rattle.ga_event.specs.Touches.{touches}
use Rattle.ga_event.specs.Apply.{MadeEventOutcome, ExecutedOwn, PassedWord, replay, event_with_look_on_chip, run_events}
use Rattle.ga_event.specs.Told.{count_steps, made_event_after, made_event_at_place, events_with_look_without_outcomes, events_without_outcomes, made_events_of_node}
use Rattle.ga_event.specs.declared.made.MadeEvent.{MadeEvent}
use Rattle.ga_event.specs.declared.made.MadeEvent.TheVariants as made
use Rattle.ga_lab.specs.Machine.{MachineState, step_answer, state_after_step, machine_events_with_outcomes, earlier_state, run_events_with_outcomes, history_of_node, NodeAtStep, node_at_step, chip_of_machine, state_after_undo, memory_word_at_address}
use Rattle.ga_lab.proofs.Stepping.{step_answer_stays_in_history}
use Rattle.ga_scheduler.specs.Conditions.{is_step_of_node, is_node_own_event_of_kind, is_requested_word, is_about_to_fetch_at, stores_in_cell, node_before_newest_event, holds_after_made_event}
use Rattle.ga_scheduler.specs.inner.{newest_event_report, condition_transfer_count, condition_transfers_added, condition_node_or_zero}
use Rattle.ga_scheduler.proofs.WordCounts.{kept_told, behind, history_behind, other_writer, counted_on}
use Rattle.ga_scheduler.proofs.Stepping.{StepIs, step_is, stepped_is}
use Rattle.ga_node.specs.Record.{NodeRecord, NodeState, record_of_node}
use Rattle.ga_causal.proofs.Runs.{FirstOf, first_of_run}
use Rattle.ga_lab.proofs.Called.{Runs, runs_of, told_is}
use Rattle.ga_scheduler.specs.Words.{transfers_over_link_by_event, numbered_transfers, link_transfer_count}
use Rattle.ga_scheduler.specs.Values.{is_value_test_passed}
use Rattle.ga_scheduler.specs.declared.value_test.ValueTest.{ValueTest}
use Rattle.ga_scheduler.specs.declared.condition.Condition.{Condition}
use Rattle.std.proofs.lemmas.Bool.{lt-ltb, le-ltb, cond-true, cond-false}
use Rattle.ga_grid.specs.Chip.{node_record_at}
use Rattle.ga_scheduler.specs.declared.condition.Condition.TheVariants.{HoldsPlaceValue, ReachesAddress, WritesRamCell}

-- ---- the reports of the events in the history, and whose steps these are

last_place : (xs : List Event) (e : Event) → length (xs ++ e ∷ []) - 1 ≡ length xs
last_place xs e = grind (arith, length-append)

-- the report of the newest event after a step
pub newest_step : (s : MachineState) (n : NodeId) (m : MadeEvent) → IsSome (replay s.load s.kept) → step_answer s n ≡ Ok m → newest_event_report (state_after_step s n) ≡ Some m
newest_step s n m some h =
    let i : StepIs s n m = step_is s n m h in
    ap (λ (z : ℕ). made_event_at_place (machine_events_with_outcomes (state_after_step s n)) z) (ap (λ (z : MachineState). length z.kept - 1) (stepped_is s n m i.what h i.is) ∙ last_place s.kept i.what)
    ∙ step_answer_stays_in_history s n m some h

-- Steps of the first events.

abbrev pub one_if : Bool → ℕ
one_if b = cond b 1 0

steps_behind : (n : ℕ) (xs : List Event) (e : Event) → count_steps n (xs ++ e ∷ []) ≡ count_steps n xs + one_if (touches e n)
steps_behind n xs e =
    let all : count_steps n (xs ++ e ∷ []) ≡ count_steps n xs + (0 + one_if (touches e n)) = sum_by-append (λ x. cond (touches x n) 1 0) xs (e ∷ []) in
    all ∙ (let q : count_steps n xs + (0 + one_if (touches e n)) ≡ count_steps n xs + one_if (touches e n) = omega arith in q)

pub steps_more : (n place : ℕ) (xs : List Event) (e : Event) → slice_get xs place ≡ Some e → count_steps n (take (place + 1) xs) ≡ count_steps n (take place xs) + one_if (touches e n)
steps_more n place xs e is =
    ap (count_steps n) (take_more xs place e (slice_get_within xs place e is) ∙ ap (λ z. take place xs ++ z ∷ []) (get_or_from_slice_get xs place e e is))
    ∙ steps_behind n (take place xs) e

-- the report of an event determines which nodes it touches
or_none : (b : Bool) → b || false ≡ b
or_none true = refl
or_none false = refl

abbrev is_of_told : ℕ → Option MadeEvent → Bool
is_of_told n None = false
is_of_told n (Some m) = is_step_of_node n m

pub of_made : (before : List Event) (e : Event) (what : MadeEventOutcome) (m : MadeEvent) (n : ℕ) → made_event_after before e what ≡ Some m → touches e n ≡ is_step_of_node n m
of_made before (event.Own node) (ExecutedOwn kind) m n is = or_none (node.number == n) ∙ ap (is_of_told n) is
of_made before (event.Own node) (PassedWord word) m n is = absurd (cc)
of_made before (event.Pass w r side) (ExecutedOwn kind) m n is = absurd (cc)
of_made before (event.Pass w r side) (PassedWord word) m n is = ap (λ (b : Bool). (w.number == n) || b) (or_none (r.number == n)) ∙ ap (is_of_told n) is

-- the event with this report at a place of a list
pub record EventAt (told : List (EventWithLook × MadeEventOutcome)) (place : ℕ) (m : MadeEvent) : Type 0 where
  pub event : Event
  pub is : slice_get (events_without_outcomes told) place ≡ Some event
  pub of : (n : ℕ) → touches event n ≡ is_step_of_node n m

pub event_at : (told : List (EventWithLook × MadeEventOutcome)) (place : ℕ) (m : MadeEvent) → made_event_at_place told place ≡ Some m → EventAt told place m
event_at told place m is = go (slice_get told place) refl is
  where
    go : (o : Option (EventWithLook × MadeEventOutcome)) → slice_get told place ≡ o
        → option_and_then (λ (x : EventWithLook × MadeEventOutcome). made_event_after (events_without_outcomes (take place told)) x.0.event x.1) o ≡ Some m → EventAt told place m
    go None at h = absurd (cc)
    go (Some x) at h = record {
      event = x.0.event;
      is = slice_get-map (λ (cause : EventWithLook). cause.event) (events_with_look_without_outcomes told) place ∙ ap (option_map (λ (cause : EventWithLook). cause.event)) (slice_get-map (λ (y : EventWithLook × MadeEventOutcome). y.0) told place ∙ ap (option_map (λ (y : EventWithLook × MadeEventOutcome). y.0)) at);
      of = λ n. of_made (events_without_outcomes (take place told)) x.0.event x.1 m n h;
    }

-- how many steps of a node come after the event at a place
pub steps_told : (s : MachineState) (n place : ℕ) (m : MadeEvent) → IsSome (replay s.load s.kept) → made_event_at_place (machine_events_with_outcomes s) place ≡ Some m
    → count_steps n (take (place + 1) s.kept) ≡ count_steps n (take place s.kept) + one_if (is_step_of_node n m)
steps_told s n place m some is =
    let e : EventAt (machine_events_with_outcomes s) place m = event_at (machine_events_with_outcomes s) place m is in
    steps_more n place s.kept e.event (ap (λ z. slice_get z place) (sym (kept_told s some)) ∙ e.is)
    ∙ ap (λ b. count_steps n (take place s.kept) + one_if b) (e.of n)

-- and after the newest one
pub newest_steps : (s : MachineState) (n : ℕ) (m : MadeEvent) → IsSome (replay s.load s.kept) → newest_event_report s ≡ Some m → is_step_of_node n m ≡ true
    → count_steps n (take (length s.kept - 1) s.kept) + 1 ≡ count_steps n s.kept
newest_steps s n m some is own =
    let e : EventAt (machine_events_with_outcomes s) (length s.kept - 1) m = event_at (machine_events_with_outcomes s) (length s.kept - 1) m is in
    let less : length s.kept - 1 < length s.kept = slice_get_within s.kept (length s.kept - 1) e.event (ap (λ z. slice_get z (length s.kept - 1)) (sym (kept_told s some)) ∙ e.is) in
    sym (steps_told s n (length s.kept - 1) m some is ∙ ap (λ b. count_steps n (take (length s.kept - 1) s.kept) + one_if b) own)
    ∙ ap (count_steps n) (take_all (length s.kept - 1 + 1) s.kept (omega arith))

pub own_steps : (s : MachineState) (of node : NodeId) (step : ℕ) (kind : OwnEventKind) (m : MadeEvent) → IsSome (replay s.load s.kept) → newest_event_report s ≡ Some m → m ≡ made.Own node step kind → (node.number == of.number) ≡ true
    → count_steps of.number (take (length s.kept - 1) s.kept) + 1 ≡ count_steps of.number s.kept
own_steps s of node step kind m some is own at = newest_steps s of.number m some is (ap (is_step_of_node of.number) own ∙ at)

-- ---- the reports of the first events of the history, and how many words of a link they transferred

-- the first events of a run are a run
record Front (c : List NodeRecord) (es : List Event) (ts : List (EventWithLook × MadeEventOutcome)) (n : ℕ) : Type 0 where
  mid : List NodeRecord
  is : run_events c (take n es) ≡ Some (mid, take n ts)

front : (es : List Event) (c last : List NodeRecord) (ts : List (EventWithLook × MadeEventOutcome)) (n : ℕ) → run_events c es ≡ Some (last, ts) → Front c es ts n
front es c last ts zero h = record { mid = c; is = refl }
front [] c last ts (suc n) h = record {
  mid = c;
  is = ap (λ (z : List (EventWithLook × MadeEventOutcome)). Some (c, take (suc n) z)) (ap (λ (z : List NodeRecord × List (EventWithLook × MadeEventOutcome)). z.1) (same_Some (c, []) (last, ts) h));
}
front (e ∷ es) c last ts (suc n) h =
    let f : FirstOf c e es last ts = first_of_run c e es last ts h in
    let g : Front f.mid es f.others n = front es f.mid last f.others n f.then in
    record {
      mid = g.mid;
      is = ap (λ (o : Option (List NodeRecord × MadeEventOutcome)). option_and_then {U = List NodeRecord × List (EventWithLook × MadeEventOutcome)}
          (λ first. option_map {U = List NodeRecord × List (EventWithLook × MadeEventOutcome)} (λ rest. (rest.0, (event_with_look_on_chip c e, first.1) ∷ rest.1)) (run_events first.0 (take n es))) o) f.first
          ∙ ap (option_map {U = List NodeRecord × List (EventWithLook × MadeEventOutcome)} (λ rest. (rest.0, (event_with_look_on_chip c e, f.told) ∷ rest.1))) g.is
          ∙ ap (λ (z : List (EventWithLook × MadeEventOutcome)). Some (g.mid, take (suc n) z)) (sym f.all);
    }

-- the reports of the first are the first reports
told_front : (s : MachineState) (n : ℕ) → IsSome (replay s.load s.kept) → machine_events_with_outcomes (earlier_state s n) ≡ take n (machine_events_with_outcomes s)
told_front s n some =
    let r : Runs s = runs_of s some in
    let g : Front s.load s.kept r.told n = front s.kept s.load r.last r.told n r.run_is in
    ap run_events_with_outcomes g.is ∙ ap (λ (z : List (EventWithLook × MadeEventOutcome)). take n z) (sym (told_is s r))

-- the report of the event at a place
pub record ToldAt (told : List (EventWithLook × MadeEventOutcome)) (n : ℕ) (m : MadeEvent) : Type 0 where
  pub one : EventWithLook × MadeEventOutcome
  pub is : slice_get told n ≡ Some one
  pub made : made_event_after (events_without_outcomes (take n told)) one.0.event one.1 ≡ Some m

pub told_at : (told : List (EventWithLook × MadeEventOutcome)) (n : ℕ) (m : MadeEvent) → made_event_at_place told n ≡ Some m → ToldAt told n m
told_at told n m h = go (slice_get told n) refl h
  where
    go : (o : Option (EventWithLook × MadeEventOutcome)) → slice_get told n ≡ o
        → option_and_then (λ (x : EventWithLook × MadeEventOutcome). made_event_after (events_without_outcomes (take n told)) x.0.event x.1) o ≡ Some m → ToldAt told n m
    go None at k = absurd (cc)
    go (Some x) at k = record { one = x; is = at; made = k }

-- so the history of a node is that before the event and what the node did by it
history_front : (s : MachineState) (n node : ℕ) (m : MadeEvent) (a : ToldAt (machine_events_with_outcomes s) n m) → IsSome (replay s.load s.kept)
    → history_of_node (earlier_state s (n + 1)) node ≡ history_of_node (earlier_state s n) node ++ (if touches a.one.0.event node then m ∷ [] else [])
history_front s n node m a some =
    let told : List (EventWithLook × MadeEventOutcome) = machine_events_with_outcomes s in
    let more : take (n + 1) told ≡ take n told ++ a.one ∷ [] =
    take_more told n a.one (slice_get_within told n a.one a.is) ∙ ap (λ (z : EventWithLook × MadeEventOutcome). take n told ++ z ∷ []) (get_or_from_slice_get told n a.one a.one a.is) in
    ap (λ (z : List (EventWithLook × MadeEventOutcome)). made_events_of_node z node) (told_front s (n + 1) some ∙ more)
    ∙ history_behind [] (take n told) a.one node
    ∙ ap (λ (o : Option MadeEvent). made_events_of_node (take n told) node ++ (if touches a.one.0.event node then option_to_list o else [])) a.made
    ∙ ap (λ (z : List (EventWithLook × MadeEventOutcome)). made_events_of_node z node ++ (if touches a.one.0.event node then m ∷ [] else [])) (sym (told_front s n some))

not_over : (w r : ℕ) (m : MadeEvent) → is_step_of_node w m ≡ false → transfers_over_link_by_event w r m ≡ 0
not_over w r (made.Own n k what) h = refl
not_over w r (made.Pass a k b j word) h = other_writer (a.number == w) (b.number == w) (b.number == r) h

counted_here : (hist : List MadeEvent) (w r : ℕ) (m : MadeEvent) (b : Bool) → is_step_of_node w m ≡ b
    → length (numbered_transfers w r 0 (hist ++ (if b then m ∷ [] else []))) ≡ length (numbered_transfers w r 0 hist) + transfers_over_link_by_event w r m
counted_here hist w r m true h = behind w r hist m
counted_here hist w r m false h =
    ap (λ (z : List MadeEvent). length (numbered_transfers w r 0 z)) (append-nil hist)
    ∙ (let q : length (numbered_transfers w r 0 hist) ≡ length (numbered_transfers w r 0 hist) + transfers_over_link_by_event w r m = omega (arith, not_over w r m h) in q)

words_front : (s : MachineState) (n : ℕ) (m : MadeEvent) (a : ToldAt (machine_events_with_outcomes s) n m) → IsSome (replay s.load s.kept) → (w r : ℕ)
    → link_transfer_count (earlier_state s (n + 1)) w r ≡ link_transfer_count (earlier_state s n) w r + transfers_over_link_by_event w r m
words_front s n m a some w r =
    let of : touches a.one.0.event w ≡ is_step_of_node w m = of_made (events_without_outcomes (take n (machine_events_with_outcomes s))) a.one.0.event a.one.1 m w a.made in
    ap (λ (z : List MadeEvent). length (numbered_transfers w r 0 z)) (history_front s n w m a some)
    ∙ counted_here (history_of_node (earlier_state s n) w) w r m (touches a.one.0.event w) (sym of)

-- how many words a condition counts, from one event to the next
pub counted_back : (until : Condition) (s : MachineState) (n : ℕ) (m : MadeEvent) → IsSome (replay s.load s.kept) → made_event_at_place (machine_events_with_outcomes s) n ≡ Some m
    → condition_transfer_count until (earlier_state s (n + 1)) ≡ condition_transfer_count until (earlier_state s n) + condition_transfers_added until m
counted_back until s n m some h =
    counted_on until (earlier_state s n) (earlier_state s (n + 1)) m (words_front s n m (told_at (machine_events_with_outcomes s) n m h) some)

-- ---- a condition after an event that others may follow

-- ---- one node

pub ram_at : (node : NodeState) (address : ℕ) → address < 128 → slice_index node.ram (address % 64) ≡ memory_word_at_address (record_of_node node) address
unfolding record_of_node
ram_at node address l = sym (cond-true (nat_lt address 128) (slice_index node.ram (address % 64)) (slice_index node.rom (address % 64)) (lt-ltb address 128 l))

pub rom_at : (node : NodeState) (address : ℕ) → 128 ≤ address → slice_index node.rom (address % 64) ≡ memory_word_at_address (record_of_node node) address
unfolding record_of_node
rom_at node address l = sym (cond-false (nat_lt address 128) (slice_index node.ram (address % 64)) (slice_index node.rom (address % 64)) (le-ltb address 128 l))

-- ---- the machine as it was

-- the first of a list's first
take_within : {A : Type 0} (n : ℕ) (xs : List A) → take n (take (suc n) xs) ≡ take n xs
take_within zero xs = refl
take_within (suc n) [] = refl
take_within (suc n) (x ∷ xs) = ap (λ z. x ∷ z) (take_within n xs)

pub undone_earlier : (s : MachineState) (n : ℕ) → n < length s.kept → state_after_undo (earlier_state s (n + 1)) ≡ earlier_state s n
undone_earlier s n l =
    let many : length (take (n + 1) s.kept) - 1 ≡ n = omega (arith, length-take (n + 1) s.kept) in
    ap (λ (z : List Event). record s { kept = z })
    (ap (λ (z : ℕ). take z (take (n + 1) s.kept)) many ∙ ap (λ (z : ℕ). take n (take z s.kept)) (add-one n) ∙ take_within n s.kept)

pub whole_earlier : (s : MachineState) → earlier_state s (length s.kept) ≡ s
whole_earlier s = ap (λ (z : List Event). record s { kept = z }) (take_all (length s.kept) s.kept (omega arith))

-- an event with a report is in the history
pub told_within : (s : MachineState) (place : ℕ) (m : MadeEvent) → IsSome (replay s.load s.kept) → made_event_at_place (machine_events_with_outcomes s) place ≡ Some m → place < length s.kept
told_within s place m some is =
    let e : EventAt (machine_events_with_outcomes s) place m = event_at (machine_events_with_outcomes s) place m is in
    slice_get_within s.kept place e.event (ap (λ z. slice_get z place) (sym (kept_told s some)) ∙ e.is)

-- ---- a node that is walked back to a place

pub stands_at : (w : NodeAtStep) (s : MachineState) (n : NodeId) (k place : ℕ) (r : NodeRecord) → w ≡ node_at_step s n k → k ≡ count_steps n.number (take place s.kept)
    → ((q : ℕ) → count_steps w.node.number (take q w.machine.kept) ≡ w.step → r ≡ node_record_at (chip_of_machine (earlier_state w.machine q)) w.node.number)
    → r ≡ node_record_at (chip_of_machine (earlier_state s place)) n.number
stands_at w s n k place r e at f =
    subst (λ (z : NodeAtStep). (q : ℕ) → count_steps z.node.number (take q z.machine.kept) ≡ z.step → r ≡ node_record_at (chip_of_machine (earlier_state z.machine q)) z.node.number) e f place (sym at)

-- so it is before the node's step
pub stands_before : (s : MachineState) (n : NodeId) (place : ℕ) (m : MadeEvent) (r : NodeRecord) → IsSome (replay s.load s.kept) → made_event_at_place (machine_events_with_outcomes s) place ≡ Some m
    → r ≡ node_record_at (chip_of_machine (earlier_state s place)) n.number → r ≡ node_before_newest_event (earlier_state s (place + 1)) n.number
stands_before s n place m r some is e =
    e ∙ ap (λ (z : MachineState). node_record_at (chip_of_machine z) n.number) (sym (undone_earlier s place (told_within s place m some is)))

pub fewer_before : (s : MachineState) (n place : ℕ) (m : MadeEvent) → IsSome (replay s.load s.kept) → made_event_at_place (machine_events_with_outcomes s) place ≡ Some m
    → count_steps n (take place s.kept) ≤ count_steps n (take (place + 1) s.kept)
fewer_before s n place m some is = omega (arith, steps_told s n place m some is)

-- ---- each condition that asks for a node

pub holds_here : (c : Condition) (node : NodeId) (test : ValueTest) (result : Bool) (steps : ℕ) (m : MadeEvent) (s : MachineState) (r : NodeRecord) → c ≡ HoldsPlaceValue node test
    → r ≡ node_record_at (chip_of_machine s) (condition_node_or_zero c).number → steps ≡ count_steps (condition_node_or_zero c).number s.kept → result ≡ is_value_test_passed test r steps → result ≡ holds_after_made_event c m s
holds_here c node test result steps m s r is at many v =
    subst (λ (z : Condition). r ≡ node_record_at (chip_of_machine s) (condition_node_or_zero z).number → steps ≡ count_steps (condition_node_or_zero z).number s.kept → result ≡ holds_after_made_event z m s) (sym is)
    (λ h count. v ∙ ap (λ (z : NodeRecord). is_value_test_passed test z steps) h ∙ ap (λ (z : ℕ). is_value_test_passed test (node_record_at (chip_of_machine s) node.number) z) count) at many

pub reaches_here : (c : Condition) (node : NodeId) (address : ℕ) (result : Bool) (m : MadeEvent) (s : MachineState) (r : NodeRecord) → c ≡ ReachesAddress node address
    → r ≡ node_record_at (chip_of_machine s) (condition_node_or_zero c).number → result ≡ (is_step_of_node node.number m && is_about_to_fetch_at address r) → result ≡ holds_after_made_event c m s
reaches_here c node address result m s r is at v =
    subst (λ (z : Condition). r ≡ node_record_at (chip_of_machine s) (condition_node_or_zero z).number → result ≡ holds_after_made_event z m s) (sym is)
    (λ h. v ∙ ap (λ (z : NodeRecord). is_step_of_node node.number m && is_about_to_fetch_at address z) h) at

pub writes_here : (c : Condition) (node : NodeId) (address : ℕ) (word : Option ℕ) (result has : Bool) (m : MadeEvent) (s : MachineState) (r : NodeRecord) → c ≡ WritesRamCell node address word
    → r ≡ node_record_at (chip_of_machine s) (condition_node_or_zero c).number → has ≡ is_node_own_event_of_kind node.number (stores_in_cell (address % 64) (node_before_newest_event s node.number)) m
    → result ≡ (nat_lt address 128 && has && is_requested_word word (memory_word_at_address r address)) → result ≡ holds_after_made_event c m s
writes_here c node address word result has m s r is at stored v =
    subst (λ (z : Condition). r ≡ node_record_at (chip_of_machine s) (condition_node_or_zero z).number → result ≡ holds_after_made_event z m s) (sym is)
    (λ h. v ∙ ap (λ (z : Bool). nat_lt address 128 && z && is_requested_word word (memory_word_at_address r address)) stored
    ∙ ap (λ (z : NodeRecord). nat_lt address 128 && is_node_own_event_of_kind node.number (stores_in_cell (address % 64) (node_before_newest_event s node.number)) m && is_requested_word word (memory_word_at_address z address)) h) at

-- an own event, of the node and of another one
pub own_here : (m : MadeEvent) (node : NodeId) (step of cell : ℕ) (kind : OwnEventKind) (result : Bool) (r b : NodeRecord) → m ≡ made.Own node step kind → (node.number == of) ≡ true
    → r ≡ b → result ≡ stores_in_cell cell r kind → result ≡ is_node_own_event_of_kind of (stores_in_cell cell b) m
own_here m node step of cell kind result r b is same e v =
    v ∙ ap (λ (z : NodeRecord). stores_in_cell cell z kind) e ∙ ap (λ (z : Bool). z && stores_in_cell cell b kind) (sym same) ∙ ap (is_node_own_event_of_kind of (stores_in_cell cell b)) (sym is)

pub own_elsewhere : (m : MadeEvent) (node : NodeId) (step of cell : ℕ) (kind : OwnEventKind) (b : NodeRecord) → m ≡ made.Own node step kind → (node.number == of) ≡ false
    → false ≡ is_node_own_event_of_kind of (stores_in_cell cell b) m
own_elsewhere m node step of cell kind b is other =
    ap (λ (z : Bool). z && stores_in_cell cell b kind) (sym other) ∙ ap (is_node_own_event_of_kind of (stores_in_cell cell b)) (sym is)
