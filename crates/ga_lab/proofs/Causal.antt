-- Causal consistency of sequences of calls.
use Rattle.std.proofs.Common.{◌≡◌, ℕ, suc, ◌+◌, ◌-◌, ◌^◌, ◌<◌, ◌≤◌, ◌↔◌, Bool, true, false, cond, List, [], ◌∷◌, ◌++◌, length, take, Some, None, Ok, Err, refl, sym, ◌∙◌, ap, ap₂, subst, arith, ⊎_elim, append_assoc, append-nil, length-append, length-take-le}
use Rattle.std.specs.Prelude.{Option, Result, IsSome, nat_le}
use Rattle.std.proofs.lemmas.Bool.{cases_Bool, cases_lt, both_ways, cond-true, cond-false, le-leb}
use Rattle.std.proofs.lemmas.List.{length_push}
use Rattle.ga_node.specs.declared.kind.EventRefusal.{EventRefusal}
use Rattle.ga_node.specs.Record.{NodeRecord}
use Rattle.ga_grid.specs.declared.node_id.NodeId.{NodeId}
use Rattle.ga_event.specs.declared.event.Event.{Event}
use Rattle.ga_event.specs.declared.event.EventWithLook.{EventWithLook}
use Rattle.ga_event.specs.Apply.{replay}
use Rattle.ga_event.specs.Next.{next_event_of_node}
use Rattle.ga_event.proofs.Nexts.{next_can}
use Rattle.ga_causal.specs.Dependence.{dependent_flags, unflagged_elements, rest, position_of_step, remaining_events_or_all}
use Rattle.ga_event.specs.Told.{events_of_causes}
use Rattle.ga_causal.specs.Equivalence.{AreEquivalentLists}
use Rattle.ga_event.specs.declared.made.MadeEvent.{MadeEvent}
use Rattle.ga_lab.specs.declared.fault.LabFault.{LabFault}
use Rattle.ga_lab.specs.declared.fault.LabFault.TheVariants.{Full, EventNumbersSpent}
use Rattle.ga_lab.specs.Machine.{MachineState, initial_state, chip_of_machine, machine_events_with_looks, made_next_event, answer_to_event, machine_with_event, state_unless_refused, state_after_step, state_after_undo, state_after_rewind, own_or_writing_node}
use Rattle.ga_lab.specs.Calls.{MachineCall, step, undo, rewind, state_after_machine_call, state_after_machine_calls}
use Rattle.ga_lab.specs.Sequences.{AreCausallyEquivalent, back, chained, onward, either, RemovesNoLook}
use Rattle.ga_lab.proofs.Called.{Runs, runs_of, with_kept, call_runs, runs_some, call_load, first_runs}
use Rattle.ga_lab.proofs.Forward.{made_is_next}
use Rattle.ga_lab.proofs.Reasoned.{replayed}
use Rattle.ga_lab.proofs.Sequences.{call_made, calls_counted, call_limit, ended, undone_last}
use Rattle.ga_lab.proofs.Normal.{steps_for, at, load_of, steps_length, steps_join, Fits, reach, behind, one_refused, one_undo, one_rewind, ends_at, swaps_all}

-- A step.

pub less_of : (x y : ℕ) → nat_le x y ≡ false → y < x
less_of x y f = ⊎_elim (λ l. l) (λ l. absurd (both_ways (nat_le x y) f (le-leb x y l))) (cases_lt y x)

one_step : (s : MachineState) (n : NodeId) → Fits s → s.made < 2 ^ 64 - 1 → AreCausallyEquivalent (load_of s) (steps_for s.kept ++ step n ∷ []) (steps_for (state_after_step s n).kept)
one_step s n f count = go (next_event_of_node (chip_of_machine s) n) refl
  where
    stays : (o : Result Event EventRefusal) → next_event_of_node (chip_of_machine s) n ≡ o → (state_unless_refused s (answer_to_event s o) (machine_with_event s o)).kept ≡ s.kept → state_unless_refused (at s s.kept) (answer_to_event (at s s.kept) o) (machine_with_event (at s s.kept) o) ≡ at s s.kept
        → AreCausallyEquivalent (load_of s) (steps_for s.kept ++ step n ∷ []) (steps_for (state_after_step s n).kept)
    stays o is h k =
        subst (λ z. AreCausallyEquivalent (load_of s) (steps_for s.kept ++ step n ∷ []) (steps_for z)) (sym (ap (λ o. (state_unless_refused s (answer_to_event s o) (machine_with_event s o)).kept) is ∙ h))
        (one_refused s (step n) f (ap (λ o. state_unless_refused (at s s.kept) (answer_to_event (at s s.kept) o) (machine_with_event (at s s.kept) o)) is ∙ k))

    makes : (e : Event) → next_event_of_node (chip_of_machine s) n ≡ Ok e → (state_unless_refused s (answer_to_event s (Ok e)) (machine_with_event s (Ok e))).kept ≡ s.kept ++ e ∷ [] → AreCausallyEquivalent (load_of s) (steps_for s.kept ++ step n ∷ []) (steps_for (state_after_step s n).kept)
    makes e is h =
        let other : next_event_of_node (chip_of_machine s) (own_or_writing_node e) ≡ Ok e = made_is_next (chip_of_machine s) e (next_can (chip_of_machine s) n e is) in
        let q : state_after_step (at s s.kept) n ≡ state_after_step (at s s.kept) (own_or_writing_node e) = ap (λ o. state_unless_refused (at s s.kept) (answer_to_event (at s s.kept) o) (machine_with_event (at s s.kept) o)) (is ∙ sym other) in
        subst (λ z. AreCausallyEquivalent (load_of s) (steps_for s.kept ++ step n ∷ []) (steps_for z)) (sym (ap (λ o. (state_unless_refused s (answer_to_event s o) (machine_with_event s o)).kept) is ∙ h))
        (subst (λ z. AreCausallyEquivalent (load_of s) (steps_for s.kept ++ step n ∷ []) z) (sym (steps_join s.kept (e ∷ [])))
        (behind s (step n ∷ []) (step (own_or_writing_node e) ∷ []) f (either q)))

    go : (o : Result Event EventRefusal) → next_event_of_node (chip_of_machine s) n ≡ o → AreCausallyEquivalent (load_of s) (steps_for s.kept ++ step n ∷ []) (steps_for (state_after_step s n).kept)
    go (Err why) is = stays (Err why) is refl refl
    go (Ok e) is = ⊎_elim
        (λ full. stays (Ok e) is
        (ap (λ (z : Result MadeEvent LabFault). (state_unless_refused s z (machine_with_event s (Ok e))).kept) (cond-true (nat_le s.limit (length s.kept)) (Err Full) _ full))
        (ap (λ (z : Result MadeEvent LabFault). state_unless_refused (at s s.kept) z (machine_with_event (at s s.kept) (Ok e))) (cond-true (nat_le s.limit (length s.kept)) (Err Full) _ full)))
        (λ room. makes e is
        (ap (λ (z : Result MadeEvent LabFault). (state_unless_refused s z (machine_with_event s (Ok e))).kept)
        (Rattle.ga_lab.proofs.Sequences.counted_answer s e count ∙ cond-false (nat_le s.limit (length s.kept)) (Err Full) (Ok (made_next_event s e)) room)))
        (cases_Bool (nat_le s.limit (length s.kept)))

one_call : (s : MachineState) (call : MachineCall) (calls : List MachineCall) → Fits s → s.made < 2 ^ 64 - 1 → length s.kept + length s.kept < 2 ^ 64 → RemovesNoLook s (call ∷ calls) → AreCausallyEquivalent (load_of s) (steps_for s.kept ++ call ∷ []) (steps_for (state_after_machine_call s call).kept)
one_call s (step n) calls f count l none = one_step s n f count
one_call s (rewind n k) calls f count l none = one_rewind s n k f l none.0
one_call s undo calls f count l none = go s.kept refl
  where
    go : (ks : List Event) → s.kept ≡ ks → AreCausallyEquivalent (load_of s) (steps_for s.kept ++ undo ∷ []) (steps_for (state_after_undo s).kept)
    go [] is =
        let stays : (state_after_undo s).kept ≡ s.kept = ap (λ z. take (length z - 1) z) is ∙ sym is in
        subst (λ z. AreCausallyEquivalent (load_of s) (steps_for s.kept ++ undo ∷ []) (steps_for z)) (sym stays) (one_refused s undo f (ap (with_kept (at s s.kept)) stays))
    go (x ∷ xs) is =
        let l = Rattle.ga_lab.proofs.Normal.last_of x xs in
        subst (λ z. AreCausallyEquivalent (load_of s) (steps_for s.kept ++ undo ∷ []) (steps_for z)) (ap (λ (z : MachineState). z.kept) (sym (undone_last s l.front l.event (is ∙ l.is)))) (one_undo s l.front l.event (is ∙ l.is) f)

none_later : (s : MachineState) (call : MachineCall) (calls : List MachineCall) → RemovesNoLook s (call ∷ calls) → RemovesNoLook (state_after_machine_call s call) calls
none_later s (step n) calls h = h
none_later s undo calls h = h
none_later s (rewind n k) calls h = h.1

-- The history fits the limit and the count of made events.

record Held (s : MachineState) : Type 0 where
  some : IsSome (replay s.load s.kept)
  room : length s.kept ≤ s.limit
  made : length s.kept ≤ s.made

abbrev Within : MachineState → Type 0
Within s = (length s.kept ≤ s.limit) × (length s.kept ≤ s.made)

shorter : {A : Type 0} (flags : List Bool) (xs : List A) → length (unflagged_elements flags xs) ≤ length xs
shorter [] xs = omega arith
shorter (true ∷ flags) [] = omega arith
shorter (false ∷ flags) [] = omega arith
shorter (true ∷ flags) (x ∷ xs) = let a : length (unflagged_elements flags xs) ≤ length xs = shorter flags xs in let g : length (unflagged_elements flags xs) ≤ suc (length xs) = omega (arith, a) in g
shorter (false ∷ flags) (x ∷ xs) = let a : length (unflagged_elements flags xs) ≤ length xs = shorter flags xs in let g : suc (length (unflagged_elements flags xs)) ≤ suc (length xs) = omega (arith, a) in g

pub events_length : (cs : List EventWithLook) → length (events_of_causes cs) ≡ length cs
events_length [] = refl
events_length (c ∷ cs) = ap suc (events_length cs)

step_within : (s : MachineState) (o : Result Event EventRefusal) → Within s → Within (state_unless_refused s (answer_to_event s o) (machine_with_event s o))
step_within s (Err why) w = w
step_within s (Ok e) w = two (nat_le s.limit (length s.kept)) (nat_le (2 ^ 64 - 1) s.made) (λ f. less_of s.limit (length s.kept) f)
  where
    two : (full spent : Bool) → (full ≡ false → length s.kept < s.limit) → Within (state_unless_refused s (cond full (Err Full) (cond spent (Err EventNumbersSpent) (Ok (made_next_event s e)))) (machine_with_event s (Ok e)))
    two true spent h = w
    two false true h = w
    two false false h =
        let n : length (s.kept ++ e ∷ []) ≡ length s.kept + 1 = length_push s.kept e in
        let l : length s.kept < s.limit = h refl in
        let m : length s.kept ≤ s.made = w.1 in
        (omega (arith, n, l), omega (arith, n, m))

rewound_within : (s : MachineState) (n k : ℕ) → IsSome (replay s.load s.kept) → length (state_after_rewind s n k).kept ≤ length s.kept
rewound_within s n k some = go (position_of_step (machine_events_with_looks s) n k)
  where
    size : length s.kept ≡ length (machine_events_with_looks s)
    size = ap length (sym (replayed s some)) ∙ events_length (machine_events_with_looks s)

    go : (o : Option ℕ) → length (events_of_causes (remaining_events_or_all (machine_events_with_looks s) o)) ≤ length s.kept
    go None = let a = size in let b : length (events_of_causes (machine_events_with_looks s)) ≡ length (machine_events_with_looks s) = events_length (machine_events_with_looks s) in omega (arith, a, b)
    go (Some i) =
        let a = size in
        let b : length (events_of_causes (rest (machine_events_with_looks s) i)) ≡ length (rest (machine_events_with_looks s) i) = events_length (rest (machine_events_with_looks s) i) in
        let c : length (rest (machine_events_with_looks s) i) ≤ length (machine_events_with_looks s) = shorter (dependent_flags (machine_events_with_looks s) i) (machine_events_with_looks s) in
        omega (arith, a, b, c)

call_within : (s : MachineState) (call : MachineCall) → IsSome (replay s.load s.kept) → Within s → Within (state_after_machine_call s call)
call_within s (step n) some w = step_within s (next_event_of_node (chip_of_machine s) n) w
call_within s undo some w =
    let a : length (take (length s.kept - 1) s.kept) ≤ length s.kept = take_less (length s.kept - 1) s.kept in
    let b : length s.kept ≤ s.limit = w.0 in
    let c : length s.kept ≤ s.made = w.1 in
    (omega (arith, a, b), omega (arith, a, c))
  where
    take_less : (i : ℕ) (xs : List Event) → length (take i xs) ≤ length xs
    take_less i xs = let a : length (take i xs ++ Rattle.std.proofs.Common.drop i xs) ≡ length xs = ap length (Rattle.std.proofs.Common.take-append-drop i xs) in let b = length-append (take i xs) (Rattle.std.proofs.Common.drop i xs) in omega (arith, a, b)
call_within s (rewind n k) some w =
    let a : length (state_after_rewind s n k).kept ≤ length s.kept = rewound_within s n k some in
    let b : length s.kept ≤ s.limit = w.0 in
    let c : length s.kept ≤ s.made = w.1 in
    (omega (arith, a, b), omega (arith, a, c))

call_held : (s : MachineState) (call : MachineCall) → Held s → Held (state_after_machine_call s call)
call_held s call h =
    let w = call_within s call h.some (h.room, h.made) in
    record { some = runs_some (state_after_machine_call s call) (call_runs s call (runs_of s h.some)); room = w.0; made = w.1 }

calls_held : (s : MachineState) (calls : List MachineCall) → Held s → Held (state_after_machine_calls s calls)
calls_held s [] h = h
calls_held s (call ∷ calls) h = calls_held (state_after_machine_call s call) calls (call_held s call h)

fits_of : (s : MachineState) → Held s → s.made < 2 ^ 64 → Fits s
fits_of s h l = let a : length s.kept ≤ s.made = h.made in record { some = h.some; room = h.room; count = omega (arith, a, l) }

-- Calls from the load on are the steps for what they keep.
normal : (s : MachineState) (calls : List MachineCall) → Held s → (s.made + length calls) + (s.made + length calls) < 2 ^ 64 → RemovesNoLook s calls → AreCausallyEquivalent (load_of s) (steps_for s.kept ++ calls) (steps_for (ended s calls))
normal s [] h l none = subst (λ z. AreCausallyEquivalent (load_of s) z (steps_for s.kept)) (sym (append-nil (steps_for s.kept))) Rattle.ga_lab.specs.Sequences.itself
normal s (call ∷ calls) h l none =
    let l2 : (s.made + suc (length calls)) + (s.made + suc (length calls)) < 2 ^ 64 = l in
    let kept : length s.kept ≤ s.made = h.made in
    let f : Fits s = fits_of s h (omega (arith, l2)) in
    let t : MachineState = state_after_machine_call s call in
    let ht : Held t = call_held s call h in
    let kept2 : length t.kept ≤ t.made = ht.made in
    let made : t.made ≤ s.made + 1 = call_made s call in
    let g : Fits t = fits_of t ht (omega (arith, l2, made)) in
    let start : load_of t ≡ load_of s = ap₂ (λ (u : List NodeRecord) (v : ℕ). initial_state u v) (call_load s call) (call_limit s call) in
    let one = one_call s call calls f (omega (arith, l2)) (omega (arith, l2, kept)) none in
    let there : ended (load_of s) (steps_for t.kept) ≡ t.kept = ap (λ z. ended z (steps_for t.kept)) (sym start) ∙ ap (λ (z : MachineState). z.kept) (reach t g) in
    let alike : ended (load_of s) (steps_for s.kept ++ call ∷ []) ≡ ended (load_of s) (steps_for t.kept) =
    ends_at s (call ∷ []) f ∙ calls_counted s (length s.kept) (call ∷ []) (small s.made l2) (small2 l2 kept) ∙ sym there in
    let a : length ((steps_for s.kept ++ call ∷ []) ++ calls) ≡ length s.kept + 1 + length calls =
    length-append (steps_for s.kept ++ call ∷ []) calls ∙ ap (λ (z : ℕ). z + length calls) (length_push (steps_for s.kept) call ∙ ap (λ (z : ℕ). z + 1) (steps_length s.kept)) in
    let b : length (steps_for t.kept ++ calls) ≡ length t.kept + length calls = length-append (steps_for t.kept) calls ∙ ap (λ (z : ℕ). z + length calls) (steps_length t.kept) in
    subst (λ z. AreCausallyEquivalent (load_of s) z (steps_for (ended t calls))) (append_assoc (steps_for s.kept) (call ∷ []) calls)
    (chained (onward (steps_for s.kept ++ call ∷ []) (steps_for t.kept) calls alike (omega (arith, l2, a, kept)) (omega (arith, l2, b, kept2, made)) one)
    (subst (λ z. AreCausallyEquivalent z (steps_for t.kept ++ calls) (steps_for (ended t calls))) start
    (normal t calls ht (omega (arith, l2, made)) (none_later s call calls none))))
  where
    small : (m : ℕ) → (m + suc (length calls)) + (m + suc (length calls)) < 2 ^ 64 → m + 1 < 2 ^ 64
    small m l2 = omega (arith, l2)

    small2 : (s.made + suc (length calls)) + (s.made + suc (length calls)) < 2 ^ 64 → length s.kept ≤ s.made → length s.kept + 1 < 2 ^ 64
    small2 l2 k = omega (arith, l2, k)

first_held : (load : List NodeRecord) (limit : ℕ) → Held (initial_state load limit)
first_held load limit = record { some = refl; room = omega arith; made = omega arith }

-- what calls leave fits
pub history_limit_is_respected : (load : List NodeRecord) (limit : ℕ) (calls : List MachineCall) → (length (state_after_machine_calls (initial_state load limit) calls).kept ≤ (state_after_machine_calls (initial_state load limit) calls).limit) × (length (state_after_machine_calls (initial_state load limit) calls).kept ≤ (state_after_machine_calls (initial_state load limit) calls).made)
history_limit_is_respected load limit calls =
    let h : Held (state_after_machine_calls (initial_state load limit) calls) = calls_held (initial_state load limit) calls (first_held load limit) in
    (h.room, h.made)

pub related : (load : List NodeRecord) (limit : ℕ) (calls others : List MachineCall) → length calls + length calls < 2 ^ 64 → length others + length others < 2 ^ 64
    → RemovesNoLook (initial_state load limit) calls → RemovesNoLook (initial_state load limit) others
    → AreEquivalentLists load (state_after_machine_calls (initial_state load limit) calls).kept (state_after_machine_calls (initial_state load limit) others).kept → AreCausallyEquivalent (initial_state load limit) calls others
related load limit calls others l k none blind e =
    let s : MachineState = initial_state load limit in
    let h : Held (state_after_machine_calls s calls) = calls_held s calls (first_held load limit) in
    let many : length (ended s calls) ≤ (state_after_machine_calls s calls).made = h.made in
    let made : (state_after_machine_calls s calls).made ≤ 0 + length calls = Rattle.ga_lab.proofs.Sequences.calls_made s calls in
    let at_load : (state_after_machine_calls s calls).load ≡ load = Rattle.ga_lab.proofs.Called.calls_load s calls in
    let room : length (ended s calls) ≤ limit = subst (λ z. length (ended s calls) ≤ z) (Rattle.ga_lab.proofs.Sequences.calls_limit s calls) h.room in
    chained (normal s calls (first_held load limit) (omega (arith, l)) none)
    (chained (swaps_all s (ended s calls) (ended s others) e (subst (λ c. IsSome (replay c (ended s calls))) at_load h.some) room (omega (arith, many, made, l)))
    (back (normal s others (first_held load limit) (omega (arith, k)) blind)))
