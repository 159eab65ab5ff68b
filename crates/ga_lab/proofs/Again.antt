-- What a rollback took is made again by steps, where no look is among it.
use Rattle.std.proofs.Common.{◌≡◌, ℕ, ◌+◌, ◌-◌, ◌^◌, ◌<◌, ◌≤◌, Bool, true, false, cond, List, [], ◌∷◌, length, Ok, Err, refl, subst, arith, ◌++◌, map, Option, Some, None, sym, ◌∙◌, ap, append_assoc, append-nil, length-append}
use Rattle.std.specs.Prelude.{Result, IsSome, nat_le, not}
use Rattle.ga_node.specs.declared.kind.EventRefusal.{EventRefusal}
use Rattle.ga_node.specs.Record.{NodeRecord}
use Rattle.ga_event.specs.declared.event.Event.{Event}
use Rattle.ga_event.specs.Apply.{replay, MadeEventOutcome, apply, event_result, some_if_allowed, run_events}
use Rattle.ga_event.specs.Next.{next_event_of_node}
use Rattle.ga_lab.specs.declared.fault.LabFault.TheVariants.{Full, EventNumbersSpent}
use Rattle.ga_lab.specs.Machine.{MachineState, initial_state, chip_of_machine, made_next_event, answer_to_event, machine_with_event, state_unless_refused, machine_events_with_looks, state_after_rewind, own_or_writing_node, state_after_steps}
use Rattle.ga_lab.specs.Calls.{MachineCall, step, undo, rewind, state_after_machine_call, state_after_machine_calls, IsReachableState}
use Rattle.ga_lab.proofs.Called.{Runs, runs_some, first_runs, call_runs}
use Rattle.ga_lab.proofs.Causal.{less_of, history_limit_is_respected, events_length as events_size}
use Rattle.std.proofs.lemmas.List.{length_push}
use Rattle.std.proofs.lemmas.Option.{same_Some}
use Rattle.ga_event.specs.declared.event.EventWithLook.{EventWithLook}
use Rattle.ga_causal.specs.Dependence.{HasNoLooks, dependent_flags, unflagged_elements, rest, position_of_step, remaining_events_or_all}
use Rattle.ga_event.specs.Told.{events_of_causes}
use Rattle.ga_causal.specs.Equivalence.{AreEquivalentLists}
use Rattle.ga_causal.proofs.Runs.{first_of_run, replay_equivalent}
use Rattle.ga_causal.proofs.Words.{after_is}
use Rattle.ga_rollback.proofs.Rewinding.{run_snoc}
use Rattle.ga_lab.specs.Sequences.{removed_events}
use Rattle.ga_lab.proofs.Alike.{equivalent_length, same_chip}
use Rattle.ga_lab.proofs.Forward.{Applied, applied, keeping, steps_at}
use Rattle.ga_lab.proofs.Normal.{parted_alike, events_join}
use Rattle.ga_lab.proofs.Reasoned.{replayed}

-- ---- what holds of each machine to which calls lead

-- its list runs
pub runs_reached : (s : MachineState) → IsReachableState s → Runs s
runs_reached s h = subst (λ z. Runs z) h.is (first_runs s.load s.limit h.calls)

pub some_reached : (s : MachineState) → IsReachableState s → IsSome (replay s.load s.kept)
some_reached s h = runs_some s (runs_reached s h)

pub kept_reached : (s : MachineState) → IsReachableState s → length s.kept ≤ s.limit
kept_reached s h = subst (λ z. length z.kept ≤ z.limit) h.is ((history_limit_is_respected s.load s.limit h.calls).0)

-- the count of made events stays below 2^64
step_counts : (s : MachineState) (o : Result Event EventRefusal) → s.made < 2 ^ 64 → (state_unless_refused s (answer_to_event s o) (machine_with_event s o)).made < 2 ^ 64
step_counts s (Err why) l = l
step_counts s (Ok e) l = two (nat_le s.limit (length s.kept)) (nat_le (2 ^ 64 - 1) s.made) (λ f. less_of (2 ^ 64 - 1) s.made f)
  where
    two : (full spent : Bool) → (spent ≡ false → s.made < 2 ^ 64 - 1) → (state_unless_refused s (cond full (Err Full) (cond spent (Err EventNumbersSpent) (Ok (made_next_event s e)))) (machine_with_event s (Ok e))).made < 2 ^ 64
    two true spent h = l
    two false true h = l
    two false false h = let m : s.made < 2 ^ 64 - 1 = h refl in let g : s.made + 1 < 2 ^ 64 = omega (arith, m) in g

call_counts : (s : MachineState) (call : MachineCall) → s.made < 2 ^ 64 → (state_after_machine_call s call).made < 2 ^ 64
call_counts s (step n) l = step_counts s (next_event_of_node (chip_of_machine s) n) l
call_counts s undo l = l
call_counts s (rewind n k) l = l

calls_count : (s : MachineState) (calls : List MachineCall) → s.made < 2 ^ 64 → (state_after_machine_calls s calls).made < 2 ^ 64
calls_count s [] l = l
calls_count s (call ∷ calls) l = calls_count (state_after_machine_call s call) calls (call_counts s call l)

pub made_below : (load : List NodeRecord) (limit : ℕ) (calls : List MachineCall) → (state_after_machine_calls (initial_state load limit) calls).made < 2 ^ 64
made_below load limit calls = calls_count (initial_state load limit) calls (omega arith)

pub count_reached : (s : MachineState) → IsReachableState s → length s.kept < 2 ^ 64
count_reached s h = subst (λ z. length z.kept < 2 ^ 64) h.is (
    let k : length (state_after_machine_calls (initial_state s.load s.limit) h.calls).kept ≤ (state_after_machine_calls (initial_state s.load s.limit) h.calls).made = (history_limit_is_respected s.load s.limit h.calls).1 in
    let l : (state_after_machine_calls (initial_state s.load s.limit) h.calls).made < 2 ^ 64 = made_below s.load s.limit h.calls in
    omega (arith, k, l)
    )

-- the history fits the limit and the count
pub fits : (load : List NodeRecord) (limit : ℕ) (calls : List MachineCall) → (length (state_after_machine_calls (initial_state load limit) calls).kept ≤ (state_after_machine_calls (initial_state load limit) calls).limit)
    × (length (state_after_machine_calls (initial_state load limit) calls).kept ≤ (state_after_machine_calls (initial_state load limit) calls).made) × ((state_after_machine_calls (initial_state load limit) calls).made < 2 ^ 64)
fits load limit calls = let k = history_limit_is_respected load limit calls in (k.0, k.1, made_below load limit calls)

-- what can follow the first part of a list
rest_some : (load c : List NodeRecord) (xs ys : List Event) (ts : List (EventWithLook × MadeEventOutcome)) → run_events load xs ≡ Some (c, ts) → IsSome (replay load (xs ++ ys)) → IsSome (replay c ys)
rest_some load c [] ys ts h some = subst (λ z. IsSome (replay z ys)) (ap (λ (z : List NodeRecord × List (EventWithLook × MadeEventOutcome)). z.0) (same_Some (load, []) (c, ts) h)) some
rest_some load c (x ∷ xs) ys ts h some =
    let m = first_of_run load x xs c ts h in
    let a : Applied load x (xs ++ ys) = applied load x (xs ++ ys) some in
    rest_some m.mid c xs ys m.others m.then (subst (λ (z : List NodeRecord × MadeEventOutcome). IsSome (replay z.0 (xs ++ ys))) (after_is load m.mid x m.told m.first) a.others)

-- steps of these nodes make these events again
made_on : (s : MachineState) (c : List NodeRecord) (xs : List Event) (ts : List (EventWithLook × MadeEventOutcome)) (ys : List Event) (m : ℕ) → run_events s.load xs ≡ Some (c, ts) → IsSome (replay c ys)
    → length xs + length ys ≤ s.limit → m + length ys < 2 ^ 64 → state_after_steps (keeping s xs m) (map own_or_writing_node ys) ≡ keeping s (xs ++ ys) (m + length ys)
made_on s c xs ts [] m ran some room count =
    let none : m + 0 ≡ m = omega arith in
    ap (λ z. keeping s z m) (sym (append-nil xs)) ∙ ap (λ (z : ℕ). keeping s (xs ++ []) z) (sym none)
made_on s c xs ts (y ∷ ys) m ran some room count =
    let a : Applied c y ys = applied c y ys some in
    let made : apply c y ≡ Some ((event_result c y).0, (event_result c y).1) = ap (λ o. some_if_allowed o (event_result c y)) a.can in
    let more : length (xs ++ y ∷ []) ≡ length xs + 1 = length_push xs y in
    let r2 : length xs + (length ys + 1) ≤ s.limit = (let w : length (y ∷ ys) ≡ length ys + 1 = omega arith in let v : length xs + length (y ∷ ys) ≤ s.limit = room in omega (arith, v, w)) in
    let c2 : m + (length ys + 1) < 2 ^ 64 = (let w : length (y ∷ ys) ≡ length ys + 1 = omega arith in let v : m + length (y ∷ ys) < 2 ^ 64 = count in omega (arith, v, w)) in
    let sum : m + 1 + length ys ≡ m + length (y ∷ ys) = (let w : length (y ∷ ys) ≡ length ys + 1 = omega arith in omega (arith, w)) in
    ap (λ z. state_after_steps z (map own_or_writing_node ys)) (steps_at (keeping s s.kept m) c xs ts y ran a.can (omega (arith, r2)) (omega (arith, c2)))
    ∙ made_on s (event_result c y).0 (xs ++ y ∷ []) _ ys (m + 1) (run_snoc s.load c (event_result c y).0 xs ts y (event_result c y).1 ran made) a.others (omega (arith, r2, more)) (omega (arith, c2))
    ∙ ap (λ z. keeping s z (m + 1 + length ys)) (append_assoc xs (y ∷ []) ys)
    ∙ ap (λ (z : ℕ). keeping s (xs ++ y ∷ ys) z) sum

abbrev pub Again : MachineState → MachineState → Type 0
Again s z = AreEquivalentLists s.load s.kept z.kept × (chip_of_machine z ≡ chip_of_machine s)

ends_again : (s z : MachineState) (xs : List Event) (made : ℕ) → z ≡ keeping s xs made → AreEquivalentLists s.load s.kept xs → Again s z
ends_again s z xs made is e =
    subst (Again s) (sym is) (e, sym (same_chip (keeping s s.kept made) (keeping s xs made) (record { load = refl; limit = refl; made = refl; kept = e })))

-- the rollback leaves the one part, and steps make the other again
parted_again : (s : MachineState) (n k : ℕ) (left gone : List Event) → Runs s → length s.kept ≤ s.limit → s.made + length gone < 2 ^ 64 → AreEquivalentLists s.load s.kept (left ++ gone) → (state_after_rewind s n k).kept ≡ left
    → Again s (state_after_steps (state_after_rewind s n k) (map own_or_writing_node gone))
parted_again s n k left gone r room count e is =
    let q : Runs (state_after_rewind s n k) = call_runs s (rewind n k) r in
    let ran : run_events s.load left ≡ Some (q.last, q.told) = ap (run_events s.load) (sym is) ∙ q.run_is in
    let some : IsSome (replay s.load (left ++ gone)) = subst IsSome (replay_equivalent s.load s.kept (left ++ gone) e) (runs_some s r) in
    let size : length s.kept ≡ length left + length gone = equivalent_length s.load s.kept (left ++ gone) e ∙ length-append left gone in
    ends_again s (state_after_steps (state_after_rewind s n k) (map own_or_writing_node gone)) (left ++ gone) (s.made + length gone)
    (ap (λ z. state_after_steps (keeping s z s.made) (map own_or_writing_node gone)) is
    ∙ made_on s q.last left q.told gone s.made ran (rest_some s.load q.last left gone q.told ran some) (omega (arith, room, size)) count)
    e

pub rollback_is_redone_by_steps : (s : MachineState) (n k : ℕ) → IsReachableState s → HasNoLooks (removed_events (machine_events_with_looks s) (position_of_step (machine_events_with_looks s) n k)) → s.made + length (removed_events (machine_events_with_looks s) (position_of_step (machine_events_with_looks s) n k)) < 2 ^ 64
    → Again s (state_after_steps (state_after_rewind s n k) (map own_or_writing_node (events_of_causes (removed_events (machine_events_with_looks s) (position_of_step (machine_events_with_looks s) n k)))))
rollback_is_redone_by_steps s n k h none count = go (position_of_step (machine_events_with_looks s) n k) refl none count
  where
    go : (o : Option ℕ) → position_of_step (machine_events_with_looks s) n k ≡ o → HasNoLooks (removed_events (machine_events_with_looks s) o) → s.made + length (removed_events (machine_events_with_looks s) o) < 2 ^ 64
        → Again s (state_after_steps (state_after_rewind s n k) (map own_or_writing_node (events_of_causes (removed_events (machine_events_with_looks s) o))))
    go None is blind few =
        let stays : (state_after_rewind s n k).kept ≡ s.kept = ap (λ (o : Option ℕ). events_of_causes (remaining_events_or_all (machine_events_with_looks s) o)) is ∙ replayed s (some_reached s h) in
        ends_again s (state_after_rewind s n k) s.kept s.made (ap (λ z. keeping s z s.made) stays) Rattle.ga_causal.specs.Equivalence.same
    go (Some i) is blind few =
        let gone : List EventWithLook = unflagged_elements (map not (dependent_flags (machine_events_with_looks s) i)) (machine_events_with_looks s) in
        let e : AreEquivalentLists s.load s.kept (events_of_causes (rest (machine_events_with_looks s) i) ++ events_of_causes gone) =
        subst (AreEquivalentLists s.load s.kept) (events_join (rest (machine_events_with_looks s) i) gone) (parted_alike s (runs_reached s h) i blind) in
        let size : length (events_of_causes gone) ≡ length gone = events_size gone in
        let few2 : s.made + length gone < 2 ^ 64 = few in
        parted_again s n k (events_of_causes (rest (machine_events_with_looks s) i)) (events_of_causes gone) (runs_reached s h) (kept_reached s h) (omega (arith, few2, size)) e
        (ap (λ (o : Option ℕ). events_of_causes (remaining_events_or_all (machine_events_with_looks s) o)) is)
