-- Machines that calls lead to, and machines that differ in the order of independent events alone.
use Rattle.std.proofs.Common.{◌≡◌, ℕ, suc, ◌+◌, ◌-◌, Bool, true, false, cond, List, [], ◌∷◌, ◌++◌, length, take, drop, Some, None, Ok, Err, refl, sym, ◌∙◌, ap, arith, take-append-drop, take_all}
use Rattle.std.specs.Prelude.{Option, Result, option_map, unwrap_or, is_some, IsSome}
use Rattle.std.proofs.lemmas.List.{length_push, take-append-le}
use Rattle.std.proofs.lemmas.List.Sums.{sum_by-append}
use Rattle.ga_node.specs.declared.kind.EventRefusal.{EventRefusal}
use Rattle.ga_node.specs.Record.{NodeRecord}
use Rattle.ga_node.specs.Table.{register_t}
use Rattle.ga_grid.specs.declared.node_id.NodeId.{NodeId}
use Rattle.ga_event.specs.declared.event.Event.{Event}
use Rattle.ga_event.specs.declared.event.EventWithLook.{EventWithLook}
use Rattle.ga_event.specs.Touches.{touches as event_touches}
use Rattle.ga_event.specs.Apply.{MadeEventOutcome, apply, event_result, some_if_allowed, event_with_look_on_chip, run_events, replay}
use Rattle.ga_event.specs.Next.{next_event_of_node}
use Rattle.ga_event.proofs.Nexts.{next_can}
use Rattle.ga_causal.specs.Dependence.{event_with_look_touches_node, rest, remaining_events_or_all, events_after_rewind}
use Rattle.ga_event.specs.Told.{events_of_causes, count_steps, made_events_of_node}
use Rattle.ga_causal.specs.Steps.{count_touching_events}
use Rattle.ga_causal.proofs.Runs.{causes, run_more, first_of_run}
use Rattle.ga_causal.proofs.Consistent.{made_of}
use Rattle.ga_causal.proofs.Places.{place_split, touching_in}
use Rattle.ga_causal.proofs.LocalHistories.{first_part_told}
use Rattle.ga_lab.proofs.Told.{history_begins}
use Rattle.ga_event.specs.declared.made.MadeEvent.{MadeEvent}
use Rattle.ga_rollback.proofs.Rewinding.{run_snoc}
use Rattle.ga_lab.specs.declared.fault.LabFault.{LabFault}
use Rattle.ga_lab.specs.Machine.{MachineState, initial_state, chip_of_machine, run_events_with_outcomes, machine_events_with_outcomes, machine_events_with_looks, answer_to_event, machine_with_event, state_unless_refused, state_after_step, state_after_undo, state_after_rewind, history_of_node}
use Rattle.ga_lab.specs.Calls.{MachineCall, step, undo, rewind, state_after_machine_call, state_after_machine_calls}

-- a machine whose list runs
pub record Runs (s : MachineState) : Type 0 where
  pub last : List NodeRecord
  pub told : List (EventWithLook × MadeEventOutcome)
  pub run_is : run_events s.load s.kept ≡ Some (last, told)

pub runs_of : (s : MachineState) → IsSome (replay s.load s.kept) → Runs s
runs_of s h = go (run_events s.load s.kept) refl h
  where
    go : (o : Option (List NodeRecord × List (EventWithLook × MadeEventOutcome))) → run_events s.load s.kept ≡ o → IsSome (option_map {U = List NodeRecord} (λ done. done.0) o) → Runs s
    go None is k = absurd (cc)
    go (Some done) is k = record { last = done.0; told = done.1; run_is = is }

-- the machine with another list
abbrev pub with_kept : MachineState → List Event → MachineState
with_kept s xs = record s { kept = xs }

pub runs_some : (s : MachineState) → Runs s → IsSome (replay s.load s.kept)
runs_some s r = ap (λ (o : Option (List NodeRecord × List (EventWithLook × MadeEventOutcome))). is_some (option_map {U = List NodeRecord} (λ x. x.0) o)) r.run_is

pub told_is : (s : MachineState) (r : Runs s) → machine_events_with_outcomes s ≡ r.told
told_is s r = ap run_events_with_outcomes r.run_is

pub causes_is : (s : MachineState) (r : Runs s) → machine_events_with_looks s ≡ causes r.told
causes_is s r = ap causes (told_is s r)

pub chip_is : (s : MachineState) (r : Runs s) → chip_of_machine s ≡ r.last
chip_is s r = ap (λ (o : Option (List NodeRecord × List (EventWithLook × MadeEventOutcome))). unwrap_or (option_map (λ (x : List NodeRecord × List (EventWithLook × MadeEventOutcome)). x.0) o) []) r.run_is

-- Every call leaves a machine whose list runs.

step_runs : (s : MachineState) (n : NodeId) → Runs s → Runs (state_after_step s n)
step_runs s n r = go (next_event_of_node (chip_of_machine s) n) refl (answer_to_event s (next_event_of_node (chip_of_machine s) n))
  where
    go : (o : Result Event EventRefusal) → next_event_of_node (chip_of_machine s) n ≡ o → (a : Result MadeEvent LabFault) → Runs (state_unless_refused s a (machine_with_event s o))
    go (Err why) is (Ok told) = r
    go (Err why) is (Err fault) = r
    go (Ok e) is (Err fault) = r
    go (Ok e) is (Ok told) =
        let made : apply r.last e ≡ Some ((event_result r.last e).0, (event_result r.last e).1) = ap (λ o. some_if_allowed o (event_result r.last e)) (next_can r.last n e (ap (λ z. next_event_of_node z n) (sym (chip_is s r)) ∙ is)) in
        record { last = (event_result r.last e).0; told = _; run_is = run_snoc s.load r.last (event_result r.last e).0 s.kept r.told e (event_result r.last e).1 r.run_is made }

-- the first part of a list runs
front_runs : (c last : List NodeRecord) (xs ys : List Event) (ts : List (EventWithLook × MadeEventOutcome)) → run_events c (xs ++ ys) ≡ Some (last, ts) → (d : List NodeRecord) × (us : List (EventWithLook × MadeEventOutcome)) × (run_events c xs ≡ Some (d, us))
front_runs c last [] ys ts h = (c, [], refl)
front_runs c last (x ∷ xs) ys ts h =
    let m = first_of_run c x (xs ++ ys) last ts h in
    let r = front_runs m.mid last xs ys m.others m.then in
    (r.0, (event_with_look_on_chip c x, m.told) ∷ r.1, run_more c x xs m.mid r.0 m.told r.1 m.first r.2)

undo_runs : (s : MachineState) → Runs s → Runs (state_after_undo s)
undo_runs s r =
    let i : ℕ = length s.kept - 1 in
    let f = front_runs s.load r.last (take i s.kept) (drop i s.kept) r.told (ap (run_events s.load) (take-append-drop i s.kept) ∙ r.run_is) in
    record { last = f.0; told = f.1; run_is = f.2 }

rewind_runs : (s : MachineState) (n k : ℕ) → Runs s → Runs (state_after_rewind s n k)
rewind_runs s n k r =
    let f = first_part_told s.load r.last s.kept r.told n k r.run_is in
    record { last = f.0; told = f.1; run_is = ap (λ z. run_events s.load (events_of_causes (events_after_rewind z n k))) (causes_is s r) ∙ f.2 }

pub call_runs : (s : MachineState) (call : MachineCall) → Runs s → Runs (state_after_machine_call s call)
call_runs s (step n) r = step_runs s n r
call_runs s undo r = undo_runs s r
call_runs s (rewind n k) r = rewind_runs s n k r

step_load : (s : MachineState) (o : Result Event EventRefusal) (a : Result MadeEvent LabFault) → (state_unless_refused s a (machine_with_event s o)).load ≡ s.load
step_load s (Err why) (Ok told) = refl
step_load s (Err why) (Err fault) = refl
step_load s (Ok e) (Ok told) = refl
step_load s (Ok e) (Err fault) = refl

pub call_load : (s : MachineState) (call : MachineCall) → (state_after_machine_call s call).load ≡ s.load
call_load s (step n) = step_load s (next_event_of_node (chip_of_machine s) n) (answer_to_event s (next_event_of_node (chip_of_machine s) n))
call_load s undo = refl
call_load s (rewind n k) = refl

pub calls_run : (s : MachineState) (calls : List MachineCall) → Runs s → Runs (state_after_machine_calls s calls)
calls_run s [] r = r
calls_run s (call ∷ calls) r = calls_run (state_after_machine_call s call) calls (call_runs s call r)

pub calls_load : (s : MachineState) (calls : List MachineCall) → (state_after_machine_calls s calls).load ≡ s.load
calls_load s [] = refl
calls_load s (call ∷ calls) = calls_load (state_after_machine_call s call) calls ∙ call_load s call

pub first_runs : (load : List NodeRecord) (limit : ℕ) (calls : List MachineCall) → Runs (state_after_machine_calls (initial_state load limit) calls)
first_runs load limit calls = calls_run (initial_state load limit) calls (record { last = load; told = []; run_is = refl })

pub history_is_replayable : (load : List NodeRecord) (limit : ℕ) (calls : List MachineCall) → ((state_after_machine_calls (initial_state load limit) calls).load ≡ load) × IsSome (replay (state_after_machine_calls (initial_state load limit) calls).load (state_after_machine_calls (initial_state load limit) calls).kept)
history_is_replayable load limit calls = (calls_load (initial_state load limit) calls, runs_some _ (first_runs load limit calls))

-- After a rollback the history of each node is a prefix of the one before.
pub rollback_keeps_node_prefixes : (s : MachineState) (n k m : ℕ) → IsSome (replay s.load s.kept) → (later : List MadeEvent) × (history_of_node s m ≡ history_of_node (state_after_rewind s n k) m ++ later)
rollback_keeps_node_prefixes s n k m some =
    let r = runs_of s some in
    let f = first_part_told s.load r.last s.kept r.told n k r.run_is in
    let left : machine_events_with_outcomes (state_after_rewind s n k) ≡ f.1 = ap (λ z. run_events_with_outcomes (run_events s.load (events_of_causes (events_after_rewind z n k)))) (causes_is s r) ∙ ap run_events_with_outcomes f.2 in
    let b = history_begins r.told f.1 m (f.3 m) in
    (b.0, ap (λ z. made_events_of_node z m) (told_is s r) ∙ b.1 ∙ ap (λ z. made_events_of_node z m ++ b.0) (sym left))

-- The newest event is a step of each of its nodes on which nothing depends: to undo it is to roll it back.
pub events_run : (c last : List NodeRecord) (es : List Event) (ts : List (EventWithLook × MadeEventOutcome)) → run_events c es ≡ Some (last, ts) → events_of_causes (causes ts) ≡ es
events_run c last es ts h = (made_of c last es ts h).1

-- the last of a list of causes, of a list of events
record LastOf (cs : List EventWithLook) (xs : List Event) (e : Event) : Type 0 where
  pub front : List EventWithLook
  pub cause : EventWithLook
  pub is : cs ≡ front ++ cause ∷ []
  pub events : events_of_causes front ≡ xs
  pub event : cause.event ≡ e

last_of : (cs : List EventWithLook) (xs : List Event) (e : Event) → events_of_causes cs ≡ xs ++ e ∷ [] → LastOf cs xs e
last_of [] [] e h = absurd (cc)
last_of [] (x ∷ xs) e h = absurd (cc)
last_of (c ∷ []) [] e h = record { front = []; cause = c; is = refl; events = refl; event = cc }
last_of (c ∷ d ∷ cs) [] e h = absurd (cc)
last_of (c ∷ cs) (x ∷ xs) e h =
    let r = last_of cs xs e (let q : events_of_causes cs ≡ xs ++ e ∷ [] = cc in q) in
    let q : c.event ≡ x = cc in
    record { front = c ∷ r.front; cause = r.cause; is = ap (λ z. c ∷ z) r.is; events = ap (λ z. z ∷ events_of_causes r.front) q ∙ ap (λ z. x ∷ z) r.events; event = r.event }

rest_last : (xs : List EventWithLook) (c : EventWithLook) → rest (xs ++ c ∷ []) (length xs) ≡ xs
rest_last [] c = refl
rest_last (x ∷ xs) c = ap (λ z. x ∷ z) (rest_last xs c)

rewound_last : (xs : List EventWithLook) (c : EventWithLook) (n : ℕ) → event_with_look_touches_node c n ≡ true → events_after_rewind (xs ++ c ∷ []) n (count_touching_events n xs + 1) ≡ xs
rewound_last xs c n register_t =
    let q : count_touching_events n xs + 1 ≡ suc (count_touching_events n xs) = omega arith in
    ap (λ (z : ℕ). events_after_rewind (xs ++ c ∷ []) n z) q ∙ ap (remaining_events_or_all (xs ++ c ∷ [])) (place_split n (count_touching_events n xs) xs c [] refl register_t) ∙ rest_last xs c

pub undo_is_rewind_of_last : (s : MachineState) (xs : List Event) (e : Event) (n : ℕ) → IsSome (replay s.load s.kept) → s.kept ≡ xs ++ e ∷ [] → event_touches e n ≡ true → state_after_undo s ≡ state_after_rewind s n (count_steps n s.kept)
undo_is_rewind_of_last s xs e n some is register_t =
    let r = runs_of s some in
    let l = last_of (causes r.told) xs e (events_run s.load r.last s.kept r.told r.run_is ∙ is) in
    let here : event_with_look_touches_node l.cause n ≡ true = ap (λ z. event_touches z n) l.event ∙ register_t in
    let steps : count_steps n s.kept ≡ count_touching_events n l.front + 1 =
    ap (count_steps n) is ∙ sum_by-append (λ (z : Event). cond (event_touches z n) 1 0) xs (e ∷ []) ∙ one (event_touches e n) register_t ∙ ap (λ (z : ℕ). z + 1) (ap (count_steps n) (sym l.events) ∙ sym (touching_in n l.front)) in
    let long : length (xs ++ e ∷ []) ≡ length xs + 1 = length_push xs e in
    let less : length s.kept - 1 ≡ length xs = let size : length s.kept ≡ length xs + 1 = ap length is ∙ long in omega arith in
    let front : take (length s.kept - 1) s.kept ≡ xs =
    ap (λ z. take z s.kept) less ∙ ap (take (length xs)) is ∙ take-append-le (length xs) xs (e ∷ []) (omega arith) ∙ take_all (length xs) xs (omega arith) in
    ap (λ z. with_kept s z)
    (front ∙ sym (ap (λ z. events_of_causes (events_after_rewind z n (count_steps n s.kept))) (causes_is s r ∙ l.is)
    ∙ ap (λ z. events_of_causes (events_after_rewind (l.front ++ l.cause ∷ []) n z)) steps
    ∙ ap events_of_causes (rewound_last l.front l.cause n here) ∙ l.events))
  where
    one : (b : Bool) → b ≡ true → count_steps n xs + (0 + cond b 1 0) ≡ count_steps n xs + 1
    one true h = omega arith
    one false h = absurd (cc)
