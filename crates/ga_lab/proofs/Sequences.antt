-- Sequences of calls that are causally equivalent end alike.
use Rattle.std.proofs.Common.{◌≡◌, ℕ, suc, ◌+◌, ◌-◌, ◌^◌, ◌<◌, ◌≤◌, Bool, true, false, cond, List, [], ◌∷◌, ◌++◌, length, take, Some, None, Ok, Err, refl, sym, ◌∙◌, ap, subst, arith, take_all, ⊎_elim}
use Rattle.std.specs.Prelude.{Option, Result, IsOk, nat_le, option_map, unwrap_or}
use Rattle.std.proofs.lemmas.Bool.{cond-false, lt-leb}
use Rattle.std.proofs.lemmas.List.{length_push, take-append-le}
use Rattle.ga_node.specs.declared.kind.EventRefusal.{EventRefusal}
use Rattle.ga_node.specs.Record.{NodeRecord}
use Rattle.ga_grid.specs.declared.node_id.NodeId.{NodeId}
use Rattle.ga_event.specs.declared.event.Event.{Event}
use Rattle.ga_event.specs.declared.event.EventWithLook.{EventWithLook}
use Rattle.ga_event.specs.Apply.{MadeEventOutcome, event_refusal, apply, event_result, some_if_allowed, event_with_look_on_chip, run_events}
use Rattle.ga_event.specs.Next.{next_event_of_node}
use Rattle.ga_causal.specs.Dependence.{event_with_look_touches_node}
use Rattle.ga_causal.specs.Equivalence.{AreIndependentEvents, AreEquivalentLists, same, swapped, later, joined}
use Rattle.ga_causal.proofs.Runs.{first_of_run, keeps_of, same_of}
use Rattle.ga_causal.proofs.Equivalences.{AreApart-sym, independent_on_all}
use Rattle.ga_event.specs.declared.made.MadeEvent.{MadeEvent}
use Rattle.ga_rollback.proofs.Rewinding.{run_snoc}
use Rattle.ga_lab.specs.declared.fault.LabFault.{LabFault}
use Rattle.ga_lab.specs.declared.fault.LabFault.TheVariants.{Full, EventNumbersSpent}
use Rattle.ga_lab.specs.Machine.{MachineState, chip_of_machine, made_next_event, answer_to_event, machine_with_event, step_answer, state_unless_refused, state_after_step, state_after_undo, own_or_writing_node}
use Rattle.ga_lab.specs.Calls.{MachineCall, step, undo, rewind, state_after_machine_call, state_after_machine_calls, AreEquivalentStates}
use Rattle.ga_lab.specs.Sequences.{HasNoUndo, CanCountAllCalls, AreCausallyEquivalent, itself, back, chained, before, more, onward, refused, either, cancelled, turned, rolled}
use Rattle.ga_lab.proofs.Alike.{same_step, same_rewind}
use Rattle.ga_lab.proofs.Called.{Runs, with_kept, chip_is, call_runs, calls_run, runs_some, call_load, calls_load}
use Rattle.ga_lab.proofs.Forward.{made_is_next}

equivalent-sym : (c : List NodeRecord) (xs ys : List Event) → AreEquivalentLists c xs ys → AreEquivalentLists c ys xs
equivalent-sym c xs ys same = same
equivalent-sym c xs ys (swapped {e} {f} h) = swapped (AreApart-sym (event_with_look_on_chip c e) (event_with_look_on_chip c f) h)
equivalent-sym c xs ys (later {now} {e} {xs = us} {ys = vs} h k) = later h (equivalent-sym now us vs k)
equivalent-sym c xs ys (joined {ys = zs} h k) = joined (equivalent-sym c zs ys k) (equivalent-sym c xs zs h)

pub equivalent_back : (c : List NodeRecord) (xs ys : List Event) → AreEquivalentLists c xs ys → AreEquivalentLists c ys xs
equivalent_back c xs ys h = equivalent-sym c xs ys h

-- the same events before
equivalent_behind : (c d : List NodeRecord) (xs ys zs : List Event) (ts : List (EventWithLook × MadeEventOutcome)) → run_events c xs ≡ Some (d, ts) → AreEquivalentLists d ys zs → AreEquivalentLists c (xs ++ ys) (xs ++ zs)
equivalent_behind c d [] ys zs ts h k = subst (λ b. AreEquivalentLists b ys zs) (let p : (let q : Option (List NodeRecord × List (EventWithLook × MadeEventOutcome)) = Some (d, ts) in q) ≡ Some (c, []) = sym h in ap (λ (o : Option (List NodeRecord × List (EventWithLook × MadeEventOutcome))). unwrap_or (option_map (λ (x : List NodeRecord × List (EventWithLook × MadeEventOutcome)). x.0) o) []) p) k
equivalent_behind c d (x ∷ xs) ys zs ts h k =
    let f = first_of_run c x xs d ts h in
    later f.first (equivalent_behind f.mid d xs ys zs f.others f.then k)

-- The count of made events shows in no list, where it has room.

abbrev pub counting : MachineState → ℕ → MachineState
counting s m = record s { made = m }

record Counted (s z : MachineState) (most : ℕ) : Type 0 where
  pub made : ℕ
  pub least : made ≤ most
  pub is : z ≡ counting s made

pub counted_answer : (s : MachineState) (e : Event) → s.made < 2 ^ 64 - 1 → answer_to_event s (Ok e) ≡ cond (nat_le s.limit (length s.kept)) (Err Full) (Ok (made_next_event s e))
counted_answer s e l = ap (λ (z : Result MadeEvent LabFault). cond (nat_le s.limit (length s.kept)) (Err Full) z) (cond-false (nat_le (2 ^ 64 - 1) s.made) (Err EventNumbersSpent) (Ok (made_next_event s e)) (lt-leb (2 ^ 64 - 1) s.made l))

step_counted : (s : MachineState) (m : ℕ) (n : NodeId) → s.made < 2 ^ 64 - 1 → m < 2 ^ 64 - 1 → Counted (state_after_step s n) (state_after_step (counting s m) n) (m + 1)
step_counted s m n l k = go (next_event_of_node (chip_of_machine s) n)
  where
    two : (e : Event) (full : Bool) (a b : MadeEvent) → Counted (state_unless_refused s (cond full (Err Full) (Ok a)) (machine_with_event s (Ok e))) (state_unless_refused (counting s m) (cond full (Err Full) (Ok b)) (machine_with_event (counting s m) (Ok e))) (m + 1)
    two e true a b = record { made = m; least = omega arith; is = refl }
    two e false a b = record { made = m + 1; least = omega arith; is = refl }

    go : (o : Result Event EventRefusal) → Counted (state_unless_refused s (answer_to_event s o) (machine_with_event s o)) (state_unless_refused (counting s m) (answer_to_event (counting s m) o) (machine_with_event (counting s m) o)) (m + 1)
    go (Err why) = record { made = m; least = omega arith; is = refl }
    go (Ok e) =
        subst (λ (z : Result MadeEvent LabFault). Counted (state_unless_refused s z (machine_with_event s (Ok e))) (state_unless_refused (counting s m) (answer_to_event (counting s m) (Ok e)) (machine_with_event (counting s m) (Ok e))) (m + 1)) (sym (counted_answer s e l))
        (subst (λ (z : Result MadeEvent LabFault). Counted (state_unless_refused s (cond (nat_le s.limit (length s.kept)) (Err Full) (Ok (made_next_event s e))) (machine_with_event s (Ok e))) (state_unless_refused (counting s m) z (machine_with_event (counting s m) (Ok e))) (m + 1)) (sym (counted_answer (counting s m) e k))
        (two e (nat_le s.limit (length s.kept)) (made_next_event s e) (made_next_event (counting s m) e)))

call_counted : (s : MachineState) (m : ℕ) (call : MachineCall) → s.made < 2 ^ 64 - 1 → m < 2 ^ 64 - 1 → Counted (state_after_machine_call s call) (state_after_machine_call (counting s m) call) (m + 1)
call_counted s m (step n) l k = step_counted s m n l k
call_counted s m undo l k = record { made = m; least = omega arith; is = refl }
call_counted s m (rewind n j) l k = record { made = m; least = omega arith; is = refl }

step_made : (s : MachineState) (o : Result Event EventRefusal) (a : Result MadeEvent LabFault) → (state_unless_refused s a (machine_with_event s o)).made ≤ s.made + 1
step_made s (Err why) (Ok told) = omega arith
step_made s (Err why) (Err fault) = omega arith
step_made s (Ok e) (Ok told) = omega arith
step_made s (Ok e) (Err fault) = omega arith

pub call_made : (s : MachineState) (call : MachineCall) → (state_after_machine_call s call).made ≤ s.made + 1
call_made s (step n) = step_made s (next_event_of_node (chip_of_machine s) n) (answer_to_event s (next_event_of_node (chip_of_machine s) n))
call_made s undo = omega arith
call_made s (rewind n k) = omega arith

pub calls_made : (s : MachineState) (calls : List MachineCall) → (state_after_machine_calls s calls).made ≤ s.made + length calls
calls_made s [] = omega arith
calls_made s (call ∷ calls) =
    let a : (state_after_machine_calls (state_after_machine_call s call) calls).made ≤ (state_after_machine_call s call).made + length calls = calls_made (state_after_machine_call s call) calls in
    let b : (state_after_machine_call s call).made ≤ s.made + 1 = call_made s call in
    let g : (state_after_machine_calls (state_after_machine_call s call) calls).made ≤ s.made + suc (length calls) = omega (arith, a, b) in g

pub calls_counted : (s : MachineState) (m : ℕ) (calls : List MachineCall) → s.made + length calls < 2 ^ 64 → m + length calls < 2 ^ 64 → (state_after_machine_calls (counting s m) calls).kept ≡ (state_after_machine_calls s calls).kept
calls_counted s m [] l k = refl
calls_counted s m (call ∷ calls) l k =
    let l2 : s.made + suc (length calls) < 2 ^ 64 = l in
    let k2 : m + suc (length calls) < 2 ^ 64 = k in
    let r = call_counted s m call (omega (arith, l2)) (omega (arith, k2)) in
    let least : r.made ≤ m + 1 = r.least in
    let more : (state_after_machine_call s call).made ≤ s.made + 1 = call_made s call in
    ap (λ (z : MachineState). (state_after_machine_calls z calls).kept) r.is ∙ calls_counted (state_after_machine_call s call) r.made calls (omega (arith, l2, more)) (omega (arith, k2, least))

step_limit : (s : MachineState) (o : Result Event EventRefusal) (a : Result MadeEvent LabFault) → (state_unless_refused s a (machine_with_event s o)).limit ≡ s.limit
step_limit s (Err why) (Ok told) = refl
step_limit s (Err why) (Err fault) = refl
step_limit s (Ok e) (Ok told) = refl
step_limit s (Ok e) (Err fault) = refl

pub call_limit : (s : MachineState) (call : MachineCall) → (state_after_machine_call s call).limit ≡ s.limit
call_limit s (step n) = step_limit s (next_event_of_node (chip_of_machine s) n) (answer_to_event s (next_event_of_node (chip_of_machine s) n))
call_limit s undo = refl
call_limit s (rewind n k) = refl

pub calls_limit : (s : MachineState) (calls : List MachineCall) → (state_after_machine_calls s calls).limit ≡ s.limit
calls_limit s [] = refl
calls_limit s (call ∷ calls) = calls_limit (state_after_machine_call s call) calls ∙ call_limit s call

pub called_append : (s : MachineState) (xs ys : List MachineCall) → state_after_machine_calls s (xs ++ ys) ≡ state_after_machine_calls (state_after_machine_calls s xs) ys
called_append s [] ys = refl
called_append s (call ∷ xs) ys = called_append (state_after_machine_call s call) xs ys

-- calls none of which is an undo, after two machines that are alike
alike_calls : (s z : MachineState) (calls : List MachineCall) → HasNoUndo calls → Runs s → AreEquivalentStates s z → AreEquivalentStates (state_after_machine_calls s calls) (state_after_machine_calls z calls)
alike_calls s z [] named r a = a
alike_calls s z (step n ∷ calls) named r a = alike_calls (state_after_step s n) (state_after_step z n) calls named (call_runs s (step n) r) ((same_step s z n a).1)
alike_calls s z (undo ∷ calls) named r a = absurd named
alike_calls s z (rewind n k ∷ calls) named r a = alike_calls (state_after_machine_call s (rewind n k)) (state_after_machine_call z (rewind n k)) calls named (call_runs s (rewind n k) r) ((same_rewind s z n k (runs_some s r) a).1)

abbrev pub ended : MachineState → List MachineCall → List Event
ended s calls = (state_after_machine_calls s calls).kept

length_joined : (s : MachineState) (xs zs : List MachineCall) → CanCountAllCalls s (xs ++ zs) → (state_after_machine_calls s xs).made + length zs < 2 ^ 64
length_joined s xs zs l =
    let a : (state_after_machine_calls s xs).made ≤ s.made + length xs = calls_made s xs in
    let b : length (xs ++ zs) ≡ length xs + length zs = Rattle.std.proofs.Common.length-append xs zs in
    omega (arith, l, a, b)

-- two ends with as much made, and then the same calls
ends_more : (s : MachineState) (xs ys zs : List MachineCall) → HasNoUndo zs → CanCountAllCalls s (xs ++ zs) → CanCountAllCalls s (ys ++ zs) → Runs s → AreEquivalentLists s.load (ended s xs) (ended s ys) → AreEquivalentLists s.load (ended s (xs ++ zs)) (ended s (ys ++ zs))
ends_more s xs ys zs named l k r h =
    let a : MachineState = state_after_machine_calls s xs in
    let b : MachineState = state_after_machine_calls s ys in
    let la : a.load ≡ s.load = calls_load s xs in
    let alike : AreEquivalentStates a (counting b a.made) = record {
      load = la ∙ sym (calls_load s ys);
      limit = calls_limit s xs ∙ sym (calls_limit s ys);
      made = refl;
      kept = subst (λ c. AreEquivalentLists c a.kept b.kept) (sym la) h;
    } in
    let e : AreEquivalentLists (state_after_machine_calls a zs).load (state_after_machine_calls a zs).kept (state_after_machine_calls (counting b a.made) zs).kept = (alike_calls a (counting b a.made) zs named (calls_run s xs r) alike).kept in
    subst (λ z. AreEquivalentLists s.load (ended s (xs ++ zs)) z) (calls_counted b a.made zs (length_joined s ys zs k) (length_joined s xs zs l) ∙ ap (λ (z : MachineState). z.kept) (sym (called_append s ys zs)))
    (subst (λ z. AreEquivalentLists s.load z (state_after_machine_calls (counting b a.made) zs).kept) (ap (λ (z : MachineState). z.kept) (sym (called_append s xs zs)))
    (subst (λ c. AreEquivalentLists c (state_after_machine_calls a zs).kept (state_after_machine_calls (counting b a.made) zs).kept) (calls_load a zs ∙ la) e))

-- two ends with the same list, and then any calls
ends_onward : (s : MachineState) (xs ys zs : List MachineCall) → ended s xs ≡ ended s ys → CanCountAllCalls s (xs ++ zs) → CanCountAllCalls s (ys ++ zs) → ended s (xs ++ zs) ≡ ended s (ys ++ zs)
ends_onward s xs ys zs h l k =
    let a : MachineState = state_after_machine_calls s xs in
    let b : MachineState = state_after_machine_calls s ys in
    let same_machine : counting a b.made ≡ b = Rattle.ga_lab.proofs.Stepping.same_state a.load b.load a.limit b.limit a.kept b.kept b.made b.made (calls_load s xs ∙ sym (calls_load s ys)) (calls_limit s xs ∙ sym (calls_limit s ys)) h refl in
    ap (λ (z : MachineState). z.kept) (called_append s xs zs)
    ∙ sym (calls_counted a b.made zs (length_joined s xs zs l) (length_joined s ys zs k))
    ∙ ap (λ (z : MachineState). (state_after_machine_calls z zs).kept) same_machine
    ∙ ap (λ (z : MachineState). z.kept) (sym (called_append s ys zs))

-- A step that makes an event.

pub answered : (s : MachineState) (c : List NodeRecord) (e : Event) → chip_of_machine s ≡ c → event_refusal c e ≡ None → length s.kept < s.limit → s.made < 2 ^ 64 - 1 → step_answer s (own_or_writing_node e) ≡ Ok (made_next_event s e)
answered s c e chip can room count =
    ap (answer_to_event s) (ap (λ z. next_event_of_node z (own_or_writing_node e)) chip ∙ made_is_next c e can)
    ∙ counted_answer s e count
    ∙ cond-false (nat_le s.limit (length s.kept)) (Err Full) (Ok (made_next_event s e)) (lt-leb s.limit (length s.kept) room)

pub step_made_is : (s : MachineState) (c : List NodeRecord) (e : Event) → chip_of_machine s ≡ c → event_refusal c e ≡ None → length s.kept < s.limit → s.made < 2 ^ 64 - 1 → state_after_step s (own_or_writing_node e) ≡ machine_with_event s (Ok e)
step_made_is s c e chip can room count =
    ap (λ (z : Result MadeEvent LabFault). state_unless_refused s z (machine_with_event s (next_event_of_node (chip_of_machine s) (own_or_writing_node e)))) (answered s c e chip can room count)
    ∙ ap (machine_with_event s) (ap (λ z. next_event_of_node z (own_or_writing_node e)) chip ∙ made_is_next c e can)

unfoldable pub runs_more : (s : MachineState) (r : Runs s) (e : Event) → event_refusal r.last e ≡ None → Runs (machine_with_event s (Ok e))
runs_more s r e can = record {
  last = (event_result r.last e).0;
  told = _;
  run_is = run_snoc s.load r.last (event_result r.last e).0 s.kept r.told e (event_result r.last e).1 r.run_is (ap (λ o. some_if_allowed o (event_result r.last e)) can);
}

can_of : (c : List NodeRecord) (e : Event) (d : List NodeRecord) (t : MadeEventOutcome) → apply c e ≡ Some (d, t) → event_refusal c e ≡ None
can_of c e d t h = go (event_refusal c e) h
  where
    go : (o : Option EventRefusal) → some_if_allowed o (event_result c e) ≡ Some (d, t) → o ≡ None
    go None k = refl
    go (Some why) k = absurd (cc)

-- the second of two independent events is enabled after the first
can_after : (c : List NodeRecord) (e f : Event) → event_refusal c e ≡ None → event_refusal c f ≡ None → AreIndependentEvents (event_with_look_on_chip c e) (event_with_look_on_chip c f) → event_refusal (event_result c e).0 f ≡ None
can_after c e f ce cf h =
    let made : apply c e ≡ Some ((event_result c e).0, (event_result c e).1) = ap (λ o. some_if_allowed o (event_result c e)) ce in
    let other : apply c f ≡ Some ((event_result c f).0, (event_result c f).1) = ap (λ o. some_if_allowed o (event_result c f)) cf in
    let z = same_of (event_with_look_touches_node (event_with_look_on_chip c e)) f c (event_result c f).0 (event_result c e).0 (event_result c f).1 (keeps_of c e (event_result c e).0 (event_result c e).1 made) (independent_on_all (event_with_look_on_chip c e) (event_with_look_on_chip c f) h) other in
    can_of (event_result c e).0 f z.mid (event_result c f).1 z.done

two_steps : (s : MachineState) (r : Runs s) (e f : Event) → length s.kept + 1 < s.limit → s.made + 1 < 2 ^ 64 - 1 → event_refusal r.last e ≡ None → event_refusal r.last f ≡ None → AreIndependentEvents (event_with_look_on_chip r.last e) (event_with_look_on_chip r.last f)
    → ended s (step (own_or_writing_node e) ∷ step (own_or_writing_node f) ∷ []) ≡ s.kept ++ e ∷ f ∷ []
unfolding runs_more
two_steps s r e f l k ce cf h =
    let t : MachineState = machine_with_event s (Ok e) in
    let more : Runs t = runs_more s r e ce in
    let size : length (s.kept ++ e ∷ []) ≡ length s.kept + 1 = length_push s.kept e in
    let one : state_after_step s (own_or_writing_node e) ≡ t = step_made_is s r.last e (chip_is s r) ce (omega (arith, l)) (omega (arith, k)) in
    let two : state_after_step t (own_or_writing_node f) ≡ machine_with_event t (Ok f) = step_made_is t (event_result r.last e).0 f (chip_is t more) (can_after r.last e f ce cf h) (omega (arith, l, size)) k in
    ap (λ (z : MachineState). (state_after_step z (own_or_writing_node f)).kept) one ∙ ap (λ (z : MachineState). z.kept) two ∙ Rattle.std.proofs.Common.append_assoc s.kept (e ∷ []) (f ∷ [])

ends_turned : (s : MachineState) (r : Runs s) (e f : Event) → length s.kept + 1 < s.limit → s.made + 1 < 2 ^ 64 - 1 → event_refusal r.last e ≡ None → event_refusal r.last f ≡ None → AreIndependentEvents (event_with_look_on_chip r.last e) (event_with_look_on_chip r.last f)
    → AreEquivalentLists s.load (ended s (step (own_or_writing_node e) ∷ step (own_or_writing_node f) ∷ [])) (ended s (step (own_or_writing_node f) ∷ step (own_or_writing_node e) ∷ []))
ends_turned s r e f l k ce cf h =
    subst (λ z. AreEquivalentLists s.load z (ended s (step (own_or_writing_node f) ∷ step (own_or_writing_node e) ∷ []))) (sym (two_steps s r e f l k ce cf h))
    (subst (λ z. AreEquivalentLists s.load (s.kept ++ e ∷ f ∷ []) z) (sym (two_steps s r f e l k cf ce (AreApart-sym (event_with_look_on_chip r.last e) (event_with_look_on_chip r.last f) h)))
    (equivalent_behind s.load r.last s.kept (e ∷ f ∷ []) (f ∷ e ∷ []) r.told r.run_is (swapped h)))

pub undone_last : (s : MachineState) (xs : List Event) (e : Event) → s.kept ≡ xs ++ e ∷ [] → state_after_undo s ≡ with_kept s xs
undone_last s xs e is =
    let long : length (xs ++ e ∷ []) ≡ length xs + 1 = length_push xs e in
    let less : length s.kept - 1 ≡ length xs = let size : length s.kept ≡ length xs + 1 = ap length is ∙ long in omega arith in
    ap (with_kept s)
    (ap (λ z. take z s.kept) less ∙ ap (take (length xs)) is ∙ take-append-le (length xs) xs (e ∷ []) (omega arith) ∙ take_all (length xs) xs (omega arith))

ends_cancelled : (s : MachineState) (n : NodeId) → IsOk (step_answer s n) → ended s (step n ∷ undo ∷ []) ≡ s.kept
ends_cancelled s n ok = go (next_event_of_node (chip_of_machine s) n) ok
  where
    two : (e : Event) (a : Result MadeEvent LabFault) → IsOk a → (state_after_undo (state_unless_refused s a (machine_with_event s (Ok e)))).kept ≡ s.kept
    two e (Ok told) k = ap (λ (z : MachineState). z.kept) (undone_last (machine_with_event s (Ok e)) s.kept e refl)
    two e (Err why) k = absurd (cc)

    go : (o : Result Event EventRefusal) → IsOk (answer_to_event s o) → (state_after_undo (state_unless_refused s (answer_to_event s o) (machine_with_event s o))).kept ≡ s.kept
    go (Err why) k = absurd (cc)
    go (Ok e) k = two e (answer_to_event s (Ok e)) k

pub sound : (s : MachineState) (xs ys : List MachineCall) → AreCausallyEquivalent s xs ys → Runs s → AreEquivalentLists s.load (ended s xs) (ended s ys)
sound s xs ys itself r = same
sound s xs ys (back h) r = equivalent-sym s.load (ended s ys) (ended s xs) (sound s ys xs h r)
sound s xs ys (chained {ys = zs} h k) r = joined (sound s xs zs h r) (sound s zs ys k r)
sound s xs ys (before {call} {xs = us} {ys = vs} h) r =
    subst (λ c. AreEquivalentLists c (ended (state_after_machine_call s call) us) (ended (state_after_machine_call s call) vs)) (call_load s call) (sound (state_after_machine_call s call) us vs h (call_runs s call r))
sound s xs ys (more us vs zs named l k h) r = ends_more s us vs zs named l k r (sound s us vs h r)
sound s xs ys (onward us vs zs q l k h) r = subst (λ z. AreEquivalentLists s.load (ended s (us ++ zs)) z) (ends_onward s us vs zs q l k) same
sound s xs ys (refused {call} q) r = subst (λ (z : MachineState). AreEquivalentLists s.load z.kept s.kept) (sym q) same
sound s xs ys (either {n} {m} q) r = subst (λ (z : MachineState). AreEquivalentLists s.load (state_after_step s n).kept z.kept) q same
sound s xs ys (cancelled {n} ok) r = subst (λ z. AreEquivalentLists s.load z s.kept) (sym (ends_cancelled s n ok)) same
sound s xs ys (turned {e} {f} l k ce cf h) r =
    let q : chip_of_machine s ≡ r.last = chip_is s r in
    ends_turned s r e f l k (ap (λ z. event_refusal z e) (sym q) ∙ ce) (ap (λ z. event_refusal z f) (sym q) ∙ cf) (subst (λ z. AreIndependentEvents (event_with_look_on_chip z e) (event_with_look_on_chip z f)) q h)
sound s xs ys (rolled {n} {k} most a) r = a.kept
