-- Each sequence of calls, no rollback of which takes a look, is causally equivalent to the steps that make what it keeps.
use Rattle.std.proofs.Common.{◌≡◌, ℕ, zero, suc, ◌+◌, ◌^◌, ◌<◌, ◌≤◌, not, List, [], ◌∷◌, ◌++◌, length, map, Some, None, Ok, refl, sym, ◌∙◌, ap, ap₂, subst, arith, append_assoc, append-nil, length-append}
use Rattle.std.specs.Prelude.{Option, Result, IsOk, IsSome, nat_le, is_ok, is_some, option_map}
use Rattle.std.proofs.lemmas.List.{length_push}
use Rattle.ga_node.specs.Record.{NodeRecord}
use Rattle.ga_event.specs.declared.event.Event.{Event}
use Rattle.ga_event.specs.declared.event.EventWithLook.{EventWithLook}
use Rattle.ga_event.specs.Apply.{MadeEventOutcome, event_refusal, apply, event_result, some_if_allowed, event_with_look_on_chip, replay}
use Rattle.ga_causal.specs.Dependence.{dependent_flags, unflagged_elements, rest, HasNoLooks, position_of_step, remaining_events_or_all}
use Rattle.ga_event.specs.Told.{events_of_causes}
use Rattle.ga_causal.specs.Equivalence.{AreIndependentEvents, AreEquivalentLists, same, swapped, later, joined}
use Rattle.ga_causal.proofs.Runs.{replay_equivalent}
use Rattle.ga_causal.proofs.Taken.{removed_events_swap_to_end}
use Rattle.ga_lab.specs.Machine.{MachineState, initial_state, chip_of_machine, machine_events_with_looks, machine_with_event, step_answer, state_after_step, state_after_rewind, own_or_writing_node, state_after_steps}
use Rattle.ga_lab.specs.Calls.{MachineCall, step, undo, rewind, state_after_machine_call, state_after_machine_calls, AreEquivalentStates}
use Rattle.ga_lab.specs.Sequences.{HasNoUndo, undo_calls, AreCausallyEquivalent, itself, chained, before, more, onward, refused, cancelled, turned, rolled, removed_events}
use Rattle.ga_lab.proofs.Alike.{equivalent_length, same_rewind}
use Rattle.ga_lab.proofs.Called.{Runs, runs_of, with_kept, causes_is, chip_is}
use Rattle.ga_lab.proofs.Forward.{made_is_next, Applied, applied, states_reachable_by_steps}
use Rattle.ga_lab.proofs.Reasoned.{replayed}
use Rattle.ga_lab.proofs.Sequences.{counting, called_append, ended, answered, step_made_is, runs_more, undone_last, equivalent_back}

-- a step for each event
abbrev pub steps_for : List Event → List MachineCall
steps_for events = map (λ e. step (own_or_writing_node e)) events

-- the machine with a list that steps alone made
abbrev pub at : MachineState → List Event → MachineState
at s xs = record { load = s.load; limit = s.limit; kept = xs; made = length xs }

abbrev pub load_of : MachineState → MachineState
load_of s = initial_state s.load s.limit

called_steps : (s : MachineState) (xs : List Event) → state_after_machine_calls s (steps_for xs) ≡ state_after_steps s (map own_or_writing_node xs)
called_steps s [] = refl
called_steps s (e ∷ xs) = called_steps (state_after_step s (own_or_writing_node e)) xs

steps_reach : (s : MachineState) (xs : List Event) → IsSome (replay s.load xs) → length xs ≤ s.limit → length xs < 2 ^ 64 → state_after_machine_calls (load_of s) (steps_for xs) ≡ at s xs
steps_reach s xs some room count = called_steps (load_of s) xs ∙ states_reachable_by_steps (at s xs) some room count

steps_named : (xs : List Event) → HasNoUndo (steps_for xs)
steps_named [] = tt
steps_named (e ∷ xs) = steps_named xs

pub steps_length : (xs : List Event) → length (steps_for xs) ≡ length xs
steps_length [] = refl
steps_length (e ∷ xs) = ap suc (steps_length xs)

-- the same calls before both
prefixed : (s : MachineState) (ws xs ys : List MachineCall) → AreCausallyEquivalent (state_after_machine_calls s ws) xs ys → AreCausallyEquivalent s (ws ++ xs) (ws ++ ys)
prefixed s [] xs ys h = h
prefixed s (call ∷ ws) xs ys h = before (prefixed (state_after_machine_call s call) ws xs ys h)

-- Steps for equivalent lists are causally equivalent.
swaps : (s : MachineState) (r : Runs s) (c : List NodeRecord) (xs ys : List Event) → r.last ≡ c → AreEquivalentLists c xs ys → IsSome (replay c xs) → length s.kept + length xs ≤ s.limit → s.made + length xs < 2 ^ 64 → AreCausallyEquivalent s (steps_for xs) (steps_for ys)
unfolding runs_more
swaps s r c xs ys q same some l k = itself
swaps s r c xs ys q (swapped {e} {f} {xs = zs} h) some l k =
    let size : length s.kept + suc (suc (length zs)) ≤ s.limit = l in
    let count : s.made + suc (suc (length zs)) < 2 ^ 64 = k in
    let chip : chip_of_machine s ≡ c = chip_is s r ∙ q in
    let ce : event_refusal c e ≡ None = (applied c e (f ∷ zs) some).can in
    let cf : event_refusal c f ≡ None = (applied c f (e ∷ zs) (subst IsSome (replay_equivalent c (e ∷ f ∷ zs) (f ∷ e ∷ zs) (swapped h)) some)).can in
    let many : length (steps_for zs) ≡ length zs = steps_length zs in
    let room : s.made + suc (suc (length (steps_for zs))) < 2 ^ 64 = omega (arith, count, many) in
    more (step (own_or_writing_node e) ∷ step (own_or_writing_node f) ∷ []) (step (own_or_writing_node f) ∷ step (own_or_writing_node e) ∷ []) (steps_for zs) (steps_named zs) room room
    (turned {e = e} {f = f} (omega (arith, size)) (omega (arith, count)) (ap (λ z. event_refusal z e) chip ∙ ce) (ap (λ z. event_refusal z f) chip ∙ cf) (subst (λ z. AreIndependentEvents (event_with_look_on_chip z e) (event_with_look_on_chip z f)) (sym chip) h))
swaps s r c xs ys q (later {now} {e} {told} {xs = us} {ys = vs} h w) some l k =
    let size : length s.kept + suc (length us) ≤ s.limit = l in
    let count : s.made + suc (length us) < 2 ^ 64 = k in
    let a : Applied c e us = applied c e us some in
    let can : event_refusal r.last e ≡ None = ap (λ z. event_refusal z e) q ∙ a.can in
    let there : (event_result c e).0 ≡ now = ap (λ (z : List NodeRecord × MadeEventOutcome). z.0) (Rattle.std.proofs.lemmas.Option.same_Some (event_result c e) (now, told) (sym (ap (λ o. some_if_allowed o (event_result c e)) a.can) ∙ h)) in
    let long : length (s.kept ++ e ∷ []) ≡ length s.kept + 1 = length_push s.kept e in
    let made : state_after_step s (own_or_writing_node e) ≡ machine_with_event s (Ok e) = step_made_is s r.last e (chip_is s r) can (omega (arith, size)) (omega (arith, count)) in
    before (subst (λ z. AreCausallyEquivalent z (steps_for us) (steps_for vs)) (sym made)
    (swaps (machine_with_event s (Ok e)) (runs_more s r e can) now us vs (ap (λ z. (event_result z e).0) q ∙ there) w (subst (λ z. IsSome (replay z us)) there a.others) (omega (arith, size, long)) (omega (arith, count))))
swaps s r c xs ys q (joined {ys = zs} h w) some l k =
    let n : length xs ≡ length zs = equivalent_length c xs zs h in
    chained (swaps s r c xs zs q h some l k)
    (swaps s r c zs ys q w (subst IsSome (replay_equivalent c xs zs h) some) (omega (arith, l, n)) (omega (arith, k, n)))

abbrev load_runs : (s : MachineState) → Runs (load_of s)
load_runs s = record { last = s.load; told = []; run_is = refl }

pub swaps_all : (s : MachineState) (xs ys : List Event) → AreEquivalentLists s.load xs ys → IsSome (replay s.load xs) → length xs ≤ s.limit → length xs < 2 ^ 64 → AreCausallyEquivalent (load_of s) (steps_for xs) (steps_for ys)
swaps_all s xs ys h some l k = swaps (load_of s) (load_runs s) s.load xs ys refl h some (omega (arith, l)) (omega (arith, k))

-- What one call does to a list of steps.

pub steps_join : (xs ys : List Event) → steps_for (xs ++ ys) ≡ steps_for xs ++ steps_for ys
steps_join [] ys = refl
steps_join (x ∷ xs) ys = ap (λ z. step (own_or_writing_node x) ∷ z) (steps_join xs ys)

-- the last of a list
pub record Last (xs : List Event) : Type 0 where
  pub front : List Event
  pub event : Event
  pub is : xs ≡ front ++ event ∷ []

pub last_of : (x : Event) (xs : List Event) → Last (x ∷ xs)
last_of x [] = record { front = []; event = x; is = refl }
last_of x (y ∷ xs) = let r = last_of y xs in record { front = x ∷ r.front; event = r.event; is = ap (λ z. x ∷ z) r.is }

-- a machine whose list runs and fits
pub record Fits (s : MachineState) : Type 0 where
  pub some : IsSome (replay s.load s.kept)
  pub room : length s.kept ≤ s.limit
  pub count : length s.kept < 2 ^ 64

-- the first part of a list runs
front_some : (load : List NodeRecord) (xs ys : List Event) → IsSome (replay load (xs ++ ys)) → IsSome (replay load xs)
front_some load [] ys h = refl
front_some load (x ∷ xs) ys h =
    let a : Applied load x (xs ++ ys) = applied load x (xs ++ ys) h in
    let b : IsSome (replay (event_result load x).0 xs) = front_some (event_result load x).0 xs ys a.others in
    let c : apply load x ≡ Some (event_result load x) = ap (λ o. some_if_allowed o (event_result load x)) a.can in
    ap is_some (Rattle.ga_causal.proofs.Runs.replay-cons load x xs) ∙ ap (λ (o : Option (List NodeRecord × MadeEventOutcome)). is_some (Rattle.std.specs.Prelude.option_and_then (λ (first : List NodeRecord × MadeEventOutcome). replay first.0 xs) o)) c ∙ b

Fits-front : (s : MachineState) (xs : List Event) (e : Event) → s.kept ≡ xs ++ e ∷ [] → Fits s → Fits (with_kept s xs)
Fits-front s xs e is f =
    let a : length s.kept ≤ s.limit = f.room in
    let b : length s.kept < 2 ^ 64 = f.count in
    let n : length s.kept ≡ length xs + 1 = ap length is ∙ length_push xs e in
    record { some = front_some s.load xs (e ∷ []) (subst (λ z. IsSome (replay s.load z)) is f.some); room = omega (arith, a, n); count = omega (arith, b, n) }

pub reach : (s : MachineState) → Fits s → state_after_machine_calls (load_of s) (steps_for s.kept) ≡ at s s.kept
reach s f = steps_reach s s.kept f.some f.room f.count

-- from the machine with the list on, a call is these
pub behind : (s : MachineState) (xs ys : List MachineCall) → Fits s → AreCausallyEquivalent (at s s.kept) xs ys → AreCausallyEquivalent (load_of s) (steps_for s.kept ++ xs) (steps_for s.kept ++ ys)
behind s xs ys f h = prefixed (load_of s) (steps_for s.kept) xs ys (subst (λ z. AreCausallyEquivalent z xs ys) (sym (reach s f)) h)

-- a call that is refused
pub one_refused : (s : MachineState) (call : MachineCall) → Fits s → state_after_machine_call (at s s.kept) call ≡ at s s.kept → AreCausallyEquivalent (load_of s) (steps_for s.kept ++ call ∷ []) (steps_for s.kept)
one_refused s call f q = subst (λ z. AreCausallyEquivalent (load_of s) (steps_for s.kept ++ call ∷ []) z) (append-nil (steps_for s.kept)) (behind s (call ∷ []) [] f (refused q))

pub one_undo : (s : MachineState) (xs : List Event) (e : Event) → s.kept ≡ xs ++ e ∷ [] → Fits s → AreCausallyEquivalent (load_of s) (steps_for s.kept ++ undo ∷ []) (steps_for xs)
one_undo s xs e is f =
    let g : Fits (with_kept s xs) = Fits-front s xs e is f in
    let b = Rattle.ga_lab.proofs.Forward.before s.load xs e (subst (λ z. IsSome (replay s.load z)) is f.some) in
    let r : Runs (at s xs) = record { last = b.last; told = b.told; run_is = b.ran } in
    let n : length s.kept ≡ length xs + 1 = ap length is ∙ length_push xs e in
    let room : length s.kept ≤ s.limit = f.room in
    let count : length s.kept < 2 ^ 64 = f.count in
    let ok : IsOk (step_answer (at s xs) (own_or_writing_node e)) = ap is_ok (answered (at s xs) b.last e (chip_is (at s xs) r) b.can (omega (arith, room, n)) (omega (arith, count, n))) in
    subst (λ z. AreCausallyEquivalent (load_of s) z (steps_for xs)) (sym (ap (λ z. steps_for z ++ undo ∷ []) is ∙ ap (λ z. z ++ undo ∷ []) (steps_join xs (e ∷ [])) ∙ append_assoc (steps_for xs) (step (own_or_writing_node e) ∷ []) (undo ∷ [])))
    (subst (λ z. AreCausallyEquivalent (load_of s) (steps_for xs ++ step (own_or_writing_node e) ∷ undo ∷ []) z) (append-nil (steps_for xs))
    (behind (with_kept s xs) (step (own_or_writing_node e) ∷ undo ∷ []) [] g (cancelled {n = own_or_writing_node e} ok)))

-- undos from a list on
pub ends_at : (s : MachineState) (ws : List MachineCall) → Fits s → ended (load_of s) (steps_for s.kept ++ ws) ≡ ended (at s s.kept) ws
ends_at s ws f = ap (λ (z : MachineState). z.kept) (called_append (load_of s) (steps_for s.kept) ws) ∙ ap (λ (z : MachineState). ended z ws) (reach s f)

undo_all : (s : MachineState) (xs ys : List Event) (m : ℕ) → length ys ≡ m → s.kept ≡ xs ++ ys → state_after_machine_calls s (undo_calls m) ≡ with_kept s xs
undo_all s xs [] zero n is = ap (with_kept s) (is ∙ append-nil xs)
undo_all s xs [] (suc m) n is = absurd (omega (arith, n))
undo_all s xs (y ∷ ys) zero n is = absurd (omega (arith, n))
undo_all s xs (y ∷ ys) (suc m) n is =
    let l = last_of y ys in
    let q : s.kept ≡ (xs ++ l.front) ++ l.event ∷ [] = is ∙ ap (λ z. xs ++ z) l.is ∙ sym (append_assoc xs l.front (l.event ∷ [])) in
    let k : suc (length ys) ≡ length l.front + 1 = ap length l.is ∙ length_push l.front l.event in
    let n2 : suc (length ys) ≡ suc m = n in
    ap (λ z. state_after_machine_calls z (undo_calls m)) (undone_last s (xs ++ l.front) l.event q)
    ∙ undo_all (with_kept s (xs ++ l.front)) xs l.front m (omega (arith, k, n2)) refl

undos_length : (m : ℕ) → length (undo_calls m) ≡ m
undos_length zero = refl
undos_length (suc m) = ap suc (undos_length m)

one_undos : (s : MachineState) (xs ys : List Event) (m : ℕ) → length ys ≡ m → s.kept ≡ xs ++ ys → Fits s → length s.kept + m < 2 ^ 64 → AreCausallyEquivalent (load_of s) (steps_for s.kept ++ undo_calls m) (steps_for xs)
one_undos s xs [] zero n is f l = subst (λ z. AreCausallyEquivalent (load_of s) z (steps_for xs)) (sym (append-nil (steps_for s.kept) ∙ ap steps_for (is ∙ append-nil xs))) itself
one_undos s xs [] (suc m) n is f l = absurd (omega (arith, n))
one_undos s xs (y ∷ ys) zero n is f l = absurd (omega (arith, n))
one_undos s xs (y ∷ ys) (suc m) n is f l =
    let w = last_of y ys in
    let front : List Event = xs ++ w.front in
    let q : s.kept ≡ (xs ++ w.front) ++ w.event ∷ [] = is ∙ ap (λ z. xs ++ z) w.is ∙ sym (append_assoc xs w.front (w.event ∷ [])) in
    let k : suc (length ys) ≡ length w.front + 1 = ap length w.is ∙ length_push w.front w.event in
    let n2 : suc (length ys) ≡ suc m = n in
    let long : length s.kept ≡ length (xs ++ w.front) + 1 = ap length q ∙ length_push (xs ++ w.front) w.event in
    let g : Fits (with_kept s (xs ++ w.front)) = Fits-front s (xs ++ w.front) w.event q f in
    let one : AreCausallyEquivalent (load_of s) (steps_for s.kept ++ undo ∷ []) (steps_for (xs ++ w.front)) = one_undo s (xs ++ w.front) w.event q f in
    let alike : ended (load_of s) (steps_for s.kept ++ undo ∷ []) ≡ ended (load_of s) (steps_for (xs ++ w.front)) =
    ends_at s (undo ∷ []) f ∙ ap (λ (z : MachineState). z.kept) (undone_last (at s s.kept) (xs ++ w.front) w.event q) ∙ ap (λ (z : MachineState). z.kept) (sym (reach (with_kept s (xs ++ w.front)) g)) in
    let a : length ((steps_for s.kept ++ undo ∷ []) ++ undo_calls m) ≡ length s.kept + 1 + m =
    length-append (steps_for s.kept ++ undo ∷ []) (undo_calls m) ∙ ap₂ (λ (u v : ℕ). u + v) (length_push (steps_for s.kept) undo ∙ ap (λ (z : ℕ). z + 1) (steps_length s.kept)) (undos_length m) in
    let b : length (steps_for (xs ++ w.front) ++ undo_calls m) ≡ length (xs ++ w.front) + m =
    length-append (steps_for (xs ++ w.front)) (undo_calls m) ∙ ap₂ (λ (u v : ℕ). u + v) (steps_length (xs ++ w.front)) (undos_length m) in
    subst (λ z. AreCausallyEquivalent (load_of s) z (steps_for xs)) (append_assoc (steps_for s.kept) (undo ∷ []) (undo_calls m))
    (chained (onward (steps_for s.kept ++ undo ∷ []) (steps_for (xs ++ w.front)) (undo_calls m) alike (omega (arith, l, a)) (omega (arith, l, b, long)) one)
    (one_undos (with_kept s (xs ++ w.front)) xs w.front m (omega (arith, k, n2)) refl g (omega (arith, l, long))))

-- A rollback that takes no look.

-- the list with what is taken at its end
abbrev pub parted : MachineState → ℕ → List EventWithLook
parted s i = rest (machine_events_with_looks s) i ++ unflagged_elements (map not (dependent_flags (machine_events_with_looks s) i)) (machine_events_with_looks s)

pub parted_alike : (s : MachineState) (r : Runs s) (i : ℕ) → HasNoLooks (unflagged_elements (map not (dependent_flags (machine_events_with_looks s) i)) (machine_events_with_looks s)) → AreEquivalentLists s.load s.kept (events_of_causes (parted s i))
parted_alike s r i none =
    subst (λ (z : List EventWithLook). AreEquivalentLists s.load s.kept (events_of_causes (rest z i ++ unflagged_elements (map not (dependent_flags z i)) z))) (sym (causes_is s r))
    (removed_events_swap_to_end s.load r.last s.kept r.told i r.run_is (subst (λ z. HasNoLooks (unflagged_elements (map not (dependent_flags z i)) z)) (causes_is s r) none))

pub events_join : (xs ys : List EventWithLook) → events_of_causes (xs ++ ys) ≡ events_of_causes xs ++ events_of_causes ys
events_join [] ys = refl
events_join (x ∷ xs) ys = ap (λ z. x.event ∷ z) (events_join xs ys)

-- from the list with what is taken at its end, the rollback is undos
parted_undos : (s z : MachineState) (n k : ℕ) (left gone : List Event) → IsSome (replay s.load s.kept) → AreEquivalentStates s z → z.kept ≡ left ++ gone → (state_after_rewind s n k).kept ≡ left → AreEquivalentStates (state_after_rewind z n k) (state_after_machine_calls z (undo_calls (length gone)))
parted_undos s z n k left gone some a is q =
    let b : AreEquivalentStates (state_after_rewind s n k) (state_after_rewind z n k) = (same_rewind s z n k some a).1 in
    subst (λ x. AreEquivalentStates (state_after_rewind z n k) x) (sym (undo_all z left gone (length gone) refl is))
    (record {
      load = refl;
      limit = refl;
      made = refl;
      kept = equivalent_back z.load left (state_after_rewind z n k).kept (subst (λ c. AreEquivalentLists c left (state_after_rewind z n k).kept) a.load (subst (λ x. AreEquivalentLists s.load x (state_after_rewind z n k).kept) q b.kept));
    })

one_parted : (s : MachineState) (n k : ℕ) (left gone : List Event) → Fits s → length s.kept + length s.kept < 2 ^ 64 → AreEquivalentLists s.load s.kept (left ++ gone) → (state_after_rewind s n k).kept ≡ left
    → AreCausallyEquivalent (load_of s) (steps_for s.kept ++ rewind n k ∷ []) (steps_for left)
one_parted s n k left gone f l e q =
    let ys : List Event = left ++ gone in
    let same_length : length s.kept ≡ length ys = equivalent_length s.load s.kept ys e in
    let parts : length ys ≡ length left + length gone = length-append left gone in
    let room : length s.kept ≤ s.limit = f.room in
    let count : length s.kept < 2 ^ 64 = f.count in
    let g : Fits (with_kept s ys) = record { some = subst IsSome (replay_equivalent s.load s.kept ys e) f.some; room = omega (arith, room, same_length); count = omega (arith, count, same_length) } in
    let here : AreEquivalentStates (counting s (length ys)) (at s ys) = record { load = refl; limit = refl; made = refl; kept = e } in
    let undone_to : AreCausallyEquivalent (at s ys) (rewind n k ∷ []) (undo_calls (length gone)) =
    rolled (length gone) (parted_undos (counting s (length ys)) (at s ys) n k left gone f.some here refl q) in
    let a : length (steps_for s.kept ++ rewind n k ∷ []) ≡ length s.kept + 1 = length_push (steps_for s.kept) (rewind n k) ∙ ap (λ (z : ℕ). z + 1) (steps_length s.kept) in
    let b : length (steps_for ys ++ rewind n k ∷ []) ≡ length ys + 1 = length_push (steps_for ys) (rewind n k) ∙ ap (λ (z : ℕ). z + 1) (steps_length ys) in
    chained (more (steps_for s.kept) (steps_for ys) (rewind n k ∷ []) tt (big a) (big2 b same_length) (swaps_all s s.kept ys e f.some f.room f.count))
    (chained (behind (with_kept s ys) (rewind n k ∷ []) (undo_calls (length gone)) g undone_to)
    (one_undos (with_kept s ys) left gone (length gone) refl refl g (omega (arith, l, same_length, parts))))
  where
    big : length (steps_for s.kept ++ rewind n k ∷ []) ≡ length s.kept + 1 → 0 + length (steps_for s.kept ++ rewind n k ∷ []) < 2 ^ 64
    big a = let c : length s.kept + length s.kept < 2 ^ 64 = l in omega (arith, a, c)

    big2 : length (steps_for (left ++ gone) ++ rewind n k ∷ []) ≡ length (left ++ gone) + 1 → length s.kept ≡ length (left ++ gone) → 0 + length (steps_for (left ++ gone) ++ rewind n k ∷ []) < 2 ^ 64
    big2 b c = let d : length s.kept + length s.kept < 2 ^ 64 = l in omega (arith, b, c, d)

pub one_rewind : (s : MachineState) (n k : ℕ) → Fits s → length s.kept + length s.kept < 2 ^ 64 → HasNoLooks (removed_events (machine_events_with_looks s) (position_of_step (machine_events_with_looks s) n k)) → AreCausallyEquivalent (load_of s) (steps_for s.kept ++ rewind n k ∷ []) (steps_for (state_after_rewind s n k).kept)
one_rewind s n k f l none = go (position_of_step (machine_events_with_looks s) n k) refl none
  where
    go : (o : Option ℕ) → position_of_step (machine_events_with_looks s) n k ≡ o → HasNoLooks (removed_events (machine_events_with_looks s) o) → AreCausallyEquivalent (load_of s) (steps_for s.kept ++ rewind n k ∷ []) (steps_for (state_after_rewind s n k).kept)
    go None is blind =
        let stays : (state_after_rewind s n k).kept ≡ s.kept = ap (λ (o : Option ℕ). events_of_causes (remaining_events_or_all (machine_events_with_looks s) o)) is ∙ replayed s f.some in
        subst (λ z. AreCausallyEquivalent (load_of s) (steps_for s.kept ++ rewind n k ∷ []) (steps_for z)) (sym stays) (one_refused s (rewind n k) f (ap (with_kept (at s s.kept)) stays))
    go (Some i) is blind =
        let left : (state_after_rewind s n k).kept ≡ events_of_causes (rest (machine_events_with_looks s) i) = ap (λ (o : Option ℕ). events_of_causes (remaining_events_or_all (machine_events_with_looks s) o)) is in
        let e : AreEquivalentLists s.load s.kept (events_of_causes (rest (machine_events_with_looks s) i) ++ events_of_causes (unflagged_elements (map not (dependent_flags (machine_events_with_looks s) i)) (machine_events_with_looks s))) =
        subst (AreEquivalentLists s.load s.kept) (events_join (rest (machine_events_with_looks s) i) (unflagged_elements (map not (dependent_flags (machine_events_with_looks s) i)) (machine_events_with_looks s))) (parted_alike s (runs_of s f.some) i blind) in
        subst (λ z. AreCausallyEquivalent (load_of s) (steps_for s.kept ++ rewind n k ∷ []) (steps_for z)) (sym left)
        (one_parted s n k (events_of_causes (rest (machine_events_with_looks s) i)) (events_of_causes (unflagged_elements (map not (dependent_flags (machine_events_with_looks s) i)) (machine_events_with_looks s))) f l e left)
