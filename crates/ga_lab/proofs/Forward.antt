-- Each machine's list can be made by steps alone.
use Rattle.std.proofs.Common.{◌≡◌, ℕ, ◌+◌, ◌-◌, ◌^◌, ◌<◌, ◌≤◌, ◌==◌, Bool, true, false, ◌&&◌, List, [], ◌∷◌, ◌++◌, length, Some, None, Ok, Err, refl, sym, ◌∙◌, ap, subst, arith, ⊎_elim, append_assoc, append-nil}
use Rattle.std.specs.Prelude.{Option, Result, map, take, option_map, option_and_then, unwrap_or, IsSome, nat_le}
use Rattle.std.proofs.lemmas.Bool.{cases_Bool, cond-true, cond-false, lt-leb, eqb-true}
use Rattle.std.proofs.lemmas.List.{length_push, take_all, take-append-le}
use Rattle.ga_ports.specs.declared.side.Side.{Side}
use Rattle.ga_ports.specs.declared.side.Side.TheVariants.{Right, Down, Left, Up}
use Rattle.ga_ports.specs.Address.{are_same_side}
use Rattle.ga_node.specs.declared.kind.EventRefusal.{EventRefusal}
use Rattle.ga_node.specs.declared.kind.EventRefusal.TheVariants.{Stopped}
use Rattle.ga_node.specs.declared.wait.Wait.{Wait}
use Rattle.ga_node.specs.declared.wait.Wait.TheVariants.{Nothing, Fetch, Read, Write}
use Rattle.ga_node.specs.Record.{NodeRecord}
use Rattle.ga_node.specs.Table.{wait_refusal}
use Rattle.ga_grid.specs.declared.node_id.NodeId.{NodeId}
use Rattle.ga_grid.specs.Grid.{node_id, neighbour_number}
use Rattle.ga_grid.specs.Chip.{node_record_at}
use Rattle.ga_grid.proofs.NodeIds.{node_id-number}
use Rattle.ga_event.specs.declared.event.Event.{Event}
use Rattle.ga_event.specs.declared.event.Event.TheVariants as event
use Rattle.ga_event.specs.declared.event.EventWithLook.{EventWithLook}
use Rattle.ga_event.specs.Apply.{MadeEventOutcome, waits_to_write_side, waits_to_read_side, equals_optional_number, is_transfer_ready, refusal_unless_matched, event_refusal, apply, event_result, some_if_allowed, run_events, replay, event_with_look_on_chip}
use Rattle.ga_event.specs.Next.{next_event_of_node, next_event_by_wait, writer_pass, ok_or_waiting}
use Rattle.ga_event.specs.declared.made.MadeEvent.{MadeEvent}
use Rattle.ga_rollback.proofs.Rewinding.{run_snoc}
use Rattle.ga_lab.specs.declared.fault.LabFault.TheVariants.{Full, EventNumbersSpent}
use Rattle.ga_lab.specs.Machine.{MachineState, initial_state, chip_of_machine, made_next_event, answer_to_event, machine_with_event, state_unless_refused, state_after_step, state_after_undo, own_or_writing_node, state_after_steps}
use Rattle.ga_causal.proofs.Runs.{run_more}

-- An enabled event is the next of its node, a pass that of its writer.

same_side : (a b : Side) → are_same_side a b ≡ true → a ≡ b
same_side Right Right h = refl
same_side Down Down h = refl
same_side Left Left h = refl
same_side Up Up h = refl
same_side Right Down h = absurd (cc)
same_side Right Left h = absurd (cc)
same_side Right Up h = absurd (cc)
same_side Down Right h = absurd (cc)
same_side Down Left h = absurd (cc)
same_side Down Up h = absurd (cc)
same_side Left Right h = absurd (cc)
same_side Left Down h = absurd (cc)
same_side Left Up h = absurd (cc)
same_side Up Right h = absurd (cc)
same_side Up Down h = absurd (cc)
same_side Up Left h = absurd (cc)

both : (x y : Bool) → (x && y) ≡ true → (x ≡ true) × (y ≡ true)
both true y h = (refl, h)
both false y h = absurd (cc)

matched_is : (b : Bool) → refusal_unless_matched b ≡ None → b ≡ true
matched_is true h = refl
matched_is false h = absurd (cc)

number_is : (o : Option ℕ) (m : ℕ) → equals_optional_number o m ≡ true → o ≡ Some m
number_is None m h = absurd (cc)
number_is (Some k) m h = ap Some (eqb-true k m h)

own_next : (chip : List NodeRecord) (n : NodeId) (stop : ℕ) (w : Wait) → wait_refusal w stop ≡ None → next_event_by_wait chip n stop w ≡ Ok (event.Own n)
own_next chip n stop Nothing h = ⊎_elim
    (λ t. cond-true (stop == 0) (Ok (event.Own n)) (Err Stopped) t)
    (λ f. let q : Some Stopped ≡ None = sym (cond-false (stop == 0) None (Some Stopped) f) ∙ h in absurd (cc))
    (cases_Bool (stop == 0))
own_next chip n stop (Fetch sides) h = absurd (cc)
own_next chip n stop (Read sides) h = absurd (cc)
own_next chip n stop (Write side) h = absurd (cc)

to_it : (chip : List NodeRecord) (w r : NodeId) (side : Side) (o : Option ℕ) → o ≡ Some r.number → waits_to_read_side (node_record_at chip r.number).wait side ≡ true
    → writer_pass chip w side (option_map node_id o) ≡ Some (event.Pass w r side)
to_it chip w r side o near reads =
    ap (λ z. writer_pass chip w side (option_map node_id z)) near
    ∙ ap (λ z. writer_pass chip w side (Some z)) (node_id-number r)
    ∙ cond-true (waits_to_read_side (node_record_at chip r.number).wait side) (Some (event.Pass w r side)) None reads

pass_next : (chip : List NodeRecord) (w r : NodeId) (side : Side) (stop : ℕ) (p : Wait) → neighbour_number w.number side ≡ Some r.number → waits_to_write_side p side ≡ true
    → waits_to_read_side (node_record_at chip r.number).wait side ≡ true → next_event_by_wait chip w stop p ≡ Ok (event.Pass w r side)
pass_next chip w r side stop Nothing near out in_ = absurd (cc)
pass_next chip w r side stop (Fetch sides) near out in_ = absurd (cc)
pass_next chip w r side stop (Read sides) near out in_ = absurd (cc)
pass_next chip w r side stop (Write posted) near out in_ =
    subst (λ z. next_event_by_wait chip w stop (Write z) ≡ Ok (event.Pass w r side)) (sym (same_side posted side out))
    (ap ok_or_waiting (to_it chip w r side (neighbour_number w.number side) near in_))

pub made_is_next : (chip : List NodeRecord) (e : Event) → event_refusal chip e ≡ None → next_event_of_node chip (own_or_writing_node e) ≡ Ok e
made_is_next chip (event.Own n) h = own_next chip n (node_record_at chip n.number).stop (node_record_at chip n.number).wait h
made_is_next chip (event.Pass w r side) h =
    let p : Wait = (node_record_at chip w.number).wait in
    let q : Wait = (node_record_at chip r.number).wait in
    let opened : is_transfer_ready w.number r.number side p q ≡ true = matched_is (is_transfer_ready w.number r.number side p q) h in
    let parts : ((equals_optional_number (neighbour_number w.number side) r.number && waits_to_write_side p side) ≡ true) × (waits_to_read_side q side ≡ true) = both _ _ opened in
    let front : (equals_optional_number (neighbour_number w.number side) r.number ≡ true) × (waits_to_write_side p side ≡ true) = both _ _ parts.0 in
    pass_next chip w r side (node_record_at chip w.number).stop p (number_is _ _ front.0) front.1 parts.1

-- The machine with a list that steps alone made.

abbrev pub at : List NodeRecord → ℕ → List Event → MachineState
at load limit xs = record { load = load; limit = limit; kept = xs; made = length xs }

pub record Applied (chip : List NodeRecord) (e : Event) (es : List Event) : Type 0 where
  pub can : event_refusal chip e ≡ None
  pub others : IsSome (replay (event_result chip e).0 es)

pub applied : (chip : List NodeRecord) (e : Event) (es : List Event) → IsSome (replay chip (e ∷ es)) → Applied chip e es
applied chip e es h = go (event_refusal chip e) refl h
  where
    go2 : (r : Option (List NodeRecord × List (EventWithLook × MadeEventOutcome))) (c : EventWithLook) (t : MadeEventOutcome)
        → IsSome (option_map {U = List NodeRecord} (λ done. done.0) (option_map {U = List NodeRecord × List (EventWithLook × MadeEventOutcome)} (λ rest. (rest.0, (c, t) ∷ rest.1)) r)) → IsSome (option_map {U = List NodeRecord} (λ done. done.0) r)
    go2 None c t g = g
    go2 (Some r) c t g = refl

    go : (o : Option EventRefusal) → event_refusal chip e ≡ o
        → IsSome (option_map {U = List NodeRecord} (λ done. done.0) (option_and_then {U = List NodeRecord × List (EventWithLook × MadeEventOutcome)} (λ first. option_map {U = List NodeRecord × List (EventWithLook × MadeEventOutcome)} (λ rest. (rest.0, (Rattle.ga_event.specs.Apply.event_with_look_on_chip chip e, first.1) ∷ rest.1)) (run_events first.0 es)) (some_if_allowed o (event_result chip e))))
        → Applied chip e es
    go None is g = record { can = is; others = go2 (run_events (event_result chip e).0 es) (Rattle.ga_event.specs.Apply.event_with_look_on_chip chip e) (event_result chip e).1 g }
    go (Some why) is g = absurd (cc)

steps_on : (load c : List NodeRecord) (limit : ℕ) (xs : List Event) (ts : List (EventWithLook × MadeEventOutcome)) (e : Event) → run_events load xs ≡ Some (c, ts) → event_refusal c e ≡ None
    → length xs < limit → length xs < 2 ^ 64 - 1 → state_after_step (at load limit xs) (own_or_writing_node e) ≡ at load limit (xs ++ e ∷ [])
steps_on load c limit xs ts e ran can room count =
    let s : MachineState = at load limit xs in
    let chip : chip_of_machine s ≡ c = ap (λ (o : Option (List NodeRecord × List (EventWithLook × MadeEventOutcome))). unwrap_or (option_map (λ (x : List NodeRecord × List (EventWithLook × MadeEventOutcome)). x.0) o) []) ran in
    let is : next_event_of_node (chip_of_machine s) (own_or_writing_node e) ≡ Ok e = ap (λ z. next_event_of_node z (own_or_writing_node e)) chip ∙ made_is_next c e can in
    let answer : answer_to_event s (Ok e) ≡ Ok (made_next_event s e) =
    cond-false (nat_le limit (length xs)) (Err Full) _ (lt-leb limit (length xs) room)
    ∙ cond-false (nat_le (2 ^ 64 - 1) (length xs)) (Err EventNumbersSpent) _ (lt-leb (2 ^ 64 - 1) (length xs) count) in
    ap (λ z. state_unless_refused s (answer_to_event s z) (machine_with_event s z)) is
    ∙ ap (λ (z : Result MadeEvent Rattle.ga_lab.specs.declared.fault.LabFault.LabFault). state_unless_refused s z (machine_with_event s (Ok e))) answer
    ∙ ap (λ z. let a : MachineState = record { load = load; limit = limit; kept = xs ++ e ∷ []; made = z } in a) (sym (length_push xs e))

reach : (load c : List NodeRecord) (limit : ℕ) (xs : List Event) (ts : List (EventWithLook × MadeEventOutcome)) (ys : List Event) → run_events load xs ≡ Some (c, ts) → IsSome (replay c ys)
    → length xs + length ys ≤ limit → length xs + length ys < 2 ^ 64 → state_after_steps (at load limit xs) (map own_or_writing_node ys) ≡ at load limit (xs ++ ys)
reach load c limit xs ts [] ran some room count = ap (at load limit) (sym (append-nil xs))
reach load c limit xs ts (y ∷ ys) ran some room count =
    let a : Applied c y ys = applied c y ys some in
    let made : apply c y ≡ Some ((event_result c y).0, (event_result c y).1) = ap (λ o. some_if_allowed o (event_result c y)) a.can in
    let more : length (xs ++ y ∷ []) ≡ length xs + 1 = length_push xs y in
    ap (λ z. state_after_steps z (map own_or_writing_node ys)) (steps_on load c limit xs ts y ran a.can (omega arith) (omega arith))
    ∙ reach load (event_result c y).0 limit (xs ++ y ∷ []) _ ys (run_snoc load c (event_result c y).0 xs ts y (event_result c y).1 ran made) a.others (omega arith) (omega arith)
    ∙ ap (at load limit) (append_assoc xs (y ∷ []) ys)

pub states_reachable_by_steps : (s : MachineState) → IsSome (replay s.load s.kept) → length s.kept ≤ s.limit → length s.kept < 2 ^ 64
    → state_after_steps (initial_state s.load s.limit) (map own_or_writing_node s.kept) ≡ record s { made = length s.kept }
states_reachable_by_steps s some room count = reach s.load s.load s.limit [] [] s.kept refl some (omega arith) (omega arith)

-- A step of the newest event's node makes it again, where it was undone.

pub record Before (load : List NodeRecord) (xs : List Event) (e : Event) : Type 0 where
  pub last : List NodeRecord
  pub told : List (EventWithLook × MadeEventOutcome)
  pub ran : run_events load xs ≡ Some (last, told)
  pub can : event_refusal last e ≡ None

pub before : (load : List NodeRecord) (xs : List Event) (e : Event) → IsSome (replay load (xs ++ e ∷ [])) → Before load xs e
before load [] e h = record { last = load; told = []; ran = refl; can = (applied load e [] h).can }
before load (x ∷ xs) e h =
    let a : Applied load x (xs ++ e ∷ []) = applied load x (xs ++ e ∷ []) h in
    let b : Before (event_result load x).0 xs e = before (event_result load x).0 xs e a.others in
    record {
      last = b.last;
      told = (event_with_look_on_chip load x, (event_result load x).1) ∷ b.told;
      ran = run_more load x xs (event_result load x).0 b.last (event_result load x).1 b.told (ap (λ o. some_if_allowed o (event_result load x)) a.can) b.ran;
      can = b.can;
    }

-- a machine with another list, and with `made` events made
abbrev pub keeping : MachineState → List Event → ℕ → MachineState
keeping s xs made = record s { kept = xs; made = made }

pub steps_at : (s : MachineState) (c : List NodeRecord) (xs : List Event) (ts : List (EventWithLook × MadeEventOutcome)) (e : Event) → run_events s.load xs ≡ Some (c, ts) → event_refusal c e ≡ None
    → length xs < s.limit → s.made < 2 ^ 64 - 1 → state_after_step (keeping s xs s.made) (own_or_writing_node e) ≡ keeping s (xs ++ e ∷ []) (s.made + 1)
steps_at s c xs ts e ran can room count =
    let t : MachineState = record s { kept = xs; made = s.made } in
    let chip : chip_of_machine t ≡ c = ap (λ (o : Option (List NodeRecord × List (EventWithLook × MadeEventOutcome))). unwrap_or (option_map (λ (x : List NodeRecord × List (EventWithLook × MadeEventOutcome)). x.0) o) []) ran in
    let is : next_event_of_node (chip_of_machine t) (own_or_writing_node e) ≡ Ok e = ap (λ z. next_event_of_node z (own_or_writing_node e)) chip ∙ made_is_next c e can in
    let answer : answer_to_event t (Ok e) ≡ Ok (made_next_event t e) =
    cond-false (nat_le s.limit (length xs)) (Err Full) _ (lt-leb s.limit (length xs) room)
    ∙ cond-false (nat_le (2 ^ 64 - 1) s.made) (Err EventNumbersSpent) _ (lt-leb (2 ^ 64 - 1) s.made count) in
    ap (λ z. state_unless_refused t (answer_to_event t z) (machine_with_event t z)) is
    ∙ ap (λ (z : Result MadeEvent Rattle.ga_lab.specs.declared.fault.LabFault.LabFault). state_unless_refused t z (machine_with_event t (Ok e))) answer

pub undo_is_redone_by_step : (s : MachineState) (xs : List Event) (e : Event) → IsSome (replay s.load s.kept) → s.kept ≡ xs ++ e ∷ [] → length s.kept ≤ s.limit → s.made < 2 ^ 64 - 1
    → state_after_step (state_after_undo s) (own_or_writing_node e) ≡ record s { made = s.made + 1 }
undo_is_redone_by_step s xs e some is room count =
    let b : Before s.load xs e = before s.load xs e (subst (λ z. IsSome (replay s.load z)) is some) in
    let long : length (xs ++ e ∷ []) ≡ length xs + 1 = length_push xs e in
    let size : length s.kept ≡ length xs + 1 = ap length is ∙ long in
    let less : length s.kept - 1 ≡ length xs = omega arith in
    let front : take (length s.kept - 1) s.kept ≡ xs =
    ap (λ z. take z s.kept) less ∙ ap (take (length xs)) is ∙ take-append-le (length xs) xs (e ∷ []) (omega arith) ∙ take_all (length xs) xs (omega arith) in
    ap (λ z. state_after_step (keeping s z s.made) (own_or_writing_node e)) front
    ∙ steps_at s b.last xs b.told e b.ran b.can (omega arith) count
    ∙ ap (λ z. keeping s z (s.made + 1)) (sym is)
