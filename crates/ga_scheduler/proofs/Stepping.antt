-- One step of the machine, and the set of nodes that have an event.
use Rattle.std.proofs.Common.{◌≡◌, ◌≢◌, ℕ, ◌<◌, ◌≤◌, ◌==◌, true, false, ◌&&◌, List, ◌⊎◌, inl, inr, ⊎_elim, Some, None, refl, sym, ◌∙◌, ap, subst, arith, true≢false, Bool, cond, [], length, Ok, Err}
use Rattle.std.specs.Prelude.{nat_lt, is_ok, Option, Result, option_map, unwrap_or, IfSome, IsSome, IsOk, nat_le, ◌^◌, ◌-◌}
use Rattle.std.proofs.lemmas.Bool.{cases_eq, cases_lt, or_cases, le-ltb, eqb-true}
use Rattle.std.proofs.Math.Nat.{mod-eq_of_lt}
use Rattle.ga_ports.specs.declared.side.Side.{Side}
use Rattle.ga_ports.specs.declared.side.Side.TheVariants.{Right, Down, Left, Up}
use Rattle.ga_node.specs.Record.{NodeRecord}
use Rattle.ga_node.specs.Table.{refusal_of_own_event}
use Rattle.ga_grid.specs.declared.node_id.NodeId.{NodeId}
use Rattle.ga_grid.specs.Grid.{node_id, neighbour_number}
use Rattle.ga_grid.specs.Chip.{node_record_at}
use Rattle.ga_event.specs.declared.event.Event.{Event}
use Rattle.ga_event.specs.declared.event.Event.TheVariants as event
use Rattle.ga_event.specs.Touches.{touches}
use Rattle.ga_event.specs.Apply.{AgreeOutsideMarks, MadeEventOutcome, apply, event_result, some_if_allowed, event_refusal, replay}
use Rattle.ga_event.specs.Next.{next_event_of_node}
use Rattle.ga_event.specs.declared.made.MadeEvent.{MadeEvent}
use Rattle.ga_event.specs.declared.made.MadeEvent.TheVariants as made
use Rattle.ga_scheduler.specs.declared.numbers.NumberSet.{NumberSet}
use Rattle.ga_scheduler.specs.inner.{is_number_in_set, IsReadinessCorrectInSet, HoldsExactlyReadyNodes, KeepsReadySetRight, IsReadySetRightAround, IsReadySetRefreshed}
use Rattle.ga_races.specs.Orders.{node_has_event}
use Rattle.ga_scheduler.specs.declared.schedule.Schedule.{Schedule}
use Rattle.ga_scheduler.specs.Schedules.{next_scheduled_node}
use Rattle.ga_scheduler.proofs.Drawn.{chosen_same, none_passes}
use Rattle.ga_races.proofs.Nexts.{near_or_same, runs_on}
use Rattle.ga_journal.proofs.Parts.{two_touched as pass_touched}
use Rattle.ga_node.specs.declared.kind.EventRefusal.{EventRefusal}
use Rattle.ga_event.specs.declared.event.EventWithLook.{EventWithLook}
use Rattle.ga_event.proofs.Locality.{apply_keeps}
use Rattle.ga_event.proofs.Nexts.{next_can}
use Rattle.ga_rollback.proofs.Rewinding.{run_snoc}
use Rattle.ga_lab.specs.declared.fault.LabFault.{LabFault}
use Rattle.ga_lab.specs.declared.fault.LabFault.TheVariants.{Full, Memory, EventNumbersSpent}
use Rattle.ga_lab.specs.Machine.{MachineState, chip_of_machine, made_next_event, answer_to_event, step_answer, machine_with_event, state_unless_refused, state_after_step}
use Rattle.ga_lab.proofs.Called.{Runs, runs_of, chip_is}
use Rattle.ga_scheduler.specs.Running.{IsQuiescent, IsStepRefusedFor}

-- ---- the set of nodes that have an event, from one event to the next

pub none_past : (chip : List NodeRecord) (n : ℕ) → 144 ≤ n → node_has_event chip n ≡ false
none_past chip n l = ap (λ b. b && is_ok (next_event_of_node chip (node_id n))) (le-ltb n 144 l)

-- one number put right
pub looked_kept : (chip : List NodeRecord) (old new : NumberSet) (node : NodeId) → IsReadinessCorrectInSet chip new node.number
    → ((n : ℕ) → n < 192 → n ≢ node.number → is_number_in_set new n ≡ is_number_in_set old n) → KeepsReadySetRight chip old new
looked_kept chip old new node here others n was l = ⊎_elim
    (λ e. subst (λ z. IsReadinessCorrectInSet chip new z) (sym e) here l)
    (λ ne. others n l ne ∙ was l)
    (cases_eq n node.number)

-- a node's four neighbours
pub around : (chip : List NodeRecord) (ready : NumberSet) (n : ℕ) → IsReadinessCorrectInSet chip ready n
    → ((m : ℕ) → neighbour_number n Right ≡ Some m → IsReadinessCorrectInSet chip ready m) → ((m : ℕ) → neighbour_number n Down ≡ Some m → IsReadinessCorrectInSet chip ready m)
    → ((m : ℕ) → neighbour_number n Left ≡ Some m → IsReadinessCorrectInSet chip ready m) → ((m : ℕ) → neighbour_number n Up ≡ Some m → IsReadinessCorrectInSet chip ready m) → IsReadySetRightAround chip ready n
around chip ready n here right down left up = record { here = here; beside = by_side }
  where
    by_side : (side : Side) (m : ℕ) → neighbour_number n side ≡ Some m → IsReadinessCorrectInSet chip ready m
    by_side Right = right
    by_side Down = down
    by_side Left = left
    by_side Up = up

pub around_stays : (chip : List NodeRecord) (old new : NumberSet) (n : ℕ) → KeepsReadySetRight chip old new → IsReadySetRightAround chip old n → IsReadySetRightAround chip new n
around_stays chip old new n stays a = record { here = stays n a.here; beside = λ side m h. stays m (a.beside side m h) }

-- the report is of this event
abbrev pub IsOf : Event → MadeEvent → Type 0
IsOf (event.Own n) (made.Own m step kind) = n.number ≡ m.number
IsOf (event.Pass w r side) (made.Pass writer from reader to word) = (w.number ≡ writer.number) × (r.number ≡ reader.number)
IsOf (event.Own n) (made.Pass writer from reader to word) = ⊥
IsOf (event.Pass w r side) (made.Own m step kind) = ⊥

-- where the next event is the same, what was right is right on the other chip
moved_right : (c d : List NodeRecord) (ready : NumberSet) (n : ℕ) → (n < 144 → next_event_of_node c (node_id n) ≡ next_event_of_node d (node_id n)) → IsReadinessCorrectInSet c ready n → IsReadinessCorrectInSet d ready n
moved_right c d ready n same was l = was l ∙ ⊎_elim
    (λ less. ap (λ z. nat_lt n 144 && is_ok z) (same less))
    (λ past. none_past c n past ∙ sym (none_past d n past))
    (cases_lt n 144)

near_right : (d : List NodeRecord) (ready : NumberSet) (n t : ℕ) → (n ≡ t) ⊎ ((side : Side) × (neighbour_number t side ≡ Some n)) → IsReadySetRightAround d ready t → IsReadinessCorrectInSet d ready n
near_right d ready n t (inl e) a = subst (λ z. IsReadinessCorrectInSet d ready z) (sym e) a.here
near_right d ready n t (inr h) a = a.beside h.0 n h.1

own_touched : (n : NodeId) (t : ℕ) → touches (event.Own n) t ≡ true → t ≡ n.number
own_touched n t h = ⊎_elim (λ u. sym (eqb-true n.number t u)) (λ u. absurd (true≢false (sym u))) (or_cases (n.number == t) false h)

marked : (c d : List NodeRecord) (e : Event) (old new : NumberSet) → AgreeOutsideMarks (touches e) c d → HoldsExactlyReadyNodes c old → KeepsReadySetRight d old new
    → ((t : ℕ) → touches e t ≡ true → IsReadySetRightAround d new t) → HoldsExactlyReadyNodes d new
marked c d e old new a was stays right n = elim (cases_lt n 144) [
  | inl less ↦ ⊎_elim
      (λ near. near_right d new n near.0 (subst (λ z. (z ≡ near.0) ⊎ ((side : Side) × (neighbour_number near.0 side ≡ Some z))) (mod-eq_of_lt less) near.2) (right near.0 near.1))
      (λ same. stays n (moved_right c d old n (λ l. same) (was n)))
      (near_or_same (touches e) c d (node_id n) a)
  | inr past ↦ stays n (moved_right c d old n (λ l. absurd (omega arith)) (was n))
]

-- after an event, with its report considered
pub refreshed : (c d : List NodeRecord) (e : Event) (told : MadeEvent) (old new : NumberSet) → IsOf e told → AgreeOutsideMarks (touches e) c d
    → ((n : NodeId) → e ≡ event.Own n → refusal_of_own_event (node_record_at c n.number) ≡ None)
    → HoldsExactlyReadyNodes c old → KeepsReadySetRight d old new → IsReadySetRefreshed d told new → HoldsExactlyReadyNodes d new
refreshed c d (event.Own n) (made.Own m step kind) old new of a ran was stays (inl runs) = λ k.
    stays k (moved_right c d old k (λ l. runs_on c d n (node_id k) a (ran n refl) (ap (λ z. refusal_of_own_event (node_record_at d z)) of ∙ runs)) (was k))
refreshed c d (event.Own n) (made.Own m step kind) old new of a ran was stays (inr right) =
    marked c d (event.Own n) old new a was stays
    (λ t h. subst (λ z. IsReadySetRightAround d new z) (sym (own_touched n t h ∙ of)) right)
refreshed c d (event.Pass w r side) (made.Pass writer from reader to word) old new of a ran was stays right =
    marked c d (event.Pass w r side) old new a was stays
    (λ t h. ⊎_elim
    (λ e. subst (λ z. IsReadySetRightAround d new z) (sym (e ∙ of.0)) right.0)
    (λ e. subst (λ z. IsReadySetRightAround d new z) (sym (e ∙ of.1)) right.1)
    (pass_touched w r side t h))
refreshed c d (event.Own n) (made.Pass writer from reader to word) old new of a ran was stays right = absurd of
refreshed c d (event.Pass w r side) (made.Own m step kind) old new of a ran was stays right = absurd of

-- ---- one step of the machine, and the nodes that have an event after it

-- the event of a step that was made
pub record StepIs (s : MachineState) (n : NodeId) (m : MadeEvent) : Type 0 where
  pub what : Event
  pub is : next_event_of_node (chip_of_machine s) n ≡ Ok what
  pub told : made_next_event s what ≡ m

told_is : (a b : Bool) (here m : MadeEvent) → cond a (Err Full) (cond b (Err EventNumbersSpent) (Ok here)) ≡ Ok m → here ≡ m
told_is true b here m h = absurd (cc)
told_is false true here m h = absurd (cc)
told_is false false here m h = cc

pub step_is : (s : MachineState) (n : NodeId) (m : MadeEvent) → step_answer s n ≡ Ok m → StepIs s n m
step_is s n m h = go (next_event_of_node (chip_of_machine s) n) refl h
  where
    go : (o : Result Event EventRefusal) → next_event_of_node (chip_of_machine s) n ≡ o → answer_to_event s o ≡ Ok m → StepIs s n m
    go (Err why) is k = absurd (cc)
    go (Ok e) is k = record { what = e; is = is; told = told_is (nat_le s.limit (length s.kept)) (nat_le (2 ^ 64 - 1) s.made) (made_next_event s e) m k }

-- the chip after it
chip_with : (s : MachineState) (e : Event) → IsSome (replay s.load s.kept) → event_refusal (chip_of_machine s) e ≡ None → chip_of_machine (machine_with_event s (Ok e)) ≡ (event_result (chip_of_machine s) e).0
chip_with s e some can =
    let r : Runs s = runs_of s some in
    let made : apply r.last e ≡ Some ((event_result r.last e).0, (event_result r.last e).1) = ap (λ o. some_if_allowed o (event_result r.last e)) (ap (λ z. event_refusal z e) (sym (chip_is s r)) ∙ can) in
    ap (λ (o : Option (List NodeRecord × List (EventWithLook × MadeEventOutcome))). unwrap_or (option_map (λ (x : List NodeRecord × List (EventWithLook × MadeEventOutcome)). x.0) o) [])
    (run_snoc s.load r.last (event_result r.last e).0 s.kept r.told e (event_result r.last e).1 r.run_is made)
    ∙ ap (λ z. (event_result z e).0) (sym (chip_is s r))

pub stepped_is : (s : MachineState) (n : NodeId) (m : MadeEvent) (e : Event) → step_answer s n ≡ Ok m → next_event_of_node (chip_of_machine s) n ≡ Ok e → state_after_step s n ≡ machine_with_event s (Ok e)
stepped_is s n m e h is =
    ap (λ (a : Result MadeEvent LabFault). state_unless_refused s a (machine_with_event s (next_event_of_node (chip_of_machine s) n))) h
    ∙ ap (machine_with_event s) is

keeps : (c : List NodeRecord) (e : Event) → event_refusal c e ≡ None → AgreeOutsideMarks (touches e) c (event_result c e).0
keeps c e can = subst (λ o. IfSome (some_if_allowed o (event_result c e)) (λ done. AgreeOutsideMarks (touches e) c done.0)) can (apply_keeps c e)

of_told : (s : MachineState) (e : Event) → IsOf e (made_next_event s e)
of_told s (event.Own n) = refl
of_told s (event.Pass w r side) = (refl, refl)

-- the set of the nodes that have an event, after a step
pub stepped_ready : (s : MachineState) (n : NodeId) (m : MadeEvent) (old new : NumberSet) → IsSome (replay s.load s.kept) → step_answer s n ≡ Ok m
    → HoldsExactlyReadyNodes (chip_of_machine s) old → KeepsReadySetRight (chip_of_machine (state_after_step s n)) old new → IsReadySetRefreshed (chip_of_machine (state_after_step s n)) m new → HoldsExactlyReadyNodes (chip_of_machine (state_after_step s n)) new
stepped_ready s n m old new some h was stays right =
    let i : StepIs s n m = step_is s n m h in
    let can : event_refusal (chip_of_machine s) i.what ≡ None = next_can (chip_of_machine s) n i.what i.is in
    let chip : chip_of_machine (state_after_step s n) ≡ (event_result (chip_of_machine s) i.what).0 = ap chip_of_machine (stepped_is s n m i.what h i.is) ∙ chip_with s i.what some can in
    let agree : AgreeOutsideMarks (touches i.what) (chip_of_machine s) (chip_of_machine (state_after_step s n)) = subst (λ z. AgreeOutsideMarks (touches i.what) (chip_of_machine s) z) (sym chip) (keeps (chip_of_machine s) i.what can) in
    refreshed (chip_of_machine s) (chip_of_machine (state_after_step s n)) i.what m old new (subst (IsOf i.what) i.told (of_told s i.what)) agree
    (λ k e. subst (λ z. event_refusal (chip_of_machine s) z ≡ None) e can) was stays right

-- what the set holds is who can go
pub choice_is : (chip : List NodeRecord) (ready : NumberSet) (schedule : Schedule) → HoldsExactlyReadyNodes chip ready → next_scheduled_node schedule (is_number_in_set ready) ≡ next_scheduled_node schedule (node_has_event chip)
choice_is chip ready schedule h = chosen_same schedule.order schedule (is_number_in_set ready) (node_has_event chip) (λ m l. h m (omega arith))

pub nothing_past : (chip : List NodeRecord) (ready : NumberSet) → HoldsExactlyReadyNodes chip ready → (n : ℕ) → 144 ≤ n → n < 192 → is_number_in_set ready n ≡ false
nothing_past chip ready h n l r = h n r ∙ none_past chip n l

-- nobody is chosen: no node of the chip has an event
pub quiet_is : (chip : List NodeRecord) (schedule : Schedule) → next_scheduled_node schedule (node_has_event chip) ≡ None → IsQuiescent chip
quiet_is chip schedule none n l = none_passes schedule.order schedule (node_has_event chip) none n l

-- what a lab answers to a step, against the machine
abbrev pub Answered : Result MadeEvent LabFault → Result MadeEvent LabFault → Type 0
Answered result answer = (result ≡ answer) ⊎ ((result ≡ Err Memory) × IsOk answer)

pub answered_ok : (answer : Result MadeEvent LabFault) (m : MadeEvent) → Answered (Ok m) answer → answer ≡ Ok m
answered_ok answer m (inl h) = sym h
answered_ok answer m (inr h) = absurd (let q : (let r : Result MadeEvent LabFault = Ok m in r) ≡ Err Memory = h.0 in cc)

pub answered_err : (answer : Result MadeEvent LabFault) (why : LabFault) → Answered (Err why) answer → IsStepRefusedFor why answer
answered_err answer why (inl h) = inl (sym h)
answered_err answer why (inr h) = inr (let q : (let r : Result MadeEvent LabFault = Err why in r) ≡ Err Memory = h.0 in cc, h.1)
