-- How many steps would be left around the looks of a list.
use Rattle.std.proofs.Common.{◌≡◌, ℕ, ◌+◌, ◌-◌, ◌<◌, ◌≤◌, cond, inl, inr, List, ◌∷◌, length, take, drop, get_or, set, Option, Some, None, sym, ◌∙◌, ap, subst, arith, get_or-set_other, Bool, true, false, [], refl}
use Rattle.std.specs.Prelude.{slice_index, ◌^◌, Result, Ok, Err, IfOk}
use Rattle.std.specs.List.{All}
use Rattle.std.proofs.lemmas.Bool.{cases_eq, cases_lt}
use Rattle.std.proofs.lemmas.Option.{same_Some}
use Rattle.std.proofs.lemmas.List.{get_or-set_same, get_or_default, take_more, drop_more, take_all, drop_all}
use Rattle.std.proofs.lemmas.List.Elements.{All-get_or}
use Rattle.std.proofs.Math.ListN.{get_or-eq_default}
use Rattle.ga_ports.specs.declared.side.Side.{Side}
use Rattle.ga_ports.specs.declared.side.Side.TheVariants.{Right, Down, Left, Up}
use Rattle.ga_grid.specs.declared.node_id.NodeId.{NodeId}
use Rattle.ga_grid.specs.Grid.{neighbour_number}
use Rattle.ga_event.specs.declared.event.EventWithLook.{EventWithLook}
use Rattle.ga_causal.specs.Dependence.{event_with_look_touches_node, events_after_rewind}
use Rattle.ga_causal.specs.Steps.{count_touching_events}
use Rattle.ga_lab.specs.declared.fault.LabFault.{LabFault}
use Rattle.ga_race_detector.specs.inner.Writers.{AreStepsLeftByRollbacks, IsListPaddedWith, event_depth, IsStepsLeftUpdated}
use Rattle.ga_race_detector.specs.inner.Glances.{IsStepsLeftAround, AreStepsLeftNearby, IsEmptySweep, IsEventAddedToSweep, HasRoomInStepCounts, kept_steps_of_neighbour, side_steps_left_list, sweep_steps_left_on_side, rollback_step_of_look_change, HaveSameRollbackNodes, AreStepsKeptByLookRollback, AreKnownStepsLeftCorrect}
use Rattle.ga_race_detector.specs.declared.around.Around.{Around}
use Rattle.ga_race_detector.specs.declared.around.StepsLeftNearby.{StepsLeftNearby}
use Rattle.ga_race_detector.specs.declared.around.Sweep.{Sweep}
use Rattle.ga_race_detector.proofs.Depths.{IsGoing, IsBehindOne, going_taken, going_last, going_first}
use Rattle.ga_race_detector.specs.declared.look_changes.LookChange.{LookChange}
use Rattle.std.proofs.lemmas.List.Sums.{sum_by-append}
use Rattle.ga_causal.proofs.Places.{count_touching_events-cons}
use Rattle.ga_race_detector.specs.declared.left.StepsLeft.{StepsLeft}

-- ---- as the code reads the list

pub touching_next : (n : ℕ) (es : List EventWithLook) (i : ℕ) (e : EventWithLook) → i < length es → e ≡ get_or es i e → count_touching_events n (take (i + 1) es) ≡ count_touching_events n (take i es) + cond (event_with_look_touches_node e n) 1 0
touching_next n es i e l is =
    ap (count_touching_events n) (take_more es i e l)
    ∙ sum_by-append (λ (x : EventWithLook). cond {A = ℕ} (event_with_look_touches_node x n) 1 0) (take i es) (get_or es i e ∷ [])
    ∙ ap (λ (z : ℕ). count_touching_events n (take i es) + z)
    (count_touching_events-cons n (get_or es i e) [] ∙ ap (λ (z : EventWithLook). cond {A = ℕ} (event_with_look_touches_node z n) 1 0 + count_touching_events n []) (sym is)
    ∙ (let x : ℕ = cond (event_with_look_touches_node e n) 1 0 in let q : x + 0 ≡ x = omega arith in q))

pub behind_here : (es : List EventWithLook) (i : ℕ) (e : EventWithLook) → i < length es → e ≡ get_or es i e → drop i es ≡ e ∷ drop (i + 1) es
behind_here es i e l is = drop_more es i e l ∙ ap (λ (z : EventWithLook). z ∷ drop (i + 1) es) (sym is)

pub going_end : (all : List EventWithLook) (r m : ℕ) (known : ℕ → ℕ) (made count i : ℕ) (left filled : List ℕ) → length all ≤ i → IsGoing all r m known made count left (drop i all)
    → made ≡ count_touching_events r (take i all) → IsListPaddedWith left filled made count → AreStepsLeftByRollbacks all r m filled
going_end all r m known made count i left filled past g counted fill =
    going_last all r m known made count left filled (subst (IsGoing all r m known made count left) (drop_all i all past) g) (counted ∙ ap (count_touching_events r) (take_all i all past)) fill

-- where no event came yet
pub going_none : (all : List EventWithLook) (r m : ℕ) (known : ℕ → ℕ) (left : StepsLeft) → ((n : ℕ) → known n ≡ 0) → left.count ≡ 0 → left.list.items ≡ [] → IsGoing all r m known 0 left.count left.list.items all
going_none all r m known left none count list =
    subst (λ (z : ℕ). IsGoing all r m known 0 z left.list.items all) (sym count)
    (subst (λ (z : List ℕ). IsGoing all r m known 0 0 z all) (sym list) (going_first all r m known none))

pub one_most : (b : Bool) (x y i : ℕ) → y ≡ x + cond {A = ℕ} b 1 0 → x ≤ i → y ≤ i + 1
one_most true x y i q l = omega (arith, q, l)
one_most false x y i q l = omega (arith, q, l)

pub if_ok : {T E : Type 0} {A B : T → Type 0} → (r : Result T E) → ((x : T) → A x → B x) → IfOk r A → IfOk r B
if_ok (Ok x) f h = f x h
if_ok (Err e) f h = h

-- an event that isn't one of its steps is passed by
pub passed_by : (left : StepsLeft) (e : EventWithLook) (d : ℕ) → event_with_look_touches_node e left.node.number ≡ false → IsStepsLeftUpdated left left e d
passed_by left e d off = record {
  node = refl;
  count = (let q : left.count ≡ left.count + 0 = omega arith in q) ∙ ap (λ (b : Bool). left.count + cond {A = ℕ} b 1 0) (sym off);
  list = subst (λ (b : Bool). IsListPaddedWith left.list.items left.list.items (cond b d (length left.list.items)) left.count) (sym off)
      (record { size = omega arith; same = λ k l. refl; more = λ k l m. absurd (omega (arith, l, m)) });
}

pub taken_by : (old new : StepsLeft) (e : EventWithLook) (d : ℕ) → event_with_look_touches_node e old.node.number ≡ true → new.node ≡ old.node → new.count ≡ old.count + 1 → IsListPaddedWith old.list.items new.list.items d old.count → IsStepsLeftUpdated old new e d
taken_by old new e d on node count filled = record {
  node = node;
  count = count ∙ ap (λ (b : Bool). old.count + cond {A = ℕ} b 1 0) (sym on);
  list = subst (λ (b : Bool). IsListPaddedWith old.list.items new.list.items (cond b d (length old.list.items)) old.count) (sym on) filled;
}

-- ---- around the looks

pub left_at : (causes : List EventWithLook) (b m step number : ℕ) (list : List ℕ) → AreStepsLeftByRollbacks causes b m list → 0 < step → step ≤ count_touching_events b causes → number ≡ slice_index list (step - 1) → number ≡ count_touching_events m (events_after_rewind causes b step)
left_at causes b m step number list a first within is =
    let size : length list ≡ count_touching_events b causes = a.size in
    is ∙ a.each (step - 1) (omega (arith, first, within, size)) ∙ ap (λ (z : ℕ). count_touching_events m (events_after_rewind causes b z)) (let q : step - 1 + 1 ≡ step = omega (arith, first) in q)

pub by_sides : (P : Side → Type 0) → P Right → P Down → P Left → P Up → (side : Side) → P side
by_sides P right down left up Right = right
by_sides P right down left up Down = down
by_sides P right down left up Left = left
by_sides P right down left up Up = up

pub around_at : (causes : List EventWithLook) (b n step : ℕ) (lists : StepsLeftNearby) (around : Around) → AreStepsLeftNearby causes b n lists → 0 < step → step ≤ count_touching_events b causes → around.node ≡ slice_index lists.node.items (step - 1)
    → ((side : Side) → kept_steps_of_neighbour around side ≡ slice_index (side_steps_left_list lists side) (step - 1)) → IsStepsLeftAround causes b step n around
around_at causes b n step lists around a first within node beside = record {
  node = left_at causes b n step around.node lists.node.items a.node first within node;
  beside = λ side m h. left_at causes b m step (kept_steps_of_neighbour around side) (side_steps_left_list lists side) (a.beside side m h) first within (beside side);
}

pub hang_around : (causes : List EventWithLook) (one other : LookChange) (lists : StepsLeftNearby) → HaveSameRollbackNodes one other → AreStepsLeftNearby causes (rollback_step_of_look_change other).0.number other.node.number lists → AreStepsLeftNearby causes (rollback_step_of_look_change one).0.number one.node.number lists
hang_around causes one other lists h a =
    subst (λ (z : ℕ). AreStepsLeftNearby causes z one.node.number lists) (sym h.taken) (subst (λ (z : ℕ). AreStepsLeftNearby causes (rollback_step_of_look_change other).0.number z lists) (sym h.node) a)

pub known_none : (causes : List EventWithLook) (glances : List LookChange) (known : List (Option Around)) → All (λ (a : Option Around). a ≡ None) known → AreKnownStepsLeftCorrect causes glances known
known_none causes glances known none i glance around is told = elim (cases_lt i (length known)) [
  | inl l ↦ absurd (let q : get_or known i None ≡ None = All-get_or (λ (a : Option Around). a ≡ None) known i None l none in cc)
  | inr past ↦ absurd (let q : get_or known i None ≡ None = get_or-eq_default known None past in cc)
]

pub known_next : (causes : List EventWithLook) (glances : List LookChange) (known : List (Option Around)) (at : ℕ) (one : LookChange) (around : Around) → at < length known → at < length glances → one ≡ get_or glances at one
    → AreStepsKeptByLookRollback causes one around → AreKnownStepsLeftCorrect causes glances known → AreKnownStepsLeftCorrect causes glances (set known at (Some around))
known_next causes glances known at one around l m here right before i glance other is told = elim (cases_eq i at) [
  | inl q ↦ (
      let same : around ≡ other = same_Some around other (sym (get_or-set_same known at (Some around) None l) ∙ ap (λ (z : ℕ). get_or (set known at (Some around)) z None) (sym q) ∙ told) in
      let there : one ≡ glance = here ∙ get_or_default glances at one glance m ∙ ap (λ (z : ℕ). get_or glances z glance) (sym q) ∙ sym is in
      subst (λ (z : LookChange). AreStepsKeptByLookRollback causes z other) there (subst (AreStepsKeptByLookRollback causes one) same right))
  | inr ne ↦ before i glance other is (sym (get_or-set_other known at i (Some around) None ne) ∙ told)
]

-- ---- one pass over the events

-- the lists of the node and of its neighbours, for the events so far
pub record AreGoing (all : List EventWithLook) (b n : ℕ) (known : ℕ → ℕ) (made : ℕ) (sweep : Sweep) (es : List EventWithLook) : Type 0 where
  pub node : sweep.here.node.number ≡ n
  pub nodes : (side : Side) (m : ℕ) → neighbour_number n side ≡ Some m → (sweep_steps_left_on_side sweep side).node.number ≡ m
  pub here : IsGoing all b n known made sweep.here.count sweep.here.list.items es
  pub beside : (side : Side) (m : ℕ) → neighbour_number n side ≡ Some m → IsGoing all b m known made (sweep_steps_left_on_side sweep side).count (sweep_steps_left_on_side sweep side).list.items es

-- none has more steps than there were events
pub record AreMost (sweep : Sweep) (i : ℕ) : Type 0 where
  pub here : sweep.here.count ≤ i
  pub beside : (side : Side) → (sweep_steps_left_on_side sweep side).count ≤ i

pub are_first : (all : List EventWithLook) (b : ℕ) (node : NodeId) (known : ℕ → ℕ) (sweep : Sweep) → ((n : ℕ) → known n ≡ 0) → IsEmptySweep node sweep → AreGoing all b node.number known 0 sweep all
are_first all b node known sweep none f = record {
  node = ap (λ (z : NodeId). z.number) f.own;
  nodes = f.nodes;
  here = going_none all b node.number known sweep.here none f.here.count f.here.list;
  beside = λ side m h. going_none all b m known (sweep_steps_left_on_side sweep side) none (f.beside side).count (f.beside side).list;
}

pub none_most : (node : NodeId) (sweep : Sweep) → IsEmptySweep node sweep → AreMost sweep 0
none_most node sweep f = record {
  here = (let q : sweep.here.count ≡ 0 = f.here.count in omega (arith, q));
  beside = λ side. let q : (sweep_steps_left_on_side sweep side).count ≡ 0 = (f.beside side).count in omega (arith, q);
}

pub are_few : (sweep : Sweep) (i : ℕ) → i + 1 < 2 ^ 32 → AreMost sweep i → HasRoomInStepCounts sweep
are_few sweep i l most = record {
  here = (let q : sweep.here.count ≤ i = most.here in omega (arith, q, l));
  right = (let q : sweep.right.count ≤ i = most.beside Right in omega (arith, q, l));
  down = (let q : sweep.down.count ≤ i = most.beside Down in omega (arith, q, l));
  left = (let q : sweep.left.count ≤ i = most.beside Left in omega (arith, q, l));
  up = (let q : sweep.up.count ≤ i = most.beside Up in omega (arith, q, l));
}

pub are_most : (old new : Sweep) (e : EventWithLook) (d i : ℕ) → IsEventAddedToSweep old new e d → AreMost old i → AreMost new (i + 1)
are_most old new e d i taken most = record {
  here = one_most (event_with_look_touches_node e old.here.node.number) old.here.count new.here.count i taken.here.count most.here;
  beside = λ side. one_most (event_with_look_touches_node e (sweep_steps_left_on_side old side).node.number) (sweep_steps_left_on_side old side).count (sweep_steps_left_on_side new side).count i (taken.beside side).count (most.beside side);
}

pub are_taken : (all : List EventWithLook) (b n : ℕ) (known next : ℕ → ℕ) (made then : ℕ) (old new : Sweep) (e : EventWithLook) (es : List EventWithLook) → AreGoing all b n known made old (e ∷ es) → IsBehindOne known next b made e
    → IsEventAddedToSweep old new e (event_depth known b made e) → then ≡ made + cond (event_with_look_touches_node e b) 1 0 → AreGoing all b n next then new es
are_taken all b n known next made then old new e es g is taken steps = record {
  node = ap (λ (z : NodeId). z.number) taken.here.node ∙ g.node;
  nodes = λ side m h. ap (λ (z : NodeId). z.number) (taken.beside side).node ∙ g.nodes side m h;
  here = going_taken all b n known next made then old.here new.here e es g.node g.here is taken.here steps;
  beside = λ side m h. going_taken all b m known next made then (sweep_steps_left_on_side old side) (sweep_steps_left_on_side new side) e es (g.nodes side m h) (g.beside side m h) is (taken.beside side) steps;
}

pub are_ended : (all : List EventWithLook) (b n : ℕ) (known : ℕ → ℕ) (made i : ℕ) (sweep : Sweep) (r : Result StepsLeftNearby LabFault) → length all ≤ i → AreGoing all b n known made sweep (drop i all) → made ≡ count_touching_events b (take i all)
    → IfOk r (λ lists. IsListPaddedWith sweep.here.list.items lists.node.items made sweep.here.count)
    → IfOk r (λ lists. (side : Side) → IsListPaddedWith (sweep_steps_left_on_side sweep side).list.items (side_steps_left_list lists side) made (sweep_steps_left_on_side sweep side).count)
    → IfOk r (λ lists. AreStepsLeftNearby all b n lists)
are_ended all b n known made i sweep (Ok lists) past g counted here beside = record {
  node = going_end all b n known made sweep.here.count i sweep.here.list.items lists.node.items past g.here counted here;
  beside = λ side m h. going_end all b m known made (sweep_steps_left_on_side sweep side).count i (sweep_steps_left_on_side sweep side).list.items (side_steps_left_list lists side) past (g.beside side m h) counted (beside side);
}
are_ended all b n known made i sweep (Err why) past g counted here beside = here
