-- The word that a node waited to write after a number of its steps is that of its next step.
use Rattle.ga_event.specs.declared.event.Event.TheVariants as event
use Rattle.ga_event.specs.declared.made.MadeEvent.TheVariants as made
use Rattle.std.proofs.Common.{◌≡◌, ℕ, zero, suc, ◌+◌, ◌<◌, ◌≤◌, ◌==◌, ◌&&◌, cond, Bool, true, false, inl, inr, List, [], ◌∷◌, length, take, Option, Some, None, IsSome, refl, sym, ◌∙◌, ap, subst, arith, true≢false, eq-eqb}
use Rattle.std.specs.Prelude.{unwrap_or, option_map}
use Rattle.std.specs.List.{slice_get}
use Rattle.std.proofs.lemmas.Bool.{cases_Bool, cases_lt, and_parts, and_from, eqb-true}
use Rattle.std.proofs.lemmas.List.{take_all}
use Rattle.std.proofs.lemmas.Option.{same_Some}
use Rattle.ga_ports.specs.declared.side.Side.{Side}
use Rattle.ga_ports.specs.declared.side.Side.TheVariants.{Right, Down, Left, Up}
use Rattle.ga_node.specs.Record.{NodeRecord}
use Rattle.ga_node.specs.Table.{register_t}
use Rattle.ga_node.specs.declared.wait.Wait.{Wait}
use Rattle.ga_grid.specs.declared.node_id.NodeId.{NodeId}
use Rattle.ga_grid.specs.Grid.{neighbour_number}
use Rattle.ga_grid.specs.Chip.{node_record_at}
use Rattle.ga_grid.proofs.NodeIds.{neighbour_number-back}
use Rattle.ga_event.specs.declared.event.Event.{Event}
use Rattle.ga_event.specs.declared.event.EventWithLook.{EventWithLook}
use Rattle.ga_event.specs.declared.made.MadeEvent.{MadeEvent}
use Rattle.ga_event.specs.Touches.{touches}
use Rattle.ga_event.specs.Apply.{MadeEventOutcome, event_result, replay, waits_to_write_side, waits_to_read_side, shown_wait_state}
use Rattle.ga_event.specs.Told.{count_steps}
use Rattle.ga_causal.specs.Dependence.{events_after_rewind}
use Rattle.ga_causal.specs.Steps.{count_touching_events}
use Rattle.ga_causal.proofs.Places.{touching_in}
use Rattle.ga_races.specs.Orders.{IsEnabled}
use Rattle.ga_races.proofs.Independence.{first_of, replay_more, stays}
use Rattle.ga_races.proofs.Conflicts.{Open, open_of, back, number_of, wait_at, at_node, at_two, one_side, one_way}
use Rattle.ga_lab.specs.Machine.{MachineState, chip_of_machine, machine_events_with_looks, history_of_node, earlier_state, state_after_rewind}
use Rattle.ga_lab.proofs.Called.{Runs}
use Rattle.ga_race_detector.specs.Races.{word_offered_by_neighbour, alternative_word}
use Rattle.ga_race_detector.specs.inner.Writers.{posted_word_over_side, word_passed_between}
use Rattle.ga_race_detector.proofs.Standing.{steps-cons, stands_somewhere}
use Rattle.ga_race_detector.proofs.Silent.{steps_take}
use Rattle.ga_race_detector.proofs.Behind.{IsOf, IsWordOf, TakenBack, taken_back}
use Rattle.ga_node.specs.declared.kind.OwnEventKind.{OwnEventKind}
use Rattle.ga_node.specs.declared.seen.NeighbourState.{NeighbourState}
use Rattle.ga_node.specs.declared.seen.NeighbourState.TheVariants.{Idle}

-- ---- a node that had made the same number of steps at two places of a list was the same there

abbrev ChipAt : List NodeRecord → List Event → ℕ → List NodeRecord
ChipAt c es p = unwrap_or (replay c (take p es)) []

untouched : (es : List Event) (c last : List NodeRecord) (m q : ℕ) → replay c es ≡ Some last → count_steps m (take q es) ≡ 0 → node_record_at (ChipAt c es q) m ≡ node_record_at c m
untouched es c last m zero h none = refl
untouched [] c last m (suc q) h none = refl
untouched (e ∷ es) c last m (suc q) h none =
    let f = first_of c e es last h in
    let sum : count_steps m (e ∷ take q es) ≡ cond (touches e m) 1 0 + count_steps m (take q es) = steps-cons m e (take q es) in
    elim (cases_Bool (touches e m)) [
      | inl on ↦ absurd (let one = ap (λ (b : Bool). cond {A = ℕ} b 1 0) on in omega (arith, sum, none, one))
      | inr off ↦ ap (λ (o : Option (List NodeRecord)). node_record_at (unwrap_or o []) m) (replay_more c e (take q es) f.can)
          ∙ untouched es (event_result c e).0 last m q f.then (omega (arith, sum, none)) ∙ sym ((stays c e f.can).same m off)
    ]

stood_before : (es : List Event) (c last : List NodeRecord) (m p q : ℕ) → replay c es ≡ Some last → p ≤ q → count_steps m (take p es) ≡ count_steps m (take q es) → node_record_at (ChipAt c es p) m ≡ node_record_at (ChipAt c es q) m
stood_before es c last m zero q h l same = sym (untouched es c last m q h (sym same))
stood_before es c last m (suc p) zero h l same = absurd (omega (arith, l))
stood_before [] c last m (suc p) (suc q) h l same = refl
stood_before (e ∷ es) c last m (suc p) (suc q) h l same =
    let f = first_of c e es last h in
    let a : count_steps m (e ∷ take p es) ≡ cond (touches e m) 1 0 + count_steps m (take p es) = steps-cons m e (take p es) in
    let b : count_steps m (e ∷ take q es) ≡ cond (touches e m) 1 0 + count_steps m (take q es) = steps-cons m e (take q es) in
    ap (λ (o : Option (List NodeRecord)). node_record_at (unwrap_or o []) m) (replay_more c e (take p es) f.can)
    ∙ stood_before es (event_result c e).0 last m p q f.then (omega (arith, l)) (omega (arith, a, b, same))
    ∙ sym (ap (λ (o : Option (List NodeRecord)). node_record_at (unwrap_or o []) m) (replay_more c e (take q es) f.can))

pub stood_alike : (s : MachineState) (last : List NodeRecord) (m p q : ℕ) → replay s.load s.kept ≡ Some last → count_steps m (take p s.kept) ≡ count_steps m (take q s.kept)
    → node_record_at (chip_of_machine (earlier_state s p)) m ≡ node_record_at (chip_of_machine (earlier_state s q)) m
stood_alike s last m p q h same = elim (cases_lt p q) [
  | inl l ↦ stood_before s.kept s.load last m p q h (omega (arith, l)) same
  | inr g ↦ sym (stood_before s.kept s.load last m q p h g (sym same))
]

-- ---- one side leads to each neighbour

one_link : (n m : ℕ) (s t : Side) → neighbour_number n s ≡ Some m → neighbour_number n t ≡ Some m → s ≡ t
one_link n m Right Right h k = refl
one_link n m Down Down h k = refl
one_link n m Left Left h k = refl
one_link n m Up Up h k = refl
one_link n m Right Left h k = absurd (grind arith)
one_link n m Left Right h k = absurd (grind arith)
one_link n m Down Up h k = absurd (grind arith)
one_link n m Up Down h k = absurd (grind arith)
one_link n m Right Down h k = absurd (grind arith)
one_link n m Right Up h k = absurd (grind arith)
one_link n m Left Down h k = absurd (grind arith)
one_link n m Left Up h k = absurd (grind arith)
one_link n m Down Right h k = absurd (grind arith)
one_link n m Down Left h k = absurd (grind arith)
one_link n m Up Right h k = absurd (grind arith)
one_link n m Up Left h k = absurd (grind arith)

-- ---- the next step as made has it

told_word : (mid : List NodeRecord) (e : Event) (m : MadeEvent) (o r : NodeId) (side : Side) → IsEnabled mid e → touches e o.number ≡ true → IsOf m e → IsWordOf mid m
    → neighbour_number r.number side ≡ Some o.number → word_passed_between o.number r.number m ≡ posted_word_over_side (node_record_at mid o.number) side
told_word mid e (made.Own n k kind) o r side can touch of carried near =
    let own : IsEnabled mid (event.Own of.0) = subst (λ (z : Event). IsEnabled mid z) of.1 can in
    let here : of.0.number ≡ o.number = at_node of.0.number o.number (subst (λ (z : Event). touches z o.number ≡ true) of.1 touch) in
    sym (ap (λ (w : Wait). cond {A = Option ℕ} (waits_to_write_side w side) (Some (register_t (node_record_at mid o.number))) None) (wait_at mid of.0 own o.number here))
told_word mid e (made.Pass w i x j word) o r side can touch of carried near = go (w.number == o.number && x.number == r.number) refl
  where
    open_ : Open mid w x of.0
    open_ = open_of mid w x of.0 (subst (λ (z : Event). IsEnabled mid z) of.1 can)

    go : (b : Bool) → (w.number == o.number && x.number == r.number) ≡ b → cond {A = Option ℕ} b (Some word) None ≡ posted_word_over_side (node_record_at mid o.number) side
    go true is =
        let p : ((w.number == o.number) ≡ true) × ((x.number == r.number) ≡ true) = and_parts (w.number == o.number) (x.number == r.number) is in
        let from : w.number ≡ o.number = eqb-true w.number o.number p.0 in
        let to : x.number ≡ r.number = eqb-true x.number r.number p.1 in
        let beside : neighbour_number r.number of.0 ≡ Some o.number = ap (λ (z : ℕ). neighbour_number z of.0) (sym to) ∙ back mid w x of.0 open_ ∙ ap Some from in
        let same : side ≡ of.0 = one_link r.number o.number side of.0 near beside in
        let writes : waits_to_write_side (node_record_at mid o.number).wait side ≡ true =
        subst (λ (z : Side). waits_to_write_side (node_record_at mid o.number).wait z ≡ true) (sym same) (subst (λ (z : ℕ). waits_to_write_side (node_record_at mid z).wait of.0 ≡ true) from open_.writes) in
        ap Some (carried ∙ ap (λ (z : ℕ). register_t (node_record_at mid z)) from) ∙ sym (ap (λ (b : Bool). cond {A = Option ℕ} b (Some (register_t (node_record_at mid o.number))) None) writes)
    go false is = sym (ap (λ (b : Bool). cond {A = Option ℕ} b (Some (register_t (node_record_at mid o.number))) None) silent)
      where
        clash : waits_to_write_side (node_record_at mid o.number).wait side ≡ true → ⊥
        clash u = elim (at_two w.number x.number o.number (subst (λ (z : Event). touches z o.number ≡ true) of.1 touch)) [
          | inl from ↦ (
              let same : side ≡ of.0 = one_side (node_record_at mid o.number).wait side of.0 u (subst (λ (z : ℕ). waits_to_write_side (node_record_at mid z).wait of.0 ≡ true) from open_.writes) in
              let there : x.number ≡ r.number =
              same_Some x.number r.number (sym (number_of (neighbour_number w.number of.0) x.number open_.near) ∙ ap (λ (z : ℕ). neighbour_number z of.0) from ∙ ap (neighbour_number o.number) (sym same)
              ∙ neighbour_number-back r.number o.number side r.in_range near) in
              true≢false (sym (and_from (w.number == o.number) (x.number == r.number) (eq-eqb w.number o.number from) (eq-eqb x.number r.number there)) ∙ is))
          | inr to ↦ one_way (node_record_at mid o.number).wait side of.0 u (subst (λ (z : ℕ). waits_to_read_side (node_record_at mid z).wait of.0 ≡ true) to open_.reads)
        ]

        silent : waits_to_write_side (node_record_at mid o.number).wait side ≡ false
        silent = elim (cases_Bool (waits_to_write_side (node_record_at mid o.number).wait side)) [ inl u ↦ absurd (clash u) | inr v ↦ v ]

-- ---- in the machine

pub some_within : (xs : List MadeEvent) (i : ℕ) (m : MadeEvent) → slice_get xs i ≡ Some m → i < length xs
some_within [] i m h = absurd (cc)
some_within (x ∷ xs) zero m h = omega arith
some_within (x ∷ xs) (suc i) m h = let l = some_within xs i m h in omega (arith, l)

pub none_within : (xs : List MadeEvent) (i : ℕ) → slice_get xs i ≡ None → length xs ≤ i
none_within [] i h = omega arith
none_within (x ∷ xs) zero h = absurd (cc)
none_within (x ∷ xs) (suc i) h = let l = none_within xs i h in omega (arith, l)

pub posted_told : (s : MachineState) → Runs s → (o r : NodeId) (side : Side) (steps place : ℕ) (m : MadeEvent) → length (history_of_node s o.number) ≡ count_steps o.number s.kept → Some m ≡ slice_get (history_of_node s o.number) steps
    → neighbour_number r.number side ≡ Some o.number → count_steps o.number (take place s.kept) ≡ steps
    → word_passed_between o.number r.number m ≡ posted_word_over_side (node_record_at (chip_of_machine (earlier_state s place)) o.number) side
posted_told s runs o r side steps place m size told near count =
    let within : steps < count_steps o.number s.kept = (let l = some_within (history_of_node s o.number) steps m (sym told) in omega (arith, l, size)) in
    let b : TakenBack s o.number steps = taken_back s runs o.number steps within in
    let same : m ≡ b.made = same_Some m b.made (told ∙ b.told) in
    ap (word_passed_between o.number r.number) same ∙ told_word b.mid b.event b.made o r side b.can b.touch b.of b.word near
    ∙ ap (λ (z : NodeRecord). posted_word_over_side z side) (sym b.stood ∙ stood_alike s runs.last o.number b.place place led (b.count ∙ sym count))
  where
    led : replay s.load s.kept ≡ Some runs.last
    led = ap (λ (o : Option (List NodeRecord × List (EventWithLook × MadeEventOutcome))). option_map (λ z. z.0) o) runs.run_is

-- after its last step it is in its current state
pub last_stood : (s : MachineState) (last : List NodeRecord) (o steps place : ℕ) (now : NodeRecord) → replay s.load s.kept ≡ Some last → length (history_of_node s o) ≡ count_steps o s.kept
    → None ≡ slice_get (history_of_node s o) steps → now ≡ node_record_at (chip_of_machine s) o → count_steps o (take place s.kept) ≡ steps → now ≡ node_record_at (chip_of_machine (earlier_state s place)) o
last_stood s last o steps place now h size none is count =
    let past = none_within (history_of_node s o) steps (sym none) in
    let most = steps_take o s.kept place in
    let whole : take (length s.kept) s.kept ≡ s.kept = take_all (length s.kept) s.kept (omega arith) in
    let all : count_steps o (take (length s.kept) s.kept) ≡ count_steps o s.kept = ap (count_steps o) whole in
    is ∙ ap (λ (z : List Event). node_record_at (unwrap_or (replay s.load z) []) o) (sym whole)
    ∙ stood_alike s last o (length s.kept) place h (omega (arith, all, past, most, size, count))

pub posted_last : (s : MachineState) (last : List NodeRecord) (o : ℕ) (side : Side) (steps place : ℕ) (now : NodeRecord) → replay s.load s.kept ≡ Some last → length (history_of_node s o) ≡ count_steps o s.kept
    → None ≡ slice_get (history_of_node s o) steps → now ≡ node_record_at (chip_of_machine s) o → count_steps o (take place s.kept) ≡ steps
    → posted_word_over_side now side ≡ posted_word_over_side (node_record_at (chip_of_machine (earlier_state s place)) o) side
posted_last s last o side steps place now h size none is count = ap (λ (z : NodeRecord). posted_word_over_side z side) (last_stood s last o steps place now h size none is count)

and_true : (a b : Bool) → b ≡ true → (a && b) ≡ a
and_true true b h = h
and_true false b h = refl

pub offered_left : (s : MachineState) (n k m many : ℕ) (side : Side) (word : Option ℕ) → IsSome (replay s.load s.kept) → waits_to_read_side (node_record_at (chip_of_machine (state_after_rewind s n k)) n).wait side ≡ true → neighbour_number n side ≡ Some m
    → many ≡ count_touching_events m (events_after_rewind (machine_events_with_looks s) n k) → ((place : ℕ) → count_steps m (take place s.kept) ≡ many → word ≡ posted_word_over_side (node_record_at (chip_of_machine (earlier_state s place)) m) side)
    → word ≡ alternative_word (chip_of_machine (state_after_rewind s n k)) n side
offered_left s n k m many side word some reads near left is =
    let a = stands_somewhere s n k m some in
    let chip = chip_of_machine (state_after_rewind s n k) in
    is a.place (a.count ∙ sym (left ∙ touching_in m (events_after_rewind (machine_events_with_looks s) n k)))
    ∙ ap (λ (z : NodeRecord). posted_word_over_side z side) (sym a.same)
    ∙ ap (λ (b : Bool). cond {A = Option ℕ} b (Some (register_t (node_record_at chip m))) None) (sym (and_true (waits_to_write_side (node_record_at chip m).wait side) (waits_to_read_side (node_record_at chip n).wait side) reads))
    ∙ ap (word_offered_by_neighbour chip n side) (sym near)

-- ---- what a node shows its neighbours after a number of its steps, and where this number of them remains

-- a node whose next step is its own waits for nothing
pub own_shows : (s : MachineState) → Runs s → (o : NodeId) (side : Side) (steps place : ℕ) (m : MadeEvent) (who : NodeId) (k : ℕ) (kind : OwnEventKind) → m ≡ made.Own who k kind → length (history_of_node s o.number) ≡ count_steps o.number s.kept
    → Some m ≡ slice_get (history_of_node s o.number) steps → count_steps o.number (take place s.kept) ≡ steps
    → Idle ≡ shown_wait_state (node_record_at (chip_of_machine (earlier_state s place)) o.number).wait side
own_shows s runs o side steps place m who k kind own_made size told count =
    let within : steps < count_steps o.number s.kept = (let l = some_within (history_of_node s o.number) steps m (sym told) in omega (arith, l, size)) in
    let b : TakenBack s o.number steps = taken_back s runs o.number steps within in
    let same : made.Own who k kind ≡ b.made = sym own_made ∙ same_Some m b.made (told ∙ b.told) in
    let of : IsOf (made.Own who k kind) b.event = subst (λ (z : MadeEvent). IsOf z b.event) (sym same) b.of in
    let own : IsEnabled b.mid (event.Own of.0) = subst (λ (z : Event). IsEnabled b.mid z) of.1 b.can in
    let here : of.0.number ≡ o.number = at_node of.0.number o.number (subst (λ (z : Event). touches z o.number ≡ true) of.1 b.touch) in
    ap (λ (w : Wait). shown_wait_state w side) (sym (wait_at b.mid of.0 own o.number here))
    ∙ ap (λ (z : NodeRecord). shown_wait_state z.wait side) (sym b.stood ∙ stood_alike s runs.last o.number b.place place led (b.count ∙ sym count))
  where
    led : replay s.load s.kept ≡ Some runs.last
    led = ap (λ (o : Option (List NodeRecord × List (EventWithLook × MadeEventOutcome))). option_map (λ z. z.0) o) runs.run_is

-- after a rollback it shows what it showed at the same number of steps
pub rewound_shows : (s : MachineState) (b k m many : ℕ) (side : Side) (is : NeighbourState) → IsSome (replay s.load s.kept) → many ≡ count_touching_events m (events_after_rewind (machine_events_with_looks s) b k)
    → ((place : ℕ) → count_steps m (take place s.kept) ≡ many → is ≡ shown_wait_state (node_record_at (chip_of_machine (earlier_state s place)) m).wait side) → is ≡ shown_wait_state (node_record_at (chip_of_machine (state_after_rewind s b k)) m).wait side
rewound_shows s b k m many side is some left then =
    let a = stands_somewhere s b k m some in
    then a.place (a.count ∙ sym (left ∙ touching_in m (events_after_rewind (machine_events_with_looks s) b k))) ∙ ap (λ (z : NodeRecord). shown_wait_state z.wait side) (sym a.same)
