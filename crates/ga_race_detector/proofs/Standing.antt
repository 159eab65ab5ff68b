-- A node after a rollback: it is as some prefix of the list leaves it.
use Rattle.std.proofs.Common.{◌≡◌, ℕ, zero, suc, ◌+◌, cond, Bool, true, false, ◌||◌, List, [], ◌∷◌, ◌++◌, take, length, append-nil, Option, Some, None, IsSome, refl, sym, ◌∙◌, ap, subst, arith, inl, inr}
use Rattle.std.specs.Prelude.{option_map, option_and_then, unwrap_or}
use Rattle.std.proofs.lemmas.Bool.{or_from, or_left, or_right, cases_Bool}
use Rattle.std.proofs.lemmas.Option.{same_Some}
use Rattle.std.proofs.lemmas.List.Sums.{sum_by-cons}
use Rattle.ga_node.specs.Record.{NodeRecord}
use Rattle.ga_grid.specs.Chip.{node_record_at}
use Rattle.ga_event.specs.declared.event.Event.{Event}
use Rattle.ga_event.specs.declared.event.EventWithLook.{EventWithLook}
use Rattle.ga_event.specs.Touches.{observes_marked_node, touches}
use Rattle.ga_event.specs.Apply.{MadeEventOutcome, apply, event_with_look_on_chip, run_events, replay, AgreeOutsideMarks}
use Rattle.ga_event.proofs.Locality.{AgreeOutsideMarks-sym}
use Rattle.ga_event.specs.Told.{count_steps, events_of_causes}
use Rattle.ga_causal.specs.Dependence.{event_with_look_touches_node, rest, position_of_step, remaining_events_or_all}
use Rattle.ga_causal.proofs.Runs.{kept, causes, FirstOf, first_of_run, keeps_of, AgreeOutsideMarks-marked_nodes, same_of, replay-cons}
use Rattle.ga_races.proofs.Blind.{no_touch}
use Rattle.ga_lab.specs.Machine.{MachineState, chip_of_machine, machine_events_with_looks, run_events_with_outcomes, earlier_state, state_after_rewind}
use Rattle.ga_lab.proofs.Called.{Runs, runs_of}
use Rattle.ga_lab.proofs.Reasoned.{replayed}

pub steps-cons : (n : ℕ) (e : Event) (es : List Event) → count_steps n (e ∷ es) ≡ cond (touches e n) 1 0 + count_steps n es
steps-cons n e es = sum_by-cons (λ (x : Event). cond (touches x n) 1 0) e es

-- an event that doesn't touch the node is no step of it
pub no_step : (b : Bool) (x y : ℕ) → b ≡ false → x ≡ y → cond {A = ℕ} b 1 0 + x ≡ y
no_step true x y f e = absurd (cc)
no_step false x y f e = omega (arith, e)

-- the kept events of a list, none of which sees a marked node, leave a marked node as it was
pub record Ran (b : List NodeRecord) (es : List Event) (m : ℕ) : Type 0 where
  pub now : List NodeRecord
  pub led : replay b es ≡ Some now
  pub same : node_record_at b m ≡ node_record_at now m
  pub none : count_steps m es ≡ 0

abbrev part : Bool → (ℕ → Bool) → EventWithLook → List EventWithLook → List EventWithLook
part b marks x xs =
    let then : ℕ → Bool = cond b (λ n. marks n || event_with_look_touches_node x n) marks in
    cond b (kept then xs) (x ∷ kept then xs)

pub marked_ran : (es : List Event) (marks : ℕ → Bool) (c b last : List NodeRecord) (ts : List (EventWithLook × MadeEventOutcome)) (m : ℕ) → AgreeOutsideMarks marks c b → marks m ≡ true → run_events c es ≡ Some (last, ts) → Ran b (events_of_causes (kept marks (causes ts))) m
marked_ran [] marks c b last ts m a mark is =
    subst (λ (z : List (EventWithLook × MadeEventOutcome)). Ran b (events_of_causes (kept marks (causes z))) m) (ap (λ (z : List NodeRecord × List (EventWithLook × MadeEventOutcome)). z.1) (same_Some (c, []) (last, ts) is))
    (record { now = b; led = refl; same = refl; none = refl })
marked_ran (e ∷ es) marks c b last ts m a mark is =
    let f = first_of_run c e es last ts is in
    subst (λ (z : List (EventWithLook × MadeEventOutcome)). Ran b (events_of_causes (kept marks (causes z))) m) (sym f.all)
    (go f (observes_marked_node marks (event_with_look_on_chip c e)) refl
    (λ ms d ag mk. marked_ran es ms f.mid d last f.others m ag mk f.then))
  where
    go : (f : FirstOf c e es last ts) (t : Bool) → observes_marked_node marks (event_with_look_on_chip c e) ≡ t
        → ((ms : ℕ → Bool) (d : List NodeRecord) → AgreeOutsideMarks ms f.mid d → ms m ≡ true → Ran d (events_of_causes (kept ms (causes f.others))) m)
        → Ran b (events_of_causes (part t marks (event_with_look_on_chip c e) (causes f.others))) m
    go f true met again = again (λ n. marks n || event_with_look_touches_node (event_with_look_on_chip c e) n) b (AgreeOutsideMarks-marked_nodes marks e c f.mid b f.told a f.first) (or_left (marks m) (event_with_look_touches_node (event_with_look_on_chip c e) m) mark)
    go f false met again =
        let s = same_of marks e c f.mid b f.told a met f.first in
        let r = again marks s.mid s.agree mark in
        let apart : touches e m ≡ false = no_touch marks (event_with_look_on_chip c e) m met mark in
        record {
          now = r.now;
          led = replay-cons b e (events_of_causes (kept marks (causes f.others))) ∙ ap (λ (o : Option (List NodeRecord × MadeEventOutcome)). option_and_then (λ first. replay first.0 (events_of_causes (kept marks (causes f.others)))) o) s.done ∙ r.led;
          same = (keeps_of b e s.mid f.told s.done).same m apart ∙ r.same;
          none = steps-cons m e (events_of_causes (kept marks (causes f.others))) ∙ no_step (touches e m) (count_steps m (events_of_causes (kept marks (causes f.others)))) 0 apart r.none;
        }

-- the node after the kept events `ks` is as a prefix of the whole list `es` leaves it
record Stand (c b : List NodeRecord) (es ks : List Event) (m : ℕ) : Type 0 where
  now : List NodeRecord
  led : replay b ks ≡ Some now
  first : List Event
  others : List Event
  is : es ≡ first ++ others
  mid : List NodeRecord
  begun : replay c first ≡ Some mid
  count : count_steps m first ≡ count_steps m ks
  same : node_record_at mid m ≡ node_record_at now m

-- one event that both make
stand_both : (c d b p : List NodeRecord) (e : Event) (t : MadeEventOutcome) (es ks : List Event) (m : ℕ) → apply c e ≡ Some (d, t) → apply b e ≡ Some (p, t) → Stand d p es ks m → Stand c b (e ∷ es) (e ∷ ks) m
stand_both c d b p e t es ks m h k s = record {
  now = s.now;
  led = replay-cons b e ks ∙ ap (λ (o : Option (List NodeRecord × MadeEventOutcome)). option_and_then (λ first. replay first.0 ks) o) k ∙ s.led;
  first = e ∷ s.first;
  others = s.others;
  is = ap (λ (z : List Event). e ∷ z) s.is;
  mid = s.mid;
  begun = replay-cons c e s.first ∙ ap (λ (o : Option (List NodeRecord × MadeEventOutcome)). option_and_then (λ first. replay first.0 s.first) o) h ∙ s.begun;
  count = steps-cons m e s.first ∙ ap (λ (z : ℕ). cond {A = ℕ} (touches e m) 1 0 + z) s.count ∙ sym (steps-cons m e ks);
  same = s.same;
}

-- one that is dropped and doesn't touch the node
stand_past : (c d b : List NodeRecord) (e : Event) (t : MadeEventOutcome) (es ks : List Event) (m : ℕ) → apply c e ≡ Some (d, t) → touches e m ≡ false → Stand d b es ks m → Stand c b (e ∷ es) ks m
stand_past c d b e t es ks m h apart s = record {
  now = s.now;
  led = s.led;
  first = e ∷ s.first;
  others = s.others;
  is = ap (λ (z : List Event). e ∷ z) s.is;
  mid = s.mid;
  begun = replay-cons c e s.first ∙ ap (λ (o : Option (List NodeRecord × MadeEventOutcome)). option_and_then (λ first. replay first.0 s.first) o) h ∙ s.begun;
  count = steps-cons m e s.first ∙ no_step (touches e m) (count_steps m s.first) (count_steps m ks) apart s.count;
  same = s.same;
}

-- and where none of the kept touches it
stand_here : (c b : List NodeRecord) (es ks : List Event) (m : ℕ) → node_record_at c m ≡ node_record_at b m → Ran b ks m → Stand c b es ks m
stand_here c b es ks m at r = record { now = r.now; led = r.led; first = []; others = es; is = refl; mid = c; begun = refl; count = sym r.none; same = at ∙ r.same }

stand_kept : (es : List Event) (marks : ℕ → Bool) (c b last : List NodeRecord) (ts : List (EventWithLook × MadeEventOutcome)) (m : ℕ) → AgreeOutsideMarks marks c b → marks m ≡ false → run_events c es ≡ Some (last, ts) → Stand c b es (events_of_causes (kept marks (causes ts))) m
stand_kept [] marks c b last ts m a free is =
    subst (λ (z : List (EventWithLook × MadeEventOutcome)). Stand c b [] (events_of_causes (kept marks (causes z))) m) (ap (λ (z : List NodeRecord × List (EventWithLook × MadeEventOutcome)). z.1) (same_Some (c, []) (last, ts) is))
    (stand_here c b [] [] m (a.same m free) (record { now = b; led = refl; same = refl; none = refl }))
stand_kept (e ∷ es) marks c b last ts m a free is =
    let f = first_of_run c e es last ts is in
    subst (λ (z : List (EventWithLook × MadeEventOutcome)). Stand c b (e ∷ es) (events_of_causes (kept marks (causes z))) m) (sym f.all)
    (go f (observes_marked_node marks (event_with_look_on_chip c e)) refl (λ ms d ag mk. stand_kept es ms f.mid d last f.others m ag mk f.then))
  where
    go : (f : FirstOf c e es last ts) (t : Bool) → observes_marked_node marks (event_with_look_on_chip c e) ≡ t
        → ((ms : ℕ → Bool) (d : List NodeRecord) → AgreeOutsideMarks ms f.mid d → ms m ≡ false → Stand f.mid d es (events_of_causes (kept ms (causes f.others))) m)
        → Stand c b (e ∷ es) (events_of_causes (part t marks (event_with_look_on_chip c e) (causes f.others))) m
    go f true met again =
        let ms : ℕ → Bool = λ n. marks n || event_with_look_touches_node (event_with_look_on_chip c e) n in
        let ag = AgreeOutsideMarks-marked_nodes marks e c f.mid b f.told a f.first in
        elim (cases_Bool (touches e m)) [
          | inl t ↦ stand_here c b (e ∷ es) (events_of_causes (kept ms (causes f.others))) m (a.same m free) (marked_ran es ms f.mid b last f.others m ag (or_right (marks m) (event_with_look_touches_node (event_with_look_on_chip c e) m) t) f.then)
          | inr no_touch_here ↦ stand_past c f.mid b e f.told es (events_of_causes (kept ms (causes f.others))) m f.first no_touch_here (again ms b ag (or_from (marks m) (event_with_look_touches_node (event_with_look_on_chip c e) m) free no_touch_here))
        ]
    go f false met again =
        let s = same_of marks e c f.mid b f.told a met f.first in
        stand_both c f.mid b s.mid e f.told es (events_of_causes (kept marks (causes f.others))) m f.first s.done (again marks s.mid s.agree free)

stand_rest : (es : List Event) (i : ℕ) (c last : List NodeRecord) (ts : List (EventWithLook × MadeEventOutcome)) (m : ℕ) → run_events c es ≡ Some (last, ts) → Stand c c es (events_of_causes (rest (causes ts) i)) m
stand_rest [] i c last ts m is =
    subst (λ (z : List (EventWithLook × MadeEventOutcome)). Stand c c [] (events_of_causes (rest (causes z) i)) m) (ap (λ (z : List NodeRecord × List (EventWithLook × MadeEventOutcome)). z.1) (same_Some (c, []) (last, ts) is))
    (stand_here c c [] [] m refl (record { now = c; led = refl; same = refl; none = refl }))
stand_rest (e ∷ es) zero c last ts m is =
    let f = first_of_run c e es last ts is in
    let marks : ℕ → Bool = event_with_look_touches_node (event_with_look_on_chip c e) in
    let ag : AgreeOutsideMarks marks f.mid c = AgreeOutsideMarks-sym marks c f.mid (keeps_of c e f.mid f.told f.first) in
    subst (λ (z : List (EventWithLook × MadeEventOutcome)). Stand c c (e ∷ es) (events_of_causes (rest (causes z) zero)) m) (sym f.all)
    (elim (cases_Bool (touches e m)) [
      | inl t ↦ stand_here c c (e ∷ es) (events_of_causes (kept marks (causes f.others))) m refl (marked_ran es marks f.mid c last f.others m ag t f.then)
      | inr free ↦ stand_past c f.mid c e f.told es (events_of_causes (kept marks (causes f.others))) m f.first free (stand_kept es marks f.mid c last f.others m ag free f.then)
    ])
stand_rest (e ∷ es) (suc i) c last ts m is =
    let f = first_of_run c e es last ts is in
    subst (λ (z : List (EventWithLook × MadeEventOutcome)). Stand c c (e ∷ es) (events_of_causes (rest (causes z) (suc i))) m) (sym f.all)
    (stand_both c f.mid c f.mid e f.told es (events_of_causes (rest (causes f.others) i)) m f.first f.first (stand_rest es i f.mid last f.others m f.then))

-- ---- in the machine

pub take_first : (xs ys : List Event) → take (length xs) (xs ++ ys) ≡ xs
take_first [] ys = refl
take_first (x ∷ xs) ys = ap (λ (z : List Event). x ∷ z) (take_first xs ys)

pub record Stands (s : MachineState) (n k m : ℕ) : Type 0 where
  pub place : ℕ
  pub count : count_steps m (take place s.kept) ≡ count_steps m (state_after_rewind s n k).kept
  pub same : node_record_at (chip_of_machine (state_after_rewind s n k)) m ≡ node_record_at (chip_of_machine (earlier_state s place)) m

chip_at : (o : Option (List NodeRecord)) (c : List NodeRecord) → o ≡ Some c → unwrap_or o [] ≡ c
chip_at o c h = ap (λ (z : Option (List NodeRecord)). unwrap_or z []) h

stands_by : (s : MachineState) (n k m : ℕ) (ks : List Event) → (state_after_rewind s n k).kept ≡ ks → Stand s.load s.load s.kept ks m → Stands s n k m
stands_by s n k m ks left a =
    let begins : take (length a.first) s.kept ≡ a.first = ap (λ (z : List Event). take (length a.first) z) a.is ∙ take_first a.first a.others in
    record {
      place = length a.first;
      count = ap (count_steps m) begins ∙ a.count ∙ ap (count_steps m) (sym left);
      same = ap (λ (z : List Event). node_record_at (unwrap_or (replay s.load z) []) m) left ∙ ap (λ z. node_record_at z m) (chip_at (replay s.load ks) a.now a.led)
          ∙ sym a.same ∙ sym (ap (λ z. node_record_at z m) (chip_at (replay s.load a.first) a.mid a.begun)) ∙ sym (ap (λ (z : List Event). node_record_at (unwrap_or (replay s.load z) []) m) begins);
    }

pub stands_somewhere : (s : MachineState) (n k m : ℕ) → IsSome (replay s.load s.kept) → Stands s n k m
stands_somewhere s n k m some = go (position_of_step (machine_events_with_looks s) n k) refl
  where
    r : Runs s
    r = runs_of s some

    told : machine_events_with_looks s ≡ causes r.told
    told = ap (λ o. causes (run_events_with_outcomes o)) r.run_is

    whole : Stand s.load s.load s.kept s.kept m
    whole = record { now = r.last; led = chip; first = s.kept; others = []; is = sym (append-nil s.kept); mid = r.last; begun = chip; count = refl; same = refl }
      where
        chip : replay s.load s.kept ≡ Some r.last
        chip = ap (λ (o : Option (List NodeRecord × List (EventWithLook × MadeEventOutcome))). option_map (λ z. z.0) o) r.run_is

    go : (o : Option ℕ) → position_of_step (machine_events_with_looks s) n k ≡ o → Stands s n k m
    go None is = stands_by s n k m s.kept (ap (λ (o : Option ℕ). events_of_causes (remaining_events_or_all (machine_events_with_looks s) o)) is ∙ replayed s some) whole
    go (Some i) is = stands_by s n k m (events_of_causes (rest (causes r.told) i)) (ap (λ (o : Option ℕ). events_of_causes (remaining_events_or_all (machine_events_with_looks s) o)) is ∙ ap (λ z. events_of_causes (rest z i)) told) (stand_rest s.kept i s.load r.last r.told m r.run_is)

-- a machine whose beginnings can all be replayed can be replayed
some_whole : (s : MachineState) → ((place : ℕ) → replay s.load (take place s.kept) ≡ Some (chip_of_machine (earlier_state s place))) → IsSome (replay s.load s.kept)
some_whole s all =
    let whole : take (length s.kept) s.kept ≡ s.kept = ap (λ (z : List Event). take (length s.kept) z) (sym (append-nil s.kept)) ∙ take_first s.kept [] in
    let led : replay s.load s.kept ≡ Some (chip_of_machine (earlier_state s (length s.kept))) = ap (λ (z : List Event). replay s.load z) (sym whole) ∙ all (length s.kept) in
    subst (λ (o : Option (List NodeRecord)). IsSome o) (sym led) refl

-- the node is as it was before the last `gone` of its steps
abbrev pub IsBehind : MachineState → ℕ → ℕ → NodeRecord → Type 0
IsBehind s gone m node = (place : ℕ) → count_steps m (take place s.kept) + gone ≡ count_steps m s.kept → node ≡ node_record_at (chip_of_machine (earlier_state s place)) m

pub is_rewound : (s : MachineState) (n k m gone : ℕ) (node : NodeRecord) → ((place : ℕ) → replay s.load (take place s.kept) ≡ Some (chip_of_machine (earlier_state s place)))
    → gone + count_steps m (state_after_rewind s n k).kept ≡ count_steps m s.kept → IsBehind s gone m node → node ≡ node_record_at (chip_of_machine (state_after_rewind s n k)) m
is_rewound s n k m gone node all sum behind =
    let a = stands_somewhere s n k m (some_whole s all) in
    behind a.place (let c : count_steps m (take a.place s.kept) ≡ count_steps m (state_after_rewind s n k).kept = a.count in omega (arith, c, sum)) ∙ sym a.same
