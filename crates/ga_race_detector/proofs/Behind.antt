-- A step that a rollback removes: its event, and that its node after the rollback is as it was before that event.
use Rattle.std.proofs.Common.{◌≡◌, ℕ, zero, suc, ◌+◌, ◌==◌, cond, Bool, true, false, List, [], ◌∷◌, ◌++◌, Option, Some, None, refl, sym, ◌∙◌, ap, subst, ◌&&◌, ◌<◌, ◌≤◌, arith}
use Rattle.std.specs.Prelude.{option_map, option_and_then, option_to_list, unwrap_or, is_some, take}
use Rattle.std.specs.List.{slice_get}
use Rattle.std.proofs.lemmas.Option.{same_Some}
use Rattle.std.proofs.lemmas.Bool.{le-leb, leb-true, and_parts, eqb-true}
use Rattle.std.proofs.Math.Dec.{leb}
use Rattle.ga_node.specs.declared.kind.EventRefusal.{EventRefusal}
use Rattle.ga_node.specs.Record.{NodeRecord}
use Rattle.ga_node.specs.Table.{register_t}
use Rattle.ga_ports.specs.declared.side.Side.{Side}
use Rattle.ga_grid.specs.declared.node_id.NodeId.{NodeId}
use Rattle.ga_grid.specs.Chip.{node_record_at}
use Rattle.ga_event.specs.declared.event.Event.{Event}
use Rattle.ga_event.specs.declared.event.Event.TheVariants as event
use Rattle.ga_event.specs.declared.event.EventWithLook.{EventWithLook}
use Rattle.ga_event.specs.declared.made.MadeEvent.{MadeEvent}
use Rattle.ga_event.specs.declared.made.MadeEvent.TheVariants as made
use Rattle.ga_event.specs.Touches.{touches}
use Rattle.ga_event.specs.Apply.{MadeEventOutcome, apply, event_result, some_if_allowed, event_refusal, event_with_look_on_chip, run_events, replay, AgreeOutsideMarks}
use Rattle.ga_event.specs.Told.{count_steps, made_event_after, made_events_of_node_after, made_events_of_node, events_of_causes}
use Rattle.ga_event.proofs.Locality.{AgreeOutsideMarks-sym}
use Rattle.ga_causal.specs.Dependence.{event_with_look_touches_node, rest, remaining_events_or_all, position_of_step}
use Rattle.ga_causal.proofs.Runs.{kept, causes, FirstOf, first_of_run, keeps_of, replay-cons}
use Rattle.ga_lab.specs.Machine.{MachineState, chip_of_machine, machine_events_with_looks, history_of_node, run_events_with_outcomes, earlier_state, state_after_rewind, has_step}
use Rattle.ga_lab.proofs.Called.{Runs, told_is, runs_some}
use Rattle.ga_lab.proofs.Explaining.{step_has_position}
use Rattle.ga_lab.proofs.Reasoned.{replayed}
use Rattle.ga_races.specs.Orders.{IsEnabled}
use Rattle.ga_race_detector.proofs.Standing.{Ran, marked_ran, steps-cons, no_step}
use Rattle.ga_lab.proofs.Stepping.{applied_after as after_of}

-- whether this is such an event as made
abbrev pub IsOf : MadeEvent → Event → Type 0
IsOf (made.Own n k kind) e = (a : NodeId) × (e ≡ event.Own a)
IsOf (made.Pass w i r j word) e = (side : Side) × (e ≡ event.Pass w r side)

-- and the word of a pass is that of its writer
abbrev pub IsWordOf : List NodeRecord → MadeEvent → Type 0
IsWordOf c (made.Own n k kind) = Unit {0}
IsWordOf c (made.Pass w i r j word) = word ≡ register_t (node_record_at c w.number)

can_of : (c d : List NodeRecord) (e : Event) (t : MadeEventOutcome) → apply c e ≡ Some (d, t) → IsEnabled c e
can_of c d e t h = go (event_refusal c e) refl h
  where
    go : (o : Option EventRefusal) → event_refusal c e ≡ o → some_if_allowed o (event_result c e) ≡ Some (d, t) → event_refusal c e ≡ None
    go None is k = is
    go (Some why) is k = absurd (cc)

told_of : (before : List Event) (c d : List NodeRecord) (e : Event) (t : MadeEventOutcome) → apply c e ≡ Some (d, t) → (m : MadeEvent) × (made_event_after before e t ≡ Some m) × IsOf m e × IsWordOf c m
told_of before c d (event.Own a) t h = (_, ap (λ (z : MadeEventOutcome). made_event_after before (event.Own a) z) (sym (after_of c d (event.Own a) t h)), (a, refl), tt)
told_of before c d (event.Pass w r side) t h = (_, ap (λ (z : MadeEventOutcome). made_event_after before (event.Pass w r side) z) (sym (after_of c d (event.Pass w r side) t h)), (side, refl), refl)

pub record Behind (c : List NodeRecord) (es : List Event) (ts : List (EventWithLook × MadeEventOutcome)) (before : List Event) (n k i : ℕ) : Type 0 where
  pub event : Event
  pub mid : List NodeRecord
  pub can : IsEnabled mid event
  pub touch : touches event n ≡ true
  pub made : MadeEvent
  pub told : slice_get (made_events_of_node_after before ts n) k ≡ Some made
  pub of : IsOf made event
  pub word : IsWordOf mid made
  pub begun : replay c (take i es) ≡ Some mid
  pub count : count_steps n (take i es) ≡ k
  pub now : List NodeRecord
  pub led : replay c (events_of_causes (rest (causes ts) i)) ≡ Some now
  pub same : node_record_at mid n ≡ node_record_at now n

-- the first event as made, and those after it
told_first : (before : List Event) (x : EventWithLook × MadeEventOutcome) (xs : List (EventWithLook × MadeEventOutcome)) (n : ℕ) (m : MadeEvent) → touches x.0.event n ≡ true → made_event_after before x.0.event x.1 ≡ Some m
    → made_events_of_node_after before (x ∷ xs) n ≡ m ∷ made_events_of_node_after (before ++ x.0.event ∷ []) xs n
told_first before x xs n m touch is =
    ap (λ (b : Bool). cond b (option_to_list (made_event_after before x.0.event x.1)) [] ++ made_events_of_node_after (before ++ x.0.event ∷ []) xs n) touch
    ∙ ap (λ (o : Option MadeEvent). option_to_list o ++ made_events_of_node_after (before ++ x.0.event ∷ []) xs n) is

told_later : (before : List Event) (x : EventWithLook × MadeEventOutcome) (xs : List (EventWithLook × MadeEventOutcome)) (n : ℕ) → touches x.0.event n ≡ false
    → made_events_of_node_after before (x ∷ xs) n ≡ made_events_of_node_after (before ++ x.0.event ∷ []) xs n
told_later before x xs n touch =
    ap (λ (b : Bool). cond b (option_to_list (made_event_after before x.0.event x.1)) [] ++ made_events_of_node_after (before ++ x.0.event ∷ []) xs n) touch

some_suc : (o : Option ℕ) (i : ℕ) → option_map suc o ≡ Some i → (j : ℕ) × (o ≡ Some j) × (i ≡ suc j)
some_suc None i h = absurd (cc)
some_suc (Some j) i h = (j, refl, sym (same_Some (suc j) i h))

not_zero : (k : ℕ) → (suc k == 0) ≡ false
not_zero k = go (suc k == 0) refl
  where
    go : (b : Bool) → (suc k == 0) ≡ b → (suc k == 0) ≡ false
    go true is = absurd (let e = eqb-true (suc k) 0 is in omega (arith, e))
    go false is = is

-- one event more before
more : (c d : List NodeRecord) (e : Event) (es : List Event) (t : MadeEventOutcome) (ts : List (EventWithLook × MadeEventOutcome)) (before : List Event) (n k j i : ℕ) → apply c e ≡ Some (d, t)
    → slice_get (made_events_of_node_after before ((event_with_look_on_chip c e, t) ∷ ts) n) i ≡ slice_get (made_events_of_node_after (before ++ e ∷ []) ts n) k
    → cond (touches e n) 1 0 + k ≡ i → Behind d es ts (before ++ e ∷ []) n k j → Behind c (e ∷ es) ((event_with_look_on_chip c e, t) ∷ ts) before n i (suc j)
more c d e es t ts before n k j i h same adds b = record {
  event = b.event;
  mid = b.mid;
  can = b.can;
  touch = b.touch;
  made = b.made;
  told = same ∙ b.told;
  of = b.of;
  word = b.word;
  begun = replay-cons c e (take j es) ∙ ap (λ (o : Option (List NodeRecord × MadeEventOutcome)). option_and_then (λ first. replay first.0 (take j es)) o) h ∙ b.begun;
  count = steps-cons n e (take j es) ∙ ap (λ (z : ℕ). cond {A = ℕ} (touches e n) 1 0 + z) b.count ∙ adds;
  now = b.now;
  led = replay-cons c e (events_of_causes (rest (causes ts) j)) ∙ ap (λ (o : Option (List NodeRecord × MadeEventOutcome)). option_and_then (λ first. replay first.0 (events_of_causes (rest (causes ts) j))) o) h ∙ b.led;
  same = b.same;
}

pub behind : (es : List Event) (c last : List NodeRecord) (ts : List (EventWithLook × MadeEventOutcome)) (before : List Event) (n k i : ℕ) → run_events c es ≡ Some (last, ts)
    → position_of_step (causes ts) n (suc k) ≡ Some i → Behind c es ts before n k i
behind [] c last ts before n k i is at =
    absurd (let q : ts ≡ [] = sym (ap (λ (z : List NodeRecord × List (EventWithLook × MadeEventOutcome)). z.1) (same_Some (c, []) (last, ts) is)) in
    let w : None ≡ Some i = sym (ap (λ (z : List (EventWithLook × MadeEventOutcome)). position_of_step (causes z) n (suc k)) q) ∙ at in cc)
behind (e ∷ es) c last ts before n k i is at =
    let f = first_of_run c e es last ts is in
    subst (λ (z : List (EventWithLook × MadeEventOutcome)). Behind c (e ∷ es) z before n k i) (sym f.all)
    (go f (touches e n) refl k (ap (λ (z : List (EventWithLook × MadeEventOutcome)). position_of_step (causes z) n (suc k)) (sym f.all) ∙ at)
    (λ k j at. behind es f.mid last f.others (before ++ e ∷ []) n k j f.then at))
  where
    go : (f : FirstOf c e es last ts) (b : Bool) → touches e n ≡ b → (k : ℕ)
        → cond b (cond (k == 0) (Some 0) (option_map suc (position_of_step (causes f.others) n k))) (option_map suc (position_of_step (causes f.others) n (suc k))) ≡ Some i
        → ((k j : ℕ) → position_of_step (causes f.others) n (suc k) ≡ Some j → Behind f.mid es f.others (before ++ e ∷ []) n k j)
        → Behind c (e ∷ es) ((event_with_look_on_chip c e, f.told) ∷ f.others) before n k i
    go f true touch zero at again =
        let ag : AgreeOutsideMarks (event_with_look_touches_node (event_with_look_on_chip c e)) f.mid c = AgreeOutsideMarks-sym (event_with_look_touches_node (event_with_look_on_chip c e)) c f.mid (keeps_of c e f.mid f.told f.first) in
        let r : Ran c (events_of_causes (kept (event_with_look_touches_node (event_with_look_on_chip c e)) (causes f.others))) n = marked_ran es (event_with_look_touches_node (event_with_look_on_chip c e)) f.mid c last f.others n ag touch f.then in
        let m = told_of before c f.mid e f.told f.first in
        subst (λ (z : ℕ). Behind c (e ∷ es) ((event_with_look_on_chip c e, f.told) ∷ f.others) before n zero z) (same_Some 0 i at)
        (record {
          event = e;
          mid = c;
          can = can_of c f.mid e f.told f.first;
          touch = touch;
          made = m.0;
          told = ap (λ (z : List MadeEvent). slice_get z 0) (told_first before (event_with_look_on_chip c e, f.told) f.others n m.0 touch m.1);
          of = m.2;
          word = m.3;
          begun = refl;
          count = refl;
          now = r.now;
          led = r.led;
          same = r.same;
        })
    go f true touch (suc k) at again =
        let j = some_suc (position_of_step (causes f.others) n (suc k)) i
        (sym (ap (λ (b : Bool). cond {A = Option ℕ} b (Some 0) (option_map suc (position_of_step (causes f.others) n (suc k)))) (not_zero k)) ∙ at) in
        let m = told_of before c f.mid e f.told f.first in
        subst (λ (z : ℕ). Behind c (e ∷ es) ((event_with_look_on_chip c e, f.told) ∷ f.others) before n (suc k) z) (sym j.2)
        (more c f.mid e es f.told f.others before n k j.0 (suc k) f.first
        (ap (λ (z : List MadeEvent). slice_get z (suc k)) (told_first before (event_with_look_on_chip c e, f.told) f.others n m.0 touch m.1)) (ap (λ (b : Bool). cond {A = ℕ} b 1 0 + k) touch ∙ (let q : 1 + k ≡ suc k = omega arith in q)) (again k j.0 j.1))
    go f false touch k at again =
        let j = some_suc (position_of_step (causes f.others) n (suc k)) i at in
        subst (λ (z : ℕ). Behind c (e ∷ es) ((event_with_look_on_chip c e, f.told) ∷ f.others) before n k z) (sym j.2)
        (more c f.mid e es f.told f.others before n k j.0 k f.first
        (ap (λ (z : List MadeEvent). slice_get z k) (told_later before (event_with_look_on_chip c e, f.told) f.others n touch)) (no_step (touches e n) k k touch refl) (again k j.0 j.1))

-- ---- in the machine

found : (o : Option ℕ) → is_some o ≡ true → (i : ℕ) × (o ≡ Some i)
found None h = absurd (cc)
found (Some i) h = (i, refl)

pub stands_within : (s : MachineState) (n k : ℕ) → 0 < k → k ≤ count_steps n s.kept → has_step s n k ≡ true
stands_within s n k first within = ap (λ (b : Bool). b && leb k (count_steps n s.kept)) (le-leb 1 k first) ∙ le-leb k (count_steps n s.kept) within

pub stands_many : (s : MachineState) (n k : ℕ) → has_step s n k ≡ true → k ≤ count_steps n s.kept
stands_many s n k on = leb-true k (count_steps n s.kept) ((and_parts (leb 1 k) (leb k (count_steps n s.kept)) on).1)

pub chip_at : (o : Option (List NodeRecord)) (c : List NodeRecord) → o ≡ Some c → unwrap_or o [] ≡ c
chip_at o c h = ap (λ (z : Option (List NodeRecord)). unwrap_or z []) h

pub record TakenBack (s : MachineState) (n p : ℕ) : Type 0 where
  pub event : Event
  pub mid : List NodeRecord
  pub can : IsEnabled mid event
  pub touch : touches event n ≡ true
  pub made : MadeEvent
  pub told : slice_get (history_of_node s n) p ≡ Some made
  pub of : IsOf made event
  pub word : IsWordOf mid made
  pub same : node_record_at mid n ≡ node_record_at (chip_of_machine (state_after_rewind s n (suc p))) n
  pub place : ℕ
  pub count : count_steps n (take place s.kept) ≡ p
  pub stood : node_record_at (chip_of_machine (earlier_state s place)) n ≡ node_record_at mid n

pub taken_back : (s : MachineState) → Runs s → (n p : ℕ) → p < count_steps n s.kept → TakenBack s n p
taken_back s runs n p within = record {
  event = b.event;
  mid = b.mid;
  can = b.can;
  touch = b.touch;
  made = b.made;
  told = ap (λ (z : List (EventWithLook × MadeEventOutcome)). slice_get (made_events_of_node z n) p) (told_is s runs) ∙ b.told;
  of = b.of;
  word = b.word;
  same = b.same ∙ sym (ap (λ z. node_record_at z n) (chip_at (replay s.load (state_after_rewind s n (suc p)).kept) b.now led));
  place = there.0;
  count = b.count;
  stood = ap (λ z. node_record_at z n) (chip_at (replay s.load (take there.0 s.kept)) b.mid b.begun);
}
  where
    told_all : machine_events_with_looks s ≡ causes runs.told
    told_all = ap (λ o. causes (run_events_with_outcomes o)) runs.run_is

    there : (i : ℕ) × (position_of_step (machine_events_with_looks s) n (suc p) ≡ Some i)
    there = found (position_of_step (machine_events_with_looks s) n (suc p)) (step_has_position s n (suc p) (replayed s (runs_some s runs)) ∙ stands_within s n (suc p) (omega arith) (omega (arith, within)))

    b : Behind s.load s.kept runs.told [] n p there.0
    b = behind s.kept s.load runs.last runs.told [] n p there.0 runs.run_is (ap (λ z. position_of_step z n (suc p)) (sym told_all) ∙ there.1)

    led : replay s.load (state_after_rewind s n (suc p)).kept ≡ Some b.now
    led = ap (λ (o : Option ℕ). replay s.load (events_of_causes (remaining_events_or_all (machine_events_with_looks s) o))) there.1 ∙ ap (λ z. replay s.load (events_of_causes (rest z there.0))) told_all ∙ b.led
