-- Two events that can both be made: one actor makes one event, and two that touch a common node are passes to one reader.
use Rattle.std.proofs.Common.{◌≡◌, ℕ, ◌<◌, Bool, ◌&&◌, ◌||◌, List, [], length, sym, ◌∙◌, ap, ap₂, arith, ◌≢◌, ◌==◌, true, false, ◌⊎◌, inl, inr, Option, Some, None, refl, subst, true≢false}
use Rattle.std.specs.List.{list_any}
use Rattle.ga_event.specs.declared.event.Event.{Event}
use Rattle.ga_event.specs.declared.event.Event.TheVariants.{Own, Pass}
use Rattle.ga_event.specs.declared.event.EventWithLook.{EventWithLook}
use Rattle.ga_event.specs.Touches.{event_nodes, touches}
use Rattle.ga_races.specs.HappensBefore.{TraceAction, trace_action_at, is_look_changed_by, are_dependent_actions, HappensDirectlyBefore, HappensBefore, directly, through, AreRacingActions}
use Rattle.ga_races.specs.inner.{AreActionListsAlike}
use Rattle.std.proofs.lemmas.Bool.{or_cases, both_ways, and_parts, eqb-true}
use Rattle.std.proofs.lemmas.Option.{same_Some}
use Rattle.ga_ports.specs.declared.side.Side.{Side}
use Rattle.ga_ports.specs.declared.side.Side.TheVariants.{Right, Down, Left, Up}
use Rattle.ga_ports.specs.Address.{are_same_side}
use Rattle.ga_node.specs.Record.{NodeRecord}
use Rattle.ga_node.specs.Table.{wait_refusal}
use Rattle.ga_node.specs.declared.wait.Wait.{Wait}
use Rattle.ga_node.specs.declared.wait.Wait.TheVariants.{Nothing, Fetch, Read, Write}
use Rattle.ga_grid.specs.declared.node_id.NodeId.{NodeId}
use Rattle.ga_grid.specs.Grid.{neighbour_number}
use Rattle.ga_grid.specs.Chip.{node_record_at}
use Rattle.ga_grid.proofs.NodeIds.{NodeId-same, neighbour_number-back}
use Rattle.ga_event.specs.Apply.{waits_to_write_side, waits_to_read_side, equals_optional_number, refusal_unless_matched}
use Rattle.ga_races.specs.Orders.{IsEnabled, AreConflictingPasses}

-- ---- what is near in a list is near in one whose causes are the same and change what is shown to the same nodes

any_alike : (e : Event) (f g : ℕ → Bool) → ((n : ℕ) → n < 144 → f n ≡ g n) → list_any f (event_nodes e) ≡ list_any g (event_nodes e)
any_alike (Own m) f g h = ap (λ (b : Bool). b || list_any g []) (h m.number m.in_range)
any_alike (Pass w r side) f g h = ap₂ (λ (a b : Bool). a || (b || list_any g [])) (h w.number w.in_range) (h r.number r.in_range)

shown_alike : (a b x y : TraceAction) → a.cause ≡ x.cause → ((n : ℕ) → n < 144 → b.changes n ≡ y.changes n) → is_look_changed_by a b ≡ is_look_changed_by x y
shown_alike a b x y is same =
    ap (λ (z : Bool). a.cause.look && z) (any_alike a.cause.event b.changes y.changes same) ∙ ap (λ (z : EventWithLook). z.look && list_any y.changes (event_nodes z.event)) is

bound_alike : (a b x y : TraceAction) → a.cause ≡ x.cause → b.cause ≡ y.cause → ((n : ℕ) → n < 144 → a.changes n ≡ x.changes n) → ((n : ℕ) → n < 144 → b.changes n ≡ y.changes n) → are_dependent_actions a b ≡ are_dependent_actions x y
bound_alike a b x y p q f g =
    ap₂ (λ (i j : Bool). i || j) (ap₂ (λ (i j : EventWithLook). list_any (touches i.event) (event_nodes j.event)) p q)
    (ap₂ (λ (i j : Bool). i || j) (shown_alike a b x y p g) (shown_alike b a y x q f))

pub alike-sym : (xs ys : List TraceAction) → AreActionListsAlike xs ys → AreActionListsAlike ys xs
alike-sym xs ys a = record {
  size = sym a.size;
  cause = λ i l. let s : length xs ≡ length ys = a.size in sym (a.cause i (omega (arith, l, s)));
  changes = λ i n l k. let s : length xs ≡ length ys = a.size in sym (a.changes i n (omega (arith, l, s)) k);
}

bound_of : (xs ys : List TraceAction) (i j : ℕ) → AreActionListsAlike xs ys → HappensDirectlyBefore xs i j → HappensDirectlyBefore ys i j
bound_of xs ys i j a b =
    let k : i < j = b.before in
    let l : j < length xs = b.within in
    let s : length xs ≡ length ys = a.size in
    let m : i < length xs = omega (arith, k, l) in
    record {
      before = k;
      within = omega (arith, l, s);
      bound = sym (bound_alike (trace_action_at xs i) (trace_action_at xs j) (trace_action_at ys i) (trace_action_at ys j) (a.cause i m) (a.cause j l) (λ n. a.changes i n m) (λ n. a.changes j n l)) ∙ b.bound;
    }

pub happens_alike : (xs ys : List TraceAction) (i j : ℕ) → AreActionListsAlike xs ys → HappensBefore xs i j → HappensBefore ys i j
happens_alike xs ys i j a (directly d) = directly (bound_of xs ys i j a d)
happens_alike xs ys i j a (through {middle} h d) = through (happens_alike xs ys i middle a h) (bound_of xs ys middle j a d)

pub near_alike : (xs ys : List TraceAction) (i j : ℕ) → AreActionListsAlike xs ys → AreRacingActions xs i j → AreRacingActions ys i j
near_alike xs ys i j a near =
    let k : i < j = near.bound.before in
    let l : j < length xs = near.bound.within in
    record {
      bound = bound_of xs ys i j a near.bound;
      apart = λ n t. ap (λ (c : EventWithLook). touches c.event n) (sym (a.cause j l)) ∙ near.apart n (ap (λ (c : EventWithLook). touches c.event n) (a.cause i (omega (arith, k, l))) ∙ t);
      none = λ middle g h. near.none middle (happens_alike ys xs i middle (alike-sym xs ys a) g) (happens_alike ys xs middle j (alike-sym xs ys a) h);
    }

-- the node that makes an event: of a pass the writer
abbrev pub actor : Event → ℕ
actor (Own a) = a.number
actor (Pass w r side) = w.number

-- an enabled event and the state of its nodes
runs_of : (wait : Wait) (stop : ℕ) → wait_refusal wait stop ≡ None → wait ≡ Nothing
runs_of Nothing stop h = refl
runs_of (Fetch sides) stop h = absurd (cc)
runs_of (Read sides) stop h = absurd (cc)
runs_of (Write side) stop h = absurd (cc)

pub matched_of : (b : Bool) → refusal_unless_matched b ≡ None → b ≡ true
matched_of true h = refl
matched_of false h = absurd (cc)

pub record Open (c : List NodeRecord) (w r : NodeId) (side : Side) : Type 0 where
  pub near : equals_optional_number (neighbour_number w.number side) r.number ≡ true
  pub writes : waits_to_write_side (node_record_at c w.number).wait side ≡ true
  pub reads : waits_to_read_side (node_record_at c r.number).wait side ≡ true

pub open_of : (c : List NodeRecord) (w r : NodeId) (side : Side) → IsEnabled c (Pass w r side) → Open c w r side
open_of c w r side can =
    let near = equals_optional_number (neighbour_number w.number side) r.number in
    let writes = waits_to_write_side (node_record_at c w.number).wait side in
    let reads = waits_to_read_side (node_record_at c r.number).wait side in
    let p : (near && writes ≡ true) × (reads ≡ true) = and_parts (near && writes) reads (matched_of (near && writes && reads) can) in
    let q : (near ≡ true) × (writes ≡ true) = and_parts near writes p.0 in
    record { near = q.0; writes = q.1; reads = p.1 }

same_number : (o : Option ℕ) (n m : ℕ) → equals_optional_number o n ≡ true → equals_optional_number o m ≡ true → n ≡ m
same_number None n m h k = absurd (true≢false (sym h))
same_number (Some x) n m h k = sym (eqb-true x n h) ∙ eqb-true x m k

is_the : (a b : Side) → are_same_side a b ≡ true → a ≡ b
is_the Right Right h = refl
is_the Down Down h = refl
is_the Left Left h = refl
is_the Up Up h = refl
is_the Right Down h = absurd (true≢false (sym h))
is_the Right Left h = absurd (true≢false (sym h))
is_the Right Up h = absurd (true≢false (sym h))
is_the Down Right h = absurd (true≢false (sym h))
is_the Down Left h = absurd (true≢false (sym h))
is_the Down Up h = absurd (true≢false (sym h))
is_the Left Right h = absurd (true≢false (sym h))
is_the Left Down h = absurd (true≢false (sym h))
is_the Left Up h = absurd (true≢false (sym h))
is_the Up Right h = absurd (true≢false (sym h))
is_the Up Down h = absurd (true≢false (sym h))
is_the Up Left h = absurd (true≢false (sym h))

pub one_side : (wait : Wait) (s t : Side) → waits_to_write_side wait s ≡ true → waits_to_write_side wait t ≡ true → s ≡ t
one_side Nothing s t h k = absurd (true≢false (sym h))
one_side (Fetch sides) s t h k = absurd (true≢false (sym h))
one_side (Read sides) s t h k = absurd (true≢false (sym h))
one_side (Write posted) s t h k = sym (is_the posted s h) ∙ is_the posted t k

-- a node that runs has no part in a pass
pub no_writer : (wait : Wait) (s : Side) → wait ≡ Nothing → waits_to_write_side wait s ≡ true → ⊥
no_writer wait s e h = true≢false (sym (sym (ap (λ z. waits_to_write_side z s) e) ∙ h))

pub no_reader : (wait : Wait) (s : Side) → wait ≡ Nothing → waits_to_read_side wait s ≡ true → ⊥
no_reader wait s e h = true≢false (sym (sym (ap (λ z. waits_to_read_side z s) e) ∙ h))

-- and one that writes reads from none
pub one_way : (wait : Wait) (s t : Side) → waits_to_write_side wait s ≡ true → waits_to_read_side wait t ≡ true → ⊥
one_way Nothing s t h k = true≢false (sym h)
one_way (Fetch sides) s t h k = true≢false (sym h)
one_way (Read sides) s t h k = true≢false (sym h)
one_way (Write posted) s t h k = true≢false (sym k)

pub wait_at : (c : List NodeRecord) (a : NodeId) → IsEnabled c (Own a) → (n : ℕ) → a.number ≡ n → (node_record_at c n).wait ≡ Nothing
wait_at c a can n e = subst (λ (z : ℕ). (node_record_at c z).wait ≡ Nothing) e (runs_of (node_record_at c a.number).wait (node_record_at c a.number).stop can)

-- two passes of one writer are one
one_pass : (c : List NodeRecord) (w r x y : NodeId) (s t : Side) → Open c w r s → Open c x y t → w.number ≡ x.number → Pass w r s ≡ Pass x y t
one_pass c w r x y s t p q e =
    let same : w ≡ x = NodeId-same w x e in
    let side : s ≡ t = one_side (node_record_at c w.number).wait s t p.writes (subst (λ (z : ℕ). waits_to_write_side (node_record_at c z).wait t ≡ true) (sym e) q.writes) in
    let near : equals_optional_number (neighbour_number w.number s) y.number ≡ true = subst (λ (z : Side). equals_optional_number (neighbour_number w.number z) y.number ≡ true) (sym side) (subst (λ (z : ℕ). equals_optional_number (neighbour_number z t) y.number ≡ true) (sym e) q.near) in
    let there : r ≡ y = NodeId-same r y (same_number (neighbour_number w.number s) r.number y.number p.near near) in
    ap (λ (z : NodeId). Pass z r s) same ∙ ap (λ (z : NodeId). Pass x z s) there ∙ ap (λ (z : Side). Pass x y z) side

-- one actor makes one event
pub one_event : (c : List NodeRecord) (e f : Event) → IsEnabled c e → IsEnabled c f → actor e ≡ actor f → e ≡ f
one_event c (Own a) (Own b) can canf q = ap Own (NodeId-same a b q)
one_event c (Own a) (Pass w r s) can canf q = absurd (no_writer (node_record_at c w.number).wait s (wait_at c a can w.number q) (open_of c w r s canf).writes)
one_event c (Pass w r s) (Own a) can canf q = absurd (no_writer (node_record_at c w.number).wait s (wait_at c a canf w.number (sym q)) (open_of c w r s can).writes)
one_event c (Pass w r s) (Pass x y t) can canf q = one_pass c w r x y s t (open_of c w r s can) (open_of c x y t canf) q

pub at_node : (a n : ℕ) → ((a == n) || false) ≡ true → a ≡ n
at_node a n h = elim (or_cases (a == n) false h) [ inl q ↦ eqb-true a n q | inr q ↦ absurd (both_ways false refl q) ]

pub at_two : (a b n : ℕ) → ((a == n) || ((b == n) || false)) ≡ true → (a ≡ n) ⊎ (b ≡ n)
at_two a b n h = elim (or_cases (a == n) ((b == n) || false) h) [ inl q ↦ inl (eqb-true a n q) | inr q ↦ inr (at_node b n q) ]

-- a node that runs is in no pass
alone : (c : List NodeRecord) (a w r : NodeId) (s : Side) (n : ℕ) → IsEnabled c (Own a) → Open c w r s → a.number ≡ n → (w.number ≡ n) ⊎ (r.number ≡ n) → ⊥
alone c a w r s n can ends q (inl e) = no_writer (node_record_at c w.number).wait s (wait_at c a can w.number (q ∙ sym e)) ends.writes
alone c a w r s n can ends q (inr e) = no_reader (node_record_at c r.number).wait s (wait_at c a can r.number (q ∙ sym e)) ends.reads

pub number_of : (o : Option ℕ) (n : ℕ) → equals_optional_number o n ≡ true → o ≡ Some n
number_of None n h = absurd (true≢false (sym h))
number_of (Some m) n h = ap Some (eqb-true m n h)

pub back : (c : List NodeRecord) (w r : NodeId) (side : Side) → Open c w r side → neighbour_number r.number side ≡ Some w.number
back c w r side p = neighbour_number-back w.number r.number side w.in_range (number_of (neighbour_number w.number side) r.number p.near)

rivals : (c : List NodeRecord) (w r x y : NodeId) (s t : Side) → Open c w r s → Open c x y t → Pass w r s ≢ Pass x y t → r.number ≡ y.number → AreConflictingPasses (Pass w r s) (Pass x y t)
rivals c w r x y s t p q differ e =
    let same : r ≡ y = NodeId-same r y e in
    let apart : w.number ≢ x.number = λ k. differ (one_pass c w r x y s t p q k) in
    record {
      first = w;
      second = x;
      reader = r;
      side = s;
      other = t;
      one = refl;
      two = ap (λ (z : NodeId). Pass x z t) (sym same);
      writers = apart;
      sides = λ k. apart (same_Some w.number x.number (sym (back c w r s p) ∙ ap (λ (z : Side). neighbour_number r.number z) k ∙ ap (λ (z : ℕ). neighbour_number z t) e ∙ back c x y t q));
    }

crossed : (c : List NodeRecord) (w r x y : NodeId) (s t : Side) (n : ℕ) → Open c w r s → Open c x y t → w.number ≡ n → y.number ≡ n → ⊥
crossed c w r x y s t n p q e k = one_way (node_record_at c w.number).wait s t p.writes (subst (λ (z : ℕ). waits_to_read_side (node_record_at c z).wait t ≡ true) (k ∙ sym e) q.reads)

-- two enabled events that touch a common node are two passes to one reader
pub common_node : (c : List NodeRecord) (e f : Event) (n : ℕ) → IsEnabled c e → IsEnabled c f → e ≢ f → touches e n ≡ true → touches f n ≡ true → AreConflictingPasses e f
common_node c (Own a) (Own b) n can canf differ t u = absurd (differ (ap Own (NodeId-same a b (at_node a.number n t ∙ sym (at_node b.number n u)))))
common_node c (Own a) (Pass w r s) n can canf differ t u = absurd (alone c a w r s n can (open_of c w r s canf) (at_node a.number n t) (at_two w.number r.number n u))
common_node c (Pass w r s) (Own a) n can canf differ t u = absurd (alone c a w r s n canf (open_of c w r s can) (at_node a.number n u) (at_two w.number r.number n t))
common_node c (Pass w r s) (Pass x y z) n can canf differ t u = go (at_two w.number r.number n t) (at_two x.number y.number n u)
  where
    p : Open c w r s
    p = open_of c w r s can

    q : Open c x y z
    q = open_of c x y z canf

    go : (w.number ≡ n) ⊎ (r.number ≡ n) → (x.number ≡ n) ⊎ (y.number ≡ n) → AreConflictingPasses (Pass w r s) (Pass x y z)
    go (inl e) (inl k) = absurd (differ (one_pass c w r x y s z p q (e ∙ sym k)))
    go (inl e) (inr k) = absurd (crossed c w r x y s z n p q e k)
    go (inr e) (inl k) = absurd (crossed c x y w r z s n q p k e)
    go (inr e) (inr k) = rivals c w r x y s z p q differ (e ∙ sym k)
