-- A list without a round of a node leads to the same chip.
use Rattle.std.proofs.Common.{◌≡◌, ℕ, ◌+◌, ◌<◌, ◌≤◌, ◌==◌, Bool, true, false, not, ◌||◌, cond, inl, inr, List, [], ◌∷◌, ◌++◌, length, set, Option, Some, None, refl, sym, ◌∙◌, ap, subst, arith, length-append, length-set, get_or-set_other, get_or-set_same, eqb-true, ext_get_or}
use Rattle.std.specs.List.{All, list_any}
use Rattle.std.proofs.lemmas.Bool.{cases_Bool, cases_eq, cases_lt, or_cases, or_left, or_right, or_from, or_parts, both_ways, ne_eqb}
use Rattle.std.proofs.lemmas.List.{set_past}
use Rattle.std.proofs.lemmas.List.Elements.{All-head, All-tail}
use Rattle.std.proofs.lemmas.List.Sums.{sum_by-cons}
use Rattle.std.proofs.lemmas.Option.{same_Some}
use Rattle.ga_ports.specs.declared.side.Side.{Side}
use Rattle.ga_ports.specs.declared.side.Side.TheVariants.{Right, Down, Left, Up}
use Rattle.ga_node.specs.Record.{NodeRecord, record_of_node}
use Rattle.ga_node.specs.Table.{register_t, own, refusal_of_own_event, wait_refusal, sent, taken}
use Rattle.ga_node.specs.declared.wait.Wait.{Wait}
use Rattle.ga_node.specs.declared.wait.Wait.TheVariants.{Nothing, Fetch, Read, Write}
use Rattle.ga_grid.specs.Grid.{neighbour_number}
use Rattle.ga_grid.specs.Chip.{default_node, node_record_at}
use Rattle.ga_grid.specs.declared.node_id.NodeId.{NodeId}
use Rattle.ga_event.specs.declared.event.Event.{Event}
use Rattle.ga_event.specs.declared.event.Event.TheVariants.{Own, Pass}
use Rattle.ga_event.specs.Touches.{touches}
use Rattle.ga_event.specs.Apply.{shown_wait_state, shown_neighbour_state, neighbour_states, is_transfer_ready, refusal_unless_matched, event_result, replay}
use Rattle.ga_event.specs.Told.{count_steps}
use Rattle.ga_races.specs.Orders.{IsEnabled}
use Rattle.ga_races.specs.Rounds.{IsNoTransferWithNode, events_without_node, IsPollingRound, HasNoPollingRound}
use Rattle.ga_races.proofs.Exact.{replay_into}
use Rattle.ga_races.proofs.Independence.{first_of, replay_more, stays}

-- ---- chips that are alike but for one node

record AreBut (n : ℕ) (c b : List NodeRecord) : Type 0 where
  size : length c ≡ length b
  same : (m : ℕ) → (m ≡ n → ⊥) → node_record_at c m ≡ node_record_at b m

-- with the same written into both
but-set : (n : ℕ) (c b : List NodeRecord) (k : ℕ) (x : NodeRecord) → AreBut n c b → AreBut n (set c k x) (set b k x)
but-set n c b k x a = record {
  size = length-set c k x ∙ a.size ∙ sym (length-set b k x);
  same = λ m ne. elim (cases_eq m k) [ inl e ↦ here m e ne | inr other ↦ get_or-set_other c k m x (record_of_node default_node) other ∙ a.same m ne ∙ sym (get_or-set_other b k m x (record_of_node default_node) other) ];
}
  where
    within : (m : ℕ) → m ≡ k → k < length c → node_record_at (set c k x) m ≡ node_record_at (set b k x) m
    within m e h =
        let l : k < length b = omega (arith, a.size, h) in
        subst (λ z. node_record_at (set c k x) z ≡ node_record_at (set b k x) z) (sym e) (get_or-set_same c k x (record_of_node default_node) h ∙ sym (get_or-set_same b k x (record_of_node default_node) l))

    past : (m : ℕ) → (m ≡ n → ⊥) → length c ≤ k → node_record_at (set c k x) m ≡ node_record_at (set b k x) m
    past m ne h =
        let l : length b ≤ k = omega (arith, a.size, h) in
        rw (set_past c k x h, set_past b k x l) (a.same m ne)

    here : (m : ℕ) → m ≡ k → (m ≡ n → ⊥) → node_record_at (set c k x) m ≡ node_record_at (set b k x) m
    here m e ne = elim (cases_lt k (length c)) [ inl h ↦ within m e h | inr h ↦ past m ne h ]

not_own : (a : NodeId) (n : ℕ) → touches (Own a) n ≡ false → a.number ≡ n → ⊥
not_own a n f e = both_ways (a.number == n) (or_parts (a.number == n) false f).0 (subst (λ z. (a.number == z) ≡ true) e (grind (arith)))

-- after an event that touches no other node
but-own : (n : ℕ) (c b : List NodeRecord) (e : Event) → ((m : ℕ) → (m ≡ n → ⊥) → touches e m ≡ false) → IsEnabled c e → AreBut n c b → AreBut n (event_result c e).0 b
but-own n c b e alone can a =
    let k = stays c e can in
    record { size = sym k.size ∙ a.size; same = λ m ne. sym (k.same m (alone m ne)) ∙ a.same m ne }

-- ---- what the others see of the node

same_waits : (n : ℕ) (c b : List NodeRecord) → AreBut n c b → (node_record_at c n).wait ≡ (node_record_at b n).wait → (m : ℕ) → (node_record_at c m).wait ≡ (node_record_at b m).wait
same_waits n c b a w m = elim (cases_eq m n) [
  | inl e ↦ subst (λ z. (node_record_at c z).wait ≡ (node_record_at b z).wait) (sym e) w
  | inr ne ↦ ap (λ (z : NodeRecord). z.wait) (a.same m ne)
]

beside_same : (c b : List NodeRecord) → ((m : ℕ) → (node_record_at c m).wait ≡ (node_record_at b m).wait) → (side : Side) (o : Option ℕ) → shown_neighbour_state c side o ≡ shown_neighbour_state b side o
beside_same c b w side None = refl
beside_same c b w side (Some m) = ap (λ (z : Wait). shown_wait_state z side) (w m)

seen_same : (c b : List NodeRecord) → ((m : ℕ) → (node_record_at c m).wait ≡ (node_record_at b m).wait) → (m : ℕ) → neighbour_states c m ≡ neighbour_states b m
unfolding neighbour_states
seen_same c b w m =
    rw (beside_same c b w Right (neighbour_number m Right), beside_same c b w Down (neighbour_number m Down), beside_same c b w Left (neighbour_number m Left), beside_same c b w Up (neighbour_number m Up)) refl

-- ---- an event that doesn't touch the node

record Also (n : ℕ) (c b : List NodeRecord) (e : Event) : Type 0 where
  can : IsEnabled b e
  alike : AreBut n (event_result c e).0 (event_result b e).0

also : (n : ℕ) (c b : List NodeRecord) (e : Event) → AreBut n c b → ((m : ℕ) → (node_record_at c m).wait ≡ (node_record_at b m).wait) → touches e n ≡ false → IsEnabled c e → Also n c b e
also n c b (Own a) alike w f can =
    let m = a.number in
    let same : node_record_at c m ≡ node_record_at b m = alike.same m (not_own a n f) in
    let made : (own (neighbour_states c m) (node_record_at c m)).1 ≡ (own (neighbour_states b m) (node_record_at b m)).1 =
    ap (λ z. (own z (node_record_at c m)).1) (seen_same c b w m) ∙ ap (λ (z : NodeRecord). (own (neighbour_states b m) z).1) same in
    record {
      can = ap (λ (z : NodeRecord). refusal_of_own_event z) (sym same) ∙ can;
      alike = subst (λ z. AreBut n (set c m (own (neighbour_states c m) (node_record_at c m)).1) (set b m z)) made (but-set n c b m (own (neighbour_states c m) (node_record_at c m)).1 alike);
    }
also n c b (Pass w r side) alike shown f can =
    let p = or_parts (w.number == n) ((r.number == n) || false) f in
    let from : node_record_at c w.number ≡ node_record_at b w.number = alike.same w.number (not_own w n (or_from (w.number == n) false p.0 refl)) in
    let to : node_record_at c r.number ≡ node_record_at b r.number = alike.same r.number (not_own r n p.1) in
    let x = node_record_at c w.number in
    let y = node_record_at c r.number in
    record {
      can =
          ap (λ (z : NodeRecord). refusal_unless_matched (is_transfer_ready w.number r.number side z.wait (node_record_at b r.number).wait)) (sym from)
          ∙ ap (λ (z : NodeRecord). refusal_unless_matched (is_transfer_ready w.number r.number side (node_record_at c w.number).wait z.wait)) (sym to)
          ∙ can;
      alike =
          subst (λ z. AreBut n (set (set c w.number (sent x)) r.number (taken (register_t x) y)) (set (set b w.number (sent z)) r.number (taken (register_t z) (node_record_at b r.number)))) from
          (subst (λ z. AreBut n (set (set c w.number (sent x)) r.number (taken (register_t x) y)) (set (set b w.number (sent x)) r.number (taken (register_t x) z))) to
          (but-set n (set c w.number (sent x)) (set b w.number (sent x)) r.number (taken (register_t x) y) (but-set n c b w.number (sent x) alike)));
    }

-- ---- a node that makes an event of its own runs until then

runs_of : (wait : Wait) (stop : ℕ) → wait_refusal wait stop ≡ None → wait ≡ Nothing
runs_of Nothing stop h = refl
runs_of (Fetch sides) stop h = absurd (cc)
runs_of (Read sides) stop h = absurd (cc)
runs_of (Write side) stop h = absurd (cc)

some_touches : ℕ → List Event → Bool
some_touches n es = list_any (λ e. touches e n) es

own_alone : (n : ℕ) (e : Event) → IsNoTransferWithNode n e → touches e n ≡ true → (m : ℕ) → (m ≡ n → ⊥) → touches e m ≡ false
own_alone n (Own a) own h m ne = elim (or_cases (a.number == n) false h) [
  | inl q ↦ or_from (a.number == m) false (ne_eqb a.number m (λ e. ne (sym e ∙ eqb-true a.number n q))) refl
  | inr q ↦ absurd (both_ways false refl q)
]
own_alone n (Pass w r side) own h m ne = absurd (both_ways (touches (Pass w r side) n) own h)

own_runs : (n : ℕ) (c : List NodeRecord) (e : Event) → IsNoTransferWithNode n e → touches e n ≡ true → IsEnabled c e → (node_record_at c n).wait ≡ Nothing
own_runs n c (Own a) own h can = elim (or_cases (a.number == n) false h) [
  | inl q ↦ subst (λ z. (node_record_at c z).wait ≡ Nothing) (eqb-true a.number n q) (runs_of (node_record_at c a.number).wait (node_record_at c a.number).stop can)
  | inr q ↦ absurd (both_ways false refl q)
]
own_runs n c (Pass w r side) own h can = absurd (both_ways (touches (Pass w r side) n) own h)

running : (n : ℕ) (es : List Event) (c last : List NodeRecord) → replay c es ≡ Some last → All (IsNoTransferWithNode n) es → some_touches n es ≡ true → (node_record_at c n).wait ≡ Nothing
unfolding some_touches
running n [] c last led own some = absurd (both_ways false refl some)
running n (e ∷ es) c last led own some =
    let p = first_of c e es last led in
    elim (cases_Bool (touches e n)) [
      | inl h ↦ own_runs n c e (All-head (IsNoTransferWithNode n) e es own) h p.can
      | inr f ↦ elim (or_cases (touches e n) (some_touches n es) some) [
        | inl h ↦ absurd (both_ways (touches e n) f h)
        | inr more ↦ ap (λ (z : NodeRecord). z.wait) ((stays c e p.can).same n f) ∙ running n es (event_result c e).0 last p.then (All-tail (IsNoTransferWithNode n) e es own) more
      ]
    ]

-- ---- a list in which the node makes nothing

untouched : (n : ℕ) (es : List Event) (c last : List NodeRecord) → replay c es ≡ Some last → some_touches n es ≡ false → node_record_at last n ≡ node_record_at c n
unfolding some_touches
untouched n [] c last led none = ap (λ (z : List NodeRecord). node_record_at z n) (sym (same_Some c last led))
untouched n (e ∷ es) c last led none =
    let p = first_of c e es last led in
    let q = or_parts (touches e n) (some_touches n es) none in
    untouched n es (event_result c e).0 last p.then q.1 ∙ sym ((stays c e p.can).same n q.0)

all_kept : (n : ℕ) (es : List Event) → some_touches n es ≡ false → events_without_node n es ≡ es
unfolding some_touches
all_kept n [] none = refl
all_kept n (e ∷ es) none =
    let q = or_parts (touches e n) (some_touches n es) none in
    ap (λ (b : Bool). cond (not b) (e ∷ events_without_node n es) (events_without_node n es)) q.0 ∙ ap (λ (z : List Event). e ∷ z) (all_kept n es q.1)

one_chip : (n : ℕ) (c b : List NodeRecord) → AreBut n c b → node_record_at c n ≡ node_record_at b n → c ≡ b
one_chip n c b a same = ext_get_or (record_of_node default_node) c b a.size (λ m l. elim (cases_eq m n) [
  | inl e ↦ subst (λ z. node_record_at c z ≡ node_record_at b z) (sym e) same
  | inr ne ↦ a.same m ne
])

left_idle : (n : ℕ) (es : List Event) (c b last : List NodeRecord) → replay c es ≡ Some last → some_touches n es ≡ false → AreBut n c b → node_record_at last n ≡ node_record_at b n → replay b (events_without_node n es) ≡ Some last
left_idle n es c b last led none a back =
    let same : c ≡ b = one_chip n c b a (sym (untouched n es c last led none) ∙ back) in
    ap (λ (z : List Event). replay b z) (all_kept n es none) ∙ subst (λ z. replay z es ≡ Some last) same led

-- ---- the list without the node's events

abbrev IsLeft : ℕ → List Event → List NodeRecord → List NodeRecord → Type 0
IsLeft n es b last = replay b (events_without_node n es) ≡ Some last

dropped : (n : ℕ) (e : Event) (es : List Event) (b last : List NodeRecord) → touches e n ≡ true → IsLeft n es b last → IsLeft n (e ∷ es) b last
dropped n e es b last h k = ap (λ (z : Bool). replay b (cond (not z) (e ∷ events_without_node n es) (events_without_node n es))) h ∙ k

kept : (n : ℕ) (e : Event) (es : List Event) (b last : List NodeRecord) → touches e n ≡ false → IsEnabled b e → IsLeft n es (event_result b e).0 last → IsLeft n (e ∷ es) b last
kept n e es b last f can k =
    ap (λ (z : Bool). replay b (cond (not z) (e ∷ events_without_node n es) (events_without_node n es))) f
    ∙ replay_more b e (events_without_node n es) can
    ∙ k

still_waits : (n : ℕ) (b : List NodeRecord) (e : Event) → touches e n ≡ false → IsEnabled b e → (node_record_at b n).wait ≡ Nothing → (node_record_at (event_result b e).0 n).wait ≡ Nothing
still_waits n b e f can w = ap (λ (z : NodeRecord). z.wait) (sym ((stays b e can).same n f)) ∙ w

left : (n : ℕ) (es : List Event) (c b last : List NodeRecord) → replay c es ≡ Some last → All (IsNoTransferWithNode n) es → AreBut n c b → node_record_at last n ≡ node_record_at b n
    → (some_touches n es ≡ true → (node_record_at b n).wait ≡ Nothing) → IsLeft n es b last
unfolding some_touches
left n [] c b last led own a back runs = left_idle n [] c b last led refl a back
left n (e ∷ es) c b last led own a back runs =
    let p = first_of c e es last led in
    let others : All (IsNoTransferWithNode n) es = All-tail (IsNoTransferWithNode n) e es own in
    elim (cases_Bool (touches e n)) [
      | inl h ↦ dropped n e es b last h
          (left n es (event_result c e).0 b last p.then others (but-own n c b e (own_alone n e (All-head (IsNoTransferWithNode n) e es own) h) p.can a) back (λ _. runs (or_left (touches e n) (some_touches n es) h)))
      | inr f ↦ elim (cases_Bool (some_touches n es)) [
        | inl more ↦ (let there : (node_record_at b n).wait ≡ Nothing = runs (or_right (touches e n) (some_touches n es) more) in
            let here : (node_record_at c n).wait ≡ Nothing = running n (e ∷ es) c last led own (or_right (touches e n) (some_touches n es) more) in
            let q = also n c b e a (same_waits n c b a (here ∙ sym there)) f p.can in
            kept n e es b last f q.can
            (left n es (event_result c e).0 (event_result b e).0 last p.then others q.alike (back ∙ (stays b e q.can).same n f) (λ _. still_waits n b e f q.can there)))
        | inr none ↦ left_idle n (e ∷ es) c b last led (or_from (touches e n) (some_touches n es) f none) a back
      ]
    ]

-- ---- as the law states it

taken_out : (n : ℕ) (c : List NodeRecord) (es : List Event) → (r : IsPollingRound c n es) → replay c (events_without_node n es) ≡ Some r.last
taken_out n c es r = left n es c c r.last r.led r.own (record { size = refl; same = λ m ne. refl }) r.back (λ some. running n es c r.last r.led r.own some)

pub round_alone : (c : List NodeRecord) (n : ℕ) (es : List Event) → IsPollingRound c n es → events_without_node n es ≡ [] → replay c es ≡ Some c
round_alone c n es r none = r.led ∙ sym (taken_out n c es r) ∙ ap (λ (z : List Event). replay c z) none

pub round_left : (c now : List NodeRecord) (before round later : List Event) (n : ℕ) → replay c before ≡ Some now → IsPollingRound now n round
    → replay c (before ++ round ++ later) ≡ replay c (before ++ events_without_node n round ++ later)
round_left c now before round later n led r =
    replay_into (before ++ round) later c r.last (replay_into before round c now led ∙ r.led)
    ∙ sym (replay_into (before ++ events_without_node n round) later c r.last (replay_into before (events_without_node n round) c now led ∙ taken_out n now round r))

pub shorter : (n : ℕ) (es : List Event) → length (events_without_node n es) + count_steps n es ≡ length es
shorter n [] = refl
shorter n (e ∷ es) =
    ap (λ z. length (cond (not (touches e n)) (e ∷ events_without_node n es) (events_without_node n es)) + z) (sum_by-cons (λ (x : Event). cond (touches x n) 1 0) e es)
    ∙ go (touches e n) (shorter n es)
  where
    go : (b : Bool) → length (events_without_node n es) + count_steps n es ≡ length es
        → length (cond (not b) (e ∷ events_without_node n es) (events_without_node n es)) + (cond b 1 0 + count_steps n es) ≡ length (e ∷ es)
    go true h = omega (arith, h)
    go false h = omega (arith, h)

pub shortest_has_none : (c last : List NodeRecord) (es : List Event) → replay c es ≡ Some last → ((others : List Event) → replay c others ≡ Some last → length es ≤ length others) → HasNoPollingRound c es
shortest_has_none c last es led short before round later now n is first r =
    let few : length es ≤ length (before ++ events_without_node n round ++ later) =
    short (before ++ events_without_node n round ++ later) (sym (round_left c now before round later n first r) ∙ ap (λ (z : List Event). replay c z) (sym is) ∙ led) in
    let all : length es ≡ length (before ++ round ++ later) = ap (λ (z : List Event). length z) is in
    omega (arith, few, all, shorter n round, length-append (before ++ round) later, length-append before round, length-append (before ++ events_without_node n round) later, length-append before (events_without_node n round))
