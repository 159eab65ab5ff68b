-- The sides on which the nodes of an event show something else tell to which nodes it changes what is shown.
use Rattle.std.proofs.Common.{◌≡◌, ℕ, zero, suc, ◌+◌, ◌*◌, ◌<◌, ◌≤◌, ◌==◌, ◌⊎◌, Bool, true, false, not, ◌&&◌, ◌||◌, inl, inr, List, Option, Some, None, refl, sym, ◌∙◌, ap, ap₂, arith, eq-eqb, eqb-true, ne_eqb}
use Rattle.std.proofs.lemmas.Bool.{cases_eq, both_ways, or_cases, or_left, or_right, or_from, or_parts, and_parts, true_from_ne_false}
use Rattle.ga_ports.specs.declared.side.Side.{Side}
use Rattle.ga_ports.specs.declared.side.Side.TheVariants.{Right, Down, Left, Up}
use Rattle.ga_node.specs.declared.seen.NeighbourState.{NeighbourState}
use Rattle.ga_node.specs.declared.seen.NeighbourState.TheVariants.{Nobody, Idle, Reading, Writing}
use Rattle.ga_node.specs.declared.seen.SeenNeighbours.{SeenNeighbours}
use Rattle.ga_node.specs.Io.{side_io_bits, io_word}
use Rattle.ga_node.specs.Record.{NodeRecord}
use Rattle.ga_grid.specs.Grid.{neighbour_number}
use Rattle.ga_grid.specs.Chip.{node_record_at}
use Rattle.ga_grid.specs.declared.node_id.NodeId.{NodeId}
use Rattle.ga_grid.proofs.NodeIds.{neighbour_number-back}
use Rattle.ga_event.specs.declared.event.Event.{Event}
use Rattle.ga_event.specs.declared.event.Event.TheVariants.{Own, Pass}
use Rattle.ga_event.specs.Apply.{shown_wait_state, shown_neighbour_state, neighbour_states, equals_optional_number, event_result}
use Rattle.ga_races.specs.declared.act.EventAccess.{EventAccess}
use Rattle.ga_races.specs.declared.act.SideSet.{SideSet}
use Rattle.ga_races.specs.Orders.{IsEnabled}
use Rattle.ga_races.specs.HappensBefore.{trace_action_of_event}
use Rattle.ga_races.specs.Acts.{has_side_towards_node, changes_view_of_node}
use Rattle.ga_races.specs.inner.{shown_state_number, is_shown_state_changed, HasSidesChangedByEvent}
use Rattle.ga_races.proofs.Independence.{stays}
use Rattle.ga_races.proofs.Reaching.{or4_cases, or4_from}
use Rattle.ga_races.proofs.Conflicts.{number_of as number_is}

-- ---- the bits of a side

bits : ℕ → ℕ
bits zero = 2
bits (suc zero) = 0
bits (suc (suc k)) = 3

unbits : ℕ → ℕ
unbits zero = 1
unbits (suc zero) = 0
unbits (suc (suc zero)) = 0
unbits (suc (suc (suc k))) = 2

unbits_back : (b : NeighbourState) → unbits (bits (shown_state_number b)) ≡ shown_state_number b
unfolding bits unbits
unbits_back Nobody = refl
unbits_back Idle = refl
unbits_back Reading = refl
unbits_back Writing = refl

bits_few : (b : NeighbourState) → bits (shown_state_number b) ≤ 3
unfolding bits
bits_few Nobody = omega arith
bits_few Idle = omega arith
bits_few Reading = omega arith
bits_few Writing = omega arith

right_is : (b : NeighbourState) → side_io_bits b 16 15 ≡ 32768 * bits (shown_state_number b)
unfolding bits
right_is Nobody = refl
right_is Idle = refl
right_is Reading = refl
right_is Writing = refl

down_is : (b : NeighbourState) → side_io_bits b 14 13 ≡ 8192 * bits (shown_state_number b)
unfolding bits
down_is Nobody = refl
down_is Idle = refl
down_is Reading = refl
down_is Writing = refl

left_is : (b : NeighbourState) → side_io_bits b 12 11 ≡ 2048 * bits (shown_state_number b)
unfolding bits
left_is Nobody = refl
left_is Idle = refl
left_is Reading = refl
left_is Writing = refl

up_is : (b : NeighbourState) → side_io_bits b 10 9 ≡ 512 * bits (shown_state_number b)
unfolding bits
up_is Nobody = refl
up_is Idle = refl
up_is Reading = refl
up_is Writing = refl

word_of_bits : ℕ → ℕ → ℕ → ℕ → ℕ
word_of_bits r d l u = 0x155 + 32768 * r + 8192 * d + 2048 * l + 512 * u

sums : (r d l u x y z w : ℕ) → r ≡ x → d ≡ y → l ≡ z → u ≡ w → 0x155 + r + d + l + u ≡ 0x155 + x + y + z + w
sums r d l u x y z w p q s t = omega (arith, p, q, s, t)

word_is : (seen : SeenNeighbours) → io_word seen ≡ word_of_bits (bits (shown_state_number seen.right)) (bits (shown_state_number seen.down)) (bits (shown_state_number seen.left)) (bits (shown_state_number seen.up))
unfolding io_word word_of_bits
word_is seen = sums _ _ _ _ _ _ _ _ (right_is seen.right) (down_is seen.down) (left_is seen.left) (up_is seen.up)

record AreSame (r d l u x y z w : ℕ) : Type 0 where
  right : r ≡ x
  down : d ≡ y
  left : l ≡ z
  up : u ≡ w

same_bits : (r d l u x y z w : ℕ) → r ≤ 3 → d ≤ 3 → l ≤ 3 → u ≤ 3 → x ≤ 3 → y ≤ 3 → z ≤ 3 → w ≤ 3 → word_of_bits r d l u ≡ word_of_bits x y z w → AreSame r d l u x y z w
unfolding word_of_bits
same_bits r d l u x y z w a b c e f g h i q =
    let first : r ≡ x = omega arith in
    let second : d ≡ y = omega arith in
    let third : l ≡ z = omega arith in
    record { right = first; down = second; left = third; up = omega arith }

-- ---- the neighbour's state on a side

abbrev changed_at : List NodeRecord → List NodeRecord → Side → Option ℕ → Bool
changed_at c d side None = false
changed_at c d side (Some k) = is_shown_state_changed (node_record_at c k).wait (node_record_at d k).wait side

not_false : (b : Bool) → not b ≡ false → b ≡ true
not_false true h = refl
not_false false h = absurd (both_ways false refl (sym h))

bits_at : (c d : List NodeRecord) (side : Side) (o : Option ℕ) → changed_at c d side o ≡ false → bits (shown_state_number (shown_neighbour_state d side o)) ≡ bits (shown_state_number (shown_neighbour_state c side o))
bits_at c d side None h = refl
bits_at c d side (Some k) h =
    ap bits (sym (eqb-true (shown_state_number (shown_wait_state (node_record_at c k).wait side)) (shown_state_number (shown_wait_state (node_record_at d k).wait side))
    (not_false (shown_state_number (shown_wait_state (node_record_at c k).wait side) == shown_state_number (shown_wait_state (node_record_at d k).wait side)) h)))

unchanged_at : (c d : List NodeRecord) (side : Side) (o : Option ℕ) → bits (shown_state_number (shown_neighbour_state d side o)) ≡ bits (shown_state_number (shown_neighbour_state c side o)) → changed_at c d side o ≡ false
unchanged_at c d side None h = refl
unchanged_at c d side (Some k) h =
    ap not (eq-eqb (shown_state_number (shown_wait_state (node_record_at c k).wait side)) (shown_state_number (shown_wait_state (node_record_at d k).wait side))
    (sym (unbits_back (shown_wait_state (node_record_at c k).wait side)) ∙ ap unbits (sym h) ∙ unbits_back (shown_wait_state (node_record_at d k).wait side)))

changed_some : List NodeRecord → List NodeRecord → ℕ → Bool
changed_some c d n =
    changed_at c d Right (neighbour_number n Right) || (changed_at c d Down (neighbour_number n Down)
    || (changed_at c d Left (neighbour_number n Left) || changed_at c d Up (neighbour_number n Up)))

module _ (c d : List NodeRecord) (n : ℕ) where
  abbrev part : List NodeRecord → Side → ℕ
  part chip side = bits (shown_state_number (shown_neighbour_state chip side (neighbour_number n side)))

  word_at : (chip : List NodeRecord) → io_word (neighbour_states chip n) ≡ word_of_bits (part chip Right) (part chip Down) (part chip Left) (part chip Up)
  unfolding neighbour_states
  word_at chip = word_is (neighbour_states chip n)

  few : (chip : List NodeRecord) (side : Side) → part chip side ≤ 3
  few chip side = bits_few (shown_neighbour_state chip side (neighbour_number n side))

  same_all : io_word (neighbour_states d n) ≡ io_word (neighbour_states c n) → changed_some c d n ≡ false
  unfolding changed_some
  same_all q =
      let s = same_bits (part d Right) (part d Down) (part d Left) (part d Up) (part c Right) (part c Down) (part c Left) (part c Up)
      (few d Right) (few d Down) (few d Left) (few d Up) (few c Right) (few c Down) (few c Left) (few c Up) (sym (word_at d) ∙ q ∙ word_at c) in
      or_from (changed_at c d Right (neighbour_number n Right)) (changed_at c d Down (neighbour_number n Down) || (changed_at c d Left (neighbour_number n Left) || changed_at c d Up (neighbour_number n Up)))
      (unchanged_at c d Right (neighbour_number n Right) s.right)
      (or_from (changed_at c d Down (neighbour_number n Down)) (changed_at c d Left (neighbour_number n Left) || changed_at c d Up (neighbour_number n Up))
      (unchanged_at c d Down (neighbour_number n Down) s.down)
      (or_from (changed_at c d Left (neighbour_number n Left)) (changed_at c d Up (neighbour_number n Up))
      (unchanged_at c d Left (neighbour_number n Left) s.left) (unchanged_at c d Up (neighbour_number n Up) s.up)))

  all_same : changed_some c d n ≡ false → io_word (neighbour_states d n) ≡ io_word (neighbour_states c n)
  unfolding changed_some
  all_same h =
      let p = or_parts (changed_at c d Right (neighbour_number n Right)) (changed_at c d Down (neighbour_number n Down) || (changed_at c d Left (neighbour_number n Left) || changed_at c d Up (neighbour_number n Up))) h in
      let q = or_parts (changed_at c d Down (neighbour_number n Down)) (changed_at c d Left (neighbour_number n Left) || changed_at c d Up (neighbour_number n Up)) p.1 in
      let r = or_parts (changed_at c d Left (neighbour_number n Left)) (changed_at c d Up (neighbour_number n Up)) q.1 in
      word_at d
      ∙ ap₂ (λ (x y : ℕ). word_of_bits x y (part d Left) (part d Up)) (bits_at c d Right (neighbour_number n Right) p.0) (bits_at c d Down (neighbour_number n Down) q.0)
      ∙ ap₂ (λ (x y : ℕ). word_of_bits (part c Right) (part c Down) x y) (bits_at c d Left (neighbour_number n Left) r.0) (bits_at c d Up (neighbour_number n Up) r.1)
      ∙ sym (word_at c)

  changes_is : not (io_word (neighbour_states d n) == io_word (neighbour_states c n)) ≡ changed_some c d n
  changes_is = elim (cases_eq (io_word (neighbour_states d n)) (io_word (neighbour_states c n))) [
    | inl q ↦ ap not (eq-eqb (io_word (neighbour_states d n)) (io_word (neighbour_states c n)) q) ∙ sym (same_all q)
    | inr ne ↦ ap not (ne_eqb (io_word (neighbour_states d n)) (io_word (neighbour_states c n)) ne) ∙ sym (true_from_ne_false (changed_some c d n) (λ f. ne (all_same f)))
  ]

-- ---- the sides of the nodes of an event

alike : (x y : Bool) → (x ≡ true → y ≡ true) → (y ≡ true → x ≡ true) → x ≡ y
alike true true f g = refl
alike true false f g = absurd (both_ways false refl (f refl))
alike false true f g = absurd (both_ways false refl (g refl))
alike false false f g = refl

is_number_of : (o : Option ℕ) (n : ℕ) → o ≡ Some n → equals_optional_number o n ≡ true
is_number_of o n h = ap (λ (z : Option ℕ). equals_optional_number z n) h ∙ eq-eqb n n refl

-- a link leads both ways
link_back : (m n : ℕ) (side : Side) → m < 144 → n < 144 → equals_optional_number (neighbour_number m side) n ≡ equals_optional_number (neighbour_number n side) m
link_back m n side k l =
    alike (equals_optional_number (neighbour_number m side) n) (equals_optional_number (neighbour_number n side) m)
    (λ h. is_number_of (neighbour_number n side) m (neighbour_number-back m n side k (number_is (neighbour_number m side) n h)))
    (λ h. is_number_of (neighbour_number m side) n (neighbour_number-back n m side l (number_is (neighbour_number n side) m h)))

-- the change of one node on a side of another
abbrev of_node : List NodeRecord → List NodeRecord → ℕ → ℕ → Side → Bool
of_node c d m n side = is_shown_state_changed (node_record_at c m).wait (node_record_at d m).wait side && equals_optional_number (neighbour_number m side) n

unchanged : (c d : List NodeRecord) (k : ℕ) (side : Side) → node_record_at c k ≡ node_record_at d k → is_shown_state_changed (node_record_at c k).wait (node_record_at d k).wait side ≡ false
unchanged c d k side same =
    ap (λ (z : NodeRecord). is_shown_state_changed (node_record_at c k).wait z.wait side) (sym same) ∙ ap not (eq-eqb (shown_state_number (shown_wait_state (node_record_at c k).wait side)) (shown_state_number (shown_wait_state (node_record_at c k).wait side)) refl)

-- which gives the side of the other all that changes there, where no other node has changed
node_to : (c d : List NodeRecord) (m n : ℕ) (side : Side) → m < 144 → n < 144 → of_node c d m n side ≡ true → changed_at c d side (neighbour_number n side) ≡ true
node_to c d m n side k l h =
    let p = and_parts (is_shown_state_changed (node_record_at c m).wait (node_record_at d m).wait side) (equals_optional_number (neighbour_number m side) n) h in
    ap (changed_at c d side) (neighbour_number-back m n side k (number_is (neighbour_number m side) n p.1)) ∙ p.0

to_node : (c d : List NodeRecord) (m n k : ℕ) (side : Side) → n < 144 → neighbour_number n side ≡ Some k → k ≡ m → changed_at c d side (neighbour_number n side) ≡ true → of_node c d m n side ≡ true
to_node c d m n k side l near at h =
    let there : neighbour_number n side ≡ Some m = near ∙ ap Some at in
    ap₂ (λ (x y : Bool). x && y) (sym (ap (changed_at c d side) there) ∙ h) (is_number_of (neighbour_number m side) n (neighbour_number-back n m side l there))

-- the neighbour on a side, where something has changed there
neighbour_there : (c d : List NodeRecord) (side : Side) (o : Option ℕ) → changed_at c d side o ≡ true → (k : ℕ) × (o ≡ Some k) × (node_record_at c k ≡ node_record_at d k → ⊥)
neighbour_there c d side None h = absurd (both_ways false refl h)
neighbour_there c d side (Some k) h = (k, refl, λ same. both_ways (is_shown_state_changed (node_record_at c k).wait (node_record_at d k).wait side) (unchanged c d k side same) h)

module _ (c : List NodeRecord) (n : ℕ) (l : n < 144) where
  own_side : (m : NodeId) (side : Side) → IsEnabled c (Own m) → of_node c (event_result c (Own m)).0 m.number n side ≡ changed_at c (event_result c (Own m)).0 side (neighbour_number n side)
  own_side m side can = alike (of_node c (event_result c (Own m)).0 m.number n side) (changed_at c (event_result c (Own m)).0 side (neighbour_number n side)) (node_to c (event_result c (Own m)).0 m.number n side m.in_range l) back
    where
      back : changed_at c (event_result c (Own m)).0 side (neighbour_number n side) ≡ true → of_node c (event_result c (Own m)).0 m.number n side ≡ true
      back h =
          let k = neighbour_there c (event_result c (Own m)).0 side (neighbour_number n side) h in
          elim (cases_eq m.number k.0) [
            | inl q ↦ to_node c (event_result c (Own m)).0 m.number n k.0 side l k.1 (sym q) h
            | inr ne ↦ absurd (k.2 ((stays c (Own m) can).same k.0 (or_from (m.number == k.0) false (ne_eqb m.number k.0 ne) refl)))
          ]

  pass_side : (w r : NodeId) (s side : Side) → IsEnabled c (Pass w r s)
      → (of_node c (event_result c (Pass w r s)).0 w.number n side || of_node c (event_result c (Pass w r s)).0 r.number n side) ≡ changed_at c (event_result c (Pass w r s)).0 side (neighbour_number n side)
  pass_side w r s side can =
      alike (of_node c (event_result c (Pass w r s)).0 w.number n side || of_node c (event_result c (Pass w r s)).0 r.number n side) (changed_at c (event_result c (Pass w r s)).0 side (neighbour_number n side)) forth back
    where
      forth : (of_node c (event_result c (Pass w r s)).0 w.number n side || of_node c (event_result c (Pass w r s)).0 r.number n side) ≡ true → changed_at c (event_result c (Pass w r s)).0 side (neighbour_number n side) ≡ true
      forth h = elim (or_cases (of_node c (event_result c (Pass w r s)).0 w.number n side) (of_node c (event_result c (Pass w r s)).0 r.number n side) h) [
        | inl k ↦ node_to c (event_result c (Pass w r s)).0 w.number n side w.in_range l k
        | inr k ↦ node_to c (event_result c (Pass w r s)).0 r.number n side r.in_range l k
      ]

      back : changed_at c (event_result c (Pass w r s)).0 side (neighbour_number n side) ≡ true → (of_node c (event_result c (Pass w r s)).0 w.number n side || of_node c (event_result c (Pass w r s)).0 r.number n side) ≡ true
      back h =
          let k = neighbour_there c (event_result c (Pass w r s)).0 side (neighbour_number n side) h in
          elim (cases_eq w.number k.0) [
            | inl q ↦ or_left (of_node c (event_result c (Pass w r s)).0 w.number n side) (of_node c (event_result c (Pass w r s)).0 r.number n side) (to_node c (event_result c (Pass w r s)).0 w.number n k.0 side l k.1 (sym q) h)
            | inr ne ↦ elim (cases_eq r.number k.0) [
              | inl q ↦ or_right (of_node c (event_result c (Pass w r s)).0 w.number n side) (of_node c (event_result c (Pass w r s)).0 r.number n side) (to_node c (event_result c (Pass w r s)).0 r.number n k.0 side l k.1 (sym q) h)
              | inr apart ↦ absurd (k.2 ((stays c (Pass w r s) can).same k.0 (or_from (w.number == k.0) (r.number == k.0 || false) (ne_eqb w.number k.0 ne) (or_from (r.number == k.0) false (ne_eqb r.number k.0 apart) refl))))
            ]
          ]

or8 : (a b c d x y z w : Bool) → ((a || (b || (c || d))) || (x || (y || (z || w)))) ≡ ((a || x) || ((b || y) || ((c || z) || (d || w))))
or8 a b c d x y z w = alike ((a || (b || (c || d))) || (x || (y || (z || w)))) ((a || x) || ((b || y) || ((c || z) || (d || w)))) forth back
  where
    first4 : (a ≡ true) ⊎ ((b ≡ true) ⊎ ((c ≡ true) ⊎ (d ≡ true))) → ((a || x) || ((b || y) || ((c || z) || (d || w)))) ≡ true
    first4 (inl h) = or4_from (a || x) (b || y) (c || z) (d || w) (inl (or_left a x h))
    first4 (inr (inl h)) = or4_from (a || x) (b || y) (c || z) (d || w) (inr (inl (or_left b y h)))
    first4 (inr (inr (inl h))) = or4_from (a || x) (b || y) (c || z) (d || w) (inr (inr (inl (or_left c z h))))
    first4 (inr (inr (inr h))) = or4_from (a || x) (b || y) (c || z) (d || w) (inr (inr (inr (or_left d w h))))

    second4 : (x ≡ true) ⊎ ((y ≡ true) ⊎ ((z ≡ true) ⊎ (w ≡ true))) → ((a || x) || ((b || y) || ((c || z) || (d || w)))) ≡ true
    second4 (inl h) = or4_from (a || x) (b || y) (c || z) (d || w) (inl (or_right a x h))
    second4 (inr (inl h)) = or4_from (a || x) (b || y) (c || z) (d || w) (inr (inl (or_right b y h)))
    second4 (inr (inr (inl h))) = or4_from (a || x) (b || y) (c || z) (d || w) (inr (inr (inl (or_right c z h))))
    second4 (inr (inr (inr h))) = or4_from (a || x) (b || y) (c || z) (d || w) (inr (inr (inr (or_right d w h))))

    forth : ((a || (b || (c || d))) || (x || (y || (z || w)))) ≡ true → ((a || x) || ((b || y) || ((c || z) || (d || w)))) ≡ true
    forth h = elim (or_cases (a || (b || (c || d))) (x || (y || (z || w))) h) [
      | inl k ↦ first4 (or4_cases a b c d k)
      | inr k ↦ second4 (or4_cases x y z w k)
    ]

    one : (a ≡ true) ⊎ ((b ≡ true) ⊎ ((c ≡ true) ⊎ (d ≡ true))) → ((a || (b || (c || d))) || (x || (y || (z || w)))) ≡ true
    one h = or_left (a || (b || (c || d))) (x || (y || (z || w))) (or4_from a b c d h)

    two : (x ≡ true) ⊎ ((y ≡ true) ⊎ ((z ≡ true) ⊎ (w ≡ true))) → ((a || (b || (c || d))) || (x || (y || (z || w)))) ≡ true
    two h = or_right (a || (b || (c || d))) (x || (y || (z || w))) (or4_from x y z w h)

    back : ((a || x) || ((b || y) || ((c || z) || (d || w)))) ≡ true → ((a || (b || (c || d))) || (x || (y || (z || w)))) ≡ true
    back h = go (or4_cases (a || x) (b || y) (c || z) (d || w) h)
      where
        go : ((a || x) ≡ true) ⊎ (((b || y) ≡ true) ⊎ (((c || z) ≡ true) ⊎ ((d || w) ≡ true))) → ((a || (b || (c || d))) || (x || (y || (z || w)))) ≡ true
        go (inl k) = elim (or_cases a x k) [ inl j ↦ one (inl j) | inr j ↦ two (inl j) ]
        go (inr (inl k)) = elim (or_cases b y k) [ inl j ↦ one (inr (inl j)) | inr j ↦ two (inr (inl j)) ]
        go (inr (inr (inl k))) = elim (or_cases c z k) [ inl j ↦ one (inr (inr (inl j))) | inr j ↦ two (inr (inr (inl j))) ]
        go (inr (inr (inr k))) = elim (or_cases d w k) [ inl j ↦ one (inr (inr (inr j))) | inr j ↦ two (inr (inr (inr j))) ]

four : (a b c d x y z w : Bool) → a ≡ x → b ≡ y → c ≡ z → d ≡ w → (a || (b || (c || d))) ≡ (x || (y || (z || w)))
four a b c d x y z w p q r s = ap₂ (λ (i j : Bool). i || j) p (ap₂ (λ (i j : Bool). i || j) q (ap₂ (λ (i j : Bool). i || j) r s))

sides_of : (e : Event) (c : List NodeRecord) (act : EventAccess) (n : ℕ) → n < 144 → IsEnabled c e → HasSidesChangedByEvent c (event_result c e).0 act e → changes_view_of_node e act.first act.second n ≡ changed_some c (event_result c e).0 n
unfolding changed_some
sides_of (Own m) c act n l can has =
    ap (λ (s : SideSet). has_side_towards_node s m.number n) has
    ∙ four _ _ _ _ _ _ _ _ (own_side c n l m Right can) (own_side c n l m Down can) (own_side c n l m Left can) (own_side c n l m Up can)
sides_of (Pass w r s) c act n l can has =
    ap₂ (λ (x y : SideSet). has_side_towards_node x w.number n || has_side_towards_node y r.number n) has.0 has.1
    ∙ or8 (of_node c (event_result c (Pass w r s)).0 w.number n Right) (of_node c (event_result c (Pass w r s)).0 w.number n Down) (of_node c (event_result c (Pass w r s)).0 w.number n Left) (of_node c (event_result c (Pass w r s)).0 w.number n Up) (of_node c (event_result c (Pass w r s)).0 r.number n Right) (of_node c (event_result c (Pass w r s)).0 r.number n Down) (of_node c (event_result c (Pass w r s)).0 r.number n Left) (of_node c (event_result c (Pass w r s)).0 r.number n Up)
    ∙ four _ _ _ _ _ _ _ _ (pass_side c n l w r s Right can) (pass_side c n l w r s Down can) (pass_side c n l w r s Left can) (pass_side c n l w r s Up can)

pub act_changes : (c : List NodeRecord) (e : Event) (act : EventAccess) (n : ℕ) → n < 144 → IsEnabled c e → act.cause.event ≡ e → HasSidesChangedByEvent c (event_result c e).0 act e
    → changes_view_of_node act.cause.event act.first act.second n ≡ (trace_action_of_event c e).changes n
act_changes c e act n l can is has =
    ap (λ (z : Event). changes_view_of_node z act.first act.second n) is ∙ sides_of e c act n l can has ∙ sym (changes_is c (event_result c e).0 n)
