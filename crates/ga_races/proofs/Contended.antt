-- A list that ends without a next event has no race where nothing is near and nothing is contended.
use Rattle.std.proofs.Common.{◌≡◌, ℕ, zero, suc, ◌<◌, ◌≤◌, ◌⊎◌, true, false, ◌||◌, inl, inr, List, [], ◌∷◌, ◌++◌, length, Some, ◌↔◌, sym, ◌∙◌, ap, subst, arith, length-append, ◌+◌}
use Rattle.std.specs.List.{list_any}
use Rattle.std.proofs.lemmas.Bool.{cases_lt, cases_order, both_ways, or_left}
use Rattle.std.proofs.lemmas.Option.{same_Some}
use Rattle.ga_ports.specs.declared.side.Side.{Side}
use Rattle.ga_node.specs.Record.{NodeRecord}
use Rattle.ga_grid.specs.Chip.{node_record_at}
use Rattle.ga_grid.specs.Grid.{neighbour_number}
use Rattle.ga_grid.specs.declared.node_id.NodeId.{NodeId}
use Rattle.ga_event.specs.declared.event.Event.{Event}
use Rattle.ga_event.specs.declared.event.Event.TheVariants.{Own, Pass}
use Rattle.ga_event.specs.Touches.{event_nodes, touches}
use Rattle.ga_event.specs.Apply.{waits_to_write_side, waits_to_read_side, event_result, replay}
use Rattle.ga_races.specs.Orders.{IsEnabled, IsTerminalChip, AreReorderings, same, swapped, later, joined, HasNoRace, IsRace, AreConflictingPasses}
use Rattle.ga_races.specs.HappensBefore.{TraceAction, trace_actions_of_events, trace_action_at, is_look_changed_by, are_dependent_actions, HappensBefore, chip_after_prefix, event_at_place, IsRacingPair, IsContendedPass}
use Rattle.ga_races.proofs.Independence.{first_of, touches_reader, any_at, free-sym}
use Rattle.ga_races.proofs.Orders.{order_replay, order_read, steps_read}
use Rattle.ga_races.proofs.Conflicts.{one_side, one_way, no_writer, wait_at, at_node, at_two, Open, open_of, number_of}
use Rattle.ga_races.proofs.Exact.{replay_into, Entry}
use Rattle.ga_races.proofs.Moves.{tally, Moves, moves_of, before_within, tally_grows}
use Rattle.ga_races.proofs.Before.{actions_length}
use Rattle.ga_races.proofs.Sweeps.{near_races, writer_apart, contended_races, action_there, chip_there}
use Rattle.ga_races.proofs.Nearest.{IsRivalled, IsTold, near, rivalled, told_head, told_behind, round_trip, happens_moved, near_moved}
use Rattle.ga_races.proofs.Tallies.{tally_total, record_same, tally_up, between, below}

-- ---- reorderings, from the other list to the one

order-sym : (c : List NodeRecord) (xs ys : List Event) → AreReorderings c xs ys → AreReorderings c ys xs
order-sym c xs ys same = same
order-sym c xs ys (swapped {e} {f} {xs = zs} cane canf h) = swapped canf cane (free-sym c e f h)
order-sym c xs ys (later {e} {xs = us} {ys = vs} can h) = later can (order-sym (event_result c e).0 us vs h)
order-sym c xs ys (joined {ys = zs} h k) = joined (order-sym c zs ys k) (order-sym c xs zs h)

-- ---- a pass that another writer could have taken the place of

can_at : (es : List Event) (c last : List NodeRecord) (q : ℕ) → replay c es ≡ Some last → q < length es → IsEnabled (chip_after_prefix c es q) (event_at_place c es q)
can_at [] c last q h l = absurd (omega (arith, l))
can_at (e ∷ es) c last zero h l = (first_of c e es last h).can
can_at (e ∷ es) c last (suc q) h l = can_at es (event_result c e).0 last q ((first_of c e es last h).then) (omega (arith, l))

-- the next event of a node that waits to write is a pass to the reader
only_pass : (d : List NodeRecord) (g : Event) (x r : NodeId) (side : Side) → IsEnabled d g → touches g x.number ≡ true → waits_to_write_side (node_record_at d x.number).wait side ≡ true → neighbour_number x.number side ≡ Some r.number → touches g r.number ≡ true
only_pass d (Own a) x r side can t writes neighbour_on_side = absurd (no_writer (node_record_at d x.number).wait side (wait_at d a can x.number (at_node a.number x.number t)) writes)
only_pass d (Pass w y s) x r side can t writes neighbour_on_side = go (at_two w.number y.number x.number t) (open_of d w y s can)
  where
    go : (w.number ≡ x.number) ⊎ (y.number ≡ x.number) → Open d w y s → touches (Pass w y s) r.number ≡ true
    go (inl e) o =
        let same_side : s ≡ side = one_side (node_record_at d x.number).wait s side (subst (λ (z : ℕ). waits_to_write_side (node_record_at d z).wait s ≡ true) e o.writes) writes in
        let there : neighbour_number x.number side ≡ Some y.number = ap (λ (z : Side). neighbour_number x.number z) (sym same_side) ∙ ap (λ (z : ℕ). neighbour_number z s) (sym e) ∙ number_of (neighbour_number w.number s) y.number o.near in
        subst (λ (z : ℕ). touches (Pass w y s) z ≡ true) (same_Some y.number r.number (sym there ∙ neighbour_on_side)) (touches_reader w y s)
    go (inr e) o = absurd (one_way (node_record_at d x.number).wait side s writes (subst (λ (z : ℕ). waits_to_read_side (node_record_at d z).wait s ≡ true) e o.reads))

module _ (c last : List NodeRecord) (xs ys : List Event) (h : replay c xs ≡ Some last) (order : AreReorderings c xs ys) (f b : ℕ → ℕ) (m : Moves f (trace_actions_of_events c xs) (trace_actions_of_events c ys)) (w : Moves b (trace_actions_of_events c ys) (trace_actions_of_events c xs)) (p : ℕ) (other : Event) (r : IsRivalled c ys p other) where
  abbrev x : ℕ
  x = r.rivals.second.number

  abbrev rd : ℕ
  rd = r.rivals.reader.number

  abbrev a : ℕ
  a = tally x (trace_actions_of_events c ys) p

  led : replay c ys ≡ Some last
  led = sym (order_replay c xs ys order) ∙ h

  size : length (trace_actions_of_events c ys) ≡ length ys
  size = actions_length c ys

  size_of : length (trace_actions_of_events c xs) ≡ length xs
  size_of = actions_length c xs

  stands : p < length (trace_actions_of_events c ys)
  stands = let l : p < length ys = r.stands in omega (arith, l, size)

  ends : Open (chip_after_prefix c ys p) r.rivals.second r.rivals.reader r.rivals.other
  ends = open_of (chip_after_prefix c ys p) r.rivals.second r.rivals.reader r.rivals.other (subst (IsEnabled (chip_after_prefix c ys p)) r.rivals.two r.can)

  neighbour_on_side : neighbour_number x r.rivals.other ≡ Some rd
  neighbour_on_side = number_of (neighbour_number x r.rivals.other) rd ends.near

  read : touches (event_at_place c ys p) rd ≡ true
  read = ap (λ (z : Event). touches z rd) r.rivals.one ∙ touches_reader r.rivals.first r.rivals.reader r.rivals.side

  unwritten : touches (event_at_place c ys p) x ≡ false
  unwritten = ap (λ (z : Event). touches z x) r.rivals.one ∙ writer_apart r.rivals.first r.rivals.reader r.rivals.second r.rivals.side r.rivals.other r.rivals.writers neighbour_on_side

  -- a later step of the writer comes after the pass
  next_later : (q : ℕ) → q < length (trace_actions_of_events c xs) → touches (trace_action_at (trace_actions_of_events c xs) q).cause.event x ≡ true → tally x (trace_actions_of_events c xs) q ≡ a → b p < q
  next_later q l t is = elim (cases_order (f q) p) [
    | inl e ↦ absurd (both_ways (touches (event_at_place c ys p) x) unwritten (subst (λ (z : ℕ). touches (event_at_place c ys z) x ≡ true) e at_there))
    | inr (inl k) ↦ (let g : tally x (trace_actions_of_events c ys) (f q) < a = tally_grows x (trace_actions_of_events c ys) (f q) p k (m.within q l) at_there in absurd (omega (arith, g, count)))
    | inr (inr k) ↦ subst (λ (z : ℕ). b p < z) (round_trip (trace_actions_of_events c ys) (trace_actions_of_events c xs) b f w m q l) (w.order p (f q) k (m.within q l) (bound_at k))
  ]
    where
      at_there : touches (trace_action_at (trace_actions_of_events c ys) (f q)).cause.event x ≡ true
      at_there = ap (λ (z : TraceAction). touches z.cause.event x) (sym (m.alike q l)) ∙ t

      count : tally x (trace_actions_of_events c ys) (f q) ≡ a
      count = sym (m.steps x q l t) ∙ is

      bound_at : p < f q → are_dependent_actions (trace_action_at (trace_actions_of_events c ys) p) (trace_action_at (trace_actions_of_events c ys) (f q)) ≡ true
      bound_at k =
          let in_list : f q < length (trace_actions_of_events c ys) = m.within q l in
          let there : f q < length ys = omega (arith, in_list, size) in
          let held : node_record_at (chip_after_prefix c ys (f q)) x ≡ node_record_at (chip_after_prefix c ys p) x =
          record_same c last ys ys x (f q) p led same (omega (arith, there)) (let s : p < length ys = r.stands in omega (arith, s)) count in
          let takes : touches (event_at_place c ys (f q)) rd ≡ true =
          only_pass (chip_after_prefix c ys (f q)) (event_at_place c ys (f q)) r.rivals.second r.rivals.reader r.rivals.other (can_at ys c last (f q) led there) at_there
          (ap (λ (z : NodeRecord). waits_to_write_side z.wait r.rivals.other) held ∙ ends.writes) neighbour_on_side in
          or_left (list_any (touches (event_at_place c ys p)) (event_nodes (event_at_place c ys (f q)))) (is_look_changed_by (trace_action_at (trace_actions_of_events c ys) p) (trace_action_at (trace_actions_of_events c ys) (f q)) || is_look_changed_by (trace_action_at (trace_actions_of_events c ys) (f q)) (trace_action_at (trace_actions_of_events c ys) p))
          (any_at (touches (event_at_place c ys p)) (event_nodes (event_at_place c ys (f q))) rd takes read)

  low : tally x (trace_actions_of_events c xs) (b p) ≤ a
  low = elim (cases_lt a (tally x (trace_actions_of_events c xs) (b p))) [
    | inl l ↦ (let k = below x (trace_actions_of_events c xs) (b p) a l in
        let u : k.at < b p = k.before in
        let v : b p < k.at = next_later k.at k.within k.touched k.is in
        absurd (omega (arith, u, v)))
    | inr l ↦ l
  ]

  total : tally x (trace_actions_of_events c ys) (length (trace_actions_of_events c ys)) ≡ tally x (trace_actions_of_events c xs) (length (trace_actions_of_events c xs))
  total =
      ap (tally x (trace_actions_of_events c ys)) size ∙ tally_total x ys c ∙ sym (steps_read x c ys) ∙ ap (λ (z : List Entry). length z) (sym (order_read x c xs ys order)) ∙ steps_read x c xs
      ∙ sym (tally_total x xs c) ∙ sym (ap (tally x (trace_actions_of_events c xs)) size_of)

  place : (k : ℕ) × (b p ≤ k) × (k ≤ length (trace_actions_of_events c xs)) × (tally x (trace_actions_of_events c xs) k ≡ a)
  place =
      let up : a ≤ tally x (trace_actions_of_events c ys) (length (trace_actions_of_events c ys)) = tally_up x (trace_actions_of_events c ys) p (length (trace_actions_of_events c ys)) (omega (arith, stands)) in
      let inside : b p < length (trace_actions_of_events c xs) = w.within p stands in
      between x (trace_actions_of_events c xs) (b p) a (omega (arith, inside)) low (omega (arith, up, total))

  contended_of : IsContendedPass c xs (b p) other
  contended_of =
      let made : event_at_place c xs (b p) ≡ event_at_place c ys p = ap (λ (z : TraceAction). z.cause.event) (sym (w.alike p stands)) in
      let inside : b p < length (trace_actions_of_events c xs) = w.within p stands in
      let most : place.0 ≤ length (trace_actions_of_events c xs) = place.2 in
      let here : p < length ys = r.stands in
      record {
        rivals = record {
          first = r.rivals.first;
          second = r.rivals.second;
          reader = r.rivals.reader;
          side = r.rivals.side;
          other = r.rivals.other;
          one = made ∙ r.rivals.one;
          two = r.rivals.two;
          writers = r.rivals.writers;
          sides = r.rivals.sides;
        };
        stands = omega (arith, inside, size_of);
        posted = place.0;
        before = place.1;
        within = omega (arith, most, size_of);
        near = neighbour_on_side;
        reads = ap (λ (z : NodeRecord). waits_to_read_side z.wait r.rivals.other)
            (record_same c last xs ys rd (b p) p h order (omega (arith, inside, size_of)) (omega (arith, here)) (sym (w.steps rd p stands read))) ∙ ends.reads;
        writes = ap (λ (z : NodeRecord). waits_to_write_side z.wait r.rivals.other)
            (record_same c last xs ys x place.0 p h order (omega (arith, most, size_of)) (omega (arith, here)) place.3) ∙ ends.writes;
        none = λ step l t happens.
            let in_list : step < length (trace_actions_of_events c xs) = omega (arith, l, most) in
            let fewer : tally x (trace_actions_of_events c xs) step < tally x (trace_actions_of_events c xs) place.0 = tally_grows x (trace_actions_of_events c xs) step place.0 l in_list t in
            let moved : HappensBefore (trace_actions_of_events c ys) p (f step) =
            subst (λ (z : ℕ). HappensBefore (trace_actions_of_events c ys) z (f step)) (round_trip (trace_actions_of_events c xs) (trace_actions_of_events c ys) f b m w p stands) (happens_moved (trace_actions_of_events c xs) (trace_actions_of_events c ys) f (b p) step m happens) in
            let k : p < f step = (before_within (trace_actions_of_events c ys) p (f step) moved).0 in
            let more : a ≤ tally x (trace_actions_of_events c ys) (f step) = tally_up x (trace_actions_of_events c ys) p (f step) (omega (arith, k)) in
            let count : tally x (trace_actions_of_events c xs) step ≡ tally x (trace_actions_of_events c ys) (f step) = m.steps x step in_list t in
            let is : tally x (trace_actions_of_events c xs) place.0 ≡ a = place.3 in
            omega (arith, fewer, more, count, is);
      }

-- ---- as the law states it

-- each race of two passes is contended
pub rivals_contended : (c last : List NodeRecord) (es : List Event) (step other : Event) → replay c es ≡ Some last → IsRace c es step other → AreConflictingPasses step other
    → (i : ℕ) × (event_at_place c es i ≡ step) × IsContendedPass c es i other
rivals_contended c last es step other h r rivals =
    let ys : List Event = r.before ++ step ∷ r.later in
    let at : event_at_place c ys (length r.before) ≡ step = ap (λ (a : TraceAction). a.cause.event) (action_there r.before c r.now step r.later r.led) in
    let size : length ys ≡ length r.before + suc (length r.later) = length-append r.before (step ∷ r.later) in
    let all : length (trace_actions_of_events c ys) ≡ length ys = actions_length c ys in
    let f = moves_of c es ys r.order in
    let b = moves_of c ys es (order-sym c es ys r.order) in
    let told : IsRivalled c ys (length r.before) other = record {
      stands = omega (arith, size);
      rivals = subst (λ (z : Event). AreConflictingPasses z other) (sym at) rivals;
      can = subst (λ (z : List NodeRecord). IsEnabled z other) (sym (chip_there r.before c r.now (step ∷ r.later) r.led)) r.can;
    } in (
      b.0 (length r.before),
      ap (λ (a : TraceAction). a.cause.event) (sym (b.1.alike (length r.before) (omega (arith, size, all)))) ∙ at,
      contended_of c last es ys h r.order f.0 b.0 f.1 b.1 (length r.before) other told,
    )

pub none_told : (c last : List NodeRecord) (es : List Event) → replay c es ≡ Some last → IsTerminalChip last → ((i j : ℕ) → IsRacingPair c es i j → ⊥) → ((i : ℕ) (other : Event) → IsContendedPass c es i other → ⊥) → HasNoRace c es
none_told c last es h end out calm step other r = go (told_behind r.before (step ∷ r.later) c r.now r.led (told_head r.now last step r.later other there end r.can r.differ r.bound))
  where
    ys : List Event
    ys = r.before ++ step ∷ r.later

    there : replay r.now (step ∷ r.later) ≡ Some last
    there = sym (replay_into r.before (step ∷ r.later) c r.now r.led) ∙ sym (order_replay c es (r.before ++ step ∷ r.later) r.order) ∙ h

    go : IsTold c (r.before ++ step ∷ r.later) → ⊥
    go (near {i} {j} n) =
        let f = moves_of c es (r.before ++ step ∷ r.later) r.order in
        let b = moves_of c (r.before ++ step ∷ r.later) es (order-sym c es (r.before ++ step ∷ r.later) r.order) in
        out (b.0 i) (b.0 j) (near_moved c es (r.before ++ step ∷ r.later) f.0 b.0 f.1 b.1 i j n)
    go (rivalled {i} {other = rival} n) =
        let f = moves_of c es (r.before ++ step ∷ r.later) r.order in
        let b = moves_of c (r.before ++ step ∷ r.later) es (order-sym c es (r.before ++ step ∷ r.later) r.order) in
        calm (b.0 i) rival (contended_of c last es (r.before ++ step ∷ r.later) h r.order f.0 b.0 f.1 b.1 i rival n)

pub decided_by : (c last : List NodeRecord) (es : List Event) → replay c es ≡ Some last → IsTerminalChip last
    → HasNoRace c es ↔ (((i j : ℕ) → IsRacingPair c es i j → ⊥) × ((i : ℕ) (other : Event) → IsContendedPass c es i other → ⊥))
decided_by c last es h end = (
  λ calm. (λ i j n. calm (event_at_place c es i) (event_at_place c es j) (near_races es c last i j h n), λ i other n. calm (event_at_place c es i) other (contended_races c last es i other h n)),
  λ told. none_told c last es h end told.0 told.1,
)
