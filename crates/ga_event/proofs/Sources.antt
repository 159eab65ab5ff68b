-- What isn't among the sources of a value gave nothing to it.
use Rattle.std.proofs.Common.{◌≡◌, ◌≢◌, ℕ, ◌<◌, ◌≤◌, ◌==◌, cond, List, [], ◌∷◌, ◌++◌, length, refl, sym, ap, ◌∙◌, subst, arith, ◌⊎◌, inl, inr, ⊎_elim, slice_index}
use Rattle.std.specs.Prelude.{slice_set, Option, Some, None, option_map, option_and_then}
use Rattle.std.proofs.lemmas.Option.{same_Some}
use Rattle.std.proofs.Common.{eq-eqb}
use Rattle.std.proofs.lemmas.Bool.{cases_eq, cases_lt, ne_eqb}
use Rattle.std.proofs.lemmas.List.{get_or_past, get_or-set_same, get_or-set_other, length-set}
use Rattle.ga_node.specs.Record.{NodeRecord, HasValidListSizes, record_of_node}
use Rattle.ga_node.specs.Io.{io_word}
use Rattle.ga_node.specs.Table.{register_t, own, sent, taken}
use Rattle.ga_event.specs.declared.flow.part.NodePart.{NodePart}
use Rattle.ga_event.specs.declared.flow.part.NodePart.TheVariants.{Data as OfD, Return as OfR, Ram as OfRam, Rom as OfRom, A as OfA, B as OfB, P as OfP, I as OfI, Io as OfIo, Carry as OfCarry, Slot as OfSlot, Wait as OfWait, Stop as OfStop, OutsideWord}
use Rattle.ga_event.specs.Flow.{ValueFlow, CopiedFromPart, From, top_data_part, node_part_value, IsNodePartInRange, flow_of_own_event, flow_after_send, flow_after_take, AreNodesAlikeAtParts, AreBothValuesFromFlow}
use Rattle.ga_event.proofs.Flowing.{own_flows, own_sizes, sent_flows, sent_sizes, taken_flows, taken_sizes}
use Rattle.ga_grid.specs.Chip.{node_record_at, default_node}
use Rattle.ga_event.specs.declared.event.Event.{Event}
use Rattle.ga_event.specs.declared.event.Event.TheVariants.{Own, Pass}
use Rattle.ga_event.specs.declared.event.EventWithLook.{EventWithLook}
use Rattle.ga_node.specs.declared.kind.EventRefusal.{EventRefusal}
use Rattle.ga_event.specs.Apply.{neighbour_states, event_result, MadeEventOutcome, run_events, replay, event_with_look_on_chip, some_if_allowed, event_refusal}
use Rattle.ga_event.specs.Sources.{PartSources, initial_sources, sources_of_part, sources_of_parts, sources_of_flow, sources_after_event, sources_after_events, chip_after_events, IsEventDecidedAlike, AreEventsDecidedAlike, AreChipsAlikeAtNodeParts, HaveNodesValidListSizes}

-- the parts of the node alone don't change with the word from outside
word_free : (word : ℕ) (n : NodeRecord) (part : NodePart) → IsNodePartInRange part → node_part_value word n part ≡ node_part_value 0 n part
word_free word n (OfD k) is = refl
word_free word n (OfR k) is = refl
word_free word n (OfRam k) is = refl
word_free word n (OfRom k) is = refl
word_free word n OfA is = refl
word_free word n OfB is = refl
word_free word n OfP is = refl
word_free word n OfI is = refl
word_free word n OfIo is = refl
word_free word n OfCarry is = refl
word_free word n OfSlot is = refl
word_free word n OfWait is = refl
word_free word n OfStop is = refl
word_free word n OutsideWord is = absurd is

past_both : (xs ys : List ℕ) (size k : ℕ) → length xs ≡ size → length ys ≡ size → size ≤ k → slice_index xs k ≡ slice_index ys k
past_both xs ys size k long long' l = get_or_past xs k 0 (omega arith) ∙ sym (get_or_past ys k 0 (omega arith))

-- either each node has the part, or its value is the same in both nodes
part_or_none : (n m : NodeRecord) (part : NodePart) → HasValidListSizes n → HasValidListSizes m → IsNodePartInRange part ⊎ (node_part_value 0 n part ≡ node_part_value 0 m part)
part_or_none n m (OfD k) left right = ⊎_elim (λ l. inl l) (λ l. inr (past_both n.d m.d 10 k left.d right.d l)) (cases_lt k 10)
part_or_none n m (OfR k) left right = ⊎_elim (λ l. inl l) (λ l. inr (past_both n.r m.r 9 k left.r right.r l)) (cases_lt k 9)
part_or_none n m (OfRam k) left right = ⊎_elim (λ l. inl l) (λ l. inr (past_both n.ram m.ram 64 k left.ram right.ram l)) (cases_lt k 64)
part_or_none n m (OfRom k) left right = ⊎_elim (λ l. inl l) (λ l. inr (past_both n.rom m.rom 64 k left.rom right.rom l)) (cases_lt k 64)
part_or_none n m OfA left right = inl tt
part_or_none n m OfB left right = inl tt
part_or_none n m OfP left right = inl tt
part_or_none n m OfI left right = inl tt
part_or_none n m OfIo left right = inl tt
part_or_none n m OfCarry left right = inl tt
part_or_none n m OfSlot left right = inl tt
part_or_none n m OfWait left right = inl tt
part_or_none n m OfStop left right = inl tt
part_or_none n m OutsideWord left right = inr refl

module _ (first second : List NodeRecord) where
  first_of : (xs ys : List (ℕ × NodePart)) → AreChipsAlikeAtNodeParts first second (xs ++ ys) → AreChipsAlikeAtNodeParts first second xs
  first_of [] ys same = tt
  first_of (x ∷ xs) ys same = (same.0, first_of xs ys same.1)

  rest_of : (xs ys : List (ℕ × NodePart)) → AreChipsAlikeAtNodeParts first second (xs ++ ys) → AreChipsAlikeAtNodeParts first second ys
  rest_of [] ys same = same
  rest_of (x ∷ xs) ys same = rest_of xs ys same.1

  -- one node before an event, in both runs: where its sources agree, so do its parts
  abbrev pub Stands : (NodePart → List (ℕ × NodePart)) → NodeRecord → NodeRecord → Type 0
  Stands node a b = (part : NodePart) → AreChipsAlikeAtNodeParts first second (node part) → node_part_value 0 a part ≡ node_part_value 0 b part

  module _ (node : NodePart → List (ℕ × NodePart)) (outside : List (ℕ × NodePart)) (word other : ℕ) (a b : NodeRecord) where
    part_same : Stands node a b → (AreChipsAlikeAtNodeParts first second outside → word ≡ other) → (part : NodePart) → AreChipsAlikeAtNodeParts first second (sources_of_part node outside part) → node_part_value word a part ≡ node_part_value other b part
    part_same stands came OutsideWord same = came same
    part_same stands came (OfD k) same = stands (OfD k) same
    part_same stands came (OfR k) same = stands (OfR k) same
    part_same stands came (OfRam k) same = stands (OfRam k) same
    part_same stands came (OfRom k) same = stands (OfRom k) same
    part_same stands came OfA same = stands OfA same
    part_same stands came OfB same = stands OfB same
    part_same stands came OfP same = stands OfP same
    part_same stands came OfI same = stands OfI same
    part_same stands came OfIo same = stands OfIo same
    part_same stands came OfCarry same = stands OfCarry same
    part_same stands came OfSlot same = stands OfSlot same
    part_same stands came OfWait same = stands OfWait same
    part_same stands came OfStop same = stands OfStop same

    all_same : Stands node a b → (AreChipsAlikeAtNodeParts first second outside → word ≡ other) → (parts : List NodePart) → AreChipsAlikeAtNodeParts first second (sources_of_parts node outside parts) → AreNodesAlikeAtParts word a other b parts
    all_same stands came [] same = tt
    all_same stands came (part ∷ rest) same = (
      part_same stands came part (first_of (sources_of_part node outside part) (sources_of_parts node outside rest) same),
      all_same stands came rest (rest_of (sources_of_part node outside part) (sources_of_parts node outside rest) same),
    )

    value_same : Stands node a b → (AreChipsAlikeAtNodeParts first second outside → word ≡ other) → (flow : ValueFlow) (x y : ℕ) → AreBothValuesFromFlow word a other b flow x y → AreChipsAlikeAtNodeParts first second (sources_of_flow node outside flow) → x ≡ y
    value_same stands came (CopiedFromPart part) x y comes same = comes.0 ∙ part_same stands came part same ∙ sym comes.1
    value_same stands came (From parts) x y comes same = comes (all_same stands came parts same)

    -- a node after an event, by the flow of each part
    node_after : (flows : NodePart → ValueFlow) (x y : NodeRecord) → HasValidListSizes x → HasValidListSizes y → ((part : NodePart) → IsNodePartInRange part → AreBothValuesFromFlow word a other b (flows part) (node_part_value word x part) (node_part_value other y part))
        → Stands node a b → (AreChipsAlikeAtNodeParts first second outside → word ≡ other) → Stands (λ part. sources_of_flow node outside (flows part)) x y
    node_after flows x y left right law stands came part same = ⊎_elim
        (λ is. sym (word_free word x part is) ∙ value_same stands came (flows part) (node_part_value word x part) (node_part_value other y part) (law part is) same ∙ word_free other y part is)
        (λ none. none)
        (part_or_none x y part left right)

  -- both chips, with where their parts come from
  pub record Holds (sources : PartSources) (c d : List NodeRecord) : Type 0 where
    pub nodes : (n : ℕ) → Stands (sources n) (node_record_at c n) (node_record_at d n)
    pub left : HaveNodesValidListSizes c
    pub right : HaveNodesValidListSizes d
    pub long : length c ≡ 144
    pub long_too : length d ≡ 144

  -- one node set on both chips
  pub set_node : (sources mine : PartSources) (c d : List NodeRecord) (k : ℕ) (x y : NodeRecord) → k < 144 → Holds sources c d → Stands (mine k) x y → HasValidListSizes x → HasValidListSizes y
      → ((n : ℕ) → n ≢ k → mine n ≡ sources n) → Holds mine (slice_set c k x) (slice_set d k y)
  set_node sources mine c d k x y inside holds stands left right others = record {
    nodes = λ n. ⊎_elim
        (λ e. subst (λ z. Stands (mine z) (node_record_at (slice_set c k x) z) (node_record_at (slice_set d k y) z)) (sym e)
        (subst (λ z. Stands (mine k) z (node_record_at (slice_set d k y) k)) (sym (here c x holds.long))
        (subst (λ z. Stands (mine k) x z) (sym (here d y holds.long_too)) stands)))
        (λ ne. subst (λ z. Stands z (node_record_at (slice_set c k x) n) (node_record_at (slice_set d k y) n)) (sym (others n ne))
        (subst (λ z. Stands (sources n) z (node_record_at (slice_set d k y) n)) (sym (there c x n ne))
        (subst (λ z. Stands (sources n) (node_record_at c n) z) (sym (there d y n ne)) (holds.nodes n))))
        (cases_eq n k);
    left = λ n. sizes c x holds.long left holds.left n;
    right = λ n. sizes d y holds.long_too right holds.right n;
    long = length-set c k x ∙ holds.long;
    long_too = length-set d k y ∙ holds.long_too;
  }
    where
      here : (chip : List NodeRecord) (v : NodeRecord) → length chip ≡ 144 → node_record_at (slice_set chip k v) k ≡ v
      here chip v long = get_or-set_same chip k v (record_of_node default_node) (omega arith)

      there : (chip : List NodeRecord) (v : NodeRecord) (n : ℕ) → n ≢ k → node_record_at (slice_set chip k v) n ≡ node_record_at chip n
      there chip v n ne = get_or-set_other chip k n v (record_of_node default_node) ne

      sizes : (chip : List NodeRecord) (v : NodeRecord) → length chip ≡ 144 → HasValidListSizes v → HaveNodesValidListSizes chip → (n : ℕ) → HasValidListSizes (node_record_at (slice_set chip k v) n)
      sizes chip v long has all n = ⊎_elim
          (λ e. subst (λ z. HasValidListSizes (node_record_at (slice_set chip k v) z)) (sym e) (subst HasValidListSizes (sym (here chip v long)) has))
          (λ ne. subst HasValidListSizes (sym (there chip v n ne)) (all n))
          (cases_eq n k)

  -- an event of both chips
  event_holds : (sources : PartSources) (c d : List NodeRecord) (e : Event) → IsEventDecidedAlike c d e → Holds sources c d → Holds (sources_after_event c e sources) (event_result c e).0 (event_result d e).0
  event_holds sources c d (Own node) alike holds =
      let k = node.number in
      let a : NodeRecord = node_record_at c k in
      let b : NodeRecord = node_record_at d k in
      let seen = neighbour_states c k in
      let other = neighbour_states d k in
      let sizes = own_sizes seen other a b alike.0 (holds.left k) (holds.right k) in
      let stands : Stands (λ part. sources_of_flow (sources k) [] (flow_of_own_event a part)) (own seen a).1 (own other b).1 =
      node_after (sources k) [] (io_word seen) (io_word other) a b (flow_of_own_event a) (own seen a).1 (own other b).1 sizes.0 sizes.1 (own_flows seen other a b alike.0 (holds.left k) (holds.right k)) (holds.nodes k) (λ none. alike.1) in
      set_node sources (sources_after_event c (Own node) sources) c d k (own seen a).1 (own other b).1 node.in_range holds
      (subst (λ is. Stands (λ part. cond is (sources_of_flow (sources k) [] (flow_of_own_event a part)) (sources k part)) (own seen a).1 (own other b).1) (sym (eq-eqb k k refl)) stands)
      sizes.0 sizes.1
      (λ n ne. ap (λ is. λ part. cond is (sources_of_flow (sources n) [] (flow_of_own_event (node_record_at c n) part)) (sources n part)) (ne_eqb n k ne))
  event_holds sources c d (Pass writer reader side) alike holds =
      let w = writer.number in
      let r = reader.number in
      let aw : NodeRecord = node_record_at c w in
      let bw : NodeRecord = node_record_at d w in
      let ar : NodeRecord = node_record_at c r in
      let br : NodeRecord = node_record_at d r in
      let word = register_t aw in
      let other = register_t bw in
      let sent_size = sent_sizes 0 aw 0 bw (holds.left w) (holds.right w) in
      let taken_size = taken_sizes word ar other br (holds.left r) (holds.right r) alike.1 in
      let middle : PartSources = λ n part. cond (n == w) (sources_of_flow (sources n) [] (flow_after_send part)) (sources n part) in
      let gave : Stands (λ part. sources_of_flow (sources w) [] (flow_after_send part)) (sent aw) (sent bw) =
      node_after (sources w) [] 0 0 aw bw flow_after_send (sent aw) (sent bw) sent_size.0 sent_size.1 (sent_flows 0 aw 0 bw (holds.left w) (holds.right w)) (holds.nodes w) (λ none. refl) in
      let took : Stands (λ part. sources_of_flow (sources r) (sources w top_data_part) (flow_after_take ar.wait part)) (taken word ar) (taken other br) =
      node_after (sources r) (sources w top_data_part) word other ar br (flow_after_take ar.wait) (taken word ar) (taken other br) taken_size.0 taken_size.1 (taken_flows word ar other br (holds.left r) (holds.right r) alike.1) (holds.nodes r) (came w holds) in
      let first_set : Holds middle (slice_set c w (sent aw)) (slice_set d w (sent bw)) =
      set_node sources middle c d w (sent aw) (sent bw) writer.in_range holds
      (subst (λ is. Stands (λ part. cond is (sources_of_flow (sources w) [] (flow_after_send part)) (sources w part)) (sent aw) (sent bw)) (sym (eq-eqb w w refl)) gave)
      sent_size.0 sent_size.1
      (λ n ne. ap (λ is. λ part. cond is (sources_of_flow (sources n) [] (flow_after_send part)) (sources n part)) (ne_eqb n w ne)) in
      set_node middle (sources_after_event c (Pass writer reader side) sources) (slice_set c w (sent aw)) (slice_set d w (sent bw)) r (taken word ar) (taken other br) reader.in_range first_set
      (subst (λ is. Stands (λ part. cond is (sources_of_flow (sources r) (sources w top_data_part) (flow_after_take ar.wait part)) (middle r part)) (taken word ar) (taken other br)) (sym (eq-eqb r r refl)) took)
      taken_size.0 taken_size.1
      (λ n ne. ap (λ is. λ part. cond is (sources_of_flow (sources n) (sources w top_data_part) (flow_after_take (node_record_at c n).wait part)) (middle n part)) (ne_eqb n r ne))
    where
      came : (w : ℕ) → Holds sources c d → AreChipsAlikeAtNodeParts first second (sources w top_data_part) → register_t (node_record_at c w) ≡ register_t (node_record_at d w)
      came w holds same = holds.nodes w top_data_part same

  events_hold : (sources : PartSources) (c d : List NodeRecord) (events : List Event) → AreEventsDecidedAlike c d events → Holds sources c d → Holds (sources_after_events c events sources) (chip_after_events c events) (chip_after_events d events)
  events_hold sources c d [] alike holds = holds
  events_hold sources c d (e ∷ es) alike holds = events_hold (sources_after_event c e sources) (event_result c e).0 (event_result d e).0 es alike.1 (event_holds sources c d e alike.0 holds)

pub sources_all : (c d : List NodeRecord) (events : List Event) (n : ℕ) (part : NodePart) → length c ≡ 144 → length d ≡ 144 → HaveNodesValidListSizes c → HaveNodesValidListSizes d → AreEventsDecidedAlike c d events
    → AreChipsAlikeAtNodeParts c d (sources_after_events c events initial_sources n part) → node_part_value 0 (node_record_at (chip_after_events c events) n) part ≡ node_part_value 0 (node_record_at (chip_after_events d events) n) part
sources_all c d events n part long long' left right alike same =
    let start : Holds c d initial_sources c d = record { nodes = λ n part same. same.0; left = left; right = right; long = long; long_too = long' } in
    (events_hold c d initial_sources c d events alike start).nodes n part same

-- if the events can be made, the chip after them is that of replaying them
pub chip_after_replay : (c d : List NodeRecord) (events : List Event) → replay c events ≡ Some d → chip_after_events c events ≡ d
chip_after_replay c d events e = mapped (run_events c events) (λ done is. ran c events done is) e
  where
    mapped : (o : Option (List NodeRecord × List (EventWithLook × MadeEventOutcome))) → ((done : List NodeRecord × List (EventWithLook × MadeEventOutcome)) → o ≡ Some done → chip_after_events c events ≡ done.0) → option_map (λ (x : List NodeRecord × List (EventWithLook × MadeEventOutcome)). x.0) o ≡ Some d → chip_after_events c events ≡ d
    mapped None f h = absurd (cc)
    mapped (Some done) f h = f done refl ∙ same_Some _ _ h

    ran : (c : List NodeRecord) (events : List Event) (done : List NodeRecord × List (EventWithLook × MadeEventOutcome)) → run_events c events ≡ Some done → chip_after_events c events ≡ done.0
    ran c [] done e = ap (λ (z : List NodeRecord × List (EventWithLook × MadeEventOutcome)). z.0) (same_Some _ _ e)
    ran c (x ∷ xs) done e = at_first (event_refusal c x) (λ rest is. ran (event_result c x).0 xs rest is) e
      where
        at_rest : (r : Option (List NodeRecord × List (EventWithLook × MadeEventOutcome))) → ((rest : List NodeRecord × List (EventWithLook × MadeEventOutcome)) → r ≡ Some rest → chip_after_events (event_result c x).0 xs ≡ rest.0)
            → option_map {U = List NodeRecord × List (EventWithLook × MadeEventOutcome)} (λ rest. (rest.0, (event_with_look_on_chip c x, (event_result c x).1) ∷ rest.1)) r ≡ Some done → chip_after_events (event_result c x).0 xs ≡ done.0
        at_rest None f h = absurd (cc)
        at_rest (Some rest) f h = f rest refl ∙ ap (λ (z : List NodeRecord × List (EventWithLook × MadeEventOutcome)). z.0) (same_Some _ _ h)

        at_first : (why : Option EventRefusal) → ((rest : List NodeRecord × List (EventWithLook × MadeEventOutcome)) → run_events (event_result c x).0 xs ≡ Some rest → chip_after_events (event_result c x).0 xs ≡ rest.0)
            → option_and_then {U = List NodeRecord × List (EventWithLook × MadeEventOutcome)} (λ first. option_map {U = List NodeRecord × List (EventWithLook × MadeEventOutcome)} (λ rest. (rest.0, (event_with_look_on_chip c x, first.1) ∷ rest.1)) (run_events first.0 xs)) (some_if_allowed why (event_result c x)) ≡ Some done
            → chip_after_events (event_result c x).0 xs ≡ done.0
        at_first None f h = at_rest (run_events (event_result c x).0 xs) f h
        at_first (Some why) f h = absurd (cc)
