-- Independent events, in either order.
use Rattle.std.proofs.Common.{◌≡◌, ℕ, ◌==◌, Bool, true, false, ◌⊎◌, inl, inr, List, [], ◌∷◌, Option, Some, None, refl, sym, ◌∙◌, ap, arith, eq-eqb, eqb-true}
use Rattle.std.specs.Prelude.{option_and_then}
use Rattle.std.specs.List.{list_any, filter}
use Rattle.std.proofs.lemmas.Bool.{cases_Bool, cases_eq, or_left, or_right, or_cases, both_ways, false_from_ne_true}
use Rattle.std.proofs.lemmas.Option.{same_Some}
use Rattle.ga_ports.specs.declared.side.Side.{Side}
use Rattle.ga_node.specs.Record.{NodeRecord}
use Rattle.ga_node.specs.Table.{refusal_of_own_event}
use Rattle.ga_node.specs.declared.kind.EventRefusal.{EventRefusal}
use Rattle.ga_grid.specs.declared.node_id.NodeId.{NodeId}
use Rattle.ga_grid.specs.Chip.{node_record_at}
use Rattle.ga_event.specs.declared.event.Event.{Event}
use Rattle.ga_event.specs.declared.event.Event.TheVariants.{Own, Pass}
use Rattle.ga_event.specs.Touches.{event_nodes, touches}
use Rattle.ga_event.specs.Apply.{MadeEventOutcome, event_refusal, refusal_unless_matched, is_transfer_ready, some_if_allowed, event_result, apply, replay, AgreeOutsideMarks}
use Rattle.ga_causal.specs.Words.{outside_word_of_event, events_with_outside_words, local_history_with_outside_words}
use Rattle.ga_causal.proofs.Runs.{keeps_of, replay-cons}
use Rattle.ga_causal.proofs.Consistent.{swap_filter}
use Rattle.ga_causal.proofs.Words.{same_chip}
use Rattle.ga_races.specs.Orders.{IsEnabled, AreIndependentOnChip}

-- ---- lists that can be made

pub apply_is : (c : List NodeRecord) (e : Event) → IsEnabled c e → apply c e ≡ Some (event_result c e)
apply_is c e can = ap (λ (o : Option EventRefusal). some_if_allowed o (event_result c e)) can

pub replay_more : (c : List NodeRecord) (e : Event) (es : List Event) → IsEnabled c e → replay c (e ∷ es) ≡ replay (event_result c e).0 es
replay_more c e es can = replay-cons c e es ∙ ap (λ (o : Option (List NodeRecord × MadeEventOutcome)). option_and_then (λ first. replay first.0 es) o) (apply_is c e can)

pub record FirstOf (c : List NodeRecord) (e : Event) (es : List Event) (last : List NodeRecord) : Type 0 where
  pub can : IsEnabled c e
  pub then : replay (event_result c e).0 es ≡ Some last

pub first_of : (c : List NodeRecord) (e : Event) (es : List Event) (last : List NodeRecord) → replay c (e ∷ es) ≡ Some last → FirstOf c e es last
first_of c e es last h = go (event_refusal c e) refl (sym (replay-cons c e es) ∙ h)
  where
    go : (o : Option EventRefusal) → event_refusal c e ≡ o → option_and_then (λ (first : List NodeRecord × MadeEventOutcome). replay first.0 es) (some_if_allowed o (event_result c e)) ≡ Some last → FirstOf c e es last
    go None is k = record { can = is; then = k }
    go (Some why) is k = absurd (cc)

-- ---- what an event leaves elsewhere

pub stays : (c : List NodeRecord) (f : Event) → IsEnabled c f → AgreeOutsideMarks (touches f) c (event_result c f).0
stays c f can = keeps_of c f (event_result c f).0 (event_result c f).1 (apply_is c f can)

pub touches_own : (a : NodeId) → touches (Own a) a.number ≡ true
touches_own a = grind (arith, eq-eqb)

pub touches_writer : (w r : NodeId) (s : Side) → touches (Pass w r s) w.number ≡ true
touches_writer w r s = grind (arith, eq-eqb)

pub touches_reader : (w r : NodeId) (s : Side) → touches (Pass w r s) r.number ≡ true
touches_reader w r s = grind (arith, eq-eqb)

-- an event is still enabled after another that touches none of its nodes
pub still_enabled : (c : List NodeRecord) (e f : Event) → ((n : ℕ) → touches e n ≡ true → touches f n ≡ false) → IsEnabled c f → IsEnabled c e → IsEnabled (event_result c f).0 e
still_enabled c (Own a) f apart canf can =
    ap (λ (z : NodeRecord). refusal_of_own_event z) (sym ((stays c f canf).same a.number (apart a.number (touches_own a)))) ∙ can
still_enabled c (Pass w r side) f apart canf can =
    let k = stays c f canf in
    let one : node_record_at c w.number ≡ node_record_at (event_result c f).0 w.number = k.same w.number (apart w.number (touches_writer w r side)) in
    let two : node_record_at c r.number ≡ node_record_at (event_result c f).0 r.number = k.same r.number (apart r.number (touches_reader w r side)) in
    ap (λ (z : NodeRecord). refusal_unless_matched (is_transfer_ready w.number r.number side z.wait (node_record_at (event_result c f).0 r.number).wait)) (sym one)
    ∙ ap (λ (z : NodeRecord). refusal_unless_matched (is_transfer_ready w.number r.number side (node_record_at c w.number).wait z.wait)) (sym two)
    ∙ can

-- and before it
pub can_back : (c : List NodeRecord) (e f : Event) → ((n : ℕ) → touches e n ≡ true → touches f n ≡ false) → IsEnabled c f → IsEnabled (event_result c f).0 e → IsEnabled c e
can_back c (Own a) f apart canf can = ap (λ (z : NodeRecord). refusal_of_own_event z) ((stays c f canf).same a.number (apart a.number (touches_own a))) ∙ can
can_back c (Pass w r side) f apart canf can =
    let k = stays c f canf in
    let one : node_record_at c w.number ≡ node_record_at (event_result c f).0 w.number = k.same w.number (apart w.number (touches_writer w r side)) in
    let two : node_record_at c r.number ≡ node_record_at (event_result c f).0 r.number = k.same r.number (apart r.number (touches_reader w r side)) in
    ap (λ (z : NodeRecord). refusal_unless_matched (is_transfer_ready w.number r.number side z.wait (node_record_at c r.number).wait)) one
    ∙ ap (λ (z : NodeRecord). refusal_unless_matched (is_transfer_ready w.number r.number side (node_record_at (event_result c f).0 w.number).wait z.wait)) two
    ∙ can

-- ---- whether two events are free

pub any_at : (marks : ℕ → Bool) (ns : List ℕ) (n : ℕ) → list_any (λ m. m == n) ns ≡ true → marks n ≡ true → list_any marks ns ≡ true
any_at marks [] n t u = absurd (both_ways false refl t)
any_at marks (m ∷ ns) n t u = elim (or_cases (m == n) (list_any (λ m. m == n) ns) t) [
  | inl q ↦ or_left (marks m) (list_any marks ns) (ap marks (eqb-true m n q) ∙ u)
  | inr q ↦ or_right (marks m) (list_any marks ns) (any_at marks ns n q u)
]

pub record Common (marks : ℕ → Bool) (ns : List ℕ) : Type 0 where
  pub node : ℕ
  pub marked_nodes : marks node ≡ true
  pub listed : list_any (λ m. m == node) ns ≡ true

pub any_of : (marks : ℕ → Bool) (ns : List ℕ) → list_any marks ns ≡ true → Common marks ns
any_of marks [] t = absurd (both_ways false refl t)
any_of marks (m ∷ ns) t = elim (or_cases (marks m) (list_any marks ns) t) [
  | inl q ↦ record { node = m; marked_nodes = q; listed = or_left (m == m) (list_any (λ k. k == m) ns) (eq-eqb m m refl) }
  | inr q ↦ (let k = any_of marks ns q in record { node = k.node; marked_nodes = k.marked_nodes; listed = or_right (m == k.node) (list_any (λ z. z == k.node) ns) k.listed })
]

pub same_word : (a b : Option ℕ) → (a ≡ b) ⊎ (a ≡ b → ⊥)
same_word None None = inl refl
same_word None (Some y) = inr (λ q. absurd (cc))
same_word (Some x) None = inr (λ q. absurd (cc))
same_word (Some x) (Some y) = elim (cases_eq x y) [ inl q ↦ inl (ap Some q) | inr ne ↦ inr (λ q. ne (same_Some x y q)) ]

pub independent_of : (e f : Event) → list_any (touches e) (event_nodes f) ≡ false → (n : ℕ) → touches e n ≡ true → touches f n ≡ false
independent_of e f none n t = false_from_ne_true (touches f n) (λ u. both_ways (list_any (touches e) (event_nodes f)) none (any_at (touches e) (event_nodes f) n u t))

pub free_or_bound : (c : List NodeRecord) (e f : Event) → AreIndependentOnChip c e f ⊎ (AreIndependentOnChip c e f → ⊥)
free_or_bound c e f = elim (cases_Bool (list_any (touches e) (event_nodes f))) [
  | inl t ↦ (let k = any_of (touches e) (event_nodes f) t in inr (λ free. both_ways (touches f k.node) (free.apart k.node k.marked_nodes) k.listed))
  | inr none ↦ by_words none
]
  where
    by_words : list_any (touches e) (event_nodes f) ≡ false → AreIndependentOnChip c e f ⊎ (AreIndependentOnChip c e f → ⊥)
    by_words none = elim (same_word (outside_word_of_event (event_result c f).0 e) (outside_word_of_event c e)) [
      | inr ne ↦ inr (λ free. ne free.first)
      | inl p ↦ elim (same_word (outside_word_of_event (event_result c e).0 f) (outside_word_of_event c f)) [
        | inr ne ↦ inr (λ free. ne free.second)
        | inl q ↦ inl (record { apart = independent_of e f none; first = p; second = q })
      ]
    ]

pub apart-sym : (e f : Event) → ((n : ℕ) → touches e n ≡ true → touches f n ≡ false) → (n : ℕ) → touches f n ≡ true → touches e n ≡ false
apart-sym e f apart n t = false_from_ne_true (touches e n) (λ u. both_ways (touches f n) (apart n u) t)

pub free-sym : (c : List NodeRecord) (e f : Event) → AreIndependentOnChip c e f → AreIndependentOnChip c f e
free-sym c e f free = record { apart = apart-sym e f free.apart; first = free.second; second = free.first }

-- ---- free events in either order

-- the chip after both
pub both : List NodeRecord → Event → Event → List NodeRecord
both c e f = (event_result (event_result c e).0 f).0

read_two : (c : List NodeRecord) (e f : Event) (zs : List Event) (n : ℕ) → AreIndependentOnChip c e f → local_history_with_outside_words n c (e ∷ f ∷ zs) ≡ filter (λ (x : Event × Option ℕ). touches x.0 n) ((e, outside_word_of_event c e) ∷ (f, outside_word_of_event c f) ∷ events_with_outside_words (event_result (event_result c e).0 f).0 zs)
read_two c e f zs n free =
    ap (λ (w : Option ℕ). filter (λ (x : Event × Option ℕ). touches x.0 n) ((e, outside_word_of_event c e) ∷ (f, w) ∷ events_with_outside_words (event_result (event_result c e).0 f).0 zs)) free.second

pub read_swapped : (c : List NodeRecord) (e f : Event) (zs : List Event) (n : ℕ) → AreIndependentOnChip c e f → (event_result (event_result c e).0 f).0 ≡ (event_result (event_result c f).0 e).0 → local_history_with_outside_words n c (e ∷ f ∷ zs) ≡ local_history_with_outside_words n c (f ∷ e ∷ zs)
read_swapped c e f zs n free same =
    let test : Event × Option ℕ → Bool = λ x. touches x.0 n in
    read_two c e f zs n free
    ∙ ap (λ (d : List NodeRecord). filter test ((e, outside_word_of_event c e) ∷ (f, outside_word_of_event c f) ∷ events_with_outside_words d zs)) same
    ∙ swap_filter test (e, outside_word_of_event c e) (f, outside_word_of_event c f) (events_with_outside_words (event_result (event_result c f).0 e).0 zs) (λ t u. both_ways (touches f n) (free.apart n t) u)
    ∙ sym (read_two c f e zs n (free-sym c e f free))

pub replay_two : (c : List NodeRecord) (e f : Event) → IsEnabled c e → IsEnabled c f → AreIndependentOnChip c e f → replay c (e ∷ f ∷ []) ≡ Some (event_result (event_result c e).0 f).0
replay_two c e f cane canf free =
    replay_more c e (f ∷ []) cane ∙ replay_more (event_result c e).0 f [] (still_enabled c f e (apart-sym e f free.apart) cane canf)

-- the chip is the same
pub independent_on_chip : (c : List NodeRecord) (e f : Event) → IsEnabled c e → IsEnabled c f → AreIndependentOnChip c e f → (event_result (event_result c e).0 f).0 ≡ (event_result (event_result c f).0 e).0
independent_on_chip c e f cane canf free =
    same_chip c (event_result (event_result c e).0 f).0 (event_result (event_result c f).0 e).0 (e ∷ f ∷ []) (f ∷ e ∷ [])
    (replay_two c e f cane canf free) (replay_two c f e canf cane (free-sym c e f free))
    (λ n. read_two c e f [] n free
    ∙ swap_filter (λ (x : Event × Option ℕ). touches x.0 n) (e, outside_word_of_event c e) (f, outside_word_of_event c f) [] (λ t u. both_ways (touches f n) (free.apart n t) u)
    ∙ sym (read_two c f e [] n (free-sym c e f free)))

-- and so is the list after them
pub free_replay : (c : List NodeRecord) (e f : Event) (zs : List Event) → IsEnabled c e → IsEnabled c f → AreIndependentOnChip c e f → replay c (e ∷ f ∷ zs) ≡ replay c (f ∷ e ∷ zs)
free_replay c e f zs cane canf free =
    replay_more c e (f ∷ zs) cane ∙ replay_more (event_result c e).0 f zs (still_enabled c f e (apart-sym e f free.apart) cane canf)
    ∙ ap (λ d. replay d zs) (independent_on_chip c e f cane canf free)
    ∙ sym (replay_more (event_result c f).0 e zs (still_enabled c e f free.apart canf cane)) ∙ sym (replay_more c f (e ∷ zs) canf)
