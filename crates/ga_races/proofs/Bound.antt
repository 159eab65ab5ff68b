-- Neighbours in a list are independent exactly if their actions are not dependent, and are the same actions in either order.
use Rattle.std.proofs.Common.{◌≡◌, ℕ, ◌+◌, ◌==◌, Bool, true, false, not, ◌&&◌, ◌||◌, cond, inl, inr, List, [], ◌∷◌, Option, Some, None, ◌↔◌, true≢false, refl, sym, ◌∙◌, ap, ap₂, subst, arith, eq-eqb, eqb-true, ne_eqb}
use mathlib.Core.Path.{fun_ext}
use Rattle.std.specs.List.{list_any, filter}
use Rattle.std.proofs.lemmas.Bool.{cases_Bool, cases_eq, both_ways, or_parts, or_from, false_from_ne_true}
use Rattle.std.proofs.lemmas.Option.{same_Some}
use Rattle.ga_ports.specs.declared.side.Side.{Side}
use Rattle.ga_ports.specs.declared.side.Side.TheVariants.{Right, Down, Left, Up}
use Rattle.ga_node.specs.Io.{side_io_bits, io_word}
use Rattle.ga_node.specs.Record.{NodeRecord}
use Rattle.ga_node.specs.Table.{reads_io_next}
use Rattle.ga_grid.specs.Grid.{neighbour_number}
use Rattle.ga_grid.specs.Chip.{node_record_at}
use Rattle.ga_event.specs.Apply.{AgreeOutsideMarks, shown_wait_state, shown_neighbour_state, neighbour_states, event_result, is_look}
use Rattle.ga_event.specs.declared.event.Event.{Event}
use Rattle.ga_event.specs.declared.event.Event.TheVariants.{Own, Pass}
use Rattle.ga_event.specs.Touches.{event_nodes, touches}
use Rattle.ga_causal.specs.Words.{outside_word_of_event}
use Rattle.ga_causal.proofs.Words.{same_node}
use Rattle.ga_races.specs.Orders.{IsEnabled, AreIndependentOnChip}
use Rattle.ga_races.specs.HappensBefore.{TraceAction, trace_action_of_event, is_look_changed_by, are_dependent_actions}
use Rattle.ga_races.proofs.Independence.{replay_more, stays, still_enabled, can_back, any_of, independent_of, apart-sym}
use Rattle.ga_races.proofs.Blind.{look_still, word_still}

abbrev pub Apart : Event → Event → Type 0
Apart e f = (n : ℕ) → touches e n ≡ true → touches f n ≡ false

-- ---- what the one event changes of a look's word it changes also where the other was made first

-- four chips: the one event leads from the first of two to the second, the other from the one two to the other two
module _ (one other : ℕ → Bool) (apart : (n : ℕ) → one n ≡ true → other n ≡ false) (c d u v : List NodeRecord) (cd : AgreeOutsideMarks other c d) (uv : AgreeOutsideMarks other u v) (cu : AgreeOutsideMarks one c u) (dv : AgreeOutsideMarks one d v) where
  crossed : (a b x y : ℕ) → a ≡ x → b ≡ y → a + y ≡ b + x
  crossed a b x y p q = omega (arith, p, q)

  straight : (a b x y : ℕ) → a ≡ b → x ≡ y → a + y ≡ b + x
  straight a b x y p q = omega (arith, p, q)

  side_sum : (side : Side) (o : Option ℕ) (first second : ℕ)
      → side_io_bits (shown_neighbour_state c side o) first second + side_io_bits (shown_neighbour_state v side o) first second ≡ side_io_bits (shown_neighbour_state d side o) first second + side_io_bits (shown_neighbour_state u side o) first second
  side_sum side None first second = refl
  side_sum side (Some m) first second =
      let word : NodeRecord → ℕ = λ z. side_io_bits (shown_wait_state z.wait side) first second in
      elim (cases_Bool (one m)) [
        | inl t ↦ straight (word (node_record_at c m)) (word (node_record_at d m)) (word (node_record_at u m)) (word (node_record_at v m)) (ap word (cd.same m (apart m t))) (ap word (uv.same m (apart m t)))
        | inr out ↦ crossed (word (node_record_at c m)) (word (node_record_at d m)) (word (node_record_at u m)) (word (node_record_at v m)) (ap word (cu.same m out)) (ap word (dv.same m out))
      ]

  sum_of : (r1 r2 r3 r4 d1 d2 d3 d4 l1 l2 l3 l4 u1 u2 u3 u4 : ℕ) → r1 + r4 ≡ r2 + r3 → d1 + d4 ≡ d2 + d3 → l1 + l4 ≡ l2 + l3 → u1 + u4 ≡ u2 + u3
      → (0x155 + r1 + d1 + l1 + u1) + (0x155 + r4 + d4 + l4 + u4) ≡ (0x155 + r2 + d2 + l2 + u2) + (0x155 + r3 + d3 + l3 + u3)
  sum_of r1 r2 r3 r4 d1 d2 d3 d4 l1 l2 l3 l4 u1 u2 u3 u4 p q s t = omega (arith, p, q, s, t)

  io_sum : (n : ℕ) → io_word (neighbour_states c n) + io_word (neighbour_states v n) ≡ io_word (neighbour_states d n) + io_word (neighbour_states u n)
  unfolding io_word neighbour_states
  io_sum n =
      sum_of _ _ _ _ _ _ _ _ _ _ _ _ _ _ _ _
      (side_sum Right (neighbour_number n Right) 16 15) (side_sum Down (neighbour_number n Down) 14 13)
      (side_sum Left (neighbour_number n Left) 12 11) (side_sum Up (neighbour_number n Up) 10 9)

  equal_alike : (a b x y : ℕ) → a + y ≡ b + x → (y == x) ≡ (b == a)
  equal_alike a b x y h = elim (cases_eq b a) [
    | inl q ↦ (let k : y ≡ x = omega (arith, h, q) in eq-eqb y x k ∙ sym (eq-eqb b a q))
    | inr ne ↦ ne_eqb y x (λ k. ne (let g : b ≡ a = omega (arith, h, k) in g)) ∙ sym (ne_eqb b a ne)
  ]

  changes_alike : (n : ℕ) → (io_word (neighbour_states v n) == io_word (neighbour_states u n)) ≡ (io_word (neighbour_states d n) == io_word (neighbour_states c n))
  changes_alike n = equal_alike (io_word (neighbour_states c n)) (io_word (neighbour_states d n)) (io_word (neighbour_states u n)) (io_word (neighbour_states v n)) (io_sum n)

-- the chips after an event with the other before it and without, where it receives the same word
agree_behind : (c : List NodeRecord) (e f : Event) → IsEnabled c e → IsEnabled c f → Apart e f → outside_word_of_event (event_result c e).0 f ≡ outside_word_of_event c f → AgreeOutsideMarks (touches e) (event_result c f).0 (event_result (event_result c e).0 f).0
agree_behind c e f cane canf apart word =
    let then : IsEnabled (event_result c e).0 f = still_enabled c f e (apart-sym e f apart) cane canf in
    record {
      size = sym (stays c f canf).size ∙ (stays c e cane).size ∙ (stays (event_result c e).0 f then).size;
      same = λ n out. same_node c (event_result c e).0 (event_result c f).0 (event_result (event_result c e).0 f).0 (f ∷ []) (f ∷ []) n (replay_more c f [] canf) (replay_more (event_result c e).0 f [] then)
          (stays c e cane).size ((stays c e cane).same n out) (ap (λ (w : Option ℕ). filter (λ (x : Event × Option ℕ). touches x.0 n) ((f, w) ∷ [])) (sym word));
    }

-- an event is the same action after another that touches none of its nodes and after which it receives the same word
pub action_still : (c : List NodeRecord) (e f : Event) → IsEnabled c e → IsEnabled c f → Apart e f → outside_word_of_event (event_result c e).0 f ≡ outside_word_of_event c f → trace_action_of_event (event_result c e).0 f ≡ trace_action_of_event c f
action_still c e f cane canf apart word =
    let back = apart-sym e f apart in
    let then : IsEnabled (event_result c e).0 f = still_enabled c f e back cane canf in
    ap₂ (λ (look : Bool) (changes : ℕ → Bool). let made : TraceAction = record { cause = record { event = f; look = look }; changes = changes } in made)
    (look_still c f e cane back)
    (fun_ext (λ n. ap not (changes_alike (touches e) (touches f) apart c (event_result c f).0 (event_result c e).0 (event_result (event_result c e).0 f).0
    (stays c f canf) (stays (event_result c e).0 f then) (stays c e cane) (agree_behind c e f cane canf apart word) n)))

-- ---- independent events are not dependent as actions

-- a look reads the same word exactly where nothing is changed of what is shown to it
unshown_of : (look : Bool) (x y : ℕ) → ◌≡◌ {A = Option ℕ} (cond look (Some x) None) (cond look (Some y) None) → (look && (not (x == y) || false)) ≡ false
unshown_of true x y h = ap (λ (b : Bool). not b || false) (eq-eqb x y (same_Some x y h))
unshown_of false x y h = refl

same_of : (look : Bool) (x y : ℕ) → (look && (not (x == y) || false)) ≡ false → ◌≡◌ {A = Option ℕ} (cond look (Some x) None) (cond look (Some y) None)
same_of true x y h = ap Some (eqb-true x y (equal (x == y) h))
  where
    equal : (b : Bool) → (not b || false) ≡ false → b ≡ true
    equal true k = refl
    equal false k = absurd (true≢false k)
same_of false x y h = refl

unshown : (c : List NodeRecord) (e f : Event) → IsEnabled c f → Apart e f → outside_word_of_event (event_result c f).0 e ≡ outside_word_of_event c e → is_look_changed_by (trace_action_of_event c e) (trace_action_of_event c f) ≡ false
unshown c (Own a) f canf apart word =
    unshown_of (reads_io_next (node_record_at c a.number)) (io_word (neighbour_states (event_result c f).0 a.number)) (io_word (neighbour_states c a.number))
    (ap (λ (b : Bool). cond {A = Option ℕ} b (Some (io_word (neighbour_states (event_result c f).0 a.number))) None) (sym (look_still c (Own a) f canf apart)) ∙ word)
unshown c (Pass w r side) f canf apart word = refl

word_same : (c : List NodeRecord) (e f : Event) (a : TraceAction) → IsEnabled c f → Apart e f → a.cause.event ≡ e → a.cause.look ≡ is_look c e → is_look_changed_by a (trace_action_of_event c f) ≡ false → outside_word_of_event (event_result c f).0 e ≡ outside_word_of_event c e
word_same c e f a canf apart is look none = by_event e apart
    (subst (λ (b : Bool). (b && list_any (trace_action_of_event c f).changes (event_nodes e)) ≡ false) look
    (subst (λ (z : Event). (a.cause.look && list_any (trace_action_of_event c f).changes (event_nodes z)) ≡ false) is none))
  where
    by_event : (g : Event) → Apart g f → (is_look c g && list_any (trace_action_of_event c f).changes (event_nodes g)) ≡ false → outside_word_of_event (event_result c f).0 g ≡ outside_word_of_event c g
    by_event (Own n) free h =
        ap (λ (b : Bool). cond {A = Option ℕ} b (Some (io_word (neighbour_states (event_result c f).0 n.number))) None) (look_still c (Own n) f canf free)
        ∙ same_of (reads_io_next (node_record_at c n.number)) (io_word (neighbour_states (event_result c f).0 n.number)) (io_word (neighbour_states c n.number)) h
    by_event (Pass w r side) free h = word_still c (Pass w r side) f canf free refl

none_common : (e f : Event) → Apart e f → list_any (touches e) (event_nodes f) ≡ false
none_common e f apart =
    false_from_ne_true (list_any (touches e) (event_nodes f)) (λ t. let k = any_of (touches e) (event_nodes f) t in both_ways (touches f k.node) (apart k.node k.marked_nodes) k.listed)

-- independent events are not dependent as actions
pub unbound_of : (c : List NodeRecord) (e f : Event) → IsEnabled c e → IsEnabled c f → AreIndependentOnChip c e f → are_dependent_actions (trace_action_of_event c e) (trace_action_of_event c f) ≡ false
unbound_of c e f cane canf free =
    or_from (list_any (touches e) (event_nodes f)) (is_look_changed_by (trace_action_of_event c e) (trace_action_of_event c f) || is_look_changed_by (trace_action_of_event c f) (trace_action_of_event c e)) (none_common e f free.apart)
    (or_from (is_look_changed_by (trace_action_of_event c e) (trace_action_of_event c f)) (is_look_changed_by (trace_action_of_event c f) (trace_action_of_event c e))
    (unshown c e f canf free.apart free.first) (unshown c f e cane (apart-sym e f free.apart) free.second))

-- and neighbours in a list whose actions are not dependent are independent
pub free_of : (c : List NodeRecord) (e f : Event) → IsEnabled c e → IsEnabled (event_result c e).0 f → are_dependent_actions (trace_action_of_event c e) (trace_action_of_event (event_result c e).0 f) ≡ false → IsEnabled c f × AreIndependentOnChip c e f
free_of c e f cane then none =
    let d = (event_result c e).0 in
    let p = or_parts (list_any (touches e) (event_nodes f)) (is_look_changed_by (trace_action_of_event c e) (trace_action_of_event d f) || is_look_changed_by (trace_action_of_event d f) (trace_action_of_event c e)) none in
    let q = or_parts (is_look_changed_by (trace_action_of_event c e) (trace_action_of_event d f)) (is_look_changed_by (trace_action_of_event d f) (trace_action_of_event c e)) p.1 in
    let apart : Apart e f = independent_of e f p.0 in
    let back : Apart f e = apart-sym e f apart in
    let canf : IsEnabled c f = can_back c f e back cane then in
    let second : outside_word_of_event d f ≡ outside_word_of_event c f = word_same c f e (trace_action_of_event d f) cane back refl (look_still c f e cane back) q.1 in
    let first : outside_word_of_event (event_result c f).0 e ≡ outside_word_of_event c e =
    word_same c e f (trace_action_of_event c e) canf apart refl refl (subst (λ (a : TraceAction). is_look_changed_by (trace_action_of_event c e) a ≡ false) (action_still c e f cane canf apart second) q.0) in
    (canf, record { apart = apart; first = first; second = second })

-- actions that are not dependent touch no common node
pub unbound_apart : (a b : TraceAction) → are_dependent_actions a b ≡ false → (n : ℕ) → touches a.cause.event n ≡ true → touches b.cause.event n ≡ false
unbound_apart a b none = independent_of a.cause.event b.cause.event ((or_parts (list_any (touches a.cause.event) (event_nodes b.cause.event)) (is_look_changed_by a b || is_look_changed_by b a) none).0)

-- which are all cases of neighbours in a list
pub free_exact : (c : List NodeRecord) (e f : Event) → IsEnabled c e → IsEnabled (event_result c e).0 f → (are_dependent_actions (trace_action_of_event c e) (trace_action_of_event (event_result c e).0 f) ≡ false) ↔ (IsEnabled c f × AreIndependentOnChip c e f)
free_exact c e f cane then = (
  λ none. free_of c e f cane then none,
  λ free. ap (are_dependent_actions (trace_action_of_event c e)) (action_still c e f cane free.0 free.1.apart free.1.second) ∙ unbound_of c e f cane free.0 free.1,
)
