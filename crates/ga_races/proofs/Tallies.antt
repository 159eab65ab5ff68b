-- The record of a node after a number of its steps, and the places where it has made this number of steps.
use Rattle.std.proofs.Common.{◌≡◌, ℕ, zero, suc, ◌+◌, ◌<◌, ◌≤◌, Bool, true, false, cond, List, [], ◌∷◌, ◌++◌, length, Some, refl, sym, ◌∙◌, ap, ap₂, subst₂, arith}
use Rattle.std.proofs.lemmas.List.Sums.{sum_by-cons}
use Rattle.ga_node.specs.Record.{NodeRecord}
use Rattle.ga_grid.specs.Chip.{node_record_at}
use Rattle.ga_event.specs.declared.event.Event.{Event}
use Rattle.ga_event.specs.Touches.{touches}
use Rattle.ga_event.specs.Apply.{event_result, replay}
use Rattle.ga_event.specs.Told.{count_steps}
use Rattle.ga_causal.specs.Words.{local_history_with_outside_words}
use Rattle.ga_causal.proofs.Words.{same_node}
use Rattle.ga_races.specs.Orders.{AreReorderings}
use Rattle.ga_races.specs.HappensBefore.{TraceAction, trace_actions_of_events, trace_action_at, chip_after_prefix}
use Rattle.ga_races.proofs.Orders.{order_replay, order_read, steps_read}
use Rattle.ga_races.proofs.Exact.{read_into, Entry}
use Rattle.ga_races.proofs.Moves.{tally}
use Rattle.ga_races.proofs.Sweeps.{Split, split_at, chip_there}
use Rattle.ga_races.proofs.Kahn.{head_is, begins}

-- ---- a node's record after the same number of its steps is the same in each order

prefix_same : (us vs ws zs : List Entry) → us ++ vs ≡ ws ++ zs → length us ≡ length ws → us ≡ ws
prefix_same [] vs [] zs h k = refl
prefix_same [] vs (x ∷ ws) zs h k = absurd (omega (arith, k))
prefix_same (x ∷ us) vs [] zs h k = absurd (omega (arith, k))
prefix_same (x ∷ us) vs (y ∷ ws) zs h k =
    let p = head_is x y (us ++ vs) (ws ++ zs) h in
    ap₂ (λ (u : Entry) (z : List Entry). u ∷ z) p.0 (prefix_same us vs ws zs p.1 (omega (arith, k)))

pub tally_total : (n : ℕ) (fs : List Event) (c : List NodeRecord) → tally n (trace_actions_of_events c fs) (length fs) ≡ count_steps n fs
tally_total n [] c = refl
tally_total n (f ∷ fs) c = ap (λ (z : ℕ). cond (touches f n) 1 0 + z) (tally_total n fs (event_result c f).0) ∙ sym (sum_by-cons (λ (x : Event). cond (touches x n) 1 0) f fs)

tally_zero : (n : ℕ) (xs : List TraceAction) → tally n xs 0 ≡ 0
tally_zero n [] = refl
tally_zero n (a ∷ xs) = refl

tally_front : (n : ℕ) (fs ys : List Event) (c : List NodeRecord) → tally n (trace_actions_of_events c (fs ++ ys)) (length fs) ≡ count_steps n fs
tally_front n [] ys c = tally_zero n (trace_actions_of_events c ys)
tally_front n (f ∷ fs) ys c = ap (λ (z : ℕ). cond (touches f n) 1 0 + z) (tally_front n fs ys (event_result c f).0) ∙ sym (sum_by-cons (λ (x : Event). cond (touches x n) 1 0) f fs)

record_split : (c last : List NodeRecord) (xs xs' ys ys' : List Event) (n : ℕ) → replay c (xs ++ xs') ≡ Some last → AreReorderings c (xs ++ xs') (ys ++ ys')
    → tally n (trace_actions_of_events c (xs ++ xs')) (length xs) ≡ tally n (trace_actions_of_events c (ys ++ ys')) (length ys) → node_record_at (chip_after_prefix c (xs ++ xs') (length xs)) n ≡ node_record_at (chip_after_prefix c (ys ++ ys') (length ys)) n
record_split c last xs xs' ys ys' n h order same_count =
    let a = begins xs xs' c last h in
    let b = begins ys ys' c last (sym (order_replay c (xs ++ xs') (ys ++ ys') order) ∙ h) in
    let size : length (local_history_with_outside_words n c xs) ≡ length (local_history_with_outside_words n c ys) =
    steps_read n c xs ∙ sym (tally_front n xs xs' c) ∙ same_count ∙ tally_front n ys ys' c ∙ sym (steps_read n c ys) in
    let read : local_history_with_outside_words n c xs ≡ local_history_with_outside_words n c ys =
    prefix_same (local_history_with_outside_words n c xs) (local_history_with_outside_words n a.0 xs') (local_history_with_outside_words n c ys) (local_history_with_outside_words n b.0 ys')
    (sym (read_into n xs xs' c a.0 a.1) ∙ order_read n c (xs ++ xs') (ys ++ ys') order ∙ read_into n ys ys' c b.0 b.1) size in
    ap (λ (z : List NodeRecord). node_record_at z n) (chip_there xs c a.0 xs' a.1)
    ∙ same_node c c a.0 b.0 xs ys n a.1 b.1 refl refl read
    ∙ ap (λ (z : List NodeRecord). node_record_at z n) (sym (chip_there ys c b.0 ys' b.1))

pub record_same : (c last : List NodeRecord) (xs ys : List Event) (n i p : ℕ) → replay c xs ≡ Some last → AreReorderings c xs ys → i ≤ length xs → p ≤ length ys
    → tally n (trace_actions_of_events c xs) i ≡ tally n (trace_actions_of_events c ys) p → node_record_at (chip_after_prefix c xs i) n ≡ node_record_at (chip_after_prefix c ys p) n
record_same c last xs ys n i p h order l m same_count =
    let s : Split xs i = split_at xs i l in
    let t : Split ys p = split_at ys p m in
    subst₂ (λ (u v : ℕ). tally n (trace_actions_of_events c xs) u ≡ tally n (trace_actions_of_events c ys) v → node_record_at (chip_after_prefix c xs u) n ≡ node_record_at (chip_after_prefix c ys v) n) s.size t.size
    (subst₂ (λ (u v : List Event). AreReorderings c u v → replay c u ≡ Some last → tally n (trace_actions_of_events c u) (length s.mid) ≡ tally n (trace_actions_of_events c v) (length t.mid) → node_record_at (chip_after_prefix c u (length s.mid)) n ≡ node_record_at (chip_after_prefix c v (length t.mid)) n)
    (sym s.is) (sym t.is) (λ o k q. record_split c last s.mid s.post t.mid t.post n k o q) order h) same_count

-- ---- the places of a node's steps

pub tally_up : (n : ℕ) (xs : List TraceAction) (i j : ℕ) → i ≤ j → tally n xs i ≤ tally n xs j
tally_up n [] i j l = omega arith
tally_up n (a ∷ xs) zero j l = let z : tally n (a ∷ xs) 0 ≡ 0 = refl in omega arith
tally_up n (a ∷ xs) (suc i) zero l = absurd (omega (arith, l))
tally_up n (a ∷ xs) (suc i) (suc j) l = more (cond (touches a.cause.event n) 1 0) (tally n xs i) (tally n xs j) (tally_up n xs i j (omega (arith, l)))
  where
    more : (x y z : ℕ) → y ≤ z → x + y ≤ x + z
    more x y z h = omega (arith, h)

-- a place after exactly `a` steps of the node
pub between : (n : ℕ) (xs : List TraceAction) (i a : ℕ) → i ≤ length xs → tally n xs i ≤ a → a ≤ tally n xs (length xs) → (k : ℕ) × (i ≤ k) × (k ≤ length xs) × (tally n xs k ≡ a)
between n [] i a l low high = (i, omega arith, l, omega (arith, low, high))
between n (x ∷ xs) zero a l low high = go a (touches x.cause.event n) refl low high (between n xs 0)
  where
    go : (a : ℕ) (b : Bool) → touches x.cause.event n ≡ b → 0 ≤ a → a ≤ cond b 1 0 + tally n xs (length xs)
        → ((a : ℕ) → 0 ≤ length xs → tally n xs 0 ≤ a → a ≤ tally n xs (length xs) → (k : ℕ) × (0 ≤ k) × (k ≤ length xs) × (tally n xs k ≡ a))
        → (k : ℕ) × (0 ≤ k) × (k ≤ length (x ∷ xs)) × (tally n (x ∷ xs) k ≡ a)
    go zero b is p q again = (0, omega arith, omega arith, refl)
    go (suc a) true is p q again =
        let r = again a (omega arith) (let z : tally n xs 0 ≡ 0 = tally_zero n xs in omega (arith, z)) (omega (arith, q)) in
        let m : r.0 ≤ length xs = r.2 in
        (suc r.0, omega arith, omega (arith, m), ap (λ (b : Bool). cond b 1 0 + tally n xs r.0) is ∙ (let e : tally n xs r.0 ≡ a = r.3 in let g : 1 + tally n xs r.0 ≡ suc a = omega (arith, e) in g))
    go (suc a) false is p q again =
        let r = again (suc a) (omega arith) (let z : tally n xs 0 ≡ 0 = tally_zero n xs in omega (arith, z)) (omega (arith, q)) in
        let m : r.0 ≤ length xs = r.2 in
        (suc r.0, omega arith, omega (arith, m), ap (λ (b : Bool). cond b 1 0 + tally n xs r.0) is ∙ (let e : tally n xs r.0 ≡ suc a = r.3 in let g : 0 + tally n xs r.0 ≡ suc a = omega (arith, e) in g))
between n (x ∷ xs) (suc i) a l low high = go a (touches x.cause.event n) refl low high (between n xs i)
  where
    go : (a : ℕ) (b : Bool) → touches x.cause.event n ≡ b → cond b 1 0 + tally n xs i ≤ a → a ≤ cond b 1 0 + tally n xs (length xs)
        → ((a : ℕ) → i ≤ length xs → tally n xs i ≤ a → a ≤ tally n xs (length xs) → (k : ℕ) × (i ≤ k) × (k ≤ length xs) × (tally n xs k ≡ a))
        → (k : ℕ) × (suc i ≤ k) × (k ≤ length (x ∷ xs)) × (tally n (x ∷ xs) k ≡ a)
    go zero true is p q again = absurd (omega (arith, p))
    go (suc a) true is p q again =
        let r = again a (omega (arith, l)) (omega (arith, p)) (omega (arith, q)) in
        let m : r.0 ≤ length xs = r.2 in
        let j : i ≤ r.0 = r.1 in
        (suc r.0, omega (arith, j), omega (arith, m), ap (λ (b : Bool). cond b 1 0 + tally n xs r.0) is ∙ (let e : tally n xs r.0 ≡ a = r.3 in let g : 1 + tally n xs r.0 ≡ suc a = omega (arith, e) in g))
    go a false is p q again =
        let r = again a (omega (arith, l)) (omega (arith, p)) (omega (arith, q)) in
        let m : r.0 ≤ length xs = r.2 in
        let j : i ≤ r.0 = r.1 in
        (suc r.0, omega (arith, j), omega (arith, m), ap (λ (b : Bool). cond b 1 0 + tally n xs r.0) is ∙ (let e : tally n xs r.0 ≡ a = r.3 in let g : 0 + tally n xs r.0 ≡ a = omega (arith, e) in g))

-- the step of the node after exactly `a` of its steps
pub record IsBelow (n : ℕ) (xs : List TraceAction) (i a : ℕ) : Type 0 where
  pub at : ℕ
  pub before : at < i
  pub within : at < length xs
  pub touched : touches (trace_action_at xs at).cause.event n ≡ true
  pub is : tally n xs at ≡ a

pub below : (n : ℕ) (xs : List TraceAction) (i a : ℕ) → a < tally n xs i → IsBelow n xs i a
below n [] i a l = absurd (omega (arith, l))
below n (x ∷ xs) zero a l = absurd (omega (arith, l))
below n (x ∷ xs) (suc i) a l = go a (touches x.cause.event n) refl l (below n xs i)
  where
    later_by : (a b : ℕ) → cond (touches x.cause.event n) 1 0 + b ≡ a → IsBelow n xs i b → IsBelow n (x ∷ xs) (suc i) a
    later_by a b e r =
        let k : r.at < i = r.before in
        let m : r.at < length xs = r.within in
        record { at = suc r.at; before = omega (arith, k); within = omega (arith, m); touched = r.touched; is = ap (λ (z : ℕ). cond (touches x.cause.event n) 1 0 + z) r.is ∙ e }

    go : (a : ℕ) (b : Bool) → touches x.cause.event n ≡ b → a < cond b 1 0 + tally n xs i → ((a : ℕ) → a < tally n xs i → IsBelow n xs i a) → IsBelow n (x ∷ xs) (suc i) a
    go zero true is k again = record { at = 0; before = omega arith; within = omega arith; touched = is; is = refl }
    go (suc a) true is k again = later_by (suc a) a (ap (λ (b : Bool). cond b 1 0 + a) is ∙ (let g : 1 + a ≡ suc a = omega arith in g)) (again a (omega (arith, k)))
    go a false is k again = later_by a a (ap (λ (b : Bool). cond b 1 0 + a) is ∙ (let g : 0 + a ≡ a = omega arith in g)) (again a (omega (arith, k)))
