-- The first of the nodes round the chip.
use Rattle.std.proofs.Common.{◌≡◌, ◌≢◌, ℕ, zero, suc, ◌+◌, ◌-◌, ◌%◌, ◌<◌, ◌≤◌, Bool, true, false, cond, Some, None, inl, inr, true≢false, refl, sym, ◌∙◌, ap, arith, List, ◌&&◌}
use Rattle.std.specs.Prelude.{Option, IfSome, IfNone, is_ok}
use Rattle.std.proofs.lemmas.Bool.{cases_lt, lt-ltb}
use Rattle.std.proofs.Math.Nat.{mod-eq_of_lt}
use Rattle.ga_grid.proofs.NodeIds.{NodeId-same, node_id-number}
use Rattle.ga_grid.specs.declared.node_id.NodeId.{NodeId}
use Rattle.ga_grid.specs.Grid.{node_id}
use Rattle.ga_races.specs.Orders.{first_node_from_that_passes_test, node_has_event}
use Rattle.ga_node.specs.Record.{NodeRecord}
use Rattle.ga_event.specs.Next.{next_event_of_node}

below : (n : ℕ) → n % 144 < 144
below n = omega arith

pub first_same : (f g : ℕ → Bool) (n k : ℕ) → ((m : ℕ) → m < 144 → f m ≡ g m) → first_node_from_that_passes_test f n k ≡ first_node_from_that_passes_test g n k
first_same f g n zero h = refl
first_same f g n (suc k) h =
    ap (λ b. cond b (Some (node_id n)) (first_node_from_that_passes_test f (n + 1) k)) (h (n % 144) (below n))
    ∙ ap (λ z. cond (g (n % 144)) (Some (node_id n)) z) (first_same f g (n + 1) k h)

-- where the first d have none and the next has it
pub first_is : (f : ℕ → Bool) (n k d : ℕ) → d < k → ((i : ℕ) → i < d → f ((n + i) % 144) ≡ false) → f ((n + d) % 144) ≡ true → first_node_from_that_passes_test f n k ≡ Some (node_id (n + d))
first_is f n zero d l before is = absurd (omega arith)
first_is f n (suc k) zero l before is =
    let e : n + 0 ≡ n = omega arith in
    ap (λ b. cond b (Some (node_id n)) (first_node_from_that_passes_test f (n + 1) k)) (ap (λ z. f (z % 144)) (sym e) ∙ is) ∙ ap (λ z. Some (node_id z)) (sym e)
first_is f n (suc k) (suc d) l before is =
    let e : n + 0 ≡ n = omega arith in
    let here : f (n % 144) ≡ false = ap (λ z. f (z % 144)) (sym e) ∙ before 0 (omega arith) in
    let same : (i : ℕ) → n + 1 + i ≡ n + suc i = λ i. omega arith in
    ap (λ b. cond b (Some (node_id n)) (first_node_from_that_passes_test f (n + 1) k)) here
    ∙ first_is f (n + 1) k d (omega arith) (λ i h. ap (λ z. f (z % 144)) (same i) ∙ before (suc i) (omega arith)) (ap (λ z. f (z % 144)) (same d) ∙ is)
    ∙ ap (λ z. Some (node_id z)) (same d)

-- where none of them has it
pub first_none : (f : ℕ → Bool) (n k : ℕ) → ((m : ℕ) → m < 144 → f m ≡ false) → first_node_from_that_passes_test f n k ≡ None
first_none f n zero h = refl
first_none f n (suc k) h = ap (λ b. cond b (Some (node_id n)) (first_node_from_that_passes_test f (n + 1) k)) (h (n % 144) (below n)) ∙ first_none f (n + 1) k h

-- and the other way round
pub none_of : (f : ℕ → Bool) (n k i : ℕ) → first_node_from_that_passes_test f n k ≡ None → i < k → f ((n + i) % 144) ≡ false
none_of f n zero i h l = absurd (omega arith)
none_of f n (suc k) i h l = by_test (f (n % 144)) refl h (λ later j less. none_of f (n + 1) k j later less) i l
  where
    by_test : (b : Bool) → f (n % 144) ≡ b → cond b (Some (node_id n)) (first_node_from_that_passes_test f (n + 1) k) ≡ None
        → (first_node_from_that_passes_test f (n + 1) k ≡ None → (j : ℕ) → j < k → f ((n + 1 + j) % 144) ≡ false)
        → (i : ℕ) → i < suc k → f ((n + i) % 144) ≡ false
    by_test true is none later i less = absurd (cc)
    by_test false is none later zero less = let e : n + 0 ≡ n = omega arith in ap (λ z. f (z % 144)) e ∙ is
    by_test false is none later (suc i) less = let e : n + suc i ≡ n + 1 + i = omega arith in ap (λ z. f (z % 144)) e ∙ later none i (omega arith)

-- by the lowest number from the turn on, else from 0 on
pub first_ahead : (f : ℕ → Bool) (turn n : ℕ) → turn ≤ n → n < 144 → f n ≡ true → ((m : ℕ) → turn ≤ m → m < n → f m ≡ false) → first_node_from_that_passes_test f turn 144 ≡ Some (node_id n)
first_ahead f turn n l r is before =
    let e : turn + (n - turn) ≡ n = omega arith in
    first_is f turn 144 (n - turn) (omega arith)
    (λ i h. let small : turn + i < 144 = omega arith in ap f (mod-eq_of_lt small) ∙ before (turn + i) (omega arith) (omega arith))
    (ap (λ z. f (z % 144)) e ∙ ap f (mod-eq_of_lt r) ∙ is)
    ∙ ap (λ z. Some (node_id z)) e

same_node : (a b : ℕ) → a % 144 ≡ b % 144 → node_id a ≡ node_id b
same_node a b e = NodeId-same (node_id a) (node_id b) e

pub first_behind : (f : ℕ → Bool) (turn n : ℕ) → turn < 144 → n < 144 → f n ≡ true → ((m : ℕ) → turn ≤ m → m < 144 → f m ≡ false) → ((m : ℕ) → m < n → f m ≡ false) → first_node_from_that_passes_test f turn 144 ≡ Some (node_id n)
first_behind f turn n t r is ahead before =
    let less : n < turn = elim (cases_lt n turn) [ inl l ↦ l | inr l ↦ absurd (true≢false (sym is ∙ ahead n l r)) ] in
    let e : turn + (n + 144 - turn) ≡ n + 144 = omega arith in
    let wrap : (n + 144) % 144 ≡ n = omega arith in
    first_is f turn 144 (n + 144 - turn) (omega arith) (λ i h. round i h less) (ap (λ z. f (z % 144)) e ∙ ap f wrap ∙ is)
    ∙ ap (λ z. Some (node_id z)) e ∙ ap Some (same_node (n + 144) n (wrap ∙ sym (mod-eq_of_lt r)))
  where
    round : (i : ℕ) → i < n + 144 - turn → n < turn → f ((turn + i) % 144) ≡ false
    round i h less = elim (cases_lt (turn + i) 144) [
      | inl l ↦ ap f (mod-eq_of_lt l) ∙ ahead (turn + i) (omega arith) l
      | inr l ↦ (let e : (turn + i) % 144 ≡ turn + i - 144 = omega arith in ap f e ∙ before (turn + i - 144) (omega arith))
    ]

-- a node of the set by its number
pub chosen_is : (node : NodeId) (n : ℕ) → node.number ≡ n → n < 144 → Some node ≡ Some (node_id n)
chosen_is node n e l = ap Some (NodeId-same node (node_id n) (e ∙ sym (mod-eq_of_lt l)))

-- what is in the set is a node
pub within : (f : ℕ → Bool) (n : ℕ) → ((m : ℕ) → 144 ≤ m → m < 192 → f m ≡ false) → n < 192 → f n ≡ true → n < 144
within f n past l is = elim (cases_lt n 144) [ inl less ↦ less | inr more ↦ absurd (true≢false (sym is ∙ past n more l)) ]

-- the lowest from the turn on
pub ahead_is : (f : ℕ → Bool) (turn : ℕ) (node : NodeId) → turn ≤ node.number → f node.number ≡ true → ((m : ℕ) → turn ≤ m → m < node.number → f m ≡ false) → Some node ≡ first_node_from_that_passes_test f turn 144
ahead_is f turn node l is before = chosen_is node node.number refl node.in_range ∙ sym (first_ahead f turn node.number l node.in_range is before)

-- else the lowest from 0 on, if any
pub behind_is : (f : ℕ → Bool) (turn start : ℕ) (o : Option NodeId) → turn < 144 → start ≡ 0 → ((m : ℕ) → turn ≤ m → m < 144 → f m ≡ false)
    → IfSome o (λ node. f node.number ≡ true) → IfSome o (λ node. (m : ℕ) → start ≤ m → m < node.number → f m ≡ false)
    → IfNone o ((m : ℕ) → start ≤ m → m < 144 → f m ≡ false) → o ≡ first_node_from_that_passes_test f turn 144
behind_is f turn start None t begins ahead is before none = sym (first_none f turn 144 (λ m l. none m (omega arith) l))
behind_is f turn start (Some node) t begins ahead is before none =
    chosen_is node node.number refl node.in_range ∙ sym (first_behind f turn node.number t node.in_range is ahead (λ m l. before m (omega arith) l))

-- one that is alone
pub alone_is : (f : ℕ → Bool) (turn : ℕ) (node : NodeId) → turn < 144 → f node.number ≡ true → ((m : ℕ) → m < 144 → m ≢ node.number → f m ≡ false) → Some node ≡ first_node_from_that_passes_test f turn 144
alone_is f turn node t is others = elim (cases_lt node.number turn) [
  | inl less ↦ behind_is f turn 0 (Some node) t refl (λ m l h. others m h (λ e. omega arith)) is (λ m l h. others m (omega arith) (λ e. omega arith)) tt
  | inr more ↦ ahead_is f turn node more is (λ m l h. others m (omega arith) (λ e. omega arith))
]

-- one that has the turn
pub turn_is : (f : ℕ → Bool) (turn : NodeId) → f turn.number ≡ true → Some turn ≡ first_node_from_that_passes_test f turn.number 144
turn_is f turn is = ahead_is f turn.number turn (omega arith) is (λ m l h. absurd (omega arith))

-- the only one, if there is none before it, and none from the next number on
pub none_other : (f : ℕ → Bool) (n turn : ℕ) → n + 1 ≡ turn → ((m : ℕ) → turn ≤ m → m < 144 → f m ≡ false) → ((m : ℕ) → 0 ≤ m → m < n → f m ≡ false)
    → (m : ℕ) → m < 144 → m ≢ n → f m ≡ false
none_other f n turn e ahead before m l ne = elim (cases_lt m n) [
  | inl less ↦ before m (omega arith) less
  | inr more ↦ ahead m (omega (arith, e, ne)) l
]

-- of a node by its number
pub can_go_is : (chip : List NodeRecord) (node : NodeId) → node_has_event chip node.number ≡ is_ok (next_event_of_node chip node)
can_go_is chip node =
    ap (λ b. b && is_ok (next_event_of_node chip (node_id node.number))) (lt-ltb node.number 144 node.in_range)
    ∙ ap (λ z. is_ok (next_event_of_node chip z)) (node_id-number node)
