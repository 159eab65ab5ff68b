-- A node is its number.
use Rattle.std.proofs.Common.{◌≡◌, ◌≢◌, ℕ, ◌<◌, arith, Option, None, ap, refl, sym, ◌∙◌, subst}
use Rattle.std.specs.Prelude.{Some, option_map}
use Rattle.ga_ports.specs.declared.side.Side.{Side}
use Rattle.ga_ports.specs.declared.side.Side.TheVariants.{Right, Down, Left, Up}
use Rattle.ga_grid.specs.Grid.{neighbour_number, optional_node_number, node_id}
use Rattle.std.proofs.Math.Bridge.{le_prop}
use Rattle.std.proofs.Math.Nat.{mod-eq_of_lt}
use Rattle.ga_grid.specs.declared.node_id.NodeId.{NodeId}

-- ---- A link leads back, and never to its own node

pub neighbour_number-back : (n m : ℕ) (side : Side) → n < 144 → neighbour_number n side ≡ Some m → neighbour_number m side ≡ Some n
neighbour_number-back n m Right l h = grind arith
neighbour_number-back n m Down l h = grind arith
neighbour_number-back n m Left l h = grind arith
neighbour_number-back n m Up l h = grind arith

pub neighbour_number-other : (n m : ℕ) (side : Side) → neighbour_number n side ≡ Some m → m ≢ n
neighbour_number-other n m Right h = grind arith
neighbour_number-other n m Down h = grind arith
neighbour_number-other n m Left h = grind arith
neighbour_number-other n m Up h = grind arith

abbrev node : (n : ℕ) → n < 144 → NodeId
node n l = record { number = n; in_range = l }

same_node : (n m : ℕ) (l : n < 144) → n ≡ m → (k : m < 144) → node n l ≡ node m k
same_node n m l e = let P : ℕ → Type 0 = λ m. (k : m < 144) → node n l ≡ node m k in subst P e (λ k. ap (λ z. node n z) (le_prop l k))

-- two nodes with one number are one
pub NodeId-same : (a b : NodeId) → a.number ≡ b.number → a ≡ b
NodeId-same a b e = same_node a.number b.number a.in_range e b.in_range

pub node_id-number : (a : NodeId) → node_id a.number ≡ a
node_id-number a = NodeId-same (node_id a.number) a (mod-eq_of_lt a.in_range)

-- a node that is known by its number
pub node_id-number_in : (found : Option NodeId) → option_map node_id (optional_node_number found) ≡ found
node_id-number_in None = refl
node_id-number_in (Some a) = ap Some (node_id-number a)

pub from_number_in : (found : Option NodeId) (number : Option ℕ) → optional_node_number found ≡ number → found ≡ option_map node_id number
from_number_in found number e = sym (node_id-number_in found) ∙ ap (λ z. option_map node_id z) e
