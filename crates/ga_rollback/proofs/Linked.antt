-- The contents of the table of links.
use Rattle.std.specs.Prelude.{◌==◌, ◌&&◌, nat_lt, Option, None}
use Rattle.std.proofs.Common.{◌≡◌, ℕ, zero, suc, ◌+◌, ◌*◌, ◌-◌, ◌<◌, ◌≤◌, Bool, true, false, Some, get_or, refl, ap, arith, inl, inr, eq-zero-or-pos}
use Rattle.std.proofs.lemmas.Bool.Decides.{nat_tests}
use Rattle.ga_ports.specs.declared.side.Side.{Side}
use Rattle.ga_ports.specs.declared.side.Side.TheVariants.{Right, Down, Left, Up}
use Rattle.ga_grid.specs.Grid.{neighbour_number}
use Rattle.ga_rollback.specs.declared.links.TheConstants.{BESIDE}
use Rattle.ga_rollback.specs.inner.{equals_node_number, is_table_link, table_place_of_side}

both : (a b : Bool) → (a && b) ≡ true → (a ≡ true) × (b ≡ true)
both true b e = (refl, e)
both false b e = cc

same : (m n : ℕ) → (m == n) ≡ true → m ≡ n
same m n e = grind (arith, nat_tests)

below : (m n : ℕ) → nat_lt m n ≡ true → m < n
below m n e = grind (arith, nat_tests)

abbrev link_is : ℕ → Side → Bool
link_is n side = is_table_link n side (get_or BESIDE (4 * n + table_place_of_side side) 0) (neighbour_number n side)

abbrev row_is : ℕ → Bool
row_is n = (link_is n Right && link_is n Down) && (link_is n Left && link_is n Up)

abbrev rows : ℕ → Bool
rows zero = true
rows (suc n) = row_is n && rows n

row_at : (count n : ℕ) → rows count ≡ true → n < count → row_is n ≡ true
row_at zero n all under = absurd (omega arith)
row_at (suc count) n all under =
    let (here, rest) = both (row_is count) (rows count) all in
    elim (eq-zero-or-pos (count - n)) [
      | inl z ↦ let e : n ≡ count = omega arith in rw e here
      | inr g ↦ row_at count n rest (omega arith)
    ]

pub link_of : (n : ℕ) (side : Side) → n < 144 → link_is n side ≡ true
link_of n side under = go side
  where
    halves : ((link_is n Right && link_is n Down) ≡ true) × ((link_is n Left && link_is n Up) ≡ true)
    halves = both (link_is n Right && link_is n Down) (link_is n Left && link_is n Up) (row_at 144 n refl under)

    go : (s : Side) → link_is n s ≡ true
    go Right = (both (link_is n Right) (link_is n Down) halves.0).0
    go Down = (both (link_is n Right) (link_is n Down) halves.0).1
    go Left = (both (link_is n Left) (link_is n Up) halves.1).0
    go Up = (both (link_is n Left) (link_is n Up) halves.1).1

number_is : (n : ℕ) (o : Option ℕ) → equals_node_number n o ≡ true → o ≡ Some n
number_is n None e = cc
number_is n (Some k) e = ap Some (same k n e)

-- where there is a node
pub some_beside : (n number : ℕ) (side : Side) (o : Option ℕ) → is_table_link n side number o ≡ true → number < 144 → (Some number ≡ o) × (neighbour_number number side ≡ Some n)
some_beside n number side None e under = let h = same number 144 e in absurd (omega (arith, h, under))
some_beside n number side (Some k) e under =
    let (is, rest) = both (number == k) (nat_lt number 144 && equals_node_number n (neighbour_number number side)) e in
    let (within, back) = both (nat_lt number 144) (equals_node_number n (neighbour_number number side)) rest in
    (ap Some (same number k is), number_is n (neighbour_number number side) back)

-- and where there is none
pub none_beside : (n number : ℕ) (side : Side) (o : Option ℕ) → is_table_link n side number o ≡ true → 144 ≤ number → None ≡ o
none_beside n number side None e overlay_nodes = refl
none_beside n number side (Some k) e overlay_nodes =
    let (is, rest) = both (number == k) (nat_lt number 144 && equals_node_number n (neighbour_number number side)) e in
    let (within, back) = both (nat_lt number 144) (equals_node_number n (neighbour_number number side)) rest in
    let h = below number 144 within in absurd (omega (arith, h, overlay_nodes))
