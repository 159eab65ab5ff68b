use Rattle.std.proofs.Common.{refl, rules, ◌≡◌, ◌<◌, ◌%◌, ◌^◌, arith, bit_and}
use Rattle.std.proofs.Math.Nat.{mod-eq_of_lt}
use Rattle.std.proofs.lemmas.Nat.{and_le_l}
use Rattle.ga_node.specs.State.{node_with_restored_values}
use Rattle.ga_node.proofs.Saving.{made, saves_then}
use Rattle.ga_node.proofs.node.Node.run_and.Goals as goal

pub returns : goal.returns
unfolding node_with_restored_values
returns c =
    let small : bit_and c.get-x.result c.get-y.result < 2 ^ 18 = omega (arith, and_le_l c.get-x.result c.get-y.result) in
    let whole : bit_and c.get-x.result c.get-y.result % 2 ^ 18 ≡ bit_and c.get-x.result c.get-y.result = mod-eq_of_lt small in
    made c.requires (saves_then c.pop_to.ensures.saves c.go_on.ensures.saves (λ n m. refl)) refl (search rules)
    (rw (c.go_on.ensures.change, c.pop_to.ensures.change, c.from_low_bits.ensures, whole, c.get-x.ensures.value, c.get-y.ensures.value, c.top-top.ensures, c.second-second.ensures) refl)
