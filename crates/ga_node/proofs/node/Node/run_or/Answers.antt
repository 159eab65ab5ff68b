use Rattle.std.proofs.Common.{refl, rules, ◌≡◌, ◌<◌, ◌%◌, ◌^◌}
use Rattle.std.specs.Prelude.{bit_xor}
use Rattle.std.proofs.Math.Nat.{mod-eq_of_lt}
use Rattle.std.proofs.lemmas.Nat.{xor_lt}
use Rattle.ga_node.specs.State.{node_with_restored_values}
use Rattle.ga_node.proofs.Saving.{made, saves_then}
use Rattle.ga_node.proofs.node.Node.run_or.Goals as goal

pub returns : goal.returns
unfolding node_with_restored_values
returns c =
    let small : bit_xor c.get-x.result c.get-y.result < 2 ^ 18 = xor_lt 18 c.get-x.result c.get-y.result c.get-x.ensures.in_range c.get-y.ensures.in_range in
    let whole : bit_xor c.get-x.result c.get-y.result % 2 ^ 18 ≡ bit_xor c.get-x.result c.get-y.result = mod-eq_of_lt small in
    made c.requires (saves_then c.pop_to.ensures.saves c.go_on.ensures.saves (λ n m. refl)) refl (search rules)
    (rw (c.go_on.ensures.change, c.pop_to.ensures.change, c.from_low_bits.ensures, whole, c.get-x.ensures.value, c.get-y.ensures.value, c.top-top.ensures, c.second-second.ensures) refl)
