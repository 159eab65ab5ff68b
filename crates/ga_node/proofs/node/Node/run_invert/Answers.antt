use Rattle.std.proofs.Common.{refl, rules, ◌≡◌, ◌%◌, ◌^◌, ◌-◌, arith}
use Rattle.std.proofs.Math.Nat.{mod-eq_of_lt}
use Rattle.ga_node.specs.State.{node_with_restored_values}
use Rattle.ga_node.proofs.Saving.{made, saves_then}
use Rattle.ga_node.proofs.node.Node.run_invert.Goals as goal

pub returns : goal.returns
unfolding node_with_restored_values
returns c =
    let whole : (262143 - c.get-word.result) % 2 ^ 18 ≡ (262143 - c.get-word.result) = mod-eq_of_lt (omega arith) in
    made c.requires (saves_then c.set_top.ensures.saves c.go_on.ensures.saves (λ n m. refl)) refl (search rules)
    (rw (c.go_on.ensures.change, c.set_top.ensures.change, c.from_low_bits.ensures, whole, c.get-word.ensures.value, c.top-top.ensures) refl)
