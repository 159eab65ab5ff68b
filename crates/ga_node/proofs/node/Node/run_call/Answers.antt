use Rattle.std.proofs.Common.{refl, rules, ◌≡◌, ◌%◌, ◌^◌, arith}
use Rattle.std.proofs.Math.Nat.{mod-eq_of_lt}
use Rattle.ga_node.specs.State.{node_with_restored_values}
use Rattle.ga_node.proofs.Saving.{made, saves_then}
use Rattle.ga_node.proofs.node.Node.run_call.Goals as goal

pub returns : goal.returns
unfolding node_with_restored_values
returns c =
    let whole : c.p-p.result % 2 ^ 18 ≡ c.p-p.result = mod-eq_of_lt (omega arith) in
    made c.requires.empty (saves_then c.push_return.ensures.saves c.jump.ensures.saves (λ n m. refl)) refl (search rules)
    (rw (c.jump.ensures.change, c.push_return.ensures.change, c.from_low_bits.ensures, whole, c.p-p.ensures.value) refl)
