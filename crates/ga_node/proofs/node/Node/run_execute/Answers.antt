use Rattle.std.proofs.Common.{refl, rules, ◌≡◌, ◌%◌, ◌^◌, arith}
use Rattle.std.proofs.Math.Nat.{mod-eq_of_lt}
use Rattle.ga_node.specs.State.{node_with_restored_values}
use Rattle.ga_node.proofs.Saving.{made, saves_then}
use Rattle.ga_node.proofs.node.Node.run_execute.Goals as goal

pub returns : goal.returns
unfolding node_with_restored_values
returns c =
    let whole : c.p-old.result % 2 ^ 18 ≡ c.p-old.result = mod-eq_of_lt (omega arith) in
    made c.requires (saves_then (saves_then c.set_p.ensures.saves c.set_top_return.ensures.saves (λ n m. refl)) c.skip.ensures.saves (λ n m. refl)) refl (search rules)
    (rw (c.skip.ensures.change, c.set_top_return.ensures.change, c.set_p.ensures.change, c.from_low_bits.ensures, whole, c.p-old.ensures.value, c.get-p.ensures.value, c.top_return-top.ensures) refl)
