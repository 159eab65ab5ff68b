use Rattle.std.proofs.Common.{◌≡◌, ◌%◌, ◌^◌, ◌-◌, ◌==◌, false, refl, rules, arith}
use Rattle.std.proofs.Math.Nat.{mod-eq_of_lt}
use Rattle.ga_node.specs.State.{node_with_restored_values}
use Rattle.ga_node.proofs.Saving.{made, saves_then}
use Rattle.ga_node.proofs.node.Node.run_next.Goals as goal

pub returns-then-count-eq0 : goal.returns-then-count-eq0
unfolding node_with_restored_values
returns-then-count-eq0 c =
    rw (← c.top_return-top.ensures, ← c.get-count.ensures.value, c.if-count-eq0.true)
    (made c.requires.empty (saves_then c.pop_return.ensures.saves c.skip.ensures.saves (λ n m. refl)) refl (search rules)
    (rw (c.skip.ensures.change, c.pop_return.ensures.change) refl))

pub returns-else-count-eq0 : goal.returns-else-count-eq0
unfolding node_with_restored_values
returns-else-count-eq0 c =
    let whole : (c.get-count.result - 1) % 2 ^ 18 ≡ (c.get-count.result - 1) = mod-eq_of_lt (omega arith) in
    let more : (c.get-count.result == 0) ≡ false = grind arith in
    rw (← c.top_return-top.ensures, ← c.get-count.ensures.value, more)
    (made c.requires.empty (saves_then c.set_top_return.ensures.saves c.jump.ensures.saves (λ n m. refl)) refl (search rules)
    (rw (c.jump.ensures.change, c.set_top_return.ensures.change, c.from_low_bits.ensures, whole) refl))
