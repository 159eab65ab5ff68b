use Rattle.std.proofs.Common.{◌≡◌, ◌/◌, ◌%◌, refl, rules, arith}
use Rattle.ga_node.specs.State.{node_with_restored_values}
use Rattle.ga_node.proofs.Saving.{made, saves_then}
use Rattle.ga_node.proofs.node.Node.run_plus.Goals as goal

pub returns-then-p-eq1 : goal.returns-then-p-eq1
unfolding node_with_restored_values
returns-then-p-eq1 c =
    rw (← c.p-p.ensures.value, c.if-p-eq1.true)
    (made c.requires (saves_then (saves_then c.set_carry.ensures.saves c.pop_to.ensures.saves (λ n m. refl)) c.go_on.ensures.saves (λ n m. refl)) refl (search rules)
    (rw (c.go_on.ensures.change, c.pop_to.ensures.change, c.set_carry.ensures.change, c.add_carry-sum.ensures.sum, c.add_carry-sum.ensures.carry, c.top-top.ensures, c.second-second.ensures, c.carry-old.ensures) refl))

pub returns-else-p-eq1 : goal.returns-else-p-eq1
unfolding node_with_restored_values
returns-else-p-eq1 c =
    let even : c.p-p.result / 512 % 2 ≡ 0 = omega arith in
    rw (← c.p-p.ensures.value, even)
    (made c.requires (saves_then c.pop_to-else-p-eq1.ensures.saves c.go_on-else-p-eq1.ensures.saves (λ n m. refl)) refl (search rules)
    (rw (c.go_on-else-p-eq1.ensures.change, c.pop_to-else-p-eq1.ensures.change, c.add.ensures, c.top-top.ensures, c.second-second.ensures) refl))
