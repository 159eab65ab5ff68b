use Rattle.std.proofs.Common.{refl, rules}
use Rattle.ga_node.specs.State.{node_with_restored_values}
use Rattle.ga_node.proofs.Saving.{made, saves_then}
use Rattle.ga_node.proofs.node.Node.run_multiply_step.Goals as goal

pub returns : goal.returns
unfolding node_with_restored_values
returns c =
    made c.requires (saves_then (saves_then c.set_a.ensures.saves c.set_top.ensures.saves (λ n m. refl)) c.go_on.ensures.saves (λ n m. refl)) refl (search rules)
    (rw (c.go_on.ensures.change, c.set_top.ensures.change, c.set_a.ensures.change, c.mul_step-high.ensures.high, c.mul_step-high.ensures.low, c.top-top.ensures, c.second-second.ensures, c.a-a.ensures) refl)
