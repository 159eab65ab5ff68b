use Rattle.std.proofs.Common.{refl, rules}
use Rattle.ga_node.specs.State.{node_with_restored_values}
use Rattle.ga_node.proofs.Saving.{made, saves_then}
use Rattle.ga_node.proofs.node.Node.run_return.Goals as goal

pub returns : goal.returns
unfolding node_with_restored_values
returns c =
    made c.requires (saves_then (saves_then c.set_p.ensures.saves c.pop_return.ensures.saves (λ n m. refl)) c.skip.ensures.saves (λ n m. refl)) refl (search rules)
    (rw (c.skip.ensures.change, c.pop_return.ensures.change, c.set_p.ensures.change, c.get-p.ensures.value, c.top_return-top.ensures) refl)
