use Rattle.std.proofs.Common.{refl, rules}
use Rattle.ga_node.specs.State.{node_with_restored_values}
use Rattle.ga_node.proofs.Saving.{made, saves_then}
use Rattle.ga_node.proofs.node.Node.run_b_store.Goals as goal

pub returns : goal.returns
unfolding node_with_restored_values
returns c =
    made c.requires (saves_then (saves_then c.set_b.ensures.saves c.pop_data.ensures.saves (λ n m. refl)) c.go_on.ensures.saves (λ n m. refl)) refl (search rules)
    (rw (c.go_on.ensures.change, c.pop_data.ensures.change, c.set_b.ensures.change, c.get-word.ensures.value, c.top-top.ensures) refl)
