use Rattle.std.proofs.Common.{refl, rules}
use Rattle.ga_node.specs.State.{node_with_restored_values}
use Rattle.ga_node.proofs.Saving.{made, saves_then}
use Rattle.ga_node.proofs.node.Node.run_pop.Goals as goal

pub returns : goal.returns
unfolding node_with_restored_values
returns c =
    made c.requires (saves_then (saves_then c.push_data.ensures.saves c.pop_return.ensures.saves (λ n m. refl)) c.go_on_seventh.ensures.saves (λ n m. refl)) refl (search rules)
    (rw (c.go_on_seventh.ensures.change, c.pop_return.ensures.change, c.push_data.ensures.change, c.top_return-top.ensures) refl)
