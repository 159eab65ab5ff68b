use Rattle.std.proofs.Common.{refl, rules}
use Rattle.ga_node.specs.State.{node_with_restored_values}
use Rattle.ga_node.specs.Table.{sent}
use Rattle.ga_node.proofs.Saving.{overwrites, saves_then}
use Rattle.ga_node.proofs.node.Node.send_transfer_word_logged.Goals as goal

pub returns-clause-sent : goal.returns-clause-sent
unfolding sent
returns-clause-sent c = rw (c.go_on.ensures.change, c.pop_data.ensures.change, c.end_wait.ensures.change) refl

pub returns-clause-saves : goal.returns-clause-saves
unfolding node_with_restored_values
returns-clause-saves c = overwrites c.requires.empty (saves_then (saves_then c.end_wait.ensures.saves c.pop_data.ensures.saves (λ n m. refl)) c.go_on.ensures.saves (λ n m. refl)) refl (search rules)
