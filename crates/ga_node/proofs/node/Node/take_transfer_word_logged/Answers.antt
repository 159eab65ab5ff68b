use Rattle.std.proofs.Common.{refl, rules}
use Rattle.ga_node.specs.State.{node_with_restored_values}
use Rattle.ga_node.specs.Table.{taken}
use Rattle.ga_node.proofs.Saving.{overwrites, saves_then}
use Rattle.ga_node.proofs.node.Node.take_transfer_word_logged.Goals as goal

pub returns-in-Fetch-clause-taken : goal.returns-in-Fetch-clause-taken
unfolding taken
returns-in-Fetch-clause-taken c = rw (← c.in-Fetch.ensures.value, c.start_again.ensures.change, c.set_i.ensures.change, c.end_wait.ensures.change) refl

pub returns-in-Fetch-clause-saves : goal.returns-in-Fetch-clause-saves
unfolding node_with_restored_values
returns-in-Fetch-clause-saves c =
    rw (← c.in-Fetch.ensures.value)
    (overwrites c.requires.empty (saves_then (saves_then c.end_wait.ensures.saves c.set_i.ensures.saves (λ n m. refl)) c.start_again.ensures.saves (λ n m. refl)) refl (search rules))

pub returns-in-Read-clause-taken : goal.returns-in-Read-clause-taken
unfolding taken
returns-in-Read-clause-taken c = rw (← c.in-Read.ensures.value, c.go_on.ensures.change, c.push_data.ensures.change, c.end_wait.ensures.change) refl

pub returns-in-Read-clause-saves : goal.returns-in-Read-clause-saves
unfolding node_with_restored_values
returns-in-Read-clause-saves c =
    rw (← c.in-Read.ensures.value)
    (overwrites c.requires.empty (saves_then (saves_then c.end_wait.ensures.saves c.push_data.ensures.saves (λ n m. refl)) c.go_on.ensures.saves (λ n m. refl)) refl (search rules))
