use Rattle.std.proofs.Common.{◌≡◌, ◌++◌, take}
use Rattle.ga_node.specs.inner.Saving.{data_stack_as_node_values}
use Rattle.ga_node.proofs.node.changes.save_data.Given as goal

abbrev pub invariant-loop-place : goal.invariant-loop-place
invariant-loop-place l = l.saved ≡ l.initial.saved ++ data_stack_as_node_values (take l.place-index l.place-items)
