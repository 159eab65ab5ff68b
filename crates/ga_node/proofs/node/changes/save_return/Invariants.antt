use Rattle.std.proofs.Common.{◌≡◌, ◌++◌, take}
use Rattle.ga_node.specs.inner.Saving.{return_stack_as_node_values}
use Rattle.ga_node.proofs.node.changes.save_return.Given as goal

abbrev pub invariant-loop-place : goal.invariant-loop-place
invariant-loop-place l = l.saved ≡ l.initial.saved ++ return_stack_as_node_values (take l.place-index l.place-items)
