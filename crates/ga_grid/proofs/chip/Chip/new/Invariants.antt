use Rattle.std.proofs.Common.{◌≡◌, map}
use Rattle.std.specs.List.{range_with_len}
use Rattle.ga_node.specs.Record.{node_at_load_defaults}
use Rattle.ga_grid.specs.Grid.{initial_p_of_node}
use Rattle.ga_grid.proofs.chip.Chip.new.Given as goal

-- the nodes so far
abbrev pub invariant-loop-number : goal.invariant-loop-number
invariant-loop-number l = l.nodes.items ≡ map (λ n. node_at_load_defaults (initial_p_of_node n)) (range_with_len 0 l.number)
