use Rattle.std.proofs.Common.{◌≡◌, ◌++◌, drop, map, flat_map}
use Rattle.ga_state_expectations.specs.Lines.{line_expectation_content, line_expectations_for_node}
use Rattle.ga_state_expectations.proofs.lines.add_of_nodes.Given as goal

abbrev pub invariant-loop-node : goal.invariant-loop-node
invariant-loop-node l =
    map line_expectation_content l.expectations.items ++ flat_map (line_expectations_for_node l.notes l.line) (drop l.node-index l.nodes)
    ≡ map line_expectation_content l.fn.expectations.items ++ flat_map (line_expectations_for_node l.notes l.line) l.nodes
