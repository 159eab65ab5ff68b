use Rattle.std.proofs.Common.{◌≡◌, ◌≤◌, ◌<◌, ◌^◌, ◌++◌, ℕ, drop, length, map}
use Rattle.ga_parser.specs.Expectations.{no_node_group, node_group_before_line, expectation_content, expectations_of_lines}
use Rattle.ga_parser.specs.Saying.{source_lines}
use Rattle.ga_parser.specs.inner.Expecting.{node_group_of_parser}
use Rattle.ga_parser.specs.inner.Placing.{placed_all}
use Rattle.ga_parser.specs.inner.Resolving.{known_names_of_parser}
use Rattle.ga_parser.proofs.expectations.read_lines.Given as goal

abbrev pub invariant-loop-rest : goal.invariant-loop-rest
invariant-loop-rest l = record {
  lines : map expectation_content l.all.items ++ expectations_of_lines (known_names_of_parser l.resolved) (placed_all l.resolved.words.items) l.line (source_lines l.rest)
      ≡ expectations_of_lines (known_names_of_parser l.resolved) (placed_all l.resolved.words.items) 1 (source_lines l.source);
  group : (later : ℕ) → l.line ≤ later → node_group_before_line later (node_group_of_parser l.group) (placed_all (drop l.next l.resolved.words.items)) ≡ node_group_before_line later no_node_group (placed_all l.resolved.words.items);
  small : l.line < 2 ^ 32;
  within : l.next ≤ length l.resolved.words.items;
}

abbrev pub decreases-loop-rest : goal.decreases-loop-rest
decreases-loop-rest l = length l.rest
