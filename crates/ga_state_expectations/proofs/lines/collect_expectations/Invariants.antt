use Rattle.std.proofs.Common.{◌≡◌, ◌++◌, drop, map}
use Rattle.ga_state_expectations.specs.Lines.{line_expectation_content, expectations_of_source_lines}
use Rattle.ga_state_expectations.proofs.lines.collect_expectations.Given as goal

abbrev pub invariant-loop-line : goal.invariant-loop-line
invariant-loop-line l =
    map line_expectation_content l.expectations.items ++ expectations_of_source_lines l.notes (drop l.line-index l.lines) ≡ expectations_of_source_lines l.notes l.lines
