use Rattle.std.proofs.Common.{◌≡◌, ◌++◌, drop}
use Rattle.ga_state_expectations.specs.Lines.{expectation_faults_of_lines}
use Rattle.ga_state_expectations.proofs.lines.find_faults.Given as goal

abbrev pub invariant-loop-line : goal.invariant-loop-line
invariant-loop-line l = l.faults.items ++ expectation_faults_of_lines l.notes (drop l.line-index l.lines) ≡ expectation_faults_of_lines l.notes l.lines
