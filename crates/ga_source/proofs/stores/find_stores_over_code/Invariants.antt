use Rattle.std.proofs.Common.{◌≡◌, drop, ◌++◌}
use Rattle.ga_source.specs.Stores.{code_stores_of_requests, stores_over_code_of_program, code_line_of_each_cell}
use Rattle.ga_source.proofs.stores.find_stores_over_code.Given as goal

abbrev pub invariant-loop-asked : goal.invariant-loop-asked
invariant-loop-asked l = l.stores.items ++ code_stores_of_requests l.program (code_line_of_each_cell l.program) l.known (drop l.asked-index l.program.asked.items) ≡ stores_over_code_of_program l.program
