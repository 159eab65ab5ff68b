use Rattle.std.proofs.Common.{◌≡◌, ◌++◌, drop}
use Rattle.ga_debug_info.specs.Faults.{stores_of_programs}
use Rattle.ga_debug_info.proofs.faults.stores_of.Given as goal

abbrev pub invariant-loop-program : goal.invariant-loop-program
invariant-loop-program l = l.all.items ++ stores_of_programs (drop l.program-index l.programs) ≡ stores_of_programs l.programs
