use Rattle.std.proofs.Common.{◌≡◌, ◌++◌, map, drop}
use Rattle.ga_source.specs.Recovery.{fault_at_line_of_word}
use Rattle.ga_source.proofs.numbered_words.faults_on_lines_of_words.Given as goal

abbrev pub invariant-loop-fault : goal.invariant-loop-fault
invariant-loop-fault l = l.all.items ++ map (fault_at_line_of_word l.words) (drop l.fault-index l.faults) ≡ map (fault_at_line_of_word l.words) l.faults
