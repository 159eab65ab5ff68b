use Rattle.std.proofs.Common.{◌≡◌, ◌++◌, drop, flat_map}
use Rattle.ga_debug_info.specs.Faults.{prefixed_line, source_fault_text}
use Rattle.ga_debug_info.proofs.causes.push_all.Given as goal

abbrev pub invariant-loop-fault : goal.invariant-loop-fault
invariant-loop-fault l =
    l.text.items ++ flat_map (λ fault. prefixed_line l.prefix (source_fault_text fault)) (drop l.fault-index l.faults) ≡ l.fn.text.items ++ flat_map (λ fault. prefixed_line l.prefix (source_fault_text fault)) l.faults
