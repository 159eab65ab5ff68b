use Rattle.std.proofs.Common.{◌≡◌, ◌++◌, drop, map}
use Rattle.ga_source.specs.declared.program.Program.{Program}
use Rattle.ga_dap.proofs.opening.nodes_of.Given as goal

abbrev pub invariant-programs : goal.invariant-programs
invariant-programs l = l.nodes.items ++ map (λ (p : Program). p.node) (drop l.program-index l.programs) ≡ map (λ (p : Program). p.node) l.programs
