use Rattle.std.proofs.Common.{◌≡◌, ◌++◌, drop, map}
use Rattle.ga_dap_control.specs.declared.configuration.PlacedBreakpoint.{PlacedBreakpoint}
use Rattle.ga_dap_control.proofs.configuration.breakpoints_of.Given as goal

abbrev pub invariant-placed : goal.invariant-placed
invariant-placed l = l.list.items ++ map (λ (one : PlacedBreakpoint). one.breakpoint) (drop l.one-index l.placed) ≡ map (λ (one : PlacedBreakpoint). one.breakpoint) l.placed
