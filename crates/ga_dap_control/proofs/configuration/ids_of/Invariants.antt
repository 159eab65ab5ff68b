use Rattle.std.proofs.Common.{◌≡◌, ◌++◌, drop, map}
use Rattle.ga_dap_control.specs.declared.configuration.PlacedBreakpoint.{PlacedBreakpoint}
use Rattle.ga_dap_control.proofs.configuration.ids_of.Given as goal

abbrev pub invariant-placed : goal.invariant-placed
invariant-placed l = l.list.items ++ map (λ (one : PlacedBreakpoint). one.id) (drop l.one-index l.placed) ≡ map (λ (one : PlacedBreakpoint). one.id) l.placed
