use Rattle.std.proofs.Common.{◌≡◌, ◌++◌, drop, filter}
use Rattle.ga_dap_control.specs.Stopping.{is_placed_breakpoint_hit}
use Rattle.ga_dap_control.proofs.configuration.BreakpointSet.hits.Given as goal

abbrev pub invariant-placed : goal.invariant-placed
invariant-placed l = l.list.items ++ filter (is_placed_breakpoint_hit l.made l.lab) (drop l.one-index l.self.placed.items) ≡ filter (is_placed_breakpoint_hit l.made l.lab) l.self.placed.items
