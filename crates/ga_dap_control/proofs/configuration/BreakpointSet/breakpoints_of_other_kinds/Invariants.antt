use Rattle.std.proofs.Common.{◌≡◌, ◌++◌, drop, filter}
use Rattle.ga_dap_control.specs.Breakpoints.{is_other_breakpoint_kind}
use Rattle.ga_dap_control.proofs.configuration.BreakpointSet.breakpoints_of_other_kinds.Given as goal

abbrev pub invariant-placed : goal.invariant-placed
invariant-placed l = l.list.items ++ filter (is_other_breakpoint_kind l.family) (drop l.one-index l.self.placed.items) ≡ filter (is_other_breakpoint_kind l.family) l.self.placed.items
