use Rattle.std.proofs.Common.{◌≡◌, drop, None}
use Rattle.ga_dap_breakpoints.specs.Reversing.{most_steps_kept_by_breakpoints}
use Rattle.ga_dap_breakpoints.proofs.reversing.most_steps_kept_by_breakpoints.Given as goal

abbrev pub invariant-breakpoints : goal.invariant-breakpoints
invariant-breakpoints l = most_steps_kept_by_breakpoints l.lab l.node l.latest (drop l.one-index l.breakpoints) ≡ most_steps_kept_by_breakpoints l.lab l.node None l.breakpoints
