use Rattle.std.proofs.Common.{◌≡◌, drop}
use Rattle.std.specs.Prelude.{replicate}
use Rattle.ga_dap_breakpoints.specs.Reversing.{hit_counts_updated_from_index}
use Rattle.ga_dap_breakpoints.proofs.reversing.count_hits_in_history.Given as goal

abbrev pub invariant-breakpoints : goal.invariant-breakpoints
invariant-breakpoints l = hit_counts_updated_from_index l.lab l.place (drop l.place l.breakpoints) l.counts ≡ hit_counts_updated_from_index l.lab 0 l.breakpoints (replicate 64 0)
