use Rattle.ga_dap_breakpoints.proofs.Tallies.{counted_on}
use Rattle.ga_dap_breakpoints.proofs.laws.incremental_hit_counts_agree.Goals as goal

pub returns : goal.returns
returns c = counted_on
