use Rattle.std.proofs.Common.{◌≡◌}
use Rattle.ga_check_report.specs.Settled.{state_after_settling_lower_nodes}
use Rattle.ga_check_report.proofs.settling.settle_all.Given as goal

abbrev pub invariant-nodes : goal.invariant-nodes
invariant-nodes l = l.lab ≡ state_after_settling_lower_nodes l.initial.lab l.number
