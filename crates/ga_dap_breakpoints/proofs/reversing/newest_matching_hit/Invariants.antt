use Rattle.std.proofs.Common.{◌≡◌, ◌≤◌, Some}
use Rattle.ga_lab.specs.Machine.{node_at_step}
use Rattle.ga_dap_breakpoints.specs.declared.condition.HitCondition.{HitCondition}
use Rattle.ga_dap_breakpoints.specs.Reversing.{hit_count_among_steps, newest_matching_hit}
use Rattle.ga_dap_breakpoints.proofs.reversing.newest_matching_hit.Given as goal

abbrev pub invariant-going : goal.invariant-going
invariant-going l = record {
  walk : l.walk ≡ node_at_step l.lab l.node l.walk.step;
  order : l.step ≤ l.walk.step;
  within : l.step ≤ l.among;
  counted : (hits : HitCondition) → l.one.hits ≡ Some hits → l.number ≡ hit_count_among_steps l.lab l.node l.one l.step;
  same : newest_matching_hit l.lab l.node l.one l.among ≡ newest_matching_hit l.lab l.node l.one l.step;
}

abbrev pub decreases-going : goal.decreases-going
decreases-going l = l.step
