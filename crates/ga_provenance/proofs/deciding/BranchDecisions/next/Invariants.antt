use Rattle.std.proofs.Common.{◌≡◌}
use Rattle.ga_lab.specs.Machine.{node_at_step}
use Rattle.ga_provenance.specs.Deciding.{newest_decision}
use Rattle.ga_provenance.proofs.deciding.BranchDecisions.next.Given as goal

-- no value decided the steps so far
abbrev pub invariant-going : goal.invariant-going
invariant-going l = record {
  same : l.self ≡ node_at_step l.fn.self.machine l.fn.self.node l.self.step;
  newest : newest_decision l.fn.self.machine l.fn.self.node l.self.step ≡ newest_decision l.fn.self.machine l.fn.self.node l.fn.self.step;
}

abbrev pub decreases-going : goal.decreases-going
decreases-going l = l.self.step
