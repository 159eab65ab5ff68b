use Rattle.std.proofs.Common.{◌≡◌, ◌≤◌}
use Rattle.ga_provenance.specs.Deciding.{has_port_code}
use Rattle.ga_provenance.proofs.deciding.has_port_code.Given as goal

-- the steps so far brought no instruction word
abbrev pub invariant-going : goal.invariant-going
invariant-going l = record {
  within : l.step ≤ l.fn.place;
  same : has_port_code l.lab l.node.number l.step ≡ has_port_code l.lab l.node.number l.fn.place;
}

abbrev pub decreases-going : goal.decreases-going
decreases-going l = l.step
