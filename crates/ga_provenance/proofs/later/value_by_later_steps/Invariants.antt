use Rattle.std.proofs.Common.{ℕ, ◌-◌, ◌≤◌}
use Rattle.ga_lab.specs.Holding.{HoldsPlaceValue}
use Rattle.ga_provenance.specs.Origins.{node_after_steps}
use Rattle.ga_provenance.proofs.later.value_by_later_steps.Given as goal

-- what the place holds now it held where the search began, since the steps so far left it
abbrev pub invariant-looking : goal.invariant-looking
invariant-looking l = record {
  order : l.place ≤ l.at;
  same : (value : ℕ) → HoldsPlaceValue (node_after_steps l.lab l.node.number l.at) l.what value → HoldsPlaceValue (node_after_steps l.lab l.node.number l.place) l.what value;
}

abbrev pub decreases-looking : goal.decreases-looking
decreases-looking l = l.steps - l.at
