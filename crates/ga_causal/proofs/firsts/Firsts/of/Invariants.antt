use Rattle.std.proofs.Common.{◌≡◌}
use Rattle.ga_causal.specs.inner.{oldest_place_of_node, AreOldestEventPlaces}
use Rattle.ga_causal.proofs.firsts.Firsts.of.Given as goal

-- the events so far are noted
abbrev pub invariant-loop-place : goal.invariant-loop-place
invariant-loop-place l = record {
  firsts : AreOldestEventPlaces l.events l.from l.place l.to (oldest_place_of_node l.firsts);
  none : l.firsts.none ≡ l.to;
}
