use Rattle.std.proofs.Common.{◌≤◌}
use Rattle.ga_races.specs.inner.{AddsRacingPairs, IsPairWithLookAtPlace}
use Rattle.ga_races.proofs.racing_pairs.add_changes.Given as goal

abbrev pub invariant-back : goal.invariant-back
invariant-back l = record {
  within : l.place ≤ l.look;
  more : AddsRacingPairs l.acts (IsPairWithLookAtPlace l.look l.place) l.fn.list.items l.list.items;
}

abbrev pub decreases-back : goal.decreases-back
decreases-back l = l.place
