use Rattle.std.proofs.Common.{[]}
use Rattle.ga_causal.specs.Dependence.{is_node_flagged}
use Rattle.ga_races.specs.inner.{AddsRacingPairs, IsPairBelowPlace, AreLookingNodesMarked}
use Rattle.ga_races.proofs.racing_pairs.find_racing_pairs.Given as goal

abbrev pub invariant-acts : goal.invariant-acts
invariant-acts l = record {
  more : AddsRacingPairs l.acts (IsPairBelowPlace l.place) [] l.list.items;
  looked : AreLookingNodesMarked l.acts l.place (is_node_flagged l.looked);
}
