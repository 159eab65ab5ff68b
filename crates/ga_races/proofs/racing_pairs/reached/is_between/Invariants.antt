use Rattle.ga_causal.specs.Dependence.{is_node_flagged}
use Rattle.ga_races.specs.Acts.{trace_actions_of_accesses}
use Rattle.ga_races.specs.inner.{AreNodeSetsOfReachedActions}
use Rattle.ga_races.proofs.racing_pairs.reached.is_between.Given as goal

abbrev pub invariant-between : goal.invariant-between
invariant-between l =
    AreNodeSetsOfReachedActions (trace_actions_of_accesses l.acts) l.first l.later l.place (is_node_flagged l.reached.touched) (is_node_flagged l.reached.shown) (is_node_flagged l.reached.looked)
