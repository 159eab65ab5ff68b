use Rattle.std.proofs.Common.{◌≡◌, List, [], subst, arith}
use Rattle.ga_causal.specs.Dependence.{is_node_flagged}
use Rattle.ga_races.specs.declared.racing_pairs.RacingPair.{RacingPair}
use Rattle.ga_races.specs.inner.{AddsRacingPairs, IsPairBelowPlace}
use Rattle.ga_races.proofs.Asking.{none_first, place_next, marks_next, all_found}
use Rattle.ga_races.proofs.racing_pairs.find_racing_pairs.Goals as goal

pub acts-init : goal.acts-init
acts-init c = record {
  more = subst (λ (z : List RacingPair). AddsRacingPairs c.args.acts.now (IsPairBelowPlace 0) [] z) (let e : [] ≡ c.new-list.result.items = cc in e) (none_first c.args.acts.now []);
  looked = λ q n l h. absurd (omega (arith, l));
}

pub acts-preserved : goal.acts-preserved
acts-preserved c = record {
  more = place_next c.args.acts.now c.acts.place [] c.acts.list.items c.add_at.new.list.items c.acts.invariant.more c.in_ok-add_at.ensures;
  looked = marks_next c.args.acts.now c.acts.place c.act_at-act.result (is_node_flagged c.acts.looked) (is_node_flagged c.mark_look.new.marks) c.act_at-act.ensures c.mark_look.ensures c.acts.invariant.looked;
}

pub returns : goal.returns
returns c = record { exact = all_found c.args.acts.now c.acts.place c.acts.list.items (omega arith) c.acts.invariant.more }
