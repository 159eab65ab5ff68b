use Rattle.std.proofs.Common.{List, sym, subst, arith}
use Rattle.std.specs.List.{All}
use Rattle.std.proofs.lemmas.List.{take_all, get_or_default}
use Rattle.std.proofs.lemmas.List.Elements.{All-nil}
use Rattle.ga_races.specs.declared.racing_pairs.RacingPair.{RacingPair}
use Rattle.ga_race_detector.specs.declared.look_changes.LookChange.{LookChange}
use Rattle.ga_race_detector.specs.inner.Glances.{IsRequestedLookChange, AreReportedPairsListed}
use Rattle.ga_race_detector.proofs.NearReadings.{glanced_first, glanced_next}
use Rattle.ga_race_detector.proofs.look_changes.glances_of.Goals as goal

pub nears-init : goal.nears-init
nears-init c = record {
  told = subst (λ (z : List LookChange). All (IsRequestedLookChange c.args.lab.now c.args.only) z) (sym c.new-list.ensures.items) (All-nil (IsRequestedLookChange c.args.lab.now c.args.only));
  found = glanced_first c.args.lab.now c.args.only c.new-list.result.items;
}

pub nears-preserved : goal.nears-preserved
nears-preserved c = record {
  told = c.in_ok-add_near.ensures.told;
  found = glanced_next c.args.lab.now c.args.only c.args.nears.now c.nears.near-index _ c.nears.list.items c.add_near.new.list.items (omega arith) (get_or_default c.args.nears.now c.nears.near-index _ _ (omega arith))
      c.in_ok-add_near.ensures.kept c.in_ok-add_near.ensures.found c.nears.invariant.found;
}

pub returns-clause-found : goal.returns-clause-found
returns-clause-found c =
    subst (λ (z : List RacingPair). AreReportedPairsListed c.args.lab.now c.args.only z c.nears.list.items) (take_all c.nears.near-index c.args.nears.now (omega arith)) c.nears.invariant.found
