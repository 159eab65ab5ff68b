use Rattle.std.proofs.Common.{take}
use Rattle.std.specs.List.{All}
use Rattle.ga_race_detector.specs.inner.Glances.{IsRequestedLookChange, AreReportedPairsListed}
use Rattle.ga_race_detector.proofs.look_changes.glances_of.Given as goal

abbrev pub invariant-nears : goal.invariant-nears
invariant-nears l = record {
  told : All (IsRequestedLookChange l.lab l.only) l.list.items;
  found : AreReportedPairsListed l.lab l.only (take l.near-index l.nears) l.list.items;
}
