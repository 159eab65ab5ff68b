use Rattle.std.proofs.Common.{take}
use Rattle.ga_source.specs.inner.{FillsSlotsBeforeSpot, AreRequestsLaidOut, AreItemsGrouped, requests_without_lines, ArePlain, ArePlainRequestsPacked}
use Rattle.ga_source.proofs.packing.pack.Given as goal

abbrev pub invariant-loop-one : goal.invariant-loop-one
invariant-loop-one l = record {
  cell : FillsSlotsBeforeSpot l.packer;
  walked : AreRequestsLaidOut l.packer (take l.one-index l.asked);
  grouped : AreItemsGrouped l.packer (take l.one-index l.asked);
  packed : ArePlain (requests_without_lines l.asked) → ArePlainRequestsPacked l.packer (requests_without_lines (take l.one-index l.asked));
}
