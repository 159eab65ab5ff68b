use Rattle.std.proofs.Common.{◌≡◌, ◌<◌, length, ◌++◌, take, drop}
use Rattle.std.specs.Prelude.{codes}
use Rattle.std.specs.List.{AllByRecursion}
use Rattle.ga_grid.specs.Chip.{records_of_chip}
use Rattle.ga_image.specs.inner.{blocks_text}
use Rattle.ga_image.specs.Printing.{blocks_from_node, IsRecordInRange}
use Rattle.ga_image.proofs.printing.whole_text.Given as goal

abbrev pub invariant-loop-number : goal.invariant-loop-number
invariant-loop-number l = record {
  whole : l.text.items ++ blocks_text (blocks_from_node l.number (drop l.number (records_of_chip l.chip))) ≡ codes "ga144 2\n" ++ blocks_text (blocks_from_node 0 (records_of_chip l.chip));
  size : 0 < l.number → length l.chip ≡ 144;
  sound : AllByRecursion IsRecordInRange (take l.number (records_of_chip l.chip));
}
