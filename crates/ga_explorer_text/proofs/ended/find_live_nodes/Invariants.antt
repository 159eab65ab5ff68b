use Rattle.std.proofs.Common.{◌≡◌, ℕ, Bool, length}
use Rattle.ga_grid.specs.Chip.{records_of_chip}
use Rattle.ga_races.specs.Acts.{IsMarkedSubset}
use Rattle.ga_races.proofs.Freeing.{how_many}
use Rattle.ga_explorer_text.specs.Ended.{AreMarksClosedUnderEnding, is_not_live_node}
use Rattle.ga_explorer_text.proofs.ended.find_live_nodes.Given as goal

abbrev pub invariant-ending : goal.invariant-ending
invariant-ending l = record {
  size : length l.live ≡ 144;
  least : (others : ℕ → Bool) → AreMarksClosedUnderEnding (records_of_chip l.chip) others → IsMarkedSubset (is_not_live_node l.live) others;
}

abbrev pub decreases-ending : goal.decreases-ending
decreases-ending l = how_many l.live
