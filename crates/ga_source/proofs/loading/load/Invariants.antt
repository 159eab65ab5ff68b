use Rattle.std.proofs.Common.{ℕ, ◌≡◌, List, length, take}
use Rattle.std.specs.List.{All}
use Rattle.ga_source.specs.Cells.{KeepsOtherCells}
use Rattle.ga_source.specs.inner.{is_cell_in_groups, IsLoadedGroup, KeepsOtherThanMemories, AreCellGroups}
use Rattle.ga_source.specs.Made.{AreDistinctCells}
use Rattle.ga_source.proofs.CellGroups.{AreOpen}
use Rattle.ga_source.proofs.loading.load.Given as goal

abbrev pub invariant-loop-group : goal.invariant-loop-group
invariant-loop-group l = record {
  rest : KeepsOtherThanMemories l.fn.node l.node;
  elsewhere : KeepsOtherCells (is_cell_in_groups l.packed.groups.items) l.fn.node l.node;
  loaded : All (IsLoadedGroup l.node l.labels l.given) (take l.group-index l.packed.groups.items);
  size : length l.given ≡ 192;
  free : (cells : List (ℕ × ℕ)) → AreCellGroups cells l.packed.groups.items → AreDistinctCells cells → AreOpen l.given cells l.group-index;
}
