use Rattle.std.proofs.Common.{◌≡◌}
use Rattle.ga_provenance.specs.Writes.{cell_write_search, newest_cell_write}
use Rattle.ga_provenance.proofs.writes.CellWrites.next.Given as goal

-- the steps so far did not write the cell
abbrev pub invariant-going : goal.invariant-going
invariant-going l = record {
  same : l.self ≡ cell_write_search l.fn.self.machine l.fn.self.node l.fn.self.cell l.self.step;
  newest : newest_cell_write l.fn.self.machine l.fn.self.node.number l.fn.self.cell l.self.step
      ≡ newest_cell_write l.fn.self.machine l.fn.self.node.number l.fn.self.cell l.fn.self.step;
}

abbrev pub decreases-going : goal.decreases-going
decreases-going l = l.self.step
