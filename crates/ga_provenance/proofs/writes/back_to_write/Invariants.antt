use Rattle.std.proofs.Common.{◌≡◌, ◌≤◌}
use Rattle.ga_provenance.specs.Writes.{newest_cell_write}
use Rattle.ga_provenance.specs.inner.{IsCellStateAfterSteps}
use Rattle.ga_provenance.proofs.writes.back_to_write.Given as goal

abbrev pub invariant-missing : goal.invariant-missing
invariant-missing l = record {
  held : IsCellStateAfterSteps l.lab l.node.number l.cell l.reached;
  same : newest_cell_write l.lab l.node.number l.cell l.reached.step ≡ newest_cell_write l.lab l.node.number l.cell l.fn.from.step;
  within : l.reached.step ≤ l.fn.from.step;
}

abbrev pub decreases-missing : goal.decreases-missing
decreases-missing l = l.reached.step
