use Rattle.std.proofs.Common.{◌≡◌, ◌≤◌, ◌<◌, ◌^◌}
use Rattle.std.specs.Prelude.{slice_index}
use Rattle.ga_provenance.specs.Origins.{node_after_steps}
use Rattle.ga_provenance.specs.Writes.{newest_cell_write}
use Rattle.ga_provenance.specs.inner.{AreRegistersAfterSteps}
use Rattle.ga_provenance.proofs.writes.back_to_store.Given as goal

-- no step so far ran a store
abbrev pub invariant-going : goal.invariant-going
invariant-going l = record {
  registers : AreRegistersAfterSteps l.lab l.node.number l.step l.registers;
  word : slice_index (node_after_steps l.lab l.node.number l.step).ram l.cell ≡ l.word;
  fits : l.word < 2 ^ 18;
  within : l.step ≤ l.fn.from.step;
  same : newest_cell_write l.lab l.node.number l.cell l.step ≡ newest_cell_write l.lab l.node.number l.cell l.fn.from.step;
}

abbrev pub decreases-going : goal.decreases-going
decreases-going l = l.step
