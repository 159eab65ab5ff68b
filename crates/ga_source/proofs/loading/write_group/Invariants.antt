use Rattle.std.proofs.Common.{ℕ, ◌≡◌, ◌≢◌, ◌%◌, None, slice_index_or}
use Rattle.ga_source.specs.inner.{IsGroupBeingWritten, IsGroupOfOneDataCell}
use Rattle.ga_source.proofs.loading.write_group.Given as goal

abbrev pub invariant-loop-i : goal.invariant-loop-i
invariant-loop-i l = record {
  writing : IsGroupBeingWritten l.fn.node l.fn.given l.node l.given l.labels l.group l.spot l.i;
  given : (cell : ℕ × ℕ) (k : ℕ) → IsGroupOfOneDataCell cell l.group → k ≢ cell.0 % 512 → slice_index_or l.given k None ≡ slice_index_or l.fn.given k None;
}
