use Rattle.std.proofs.Common.{◌≡◌, ℕ, ◌<◌, ◌≤◌, length, slice_index_or}
use Rattle.ga_slots.specs.declared.op.Op.TheVariants.{Return, Nop}
use Rattle.ga_source.specs.inner.{opcode_of_item, nothing}
use Rattle.ga_source.proofs.loading.opcodes_in.Given as goal

abbrev pub invariant-loop-slot : goal.invariant-loop-slot
invariant-loop-slot l = record {
  size : length l.ops ≡ 4;
  ops : (k : ℕ) → k < l.slot → slice_index_or l.ops k Return ≡ opcode_of_item (slice_index_or l.items k nothing);
  behind : (k : ℕ) → l.slot ≤ k → k < 4 → slice_index_or l.ops k Return ≡ Nop;
}
