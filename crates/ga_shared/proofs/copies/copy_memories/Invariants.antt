use Rattle.std.proofs.Common.{◌≡◌, ◌<◌, ℕ, length, slice_index}
use Rattle.ga_shared.proofs.copies.copy_memories.Given as goal

abbrev pub invariant-loop-cell : goal.invariant-loop-cell
invariant-loop-cell l = record {
  others : l.to ≡ record l.initial.to { ram = l.to.ram; rom = l.to.rom };
  sizes : 0 < l.cell → (length l.from.ram ≡ 64) × (length l.from.rom ≡ 64);
  ram_size : length l.to.ram ≡ 64;
  rom_size : length l.to.rom ≡ 64;
  ram : (k : ℕ) → k < l.cell → slice_index l.to.ram k ≡ slice_index l.from.ram k;
  rom : (k : ℕ) → k < l.cell → slice_index l.to.rom k ≡ slice_index l.from.rom k;
}
