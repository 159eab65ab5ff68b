use Rattle.std.proofs.Common.{◌≡◌, ◌<◌, ℕ, length, drop}
use Rattle.std.specs.Option.{option_or}
use Rattle.ga_debug_info.specs.Source.{last_marked_label}
use Rattle.ga_debug_info.specs.inner.{label_at_cell}
use Rattle.ga_debug_info.proofs.label.LastLabels.of.Given as goal

abbrev pub invariant-loop-asked : goal.invariant-loop-asked
invariant-loop-asked l = record {
  size : length l.labels ≡ 192;
  last : (cell : ℕ) → cell < 192 → option_or (last_marked_label l.program cell (drop l.asked-index l.asked-items)) (label_at_cell l.labels cell) ≡ last_marked_label l.program cell l.program.asked.items;
}
