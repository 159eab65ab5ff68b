use Rattle.std.proofs.Common.{◌≡◌, ℕ, ◌<◌, length, slice_index_or}
use Rattle.ga_event.specs.Told.{count_steps}
use Rattle.ga_dap_control.proofs.back.steps_kept.Given as goal

abbrev pub invariant-loop-number : goal.invariant-loop-number
invariant-loop-number l = record {
  size : length l.steps ≡ 144;
  counted : (n : ℕ) → n < l.number → slice_index_or l.steps n 0 ≡ count_steps n l.lab.kept;
}
