use Rattle.std.proofs.Common.{◌≡◌, ℕ, ◌+◌}
use Rattle.std.specs.Prelude.{slice_index}
use Rattle.ga_event.specs.Told.{count_steps}
use Rattle.ga_scheduler.specs.Effects.{step_count_in_history, rollback_effects_below_node}
use Rattle.ga_scheduler.proofs.effects.listed.Given as goal

abbrev pub invariant-loop-number : goal.invariant-loop-number
invariant-loop-number l =
    (left : ℕ → ℕ) → ((m : ℕ) → slice_index l.steps m + left m ≡ count_steps m l.lab.kept) → l.list.items ≡ rollback_effects_below_node left (step_count_in_history l.lab) l.number
