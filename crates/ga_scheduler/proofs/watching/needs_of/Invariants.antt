use Rattle.std.proofs.Common.{◌≡◌, ℕ, ◌<◌, Some}
use Rattle.std.specs.Prelude.{slice_get}
use Rattle.ga_scheduler.specs.declared.condition.Condition.{Condition}
use Rattle.ga_scheduler.specs.inner.{NeedsCoverCondition}
use Rattle.ga_scheduler.proofs.watching.needs_of.Given as goal

abbrev pub invariant-loop-condition : goal.invariant-loop-condition
invariant-loop-condition l = (k : ℕ) (one : Condition) → slice_get l.until k ≡ Some one → k < l.condition-index → NeedsCoverCondition l.needs one
