use Rattle.std.proofs.Common.{◌≡◌, ℕ, ◌<◌, drop, None}
use Rattle.ga_conditions.specs.Conditions.{text_after_or_keyword}
use Rattle.ga_conditions.proofs.alternatives.split_at_or_keyword.Given as goal

abbrev pub invariant-loop-place : goal.invariant-loop-place
invariant-loop-place l = (k : ℕ) → k < l.place → text_after_or_keyword (drop k l.text) ≡ None
