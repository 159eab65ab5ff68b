use Rattle.std.proofs.Common.{◌≡◌, ℕ, ◌<◌, false}
use Rattle.ga_picture.specs.inner.{works_joined_to_others}
use Rattle.ga_picture.proofs.independent.NodeActivity.has_joined.Given as goal

abbrev pub invariant-nodes : goal.invariant-nodes
invariant-nodes l = (n : ℕ) → n < l.number → works_joined_to_others l.self n ≡ false
