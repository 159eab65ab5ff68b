use Rattle.std.proofs.Common.{◌≡◌, ◌-◌, drop}
use Rattle.ga_node.specs.inner.Packed.{spare}
use Rattle.ga_node.proofs.saved.Saved.word.Given as goal

abbrev pub invariant-loop-k : goal.invariant-loop-k
invariant-loop-k l = l.spare ≡ spare (drop (6 - l.k) l.self-inside.words.items)
