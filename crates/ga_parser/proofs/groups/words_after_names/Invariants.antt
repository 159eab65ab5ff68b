use Rattle.std.proofs.Common.{◌≡◌, drop}
use Rattle.ga_parser.specs.Groups.{words_after_names}
use Rattle.ga_parser.specs.inner.Placing.{placed, placed_all}
use Rattle.ga_parser.proofs.groups.words_after_names.Given as goal

abbrev pub invariant-loop-i : goal.invariant-loop-i
invariant-loop-i l = words_after_names (placed l.node) (placed_all (drop l.i l.words)) ≡ words_after_names (placed l.node) (placed_all l.words)
