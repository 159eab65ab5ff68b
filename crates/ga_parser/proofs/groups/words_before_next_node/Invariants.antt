use Rattle.std.proofs.Common.{◌≡◌, ◌++◌, take, drop}
use Rattle.ga_parser.specs.Groups.{words_before_next_node}
use Rattle.ga_parser.specs.inner.Placing.{placed_all}
use Rattle.ga_parser.proofs.groups.words_before_next_node.Given as goal

abbrev pub invariant-loop-i : goal.invariant-loop-i
invariant-loop-i l = placed_all (take l.i l.words) ++ words_before_next_node (placed_all (drop l.i l.words)) ≡ words_before_next_node (placed_all l.words)
