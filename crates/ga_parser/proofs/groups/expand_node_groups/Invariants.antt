use Rattle.std.proofs.Common.{◌≡◌, ◌++◌, drop}
use Rattle.ga_parser.specs.Groups.{expand_node_groups}
use Rattle.ga_parser.specs.Groups.NodeNamingProgress.{Nothing}
use Rattle.ga_parser.specs.inner.Placing.{placed_all}
use Rattle.ga_parser.specs.inner.Grouping.{node_naming_of_parser}
use Rattle.ga_parser.proofs.groups.expand_node_groups.Given as goal

abbrev pub invariant-loop-i : goal.invariant-loop-i
invariant-loop-i l = placed_all l.all.items ++ expand_node_groups l.is_whole (node_naming_of_parser l.begun) (placed_all (drop l.i l.words)) ≡ expand_node_groups l.is_whole Nothing (placed_all l.words)
