use Rattle.std.proofs.Common.{◌≡◌, drop}
use Rattle.ga_parser.specs.Expectations.{node_group_before_line}
use Rattle.ga_parser.specs.inner.Expecting.{node_group_of_parser, words_from}
use Rattle.ga_parser.specs.inner.Placing.{placed_all}
use Rattle.ga_parser.proofs.expectations.take_before.Given as goal

abbrev pub invariant-loop-at : goal.invariant-loop-at
invariant-loop-at l = record {
  group : node_group_before_line l.line (node_group_of_parser l.group) (placed_all (drop l.at l.words)) ≡ node_group_before_line l.line (node_group_of_parser l.initial.group) (placed_all (drop l.from l.words));
  left : words_from l.line (placed_all (drop l.at l.words)) ≡ words_from l.line (placed_all (drop l.from l.words));
}
