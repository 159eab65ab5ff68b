use Rattle.std.proofs.Common.{◌∙◌, ap₂, drop}
use Rattle.ga_parser.specs.Expectations.{node_group_before_line}
use Rattle.ga_parser.specs.inner.Expecting.{node_group_of_parser}
use Rattle.ga_parser.specs.inner.Placing.{placed_all}
use Rattle.ga_parser.proofs.Expecting.{later_group}
use Rattle.ga_parser.proofs.expectations.add_line.Goals as goal

pub returns-clause-left : goal.returns-clause-left
returns-clause-left c = λ later within.
    ap₂ (node_group_before_line later) (rw c.as_slice-2.ensures.value at c.in_ok-next.ensures.group) (rw c.as_slice-2.ensures.value at c.in_ok-next.ensures.left)
    ∙ later_group c.args.line later (node_group_of_parser c.args.group.now) (placed_all (drop c.args.from c.args.resolved.now.words.items)) within
