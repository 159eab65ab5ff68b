use Rattle.std.proofs.Common.{◌∙◌, sym}
use Rattle.ga_event.proofs.Following.{then_same, else_same}
use Rattle.ga_event.proofs.flow.part.NodePart.is_same_node_part.Goals as goal

pub returns-then-kind-clause-same : goal.returns-then-kind-clause-same
returns-then-kind-clause-same c =
    then_same c.args.self c.args.other c.index.result c.index-then-kind.result (sym c.kind.ensures ∙ c.if-kind.true ∙ c.kind-2.ensures) c.index.ensures c.index-then-kind.ensures

pub returns-else-kind-clause-same : goal.returns-else-kind-clause-same
returns-else-kind-clause-same c = else_same c.args.self c.args.other c.kind.result c.kind-2.result c.if-kind.false c.kind.ensures c.kind-2.ensures
