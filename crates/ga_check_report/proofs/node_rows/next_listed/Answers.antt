use Rattle.std.proofs.Common.{◌≡◌, ◌-◌, ◌+◌, ℕ, sym, ap, ◌∙◌, arith}
use Rattle.ga_check_report.specs.EndJson.{end_node_rows}
use Rattle.ga_check_report.proofs.ObjectsOut.{row_taken, row_left_out, rows_none}
use Rattle.ga_check_report.proofs.node_rows.next_listed.Goals as goal

pub returns-then-is_listed-clause-there : goal.returns-then-is_listed-clause-there
returns-then-is_listed-clause-there c =
    let kind = c.args.kind.now in
    let same : c.new-node.result.number ≡ c.nodes.number = c.new-node.ensures in
    c.nodes.invariant ∙ ap (λ (n : ℕ). end_node_rows kind n (144 - n)) (sym same)
    ∙ row_taken kind c.new-node.result.number (omega arith) (sym c.is_listed.ensures ∙ c.if-is_listed.true)

pub nodes-preserved : goal.nodes-preserved
nodes-preserved c =
    let kind = c.args.kind.now in
    let same : c.new-node.result.number ≡ c.nodes.number = c.new-node.ensures in
    c.nodes.invariant ∙ ap (λ (n : ℕ). end_node_rows kind n (144 - n)) (sym same)
    ∙ row_left_out kind c.new-node.result.number (omega arith) (sym c.is_listed.ensures ∙ c.if-is_listed.false)
    ∙ ap (λ (n : ℕ). end_node_rows kind (n + 1) (144 - (n + 1))) same

pub returns-clause-none : goal.returns-clause-none
returns-clause-none c = c.nodes.invariant ∙ rows_none c.args.kind.now c.nodes.number (144 - c.nodes.number) (omega arith)
