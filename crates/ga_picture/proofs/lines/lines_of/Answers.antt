use Rattle.std.proofs.Common.{◌≡◌, ◌+◌, List, [], ◌∷◌, ◌++◌, Vec, Global, length, set, replicate, sym, ◌∙◌, ap, subst, arith}
use Rattle.ga_grid.specs.declared.node_id.NodeId.{NodeId}
use Rattle.ga_causal.specs.Dependence.{is_node_flagged}
use Rattle.ga_picture.specs.inner.{AreLinesOfNodes}
use Rattle.ga_picture.proofs.Shaded.{lines_none, lines_same, lines_more}
use Rattle.ga_picture.proofs.lines.lines_of.Goals as goal
use Rattle.ga_picture.proofs.lines.lines_of.Goals.{then-has+in_ok-push, else-has}

pub nodes-init : goal.nodes-init
nodes-init c =
    subst (λ z. AreLinesOfNodes (is_node_flagged c.args.used.now) z (replicate 144 0) 0) (sym c.new-nodes.ensures.items) (lines_none (is_node_flagged c.args.used.now))

pub nodes-preserved : goal.nodes-preserved
nodes-preserved c =
    let used : is_node_flagged c.args.used.now c.nodes.number ≡ c.has.result = ap (is_node_flagged c.args.used.now) (sym c.new-node.ensures) ∙ sym c.has.ensures in
    elim c.if-has.branch [
      | then-has+in_ok-push w ↦ (
          let items : c.if-has.nodes.items ≡ c.nodes.nodes.items ++ c.new-node.result ∷ [] = ap (λ (v : Vec NodeId Global). v.items) w.nodes-is ∙ w.in_ok-push.ensures.items in
          let columns : c.if-has.columns ≡ set c.nodes.columns c.nodes.number (length c.nodes.nodes.items) = w.columns-is ∙ ap (λ (z : List NodeId). set c.nodes.columns c.nodes.number (length z)) w.as_slice.ensures.value in
          subst (λ z. AreLinesOfNodes (is_node_flagged c.args.used.now) z c.if-has.columns (c.nodes.number + 1)) (sym items)
          (subst (λ z. AreLinesOfNodes (is_node_flagged c.args.used.now) (c.nodes.nodes.items ++ c.new-node.result ∷ []) z (c.nodes.number + 1)) (sym columns)
          (lines_more (is_node_flagged c.args.used.now) c.nodes.nodes.items c.nodes.columns c.nodes.number c.new-node.result c.nodes-test.true c.new-node.ensures c.nodes.invariant (used ∙ w.if-has.true))))
      | else-has w ↦ (
          let items : c.if-has.nodes.items ≡ c.nodes.nodes.items = ap (λ (v : Vec NodeId Global). v.items) w.nodes-is in
          subst (λ z. AreLinesOfNodes (is_node_flagged c.args.used.now) z c.if-has.columns (c.nodes.number + 1)) (sym items)
          (subst (λ z. AreLinesOfNodes (is_node_flagged c.args.used.now) c.nodes.nodes.items z (c.nodes.number + 1)) (sym w.columns-is)
          (lines_same (is_node_flagged c.args.used.now) c.nodes.nodes.items c.nodes.columns c.nodes.number c.nodes.invariant (used ∙ w.if-has.false))))
    ]

pub returns : goal.returns
returns c =
    let last : c.nodes.number ≡ 144 = omega arith in
    subst (λ z. AreLinesOfNodes (is_node_flagged c.args.used.now) c.nodes.nodes.items c.nodes.columns z) last c.nodes.invariant
