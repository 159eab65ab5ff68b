use Rattle.std.proofs.Common.{◌≡◌, ◌+◌, Vec, Global, ap, ◌∙◌, arith}
use Rattle.ga_causal.specs.Dependence.{is_node_flagged}
use Rattle.ga_picture.specs.declared.independent.IndependentNode.{IndependentNode}
use Rattle.ga_picture.proofs.Loose.{told_below, told_more, told_same}
use Rattle.ga_picture.proofs.independent.NodeActivity.told.Goals.{then-alone-number+in_ok-push, else-alone-number}
use Rattle.ga_picture.proofs.independent.NodeActivity.told.Goals as goal

pub nodes-init : goal.nodes-init
nodes-init c = λ items a. c.new-told.ensures.items

pub nodes-preserved : goal.nodes-preserved
nodes-preserved c = λ items a.
    let alone = is_node_flagged c.args.alone.now in
    let k = c.nodes.number in
    elim c.if-alone-number.branch as (λ z. c.if-alone-number.told.items ≡ told_below items alone (k + 1)) [
      | then-alone-number+in_ok-push w ↦ ap (λ (v : Vec IndependentNode Global). v.items) w.told-is ∙ w.in_ok-push.ensures.items
          ∙ told_more items alone c.nodes.told.items k _ w.new.result c.nodes-test.true w.new.ensures (a.steps k c.nodes-test.true) w.if-alone-number.true (c.nodes.invariant items a)
      | else-alone-number w ↦ ap (λ (v : Vec IndependentNode Global). v.items) w.told-is
          ∙ told_same items alone c.nodes.told.items k c.nodes-test.true w.if-alone-number.false (c.nodes.invariant items a)
    ]

pub returns : goal.returns
returns c = λ items a.
    let last : c.nodes.number ≡ 144 = omega arith in
    c.nodes.invariant items a ∙ ap (told_below items (is_node_flagged c.args.alone.now)) last
