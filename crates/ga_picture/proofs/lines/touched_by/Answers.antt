use Rattle.std.proofs.Common.{◌≡◌, ◌+◌, false, true, length, sym, ◌∙◌, subst, arith}
use Rattle.std.proofs.lemmas.List.{get_or_default}
use Rattle.ga_causal.specs.Dependence.{is_node_flagged}
use Rattle.ga_picture.specs.Items.{picture_item_at_index, default_picture_item}
use Rattle.ga_picture.proofs.Listed.{AreUsed, used_none, used_more, used_same}
use Rattle.ga_picture.proofs.lines.touched_by.Goals.{then-not-item, else-not-item}
use Rattle.ga_picture.proofs.lines.touched_by.Goals as goal

pub items-init : goal.items-init
items-init c = used_none c.args.items.now (is_node_flagged c.none-touched.result) c.none-touched.ensures

pub items-preserved : goal.items-preserved
items-preserved c =
    let items = c.args.items.now in
    let item = c.item-item.result in
    let place = c.items.item-index in
    let here : picture_item_at_index items place ≡ item = get_or_default items place default_picture_item item c.items-test.true ∙ sym c.item-item.is in
    elim c.if-not-item.branch [
      | then-not-item w ↦ (
          let in_it : item.out ≡ false = w.if-not-item.true in
          subst (λ z. AreUsed items (place + 1) (is_node_flagged z)) (sym w.touched-is)
          (used_more items place (is_node_flagged c.items.touched) (is_node_flagged w.add_touched_nodes.new.self) item c.items-test.true c.items.invariant here in_it w.add_touched_nodes.ensures))
      | else-not-item w ↦ (
          let out : item.out ≡ true = w.if-not-item.false in
          subst (λ z. AreUsed items (place + 1) (is_node_flagged z)) (sym w.touched-is)
          (used_same items place (is_node_flagged c.items.touched) item c.items.invariant here out))
    ]

pub returns : goal.returns
returns c =
    let whole : c.items.item-index ≡ length c.args.items.now = omega arith in
    record { needed = c.items.invariant.needed; all = λ n place l o t. c.items.invariant.all n place (omega (arith, l)) o t }
