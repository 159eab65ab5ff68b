use Rattle.std.proofs.Common.{◌≡◌, List}
use Rattle.ga_causal.specs.Dependence.{is_node_flagged}
use Rattle.ga_picture.specs.declared.item.PictureItem.{PictureItem}
use Rattle.ga_picture.specs.inner.{IsActivityOfItems}
use Rattle.ga_picture.proofs.Loose.{told_below}
use Rattle.ga_picture.proofs.independent.NodeActivity.told.Given as goal

abbrev pub invariant-nodes : goal.invariant-nodes
invariant-nodes l = (items : List PictureItem) → IsActivityOfItems items l.self → l.told.items ≡ told_below items (is_node_flagged l.alone) l.number
