use Rattle.std.proofs.Common.{◌∙◌, ◌++◌, ℕ, List, ap, codes, ◌∷◌, []}
use Rattle.ga_text.specs.Digits.{three_decimal_digits}
use Rattle.ga_grid.specs.Grid.{decimal_name_of_node}
use Rattle.ga_asm_text.proofs.Telling.{grown, says_node}
use Rattle.ga_asm_text.proofs.number_text.push_node.Goals as goal

pub returns : goal.returns
returns c =
    let old = c.args.text.now.items in
    let name = three_decimal_digits (decimal_name_of_node c.args.node.number) in
    let second = c.in_ok-extend_from_slice-2.ensures.items ∙ ap (λ (l : List ℕ). c.extend_from_slice.new.self.items ++ l) (c.three_digits.ensures ∙ ap three_decimal_digits c.decimal_name.ensures.value) in (
      codes "node " ++ name ++ 10 ∷ [],
      grown old c.extend_from_slice-2.new.self.items c.push.new.self.items (codes "node " ++ name) (10 ∷ [])
          (grown old c.extend_from_slice.new.self.items c.extend_from_slice-2.new.self.items (codes "node ") name c.in_ok-extend_from_slice.ensures.items second)
          c.in_ok-push.ensures.items,
      says_node (decimal_name_of_node c.args.node.number),
    )
