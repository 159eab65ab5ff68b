use Rattle.std.proofs.Common.{◌≡◌, ◌<◌, length, ◌∙◌, ap, sym, arith, below_more}
use Rattle.ga_node.specs.Record.{record_of_node}
use Rattle.ga_grid.specs.Grid.{initial_p_of_node}
use Rattle.ga_grid.specs.Chip.{node_at, chip_with_node}
use Rattle.ga_grid.proofs.Chips.{node_at-default_chip, length-default_chip, node_at-with_node_same, node_at-with_node_other, length-chip_with_node}
use Rattle.ga_shared.proofs.NodeCopies.{records_of_chip-same}
use Rattle.ga_shared.proofs.copies.copy_of.Goals as goal

pub loop-number-init : goal.loop-number-init
loop-number-init c =
    let is = c.in_ok-copy.ensures in
    record {
      size = λ none. absurd (omega (arith, none));
      copy_size = ap length is ∙ length-default_chip;
      same = λ k none. absurd (omega (arith, none));
      fresh = λ k from below. (initial_p_of_node k, ap (λ l. node_at l k) is ∙ node_at-default_chip k below);
    }

pub loop-number-preserved : goal.loop-number-preserved
loop-number-preserved c =
    let i = c.loop-number.invariant in
    let copy = c.loop-number.copy in
    let at = c.new-node.result.number in
    let is : at ≡ c.loop-number.number = c.new-node.ensures in
    let new = c.copy_node.new.to in
    let within : at < length copy = omega (arith, i.copy_size) in
    let here : record_of_node (node_at (chip_with_node copy at new) c.loop-number.number) ≡ record_of_node (node_at c.args.chip.now c.loop-number.number) =
    ap (λ k. record_of_node (node_at (chip_with_node copy at new) k)) (sym is) ∙ ap record_of_node (node_at-with_node_same copy at new within) ∙ c.copy_node.ensures ∙ ap record_of_node c.node.ensures.value ∙ ap (λ k. record_of_node (node_at c.args.chip.now k)) is in
    record {
      size = λ _. c.node.ensures.size;
      copy_size = length-chip_with_node copy at new ∙ i.copy_size;
      same = below_more (λ k. record_of_node (node_at (chip_with_node copy at new) k) ≡ record_of_node (node_at c.args.chip.now k)) c.loop-number.number (λ k below. ap record_of_node (node_at-with_node_other copy at k new (omega arith)) ∙ i.same k below) here;
      fresh = λ k from below. (
          let fresh = i.fresh k (omega arith) below in
          (fresh.0, node_at-with_node_other copy at k new (omega arith) ∙ fresh.1)
          );
    }

pub returns : goal.returns
returns c =
    let i = c.loop-number.invariant in
    records_of_chip-same c.loop-number.copy c.args.chip.now i.copy_size (i.size (omega arith)) (λ k below. i.same k (omega arith))
