use Rattle.std.proofs.Common.{ℕ, ◌≡◌, ◌<◌, ◌≤◌, List, ◌++◌, length, sym, ap, ◌∙◌, subst, arith}
use Rattle.std.proofs.lemmas.List.{length-map}
use Rattle.ga_node.specs.Record.{NodeRecord, record_of_node}
use Rattle.ga_grid.specs.Chip.{default_node, node_at, records_of_chip, node_record_at}
use Rattle.ga_grid.proofs.Chips.{node_record_at-records_of_chip}
use Rattle.ga_image.specs.inner.{blocks_text}
use Rattle.ga_image.specs.Printing.{block_unless_empty, changed_lines_of_node, IsRecordInRange}
use Rattle.ga_image.proofs.Pieces.{next_block, finished}
use Rattle.ga_image.proofs.PrintedFields.{all_more, all_whole}
use Rattle.ga_image.proofs.printing.whole_text.Goals as goal

pub loop-number-preserved : goal.loop-number-preserved
loop-number-preserved c =
    let chip = c.args.chip.now in
    let nodes = records_of_chip chip in
    let n = c.loop-number.number in
    let text : List ℕ = c.loop-number.text.items in
    let new : List ℕ = c.push_block.new.text.items in
    let found : ℕ → NodeRecord → List ℕ = λ number node. text ++ blocks_text (block_unless_empty number (changed_lines_of_node number node)) in
    let number : c.new-node.result.number ≡ n = c.new-node.ensures in
    let node : record_of_node c.node.result.now ≡ node_record_at nodes n = ap record_of_node (c.node.ensures.value ∙ ap (node_at chip) number) ∙ sym (node_record_at-records_of_chip chip n) in
    let piece : new ≡ found n (node_record_at nodes n) = c.in_ok-push_block.ensures.text ∙ ap (λ (k : ℕ). found k (record_of_node c.node.result.now)) number ∙ ap (found n) node in
    let within : n < length nodes = omega (arith, length-map chip record_of_node, c.node.ensures.size) in
    record {
      whole = next_block nodes n (record_of_node default_node) text new _ within c.loop-number.invariant.whole piece;
      size = λ _. c.node.ensures.size;
      sound = all_more IsRecordInRange nodes n (record_of_node default_node) within c.loop-number.invariant.sound (subst IsRecordInRange node c.in_ok-push_block.ensures.sound);
    }

pub returns-clause-text : goal.returns-clause-text
returns-clause-text c =
    let chip = c.args.chip.now in
    let size : length chip ≡ 144 = c.loop-number.invariant.size (omega arith) in
    let past : length (records_of_chip chip) ≤ c.loop-number.number = omega (arith, length-map chip record_of_node) in
    finished (records_of_chip chip) c.loop-number.number c.loop-number.text.items c.extend_from_slice-2.new.self.items past c.loop-number.invariant.whole c.in_ok-extend_from_slice-2.ensures.items

pub returns-clause-sound : goal.returns-clause-sound
returns-clause-sound c =
    let chip = c.args.chip.now in
    let size : length chip ≡ 144 = c.loop-number.invariant.size (omega arith) in
    let count : length (records_of_chip chip) ≡ 144 = length-map chip record_of_node ∙ size in
    record { size = count; each = all_whole IsRecordInRange (records_of_chip chip) c.loop-number.number (omega arith) c.loop-number.invariant.sound }
