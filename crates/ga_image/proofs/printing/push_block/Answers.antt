use Rattle.std.proofs.Common.{◌≡◌, ◌≢◌, ℕ, List, length, take, sym, ap, ◌∙◌}
use Rattle.ga_node.specs.Record.{record_of_node}
use Rattle.ga_image.specs.Printing.{changed_lines_of_node}
use Rattle.ga_image.proofs.Pieces.{block_grown, block_dropped}
use Rattle.ga_image.proofs.printing.push_block.Goals as goal

pub returns-then-after-begun-clause-text : goal.returns-then-after-begun-clause-text
returns-then-after-begun-clause-text c =
    let number = c.args.node.number in
    let lines = changed_lines_of_node number (record_of_node c.args.at.now) in
    let old : List ℕ = c.args.text.now.items in
    let t1 : List ℕ = c.extend_from_slice.new.self.items in
    let t2 : List ℕ = c.push_node.new.text.items in
    let t3 : List ℕ = c.extend_from_slice-2.new.self.items in
    let t4 : List ℕ = c.push_fields.new.text.items in
    let before : length c.as_slice-before.result.now ≡ length old = ap length c.as_slice-before.ensures.value in
    let begun : length c.as_slice-begun.result.now ≡ length t3 = ap length c.as_slice-begun.ensures.value in
    let now : length c.as_slice-after.result.now ≡ length t4 = ap length c.as_slice-after.ensures.value in
    let same : length t4 ≡ length t3 = sym now ∙ c.if-after-begun.true ∙ begun in
    c.truncate.ensures.items
    ∙ ap (λ (n : ℕ). take n t4) before
    ∙ block_dropped old t1 t2 t3 t4 number lines c.in_ok-extend_from_slice.ensures.items c.in_ok-push_node.ensures c.in_ok-extend_from_slice-2.ensures.items c.in_ok-push_fields.ensures.text same

pub returns-else-after-begun-clause-text : goal.returns-else-after-begun-clause-text
returns-else-after-begun-clause-text c =
    let number = c.args.node.number in
    let lines = changed_lines_of_node number (record_of_node c.args.at.now) in
    let old : List ℕ = c.args.text.now.items in
    let t1 : List ℕ = c.extend_from_slice.new.self.items in
    let t2 : List ℕ = c.push_node.new.text.items in
    let t3 : List ℕ = c.extend_from_slice-2.new.self.items in
    let t4 : List ℕ = c.push_fields.new.text.items in
    let begun : length c.as_slice-begun.result.now ≡ length t3 = ap length c.as_slice-begun.ensures.value in
    let now : length c.as_slice-after.result.now ≡ length t4 = ap length c.as_slice-after.ensures.value in
    let other : length t4 ≢ length t3 = λ same. c.if-after-begun.false (now ∙ same ∙ sym begun) in
    block_grown old t1 t2 t3 t4 number lines c.in_ok-extend_from_slice.ensures.items c.in_ok-push_node.ensures c.in_ok-extend_from_slice-2.ensures.items c.in_ok-push_fields.ensures.text other
