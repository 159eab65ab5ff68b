use Rattle.std.proofs.Common.{◌≡◌, ◌∙◌, ◌∷◌, [], length, take, ap, codes, arith, ℕ}
use Rattle.ga_grid.specs.Grid.{decimal_name_of_node}
use Rattle.ga_text.specs.Digits.{three_decimal_digits}
use Rattle.ga_asm_text.specs.inner.{node_source_words}
use Rattle.ga_asm_text.proofs.NodeTexts.{program_none, program_some, node_added}
use Rattle.ga_asm_text.proofs.disassembly.push_program.Goals as goal

pub returns-then-len-begun-clause-says : goal.returns-then-len-begun-clause-says
returns-then-len-begun-clause-says c =
    let n = c.args.id.number in
    let before : c.len-before.result ≡ length c.args.text.now.items = omega (arith, c.len-before.ensures, c.args.text.now.ok.0) in
    program_none n c.args.text.now.items c.push_node.new.text.items c.push_cells.new.text.items c.truncate.new.self.items
    (codes "node" ∷ three_decimal_digits (decimal_name_of_node n) ∷ []) (node_source_words n c.args.node.now)
    (omega (arith, c.len.ensures, c.len-begun.ensures, c.push_node.new.text.ok.0, c.push_cells.new.text.ok.0, c.if-len-begun.true))
    (c.truncate.ensures.items ∙ ap (λ (k : ℕ). take k c.push_cells.new.text.items) before)
    c.in_ok-push_node.ensures
    (node_added n c.args.node.now c.has_nonzero_memory.result c.push_node.new.text.items c.push_registers.new.text.items c.push_cells.new.text.items c.has_nonzero_memory.ensures c.in_ok-push_registers.ensures.says c.in_ok-push_cells.ensures.says)

pub returns-else-len-begun-clause-says : goal.returns-else-len-begun-clause-says
returns-else-len-begun-clause-says c =
    let n = c.args.id.number in
    program_some n c.args.text.now.items c.push_node.new.text.items c.push_cells.new.text.items (node_source_words n c.args.node.now)
    (λ same. c.if-len-begun.false (omega (arith, same, c.len.ensures, c.len-begun.ensures, c.push_node.new.text.ok.0, c.push_cells.new.text.ok.0)))
    c.in_ok-push_node.ensures
    (node_added n c.args.node.now c.has_nonzero_memory.result c.push_node.new.text.items c.push_registers.new.text.items c.push_cells.new.text.items c.has_nonzero_memory.ensures c.in_ok-push_registers.ensures.says c.in_ok-push_cells.ensures.says)

pub returns-then-len-begun-clause-fit : goal.returns-then-len-begun-clause-fit
returns-then-len-begun-clause-fit c = record { registers = c.in_ok-push_registers.ensures.fit; memories = c.in_ok-push_cells.ensures.fit }

pub returns-else-len-begun-clause-fit : goal.returns-else-len-begun-clause-fit
returns-else-len-begun-clause-fit c = record { registers = c.in_ok-push_registers.ensures.fit; memories = c.in_ok-push_cells.ensures.fit }
