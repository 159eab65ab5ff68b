use Rattle.std.proofs.Common.{ℕ, subst}
use Rattle.ga_asm_text.specs.inner.{AppendsSourceWords, cells_words, address_after_cells}
use Rattle.ga_asm_text.proofs.SourceLines.{both_added}
use Rattle.ga_asm_text.proofs.disassembly.push_cells.Goals as goal

pub returns-clause-says : goal.returns-clause-says
returns-clause-says c =
    let node = c.args.node.now in
    both_added c.args.text.now.items c.push_ram.new.text.items c.push_rom.new.text.items (cells_words 0 0 node.ram) (cells_words 0x80 (address_after_cells 0 0 node.ram) node.rom)
    c.in_ok-next.ensures.says
    (subst (λ (n : ℕ). AppendsSourceWords c.push_ram.new.text.items c.push_rom.new.text.items (cells_words 0x80 n node.rom)) c.in_ok-next.ensures.next c.in_ok-push_rom.ensures.says)

pub returns-clause-fit : goal.returns-clause-fit
returns-clause-fit c = record { ram = c.in_ok-next.ensures.fit; rom = c.in_ok-push_rom.ensures.fit }
