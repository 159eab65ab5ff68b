use Rattle.std.proofs.Common.{◌++◌, codes, refl}
use Rattle.ga_asm_text.specs.inner.{register_source_words, default_register_p}
use Rattle.ga_asm_text.proofs.NodeTexts.{registers_fit}
use Rattle.ga_asm_text.proofs.SourceLines.{both_added, register_same}
use Rattle.ga_asm_text.proofs.disassembly.push_registers.Goals as goal

pub returns-clause-says : goal.returns-clause-says
returns-clause-says c =
    let old = c.args.text.now.items in
    let one = c.push_register.new.text.items in
    let two = c.push_register-2.new.text.items in
    let three = c.push_register-3.new.text.items in
    let node = c.args.node.now in
    let p = register_source_words (codes "/p") node.p (default_register_p c.args.id.number c.args.has_cells) in
    let a = register_source_words (codes "/a") node.a 0 in
    both_added old two three (p ++ a) (register_source_words (codes "/b") node.b 0x15d)
    (both_added old one two p a
    (register_same old one (codes "/p") c.get.result node.p c.default_register_p.result (default_register_p c.args.id.number c.args.has_cells) c.get.ensures.value c.default_register_p.ensures c.in_ok-push_register.ensures)
    (register_same one two (codes "/a") c.get-2.result node.a 0 0 c.get-2.ensures.value refl c.in_ok-push_register-2.ensures))
    (register_same two three (codes "/b") c.get-3.result node.b 0x15d 0x15d c.get-3.ensures.value refl c.in_ok-push_register-3.ensures)

pub returns-clause-fit : goal.returns-clause-fit
returns-clause-fit c = registers_fit c.args.node.now c.get.result c.get-2.result c.get-3.result c.get.ensures.value c.get-2.ensures.value c.get-3.ensures.value c.get.ensures.in_range c.get-2.ensures.in_range c.get-3.ensures.in_range
