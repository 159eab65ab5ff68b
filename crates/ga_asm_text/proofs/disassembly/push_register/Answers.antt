use Rattle.std.proofs.Common.{◌++◌, codes, ◌∷◌, []}
use Rattle.ga_asm_text.specs.inner.{last_hex_digits}
use Rattle.ga_asm_text.proofs.Telling.{grown}
use Rattle.ga_asm_text.proofs.SourceLines.{register_added, register_usual}
use Rattle.ga_asm_text.proofs.disassembly.push_register.Goals as goal

pub returns-in_ok-push : goal.returns-in_ok-push
returns-in_ok-push c =
    let old = c.args.text.now.items in
    let name = c.args.name.now in
    let one = c.extend_from_slice.new.self.items in
    let two = c.extend_from_slice-then-value-usual.new.self.items in
    let three = c.push_hex.new.text.items in
    let hex = last_hex_digits 5 c.args.value in
    register_added old c.push.new.self.items name c.args.value c.args.usual c.if-value-usual.true
    (grown old three c.push.new.self.items ((name ++ codes " 0x") ++ hex) (10 ∷ [])
    (grown old two three (name ++ codes " 0x") hex
    (grown old one two name (codes " 0x") c.in_ok-extend_from_slice.ensures.items c.in_ok-extend_from_slice-2.ensures.items)
    c.in_ok-push_hex.ensures)
    c.in_ok-push.ensures.items)
    c.requires.start c.requires.ordinary c.requires.short

pub returns-else-value-usual : goal.returns-else-value-usual
returns-else-value-usual c = register_usual c.args.text.now.items c.args.name.now c.args.value c.args.usual c.if-value-usual.false
