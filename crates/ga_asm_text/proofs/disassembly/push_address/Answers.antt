use Rattle.std.proofs.Common.{◌++◌, codes, ◌∷◌, []}
use Rattle.ga_asm_text.specs.inner.{last_hex_digits}
use Rattle.ga_asm_text.proofs.Telling.{grown}
use Rattle.ga_asm_text.proofs.SourceLines.{address_added, address_usual}
use Rattle.ga_asm_text.proofs.disassembly.push_address.Goals as goal

pub returns-in_ok-push : goal.returns-in_ok-push
returns-in_ok-push c =
    let old = c.args.text.now.items in
    let one = c.extend_from_slice.new.self.items in
    let two = c.push_hex.new.text.items in
    let hex = last_hex_digits 2 c.args.address in
    address_added old c.push.new.self.items c.args.address c.args.next c.if-address-next.true
    (grown old two c.push.new.self.items (codes "org 0x" ++ hex) (10 ∷ [])
    (grown old one two (codes "org 0x") hex c.in_ok-extend_from_slice.ensures.items c.in_ok-push_hex.ensures)
    c.in_ok-push.ensures.items)

pub returns-else-address-next : goal.returns-else-address-next
returns-else-address-next c = address_usual c.args.text.now.items c.args.address c.args.next c.if-address-next.false
