use Rattle.std.proofs.Common.{◌∙◌, ◌++◌, ℕ, List, ap, codes, ◌∷◌, [], arith}
use Rattle.ga_asm_text.specs.inner.{last_hex_digits, hex_number_source_word}
use Rattle.ga_asm_text.proofs.Telling.{grown}
use Rattle.ga_asm_text.proofs.SourceLines.{cell_added}
use Rattle.ga_asm_text.proofs.disassembly.push_cell.Goals as goal

pub returns : goal.returns
returns c =
    let old = c.args.text.now.items in
    let one = c.extend_from_slice.new.self.items in
    let two = c.push_hex.new.text.items in
    let three = c.extend_from_slice-2.new.self.items in
    let remark = c.in_ok-push_remark.ensures in
    cell_added old three c.push.new.self.items c.args.word remark.0
    (grown old two three (hex_number_source_word 6 c.args.word) (codes " , \\ ")
    (grown old one two (codes "0x") (last_hex_digits 6 c.args.word) c.in_ok-extend_from_slice.ensures.items c.in_ok-push_hex.ensures)
    c.in_ok-extend_from_slice-2.ensures.items)
    (c.in_ok-push.ensures.items ∙ ap (λ (t : List ℕ). t ++ 10 ∷ []) remark.1)
    remark.2 (omega (arith, remark.3, c.requires))
