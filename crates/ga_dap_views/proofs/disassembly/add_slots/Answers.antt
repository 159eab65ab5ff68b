use Rattle.std.proofs.Common.{◌++◌, ap, sym, ◌∙◌, string_bytes, arith}
use Rattle.ga_slots.specs.declared.op.Op.{Op}
use Rattle.ga_slots.specs.Codes.{name_of_opcode}
use Rattle.ga_dap_views.specs.Disassembly.{opcode_with_leading_blank, ends_instruction_word}
use Rattle.ga_dap_views.proofs.SlotTexts.{slot_on, slot_last, no_slot}
use Rattle.ga_dap_views.proofs.disassembly.add_slots.Goals as goal

pub slots-preserved : goal.slots-preserved
slots-preserved c =
    let slot = c.slots.slot in
    let t = string_bytes c.slots.text in
    c.slots.invariant
    ∙ slot_on c.args.notes.now c.args.node c.args.p c.args.word slot t (string_bytes c.add_op.new.text) (string_bytes c.add_address.new.text) (omega arith)
    (c.in_ok-add_op.ensures ∙ ap (λ (o : Op). t ++ opcode_with_leading_blank slot (name_of_opcode o)) c.opcode-op.ensures.value) c.in_ok-add_address.ensures
    (ap ends_instruction_word (sym c.opcode-op.ensures.value) ∙ sym c.ends_instruction_word.ensures ∙ c.if-ends_instruction_word.false)

pub returns-then-ends_instruction_word : goal.returns-then-ends_instruction_word
returns-then-ends_instruction_word c =
    let slot = c.slots.slot in
    let t = string_bytes c.slots.text in
    sym (c.slots.invariant
    ∙ slot_last c.args.notes.now c.args.node c.args.p c.args.word slot t (string_bytes c.add_op.new.text) (string_bytes c.add_address.new.text) (omega arith)
    (c.in_ok-add_op.ensures ∙ ap (λ (o : Op). t ++ opcode_with_leading_blank slot (name_of_opcode o)) c.opcode-op.ensures.value) c.in_ok-add_address.ensures
    (ap ends_instruction_word (sym c.opcode-op.ensures.value) ∙ sym c.ends_instruction_word.ensures ∙ c.if-ends_instruction_word.true))

pub returns : goal.returns
returns c = sym (c.slots.invariant ∙ no_slot c.args.notes.now c.args.node c.args.p c.args.word c.slots.slot (string_bytes c.slots.text) (omega arith))
