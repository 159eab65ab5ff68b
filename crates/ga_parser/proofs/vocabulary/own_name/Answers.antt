use Rattle.std.proofs.Common.{◌∙◌, sym, arith, ap, Some}
use Rattle.ga_slots.specs.declared.op.Op.{Op}
use Rattle.ga_slots.specs.Codes.{name_of_opcode, all_opcodes}
use Rattle.ga_parser.proofs.Numbers.{other_row, this_row}
use Rattle.ga_parser.proofs.vocabulary.own_name.Goals as goal

pub loop-code-preserved : goal.loop-code-preserved
loop-code-preserved c =
    other_row all_opcodes c.loop-code.code c.args.text.now c.as_bytes.result.now (omega arith)
    (c.as_bytes.ensures.value ∙ (c.name.ensures ∙ ap name_of_opcode c.from_code-op.ensures)) c.loop-code.invariant (sym c.eq.ensures ∙ c.if-eq.false)

pub returns-then-eq : goal.returns-then-eq
returns-then-eq c =
    ap (λ (op : Op). Some op) c.from_code-op.ensures
    ∙ this_row all_opcodes c.loop-code.code c.args.text.now c.as_bytes.result.now (omega arith)
    (c.as_bytes.ensures.value ∙ (c.name.ensures ∙ ap name_of_opcode c.from_code-op.ensures)) c.loop-code.invariant (sym c.eq.ensures ∙ c.if-eq.true)
