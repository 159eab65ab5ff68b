use Rattle.std.proofs.Common.{sym}
use Rattle.ga_slots.proofs.Encoding.{word_of_opcodes-fits, opcode-word_of_opcodes}
use Rattle.ga_slots.proofs.slots.encode.Goals as goal

pub returns-clause-value : goal.returns-clause-value
returns-clause-value c =
    let fits = rw (c.from-last.ensures, c.code.ensures.value) at c.if-last-ne0.false in
    rw (c.from_low_bits.ensures, c.from-3.ensures, c.from-2.ensures, c.from.ensures, c.from-last.ensures, c.code-4.ensures.value, c.code-3.ensures.value, c.code-2.ensures.value, c.code.ensures.value)
    (sym (word_of_opcodes-fits c.args.ops fits))

pub returns-clause-back : goal.returns-clause-back
returns-clause-back c =
    let fits = rw (c.from-last.ensures, c.code.ensures.value) at c.if-last-ne0.false in
    rw (c.from_low_bits.ensures, c.from-3.ensures, c.from-2.ensures, c.from.ensures, c.from-last.ensures, c.code-4.ensures.value, c.code-3.ensures.value, c.code-2.ensures.value, c.code.ensures.value)
    (opcode-word_of_opcodes c.args.ops fits)
