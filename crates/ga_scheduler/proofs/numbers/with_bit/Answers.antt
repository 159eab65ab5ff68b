use Rattle.std.specs.Int.{w64}
use Rattle.std.proofs.lemmas.Nat.Bits.{bit_at_set_same, bit_at_set_other, bit_at_clear_same, bit_at_clear_other}
use Rattle.ga_scheduler.proofs.numbers.with_bit.Goals as goal

pub returns-then-is_one-clause-one : goal.returns-then-is_one-clause-one
returns-then-is_one-clause-one c = λ is. bit_at_set_same w64 c.args.word c.args.place c.requires

pub returns-then-is_one-clause-others : goal.returns-then-is_one-clause-others
returns-then-is_one-clause-others c = λ i l ne. bit_at_set_other w64 c.args.word c.args.place c.requires i ne

pub returns-else-is_one-clause-zero : goal.returns-else-is_one-clause-zero
returns-else-is_one-clause-zero c = λ is. bit_at_clear_same w64 c.args.word c.args.place c.requires

pub returns-else-is_one-clause-others : goal.returns-else-is_one-clause-others
returns-else-is_one-clause-others c = λ i l ne. bit_at_clear_other w64 c.args.word c.args.place c.requires i l ne
