use Rattle.std.proofs.Common.{length, decimal, ap, arith, rules, length-append}
use Rattle.ga_text.proofs.DigitLemmas.{short_decimal}
use Rattle.ga_text.proofs.text.push_number.Goals as goal

pub push_up_to_eight_digits-requires : goal.push_up_to_eight_digits-requires
push_up_to_eight_digits-requires g c = (search rules, (omega (arith, c.if-number-lt100000000.true), omega (arith, c.requires, short_decimal c.args.number c.ranges.number.fits)))

pub returns-then-number-lt100000000-clause-len : goal.returns-then-number-lt100000000-clause-len
returns-then-number-lt100000000-clause-len g c =
    omega (arith, short_decimal c.args.number c.ranges.number.fits, ap length c.push_up_to_eight_digits.ensures.text, length-append c.args.out.now.items (decimal c.args.number))
