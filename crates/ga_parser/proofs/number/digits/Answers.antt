use Rattle.std.proofs.Common.{◌∙◌, sym, ◌<◌, length, arith}
use Rattle.std.proofs.lemmas.Bool.{eqb-false}
use Rattle.ga_parser.proofs.Numbers.{digit_more, digits_more, no_digit, all_digits}
use Rattle.ga_parser.proofs.number.digits.Goals as goal

pub returns-in_err-digit : goal.returns-in_err-digit
returns-in_err-digit c =
    rw c.from_residual.ensures (no_digit c.args.base c.args.text.now c.loop-byte.byte-index (omega arith) c.in_err-digit.ensures)

pub loop-byte-preserved : goal.loop-byte-preserved
loop-byte-preserved c =
    let below : c.loop-byte.byte-index < length c.args.text.now = omega arith in
    record {
      all = digit_more c.args.base c.args.text.now c.loop-byte.byte-index below c.in_ok-digit.ensures.0 c.loop-byte.invariant.all;
      value = c.min-number.ensures
          ∙ digits_more c.args.base c.args.text.now c.loop-byte.byte-index c.loop-byte.number _ below c.requires.least
          c.loop-byte.invariant.value c.in_ok-digit.ensures.1;
    }

pub returns : goal.returns
returns c =
    let some = eqb-false _ _ (sym c.is_empty.ensures ∙ c.if-is_empty.false) in
    all_digits c.args.base c.args.text.now c.loop-byte.byte-index c.loop-byte.number (omega arith) (omega arith) c.loop-byte.invariant.all c.loop-byte.invariant.value
