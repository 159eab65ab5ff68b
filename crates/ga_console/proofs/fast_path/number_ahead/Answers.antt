use Rattle.std.proofs.Common.{take, sym, arith}
use Rattle.ga_text.proofs.Taking.{number_decimal}
use Rattle.ga_console.proofs.fast_path.number_ahead.Goals as goal

pub returns : goal.returns
returns c =
    let found = c.in_ok-digits.ensures.found in
    let read = number_decimal (take c.in_ok-digits.digits c.args.text.now) c.in_ok-number.number (sym c.in_ok-number.ensures) in record {
      line = record { below = found.0; no_feed = found.1; feed = found.2; short = omega (arith, c.if-digits-gt-MAX_NUMBER_DIGITS.false) };
      few = c.if-digits-gt-MAX_NUMBER_DIGITS.false;
      fits = read.0;
      spelled = read.1;
    }
