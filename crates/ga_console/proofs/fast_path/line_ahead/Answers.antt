use Rattle.std.proofs.Common.{arith}
use Rattle.ga_console.proofs.fast_path.line_ahead.Goals as goal

pub told_ahead-requires : goal.told_ahead-requires
told_ahead-requires c =
    let found = c.in-Some.ensures.found in
    record { below = found.0; no_feed = found.1; feed = found.2; short = omega (arith, c.if-count-gt-MAX_IMAGE_LINE_BYTES.false) }
