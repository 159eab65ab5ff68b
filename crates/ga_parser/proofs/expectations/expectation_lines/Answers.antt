use Rattle.std.proofs.Common.{◌∙◌, ap}
use Rattle.ga_parser.specs.Constants.{ConstantResolution, resolution_of_words}
use Rattle.ga_parser.specs.Expectations.{expectations_of_resolution, expectation_lines}
use Rattle.ga_parser.specs.Saying.{source_lines}
use Rattle.ga_parser.proofs.Placing.{scanned_same}
use Rattle.ga_parser.proofs.expectations.expectation_lines.Goals as goal

pub returns : goal.returns
unfolding expectation_lines
returns c =
    c.in_ok-read_lines.ensures
    ∙ ap (λ (resolved : ConstantResolution). expectations_of_resolution resolved (source_lines c.args.source.now))
    (rw c.as_slice.ensures.value at c.in_ok-resolved.ensures
    ∙ ap resolution_of_words (scanned_same c.in_ok-scanned.scanned.items c.args.source.now c.in_ok-scanned.ensures.says c.in_ok-scanned.ensures.columns))
