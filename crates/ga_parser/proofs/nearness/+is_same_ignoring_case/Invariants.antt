use Rattle.std.proofs.Common.{length}
use Rattle.ga_parser.proofs.nearness.+is_same_ignoring_case.Given as goal

abbrev pub decreases-is_same_ignoring_case : goal.decreases-is_same_ignoring_case
decreases-is_same_ignoring_case l = length l.word.now
