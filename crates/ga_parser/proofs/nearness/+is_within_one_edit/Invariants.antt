use Rattle.std.proofs.Common.{length}
use Rattle.ga_parser.proofs.nearness.+is_within_one_edit.Given as goal

abbrev pub decreases-is_within_one_edit : goal.decreases-is_within_one_edit
decreases-is_within_one_edit l = length l.word.now
