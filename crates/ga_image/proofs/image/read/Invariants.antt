use Rattle.std.proofs.Common.{◌≡◌, ◌+◌, ◌≤◌, length}
use Rattle.ga_text.specs.Lines.{lines_of_text}
use Rattle.ga_image.specs.inner.{progress_of_parser}
use Rattle.ga_image.specs.Reading.{initial_read_progress, read_result_of_lines}
use Rattle.ga_image.proofs.Room.{room, IsSized}
use Rattle.ga_image.proofs.image.read.Given as goal

abbrev pub invariant-loop-rest : goal.invariant-loop-rest
invariant-loop-rest l = record {
  same : read_result_of_lines (progress_of_parser l.parser) l.line (lines_of_text l.rest) ≡ read_result_of_lines initial_read_progress 1 (lines_of_text l.fn.text);
  counts : l.line + room (progress_of_parser l.parser) ≤ 22767;
  sized : IsSized (progress_of_parser l.parser);
}

abbrev pub decreases-loop-rest : goal.decreases-loop-rest
decreases-loop-rest l = length l.rest
