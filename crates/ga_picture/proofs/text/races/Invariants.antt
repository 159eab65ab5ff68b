use Rattle.std.proofs.Common.{take, []}
use Rattle.std.specs.Prelude.{string_bytes}
use Rattle.ga_picture.specs.Picture.{race_group_tags}
use Rattle.ga_picture.proofs.Laid.{AreBehind}
use Rattle.ga_picture.proofs.text.races.Given as goal

abbrev pub invariant-marks : goal.invariant-marks
invariant-marks l = AreBehind [] (race_group_tags (take l.mark-index l.marks)) (string_bytes l.text)
