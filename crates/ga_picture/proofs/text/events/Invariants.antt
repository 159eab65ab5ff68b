use Rattle.std.proofs.Common.{take}
use Rattle.std.specs.Prelude.{string_bytes}
use Rattle.ga_picture.specs.Picture.{row_group_tags}
use Rattle.ga_picture.proofs.Laid.{AreBehind}
use Rattle.ga_picture.proofs.text.events.Given as goal

abbrev pub invariant-rows : goal.invariant-rows
invariant-rows l = AreBehind (string_bytes l.initial.text) (row_group_tags (take l.at l.drawing.rows.items)) (string_bytes l.text)
