use Rattle.std.proofs.Common.{◌≡◌, drop}
use Rattle.ga_picture.specs.Picture.{row_index_of_event_from}
use Rattle.ga_picture.proofs.race_marks.row_of.Given as goal

abbrev pub invariant-rows : goal.invariant-rows
invariant-rows l = row_index_of_event_from l.rows l.start l.place 0 ≡ row_index_of_event_from (drop l.at l.rows) l.start l.place l.at
