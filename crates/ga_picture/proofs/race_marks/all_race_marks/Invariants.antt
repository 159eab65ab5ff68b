use Rattle.std.proofs.Common.{◌≡◌, ◌++◌, drop}
use Rattle.ga_picture.specs.Picture.{all_race_marks, race_marks_of_passes, race_marks_of_looks}
use Rattle.ga_picture.proofs.race_marks.all_race_marks.Given as goal

abbrev pub invariant-races : goal.invariant-races
invariant-races l = l.marks.items ++ race_marks_of_passes l.shown.events.now l.shown.start l.shown.rows.now (drop l.race-index l.races)
    ≡ race_marks_of_passes l.shown.events.now l.shown.start l.shown.rows.now l.races

abbrev pub invariant-readings : goal.invariant-readings
invariant-readings l = l.marks.items ++ race_marks_of_looks l.shown.events.now l.shown.start l.shown.rows.now (drop l.reading-index l.readings)
    ≡ all_race_marks l.shown.events.now l.shown.start l.shown.rows.now l.races l.readings
