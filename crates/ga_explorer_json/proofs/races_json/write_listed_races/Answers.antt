use Rattle.std.proofs.Common.{◌+◌, List, length, ap, ◌∙◌}
use Rattle.ga_race_detector.specs.declared.races.Race.{Race}
use Rattle.ga_race_detector.specs.declared.readings.LookRace.{LookRace}
use Rattle.ga_explorer_json.specs.Races.{race_rows, races_head_fields}
use Rattle.ga_explorer_json.proofs.Writing.{report_as}
use Rattle.ga_explorer_json.proofs.races_json.write_listed_races.Goals as goal

pub returns : goal.returns
returns g c =
    let only = c.args.only in
    let found = c.args.races.now in
    let races = found.list.items in
    let readings = found.readings.items in
    let list = c.as_slice.result.now in
    let looks = c.as_slice-2.result.now in
    report_as g.W.Write.contents c.write_report.result c.args.writer.now c.write_report.new.writer c.races_head_fields-head.result
    (races_head_fields only (length races + length readings) found.looks found.quiet) (race_rows list looks) (race_rows races readings)
    (c.races_head_fields-head.ensures
    ∙ ap (λ (z : List Race). races_head_fields only (length z + length looks) found.looks found.quiet) c.as_slice.ensures.value
    ∙ ap (λ (z : List LookRace). races_head_fields only (length races + length z) found.looks found.quiet) c.as_slice-2.ensures.value)
    (ap (λ (z : List Race). race_rows z looks) c.as_slice.ensures.value ∙ ap (race_rows races) c.as_slice-2.ensures.value) c.write_report.ensures
