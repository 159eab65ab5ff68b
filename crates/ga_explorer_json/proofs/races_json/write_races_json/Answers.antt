use Rattle.std.proofs.Common.{codes}
use Rattle.ga_explorer_json.specs.Refusals.{lab_refusal_json}
use Rattle.ga_explorer_json.specs.Races.{listed_races_json, IsRacesJson}
use Rattle.ga_explorer_json.proofs.Races.{races_found, races_refused}
use Rattle.ga_explorer_json.proofs.Writing.{line_of}
use Rattle.ga_explorer_json.proofs.races_json.write_races_json.Goals as goal

pub returns-in-Ok-clause-said : goal.returns-in-Ok-clause-said
returns-in-Ok-clause-said g c =
    let s = c.args.lab.now in
    let only = c.args.only in
    let races = c.in-Ok.races in
    line_of g.W.Write.contents c.write_listed_races.result c.args.writer.now c.write_listed_races.new.writer (IsRacesJson s only)
    (listed_races_json only races.list.items races.readings.items races.looks races.quiet)
    (races_found s only races.list.items races.readings.items races.looks races.quiet c.in-Ok.ensures.list c.in-Ok.ensures.readings c.in-Ok.ensures.none_missed
    c.in-Ok.ensures.looks c.in-Ok.ensures.quiet)
    c.write_listed_races.ensures

pub returns-in-Err-clause-said : goal.returns-in-Err-clause-said
returns-in-Err-clause-said g c =
    line_of g.W.Write.contents c.write_lab_refusal.result c.args.writer.now c.write_lab_refusal.new.writer (IsRacesJson c.args.lab.now c.args.only)
    (lab_refusal_json (codes "races") c.in-Err.fault) (races_refused c.args.lab.now c.args.only c.in-Err.fault c.in-Err.ensures.err) c.write_lab_refusal.ensures
