use Rattle.ga_grid.specs.Chip.{records_of_chip}
use Rattle.ga_causal.specs.Dependence.{is_node_flagged}
use Rattle.ga_explorer_json.specs.Expected.{statuses_json, AreStatusesJson}
use Rattle.ga_explorer_json.proofs.Expected.{statuses_found}
use Rattle.ga_explorer_json.proofs.Writing.{line_of}
use Rattle.ga_explorer_json.proofs.expected_json.write_statuses.Goals as goal

pub returns : goal.returns
returns g c =
    let s = c.args.lab.now in
    let expectations = c.args.expectations.now in
    let marks = is_node_flagged c.find_deadlocked_nodes-stuck.result in
    let is_quiet = c.is_quiescent-is_quiet.result in
    line_of g.W.Write.contents c.write_status_rows.result c.args.writer.now c.write_status_rows.new.writer (AreStatusesJson s expectations) (statuses_json marks is_quiet s expectations)
    (statuses_found s (records_of_chip c.chip-chip.result.now) marks is_quiet expectations c.chip-chip.ensures.value c.find_deadlocked_nodes-stuck.ensures.stuck c.find_deadlocked_nodes-stuck.ensures.greatest
    c.is_quiescent-is_quiet.ensures)
    c.write_status_rows.ensures
