use Rattle.ga_grid.specs.Chip.{records_of_chip}
use Rattle.ga_causal.specs.Dependence.{is_node_flagged}
use Rattle.ga_explorer_text.specs.Ended.{is_not_live_node}
use Rattle.ga_explorer_json.specs.Who.{waiting_nodes_json, IsWaitingNodesJson}
use Rattle.ga_explorer_json.proofs.Who.{who_found}
use Rattle.ga_explorer_json.proofs.Writing.{line_of}
use Rattle.ga_explorer_json.proofs.who_json.write_waiting_nodes_json.Goals as goal

pub returns : goal.returns
returns g c =
    let s = c.args.lab.now in
    let chip = records_of_chip c.chip-chip.result.now in
    let marks = is_node_flagged c.find_deadlocked_nodes-stuck.result in
    let over = is_node_flagged c.find_ended_marked_nodes-ended.result in
    let idle = is_node_flagged c.find_idle_nodes-idle.result in
    line_of g.W.Write.contents c.write_waiting.result c.args.writer.now c.write_waiting.new.writer (IsWaitingNodesJson s) (waiting_nodes_json chip marks over idle)
    (who_found s chip marks (is_not_live_node c.find_live_nodes.result) over idle c.chip-chip.ensures.value c.find_deadlocked_nodes-stuck.ensures.stuck c.find_deadlocked_nodes-stuck.ensures.greatest
    c.find_live_nodes.ensures.ended c.find_ended_marked_nodes-ended.ensures c.find_idle_nodes-idle.ensures)
    c.write_waiting.ensures
