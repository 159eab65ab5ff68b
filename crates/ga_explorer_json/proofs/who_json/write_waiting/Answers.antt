use Rattle.std.proofs.Common.{ℕ, ap, ◌∙◌, refl}
use Rattle.std.specs.Prelude.{◌&&◌}
use Rattle.ga_grid.specs.Chip.{records_of_chip}
use Rattle.ga_causal.specs.Dependence.{is_node_flagged}
use Rattle.ga_explorer_text.specs.Waiting.{count_passing_nodes}
use Rattle.ga_explorer_json.specs.Who.{waiting_node_rows, waiting_nodes_head_fields}
use Rattle.ga_explorer_json.proofs.Writing.{report_as}
use Rattle.ga_explorer_json.proofs.who_json.write_waiting.Goals as goal

pub returns : goal.returns
returns g c =
    let chip = records_of_chip c.args.chip.now in
    let marks = is_node_flagged c.args.stuck.now in
    let over = is_node_flagged c.args.ended.now in
    let idle = is_node_flagged c.args.idle.now in
    let rows = waiting_node_rows chip marks over idle 0 144 in
    report_as g.W.Write.contents c.write_report.result c.args.writer.now c.write_report.new.writer c.waiting_nodes_head_fields-head.result
    (waiting_nodes_head_fields (count_passing_nodes idle 144) (count_passing_nodes (λ n. marks n && idle n) 144)) rows rows
    (c.waiting_nodes_head_fields-head.ensures
    ∙ ap (λ (z : ℕ). waiting_nodes_head_fields z c.count_idle_marked_nodes.result) c.count_idle_nodes.ensures
    ∙ ap (waiting_nodes_head_fields (count_passing_nodes idle 144)) c.count_idle_marked_nodes.ensures) refl c.write_report.ensures
