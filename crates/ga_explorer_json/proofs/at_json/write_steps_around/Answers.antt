use Rattle.std.proofs.Common.{◌≡◌, ℕ, ◌+◌, ◌-◌, min, ap, ◌∙◌, arith}
use Rattle.ga_event.specs.Told.{count_steps}
use Rattle.ga_lab.specs.Machine.{NodeAtStep}
use Rattle.ga_explorer_json.specs.Around.{step_rows, steps_around_head_fields, step_rows_around}
use Rattle.ga_explorer_json.proofs.Writing.{report_as}
use Rattle.ga_explorer_json.proofs.at_json.write_steps_around.Goals as goal

pub returns : goal.returns
returns g c =
    let s = c.args.lab.now in
    let n = c.args.node.number in
    let place = c.saturating_sub.result in
    let near = c.walk_node_from_step.result in
    let count : ℕ = count_steps n s.kept in
    let first : place ≡ c.args.step - 1 - c.args.around = omega (arith, c.saturating_sub.ensures) in
    let last : near.step ≡ min (c.args.step + c.args.around) count =
    ap (λ (z : NodeAtStep). z.step) c.walk_node_from_step.ensures ∙ omega (arith, c.saturating_add.ensures, c.min-last.ensures, c.steps.ensures.steps, c.steps.type_inv) in
    report_as g.W.Write.contents c.write_report.result c.args.writer.now c.write_report.new.writer c.steps_around_head_fields-head.result
    (steps_around_head_fields c.args.node c.args.step) (step_rows c.args.notes.now s c.args.node place (near.step - place)) (step_rows_around c.args.notes.now s c.args.node c.args.step c.args.around) c.steps_around_head_fields-head.ensures
    (ap (λ (z : ℕ). step_rows c.args.notes.now s c.args.node z (near.step - z)) first ∙ ap (λ (z : ℕ). step_rows c.args.notes.now s c.args.node (c.args.step - 1 - c.args.around) (z - (c.args.step - 1 - c.args.around))) last)
    c.write_report.ensures
