use Rattle.std.proofs.Common.{◌≤◌, ◌<◌, ◌+◌, ◌-◌, ◌∙◌, arith}
use Rattle.ga_explorer_json.specs.Around.{step_json_at, step_rows}
use Rattle.ga_explorer_json.proofs.Around.{next_step, no_step}
use Rattle.ga_explorer_json.proofs.Writing.{row_from}
use Rattle.ga_explorer_json.proofs.at_json.StepRowsRowCursor.next.Goals as goal

pub returns-then-place-step : goal.returns-then-place-step
returns-then-place-step c =
    let rows = c.args.self.now in
    let past : rows.near.step ≤ rows.place = omega (arith, c.if-place-step.true, c.step.ensures.value) in record {
      row = no_step rows.notes.now rows.lab.now rows.node rows.place rows.near.step past;
    }

pub returns : goal.returns
returns c =
    let rows = c.args.self.now in
    let s = rows.lab.now in
    let node = rows.node in
    let notes = rows.notes.now in
    let place = rows.place in
    let last = rows.near.step in
    let below : place < last = omega (arith, c.if-place-step.false, c.step.ensures.value) in record {
      row = next_step notes s node place last below
          ∙ row_from c.row_of_walk.result (step_json_at notes s node (place + 1)) (step_rows notes s node (place + 1) (last - (place + 1))) c.row_of_walk.ensures;
    }
