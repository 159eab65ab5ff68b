use Rattle.std.proofs.Common.{◌∙◌, ap, sym}
use Rattle.std.specs.Prelude.{is_some}
use Rattle.ga_node.specs.Record.{NodeRecord, record_of_node}
use Rattle.ga_event.specs.Apply.{shown_wait_state}
use Rattle.ga_lab.specs.Machine.{chip_of_machine}
use Rattle.ga_lab.proofs.Called.{runs_of}
use Rattle.ga_race_detector.proofs.Posted.{last_stood, own_shows}
use Rattle.ga_race_detector.proofs.readings.shown_at.Goals as goal

pub returns-in-Some-Own : goal.returns-in-Some-Own
returns-in-Some-Own c = λ place count.
    let s = c.args.lab.now in
    own_shows s (runs_of s (ap is_some c.node-now.ensures.replays)) c.args.node c.args.side c.args.steps place c.in-Some-Own.field-0 _ _ _ c.in-Some-Own.field-0-is
    (sym c.steps-many.ensures.told ∙ c.steps-many.ensures.steps) c.in-Some-Own.ensures count

pub returns-in-None : goal.returns-in-None
returns-in-None c = λ place count.
    let s = c.args.lab.now in
    c.shown_wait_state.ensures ∙ ap (λ w. shown_wait_state w c.args.side) (c.wait.ensures.value ∙ ap (λ (z : NodeRecord). z.wait)
    (last_stood s (chip_of_machine s) c.args.node.number c.args.steps place (record_of_node c.node-now.result.now) c.node-now.ensures.replays
    (sym c.steps-many.ensures.told ∙ c.steps-many.ensures.steps) c.in-None.ensures c.node-now.ensures.value count))
