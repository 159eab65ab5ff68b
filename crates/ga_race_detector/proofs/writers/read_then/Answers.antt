use Rattle.std.proofs.Common.{◌∙◌, ap}
use Rattle.std.specs.Prelude.{is_some}
use Rattle.ga_node.specs.Record.{NodeRecord, record_of_node}
use Rattle.ga_event.specs.Apply.{waits_to_read_side}
use Rattle.ga_lab.proofs.Called.{runs_of}
use Rattle.ga_race_detector.proofs.Silent.{stood_then}
use Rattle.ga_race_detector.proofs.writers.read_then.Goals as goal

pub returns-in-Some : goal.returns-in-Some
returns-in-Some c =
    let s = c.args.lab.now in
    let n = c.args.node.number in
    c.is_waiting_to_read.ensures
    ∙ ap (λ w. waits_to_read_side w c.args.side) (c.wait.ensures.value ∙ ap (λ (z : NodeRecord). z.wait)
    (stood_then s (runs_of s (ap is_some c.node-stands.ensures.replays)) n c.args.step (record_of_node c.in-Some.then) c.requires c.in-Some.ensures.value))
