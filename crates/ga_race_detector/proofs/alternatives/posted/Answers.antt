use Rattle.std.proofs.Common.{◌∙◌, ap, sym}
use Rattle.std.specs.Prelude.{is_some}
use Rattle.ga_node.specs.Record.{record_of_node}
use Rattle.ga_lab.specs.Machine.{chip_of_machine}
use Rattle.ga_lab.proofs.Called.{runs_of}
use Rattle.ga_race_detector.proofs.Posted.{posted_told, posted_last}
use Rattle.ga_race_detector.proofs.alternatives.posted.Goals as goal

pub returns-in-Some-clause-value : goal.returns-in-Some-clause-value
returns-in-Some-clause-value c = λ place count.
    let s = c.args.lab.now in
    c.word_passed_between.ensures.value
    ∙ posted_told s (runs_of s (ap is_some c.node-now.ensures.replays)) c.args.node c.args.reader c.args.side c.args.steps place c.in-Some.made
    (sym c.steps-many.ensures.told ∙ c.steps-many.ensures.steps) c.in-Some.ensures c.requires.near count

pub returns-in-None-clause-value : goal.returns-in-None-clause-value
returns-in-None-clause-value c = λ place count.
    let s = c.args.lab.now in
    c.posted_now.ensures.value
    ∙ posted_last s (chip_of_machine s) c.args.node.number c.args.side c.args.steps place (record_of_node c.node-now.result.now) c.node-now.ensures.replays
    (sym c.steps-many.ensures.told ∙ c.steps-many.ensures.steps) c.in-None.ensures c.node-now.ensures.value count
