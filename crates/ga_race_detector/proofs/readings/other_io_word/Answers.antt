use Rattle.std.proofs.Common.{◌≡◌, ◌+◌, ◌∙◌, ap, arith}
use Rattle.ga_node.specs.Io.{io_word}
use Rattle.ga_event.specs.Told.{count_steps}
use Rattle.ga_causal.specs.Dependence.{events_after_rewind}
use Rattle.ga_causal.proofs.Places.{touching_in}
use Rattle.ga_lab.specs.Machine.{chip_of_machine, machine_events_with_looks, state_after_rewind}
use Rattle.ga_race_detector.specs.inner.Glances.{rollback_step_of_look_change}
use Rattle.ga_race_detector.proofs.Glancing.{looks_again}
use Rattle.ga_race_detector.proofs.readings.other_io_word.Goals as goal

pub returns-clause-is : goal.returns-clause-is
returns-clause-is c =
    let s = c.args.lab.now in
    let g = c.args.glance.now in
    let b = (rollback_step_of_look_change g).0.number in
    let k = (rollback_step_of_look_change g).1 in
    let left : c.args.around.now.node ≡ count_steps g.node.number (state_after_rewind s b k).kept = c.requires.around.node ∙ touching_in g.node.number (events_after_rewind (machine_events_with_looks s) b k) in
    let one : count_steps g.node.number (state_after_rewind s b k).kept + 1 ≡ g.step = omega (arith, left) in
    record {
      is = c.io_word.ensures ∙ ap io_word (c.seen_behind.ensures b k c.requires.around);
      next = looks_again s (chip_of_machine s) c.requires.glance.0 g b k c.node-stands.ensures.replays c.requires.glance.1 one;
      step = one;
    }
