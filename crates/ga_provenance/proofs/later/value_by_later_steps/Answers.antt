use Rattle.std.proofs.Common.{◌+◌, ◌≤◌, arith}
use Rattle.ga_event.specs.Told.{count_steps}
use Rattle.ga_provenance.proofs.Resting.{held_old, held_left}
use Rattle.ga_provenance.proofs.later.value_by_later_steps.Goals as goal

pub looking-init : goal.looking-init
looking-init c = record { order = omega arith; same = λ value held. held }

pub returns-in-Some-clause-value : goal.returns-in-Some-clause-value
returns-in-Some-clause-value c =
    c.looking.invariant.same c.in-Some.old (held_old c.args.lab.now c.args.node.number c.looking.at c.in-Some.old c.args.what c.in-Some.ensures.within c.in-Some.ensures.value)

pub looking-preserved : goal.looking-preserved
looking-preserved c =
    let s = c.args.lab.now in
    let n = c.args.node.number in
    let within : c.looking.at + 1 ≤ count_steps n s.kept = omega (arith, c.looking-test.true, c.steps-steps.ensures.steps) in
    record {
      order = omega (arith, c.looking.invariant.order);
      same = λ value held. c.looking.invariant.same value (held_left s n c.looking.at value c.args.what within c.in_default.ensures.left held);
    }
