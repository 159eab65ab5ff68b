use Rattle.std.proofs.Common.{◌∙◌, ◌+◌, sym, ap}
use Rattle.ga_scheduler.specs.Effects.{step_count_in_history}
use Rattle.ga_scheduler.proofs.Taking.{effects_step, told_below, told_past}
use Rattle.ga_scheduler.proofs.effects.listed.Goals as goal

pub loop-number-init : goal.loop-number-init
loop-number-init c = λ left h.
    c.new-list.ensures.items ∙ sym (told_below left c.args.steps.now c.args.lab.now c.first-number.result c.first-number.ensures h)

pub loop-number-preserved : goal.loop-number-preserved
loop-number-preserved c = λ left h.
    effects_step left (step_count_in_history c.args.lab.now) c.loop-number.number c.new-node.result.number c.loop-number.list.items c.add_steps.new.list.items c.new-node.ensures (c.loop-number.invariant left h)
    (c.in_ok-add_steps.ensures.ok left (ap (λ z. z + left c.new-node.result.number) c.count.ensures ∙ h c.new-node.result.number))

pub returns-clause-ok : goal.returns-clause-ok
returns-clause-ok c = λ left h.
    c.loop-number.invariant left h
    ∙ told_past left c.args.steps.now c.args.lab.now c.past-number-end.result c.loop-number.number c.past-number-end.ensures.fits c.loop-number-test.false c.past-number-end.ensures.beyond h
