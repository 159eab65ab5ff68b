use Rattle.std.proofs.Common.{◌∙◌, ℕ, ◌+◌, ◌-◌, ◌++◌, ap, arith}
use Rattle.ga_scheduler.specs.Effects.{step_count_in_history}
use Rattle.ga_scheduler.proofs.Taking.{told_none, told_some}
use Rattle.ga_scheduler.proofs.effects.add_steps.Goals as goal

pub returns-then-steps-eq0-clause-ok : goal.returns-then-steps-eq0-clause-ok
returns-then-steps-eq0-clause-ok c = λ left e. told_none left (step_count_in_history c.args.lab.now) c.args.node.number (omega (arith, e)) c.args.list.now.items

pub returns-in-Ok-clause-ok : goal.returns-in-Ok-clause-ok
returns-in-Ok-clause-ok c = λ left e.
    c.in-Ok.ensures.items ∙ ap (λ z. c.args.list.now.items ++ z)
    (told_some left (step_count_in_history c.args.lab.now) c.args.node c.args.steps (c.steps.result - c.args.steps + 1) e (omega arith) (ap (λ (z : ℕ). z - c.args.steps + 1) c.steps.ensures.steps))
