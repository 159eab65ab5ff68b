use Rattle.std.proofs.Common.{◌-◌, ◌∙◌, ap, inl}
use Rattle.ga_causal.specs.Dependence.{position_of_step}
use Rattle.ga_lab.proofs.Explaining.{tail_is, before_none, there, nowhere}
use Rattle.ga_lab.proofs.why.chain_since.Goals as goal

pub returns-then-to-since : goal.returns-then-to-since
returns-then-to-since c all n k s =
    inl (before_none all n k c.args.to.0.number c.args.to.1 c.args.since.now.causes.items c.args.since.now.before c.args.since.now.steps s c.requires.counted c.if-to-since.true)

pub returns-in-Some : goal.returns-in-Some
returns-in-Some c all n k s =
    there all n k c.args.to.0.number c.args.to.1 c.args.since.now.causes.items c.args.since.now.before c.args.since.now.steps c.in-Some.effect c.chain.result s c.if-to-since.false
    (c.in-Some.ensures.value ∙ ap (λ z. position_of_step z c.args.to.0.number (c.args.to.1 - c.args.since.now.steps)) c.deref.ensures.value)
    (c.chain.ensures all (tail_is all n k c.args.to.0.number c.args.since.now.causes.items c.args.since.now.before c.args.since.now.steps s))

pub returns-in-None : goal.returns-in-None
returns-in-None c all n k s =
    inl (nowhere all n k c.args.to.0.number c.args.to.1 c.args.since.now.causes.items c.args.since.now.before c.args.since.now.steps s c.if-to-since.false
    (c.in-None.ensures.value ∙ ap (λ z. position_of_step z c.args.to.0.number (c.args.to.1 - c.args.since.now.steps)) c.deref.ensures.value))
