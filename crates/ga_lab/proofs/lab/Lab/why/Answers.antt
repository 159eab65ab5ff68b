use Rattle.std.proofs.Common.{Err, sym, ◌∙◌, ap, inl, inr}
use Rattle.std.specs.Prelude.{Result, Option, List}
use Rattle.ga_causal.specs.declared.chain.ChainLink.{ChainLink}
use Rattle.ga_lab.specs.declared.fault.LabFault.{LabFault}
use Rattle.ga_lab.specs.Machine.{machine_events_with_looks}
use Rattle.ga_lab.proofs.Explaining.{no_cause, no_effect, reasoned, why_refused, stands_counted}
use Rattle.ga_lab.proofs.lab.Lab.why.Goals.{then-not-has_step-via-then-not-has_step, then-not-has_step-via-else-not-has_step+then-not-has_step-2}
use Rattle.ga_lab.proofs.lab.Lab.why.Goals as goal

pub returns-then-not-has_step-clause-answer : goal.returns-then-not-has_step-clause-answer
returns-then-not-has_step-clause-answer c = elim c.then-not-has_step.branch [
  | then-not-has_step-via-then-not-has_step w ↦
      inl (sym (no_cause c.args.self.now c.args.from.0.number c.args.from.1 c.args.to.0.number c.args.to.1 c.has_step.ensures.caused (sym c.has_step.ensures.value ∙ w.if-not-has_step.true)))
  | then-not-has_step-via-else-not-has_step+then-not-has_step-2 w ↦
      inl (sym (no_effect c.args.self.now c.args.from.0.number c.args.from.1 c.args.to.0.number c.args.to.1 c.has_step.ensures.caused (sym w.has_step-else-not-has_step.ensures.value ∙ w.if-not-has_step-2.true)))
]

pub since-requires : goal.since-requires
since-requires c = sym c.has_step.ensures.value ∙ c.if-not-has_step.false

pub chain_since-requires-clause-counted : goal.chain_since-requires-clause-counted
chain_since-requires-clause-counted c =
    stands_counted c.args.self.now c.args.to.0.number c.args.to.1 (sym c.has_step-else-not-has_step.ensures.value ∙ c.if-not-has_step-2.false)

pub returns-in-Ok-clause-answer : goal.returns-in-Ok-clause-answer
returns-in-Ok-clause-answer c = c.chain_since.ensures (machine_events_with_looks c.args.self.now) c.args.from.0.number c.args.from.1 c.in-Ok.ensures.ok

pub returns-in-Ok-clause-refused : goal.returns-in-Ok-clause-refused
returns-in-Ok-clause-refused c =
    why_refused c.args.self.now c.args.from.0.number c.args.from.1 c.args.to.0.number c.args.to.1 c.chain_since.result c.has_step.ensures.caused (returns-in-Ok-clause-answer c)

pub returns-in-Err-clause-answer : goal.returns-in-Err-clause-answer
returns-in-Err-clause-answer c = inr (
  ap (λ (f : LabFault). let r : Result (Option (List ChainLink)) LabFault = Err f in r) c.in-Err.ensures.err,
  reasoned c.args.self.now c.args.from.0.number c.args.from.1 c.args.to.0.number c.args.to.1 c.has_step.ensures.caused (sym c.has_step.ensures.value ∙ c.if-not-has_step.false) (sym c.has_step-else-not-has_step.ensures.value ∙ c.if-not-has_step-2.false),
)
