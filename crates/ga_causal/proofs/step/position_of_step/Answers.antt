use Rattle.std.proofs.Common.{◌≡◌, sym, ◌∙◌, ap, ◌+◌, ◌-◌, suc, drop, arith}
use Rattle.ga_causal.specs.Dependence.{position_of_step}
use Rattle.ga_causal.proofs.Places.{place-zero, on_by, on_by-zero, on_found, on_touched, on_other, on_end}
use Rattle.ga_causal.proofs.step.position_of_step.Goals.{then-touches+else-left-eq0, else-touches}
use Rattle.ga_causal.proofs.step.position_of_step.Goals as goal

pub returns-then-step-eq0-clause-value : goal.returns-then-step-eq0-clause-value
returns-then-step-eq0-clause-value c = sym (ap (position_of_step c.args.events.now c.args.node.number) c.if-step-eq0.true ∙ place-zero c.args.events.now c.args.node.number)

pub events-init : goal.events-init
events-init c =
    let h : suc (c.args.step - 1) ≡ c.args.step = (let k = c.if-step-eq0.false in omega (arith, k)) in
    sym (on_by-zero _ ∙ ap (position_of_step c.args.events.now c.args.node.number) h)

pub events-preserved : goal.events-preserved
events-preserved c = elim c.if-touches.branch [
  | then-touches+else-left-eq0 w ↦
      let h : c.events.left ≡ suc c.if-touches.left = (let a = w.if-left-eq0.false in let b = w.left-is in omega (arith, a, b)) in
      c.events.invariant
      ∙ ap (λ k. on_by c.events.place (position_of_step (drop c.events.place c.args.events.now) c.args.node.number (suc k))) h
      ∙ on_touched c.args.events.now c.args.node.number c.events.place c.if-touches.left c.index-events-place.result c.events-test.true c.index-events-place.is (sym c.touches.ensures ∙ w.if-touches.true)
  | else-touches w ↦ c.events.invariant
      ∙ on_other c.args.events.now c.args.node.number c.events.place c.events.left c.index-events-place.result c.events-test.true c.index-events-place.is (sym c.touches.ensures ∙ w.if-touches.false)
      ∙ ap (λ k. on_by (c.events.place + 1) (position_of_step (drop (c.events.place + 1) c.args.events.now) c.args.node.number (suc k))) (sym w.left-is)
]

pub returns-then-left-eq0-clause-value : goal.returns-then-left-eq0-clause-value
returns-then-left-eq0-clause-value c = sym (c.events.invariant
    ∙ on_found c.args.events.now c.args.node.number c.events.place c.events.left c.index-events-place.result c.events-test.true c.index-events-place.is (sym c.touches.ensures ∙ c.if-touches.true) c.if-left-eq0.true)

pub returns-clause-value : goal.returns-clause-value
returns-clause-value c = sym (c.events.invariant ∙ on_end c.args.events.now c.args.node.number c.events.place (suc c.events.left) c.events-test.false)
