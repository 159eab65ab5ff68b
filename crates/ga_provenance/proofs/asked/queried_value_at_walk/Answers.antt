use Rattle.std.proofs.Common.{◌≡◌, ℕ, suc, ◌-◌, ap, ◌∙◌, arith}
use Rattle.ga_node.specs.Record.{record_of_node}
use Rattle.ga_lab.specs.Machine.{NodeAtStep}
use Rattle.ga_provenance.specs.Origins.{node_after_steps}
use Rattle.ga_provenance.proofs.Made.{stood_of, within_so, back_so}
use Rattle.ga_provenance.proofs.Causes.{asked_here}
use Rattle.ga_provenance.proofs.asked.queried_value_at_walk.Goals as goal

pub returns-clause-value : goal.returns-clause-value
returns-clause-value c =
    let s = c.args.lab.now in
    let node = c.args.node in
    let walk = c.args.walk.now in
    let before = c.back.new.self in
    let place : ℕ = c.step-step.result - 1 in
    let step = c.step-step.ensures.value in
    let within = within_so s node walk c.step-step.result c.requires c.step-step.ensures.within in
    let went = back_so s node walk before c.requires (c.back.ensures ∙ ap (λ (z : NodeAtStep). record z { step = z.step - 1 }) c.copy-before.ensures) in
    let stood = stood_of s node before (walk.step - 1) (record_of_node c.node.result.now) went (omega (arith, step, within)) c.node.ensures
    ∙ ap (λ (k : ℕ). node_after_steps s node.number k) (let is : walk.step - 1 ≡ place = omega (arith, step) in is) in
    let is : suc place ≡ walk.step = omega (arith, step, c.if-step-eq0.false) in
    asked_here s node walk.step place c.in_ok-made.made (record_of_node c.node.result.now) c.asked_of_told.result c.value_of.result is c.in_ok-made.ensures stood c.asked_of_told.ensures.value c.value_of.ensures.value
