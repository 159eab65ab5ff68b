use Rattle.std.proofs.Common.{◌≡◌, suc, ◌-◌, refl, sym, ◌∙◌, arith}
use Rattle.ga_provenance.specs.Origins.{origin_of_value}
use Rattle.ga_provenance.proofs.Made.{back_on}
use Rattle.ga_provenance.proofs.Keeping.{misses_stays}
use Rattle.ga_provenance.proofs.trail.passed.Goals as goal

pub returns-clause-same : goal.returns-clause-same
returns-clause-same c =
    let s = c.args.lab.now in
    let value = c.args.followed.value in
    let before = c.registers_before-registers in
    let is : suc (value.step - 1) ≡ value.step = omega (arith, c.if-step-eq0.false) in
    back_on s value.node value.step (value.step - 1) value.part value.part (origin_of_value s value) is
    (sym (misses_stays s value.node.number (value.step - 1) value.part c.made_event_of_step-told.result before.result c.made_event_of_step-told.ensures before.ensures.a before.ensures.b
    (sym c.event_stores_outside_part.ensures ∙ c.if-not-event_stores_outside_part.false)))
    refl
