use Rattle.std.proofs.Common.{◌∙◌, ◌-◌, sym, arith}
use Rattle.ga_dap_breakpoints.specs.declared.condition.HitCondition.{HitCondition}
use Rattle.ga_dap_breakpoints.proofs.Reversals.{hit_more, newest_here, newest_before, newest_never}
use Rattle.ga_dap_breakpoints.proofs.reversing.newest_matching_hit.Goals as goal

pub going-preserved : goal.going-preserved
going-preserved c =
    let s = c.args.lab.now in
    let more = hit_more s c.args.node c.args.one.now c.going.step c.is_hit_step-hit.result (omega arith) c.is_hit_step-hit.ensures.hit in
    record {
      walk = c.is_hit_step-hit.ensures.walk;
      order = omega (arith, c.is_hit_step-hit.ensures.order);
      within = omega (arith, c.going.invariant.within);
      counted = λ (hits : HitCondition) is. (let counted = c.going.invariant.counted hits is in omega (arith, counted, more, c.one_if.ensures.value, c.saturating_sub-number.ensures));
      same = c.going.invariant.same ∙ newest_before s c.args.node c.args.one.now c.going.step c.going.number c.is_hit_step-hit.result c.asks.result (omega arith)
          c.is_hit_step-hit.ensures.hit c.asks.ensures c.going.invariant.counted c.if-asks.false;
    }

pub returns-then-asks : goal.returns-then-asks
returns-then-asks c =
    sym (c.going.invariant.same ∙ newest_here c.args.lab.now c.args.node c.args.one.now c.going.step c.going.number c.is_hit_step-hit.result c.asks.result (omega arith)
    c.is_hit_step-hit.ensures.hit c.asks.ensures c.going.invariant.counted c.if-asks.true)

pub returns : goal.returns
returns c = sym (c.going.invariant.same ∙ newest_never c.args.lab.now c.args.node c.args.one.now c.going.step (omega arith))
