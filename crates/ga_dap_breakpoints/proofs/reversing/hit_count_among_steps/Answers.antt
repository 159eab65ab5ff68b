use Rattle.std.proofs.Common.{◌∙◌, ◌-◌, arith}
use Rattle.ga_dap_breakpoints.proofs.Reversals.{hit_more, no_hits}
use Rattle.ga_dap_breakpoints.proofs.reversing.hit_count_among_steps.Goals as goal

pub going-preserved : goal.going-preserved
going-preserved c =
    let more = hit_more c.args.lab.now c.args.node c.args.one.now c.going.step c.is_hit_step-hit.result (omega arith) c.is_hit_step-hit.ensures.hit in
    record {
      walk = c.is_hit_step-hit.ensures.walk;
      order = omega (arith, c.is_hit_step-hit.ensures.order);
      within = omega (arith, c.going.invariant.within, c.one_if-number.ensures.most);
      same = c.going.invariant.same ∙ omega (arith, more, c.one_if-number.ensures.value);
    }

pub returns : goal.returns
returns c =
    let none = no_hits c.args.lab.now c.args.node c.args.one.now c.going.step (omega arith) in
    let same = c.going.invariant.same in omega (arith, none, same)
