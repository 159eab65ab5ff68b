use Rattle.std.proofs.Common.{sym, ◌∙◌, arith}
use Rattle.ga_dap_views.proofs.Putting.{put_before, put_here, put_at_load}
use Rattle.ga_dap_views.proofs.entries.step_pushing_return_entry.Goals as goal

pub following-preserved : goal.following-preserved
following-preserved c = record {
  walk = c.return_stack_effect-shift.ensures.walk;
  order = c.return_stack_effect-shift.ensures.order;
  within = omega (arith, c.following.invariant.within);
  place = c.in-Some.ensures.in_range;
  same = c.following.invariant.same
      ∙ put_before c.args.lab.now c.args.node c.following.left c.following.place c.in-Some.from c.return_stack_effect-shift.result (omega arith) c.return_stack_effect-shift.ensures.shift c.in-Some.ensures.value;
}

pub returns-in-None-clause-value : goal.returns-in-None-clause-value
returns-in-None-clause-value c =
    sym (c.following.invariant.same
    ∙ put_here c.args.lab.now c.args.node c.following.left c.following.place c.return_stack_effect-shift.result (omega arith) c.return_stack_effect-shift.ensures.shift c.in-None.ensures.value)

pub returns-clause-value : goal.returns-clause-value
returns-clause-value c = sym (c.following.invariant.same ∙ put_at_load c.args.lab.now c.args.node c.following.left c.following.place (omega arith))
