use Rattle.std.proofs.Common.{◌+◌, ◌-◌, refl, arith}
use Rattle.ga_dap_views.specs.declared.calls.ReturnStackEffect.TheVariants as shift
use Rattle.ga_dap_views.proofs.Windows.{all_before, last_copy, popped_up}
use Rattle.ga_dap_views.proofs.calls.before_pop.Goals as goal

pub returns-then-place-left-eq9-clause-before : goal.returns-then-place-left-eq9-clause-before
returns-then-place-left-eq9-clause-before c = λ calls f new called.
    last_copy calls f new c.args.window.place c.args.window.left (c.args.window.left - 1) (omega arith) (omega arith) called

pub returns-else-place-left-eq9-clause-before : goal.returns-else-place-left-eq9-clause-before
returns-else-place-left-eq9-clause-before c = λ calls f new called.
    all_before shift.Pops calls f new c.args.window.place (c.args.window.place + 1) c.args.window.left refl (λ i lt. popped_up c.args.window.place i (omega arith))
