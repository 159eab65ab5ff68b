use Rattle.std.proofs.Common.{◌-◌, refl, arith}
use Rattle.ga_dap_views.specs.declared.calls.ReturnStackEffect.TheVariants as shift
use Rattle.ga_dap_views.proofs.Windows.{first_new, all_before, kept_below}
use Rattle.ga_dap_views.proofs.calls.before_exchange.Goals as goal

pub returns-then-place-eq0-clause-before : goal.returns-then-place-eq0-clause-before
returns-then-place-eq0-clause-before c = λ calls f new called.
    first_new shift.Replaces calls f new c.args.window.place 1 c.args.window.left (c.args.window.left - 1) (omega arith) (omega arith) called refl (λ i lt. kept_below 1 i (omega arith))

pub returns-else-place-eq0-clause-before : goal.returns-else-place-eq0-clause-before
returns-else-place-eq0-clause-before c = λ calls f new called.
    all_before shift.Replaces calls f new c.args.window.place c.args.window.place c.args.window.left refl (λ i lt. kept_below c.args.window.place i (omega arith))
