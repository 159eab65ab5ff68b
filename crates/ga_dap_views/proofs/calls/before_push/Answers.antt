use Rattle.std.proofs.Common.{◌-◌, refl, arith}
use Rattle.ga_dap_views.specs.declared.calls.ReturnStackEffect.TheVariants as shift
use Rattle.ga_dap_views.proofs.Windows.{first_new, all_before, none_first, pushed_first, pushed_down}
use Rattle.ga_dap_views.proofs.calls.before_push.Goals as goal

pub returns-then-place-eq0-clause-calls : goal.returns-then-place-eq0-clause-calls
returns-then-place-eq0-clause-calls c = λ calls f new called.
    first_new shift.Calls calls f new c.args.window.place 0 c.args.window.left (c.args.window.left - 1) (omega arith) (omega arith) called refl (λ i lt. pushed_first i)

pub returns-then-place-eq0-clause-pushes : goal.returns-then-place-eq0-clause-pushes
returns-then-place-eq0-clause-pushes c = λ calls f new called.
    first_new shift.Pushes calls f new c.args.window.place 0 c.args.window.left (c.args.window.left - 1) (omega arith) (omega arith) called refl (λ i lt. pushed_first i)

pub returns-else-place-eq0-clause-calls : goal.returns-else-place-eq0-clause-calls
returns-else-place-eq0-clause-calls c = λ calls f new called.
    all_before shift.Calls calls f new c.args.window.place (c.args.window.place - 1) c.args.window.left (none_first shift.Calls c.args.window.place new (omega arith))
    (λ i lt. pushed_down c.args.window.place i (omega arith))

pub returns-else-place-eq0-clause-pushes : goal.returns-else-place-eq0-clause-pushes
returns-else-place-eq0-clause-pushes c = λ calls f new called.
    all_before shift.Pushes calls f new c.args.window.place (c.args.window.place - 1) c.args.window.left (none_first shift.Pushes c.args.window.place new (omega arith))
    (λ i lt. pushed_down c.args.window.place i (omega arith))
