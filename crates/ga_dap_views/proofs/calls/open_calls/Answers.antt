use Rattle.std.proofs.Common.{◌-◌, arith}
use Rattle.ga_dap_views.specs.Calls.{open_calls}
use Rattle.ga_dap_views.proofs.Windows.{call_on, none_left, none_before}
use Rattle.ga_dap_views.proofs.calls.open_calls.Goals as goal

pub going-preserved : goal.going-preserved
going-preserved c =
    let window = c.going.window in
    record {
      walk = c.add_call.ensures.walk;
      order = c.add_call.ensures.order;
      within = c.window_before-window.ensures.within;
      room = omega (arith, c.going.invariant.room, c.window_before-window.ensures.room, c.add_call.ensures.len);
      same = call_on c.args.lab.now c.args.node c.going.step c.return_stack_effect-shift.result window c.window_before-window.result (open_calls c.args.lab.now c.args.node)
          c.going.calls.items c.add_call.new.calls.items (omega arith) c.return_stack_effect-shift.ensures.shift c.window_before-window.ensures.before c.going.invariant.same c.add_call.ensures.calls;
    }

pub returns-then-window-eq0 : goal.returns-then-window-eq0
returns-then-window-eq0 c =
    none_left c.args.lab.now c.args.node (open_calls c.args.lab.now c.args.node) c.going.calls.items c.going.step c.going.window.place c.going.window.left (omega arith) c.going.invariant.same

pub returns : goal.returns
returns c =
    none_before c.args.lab.now c.args.node (open_calls c.args.lab.now c.args.node) c.going.calls.items c.going.step c.going.window.place c.going.window.left (omega arith) c.going.invariant.same
