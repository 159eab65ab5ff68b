use Rattle.std.proofs.Common.{◌≡◌, arith}
use Rattle.ga_causal.proofs.Exact.{closure_start, closure_end, closure_exact}
use Rattle.ga_causal.specs.Dependence.{is_node_flagged}
use Rattle.ga_causal.proofs.marks.find_dependents.Goals as goal

pub loop-event-init : goal.loop-event-init
loop-event-init c =
    let k : c.loop-i._i ≡ c.args.place = omega arith in
    rw c.in_ok-push-2.ensures.items (closure_start c.args.events.now c.args.place c.loop-i._i c.index-events-start.result c.loop-i.flags.items (is_node_flagged c.new-marks.result) c.requires k c.loop-i.invariant c.index-events-start.is c.new-marks.ensures)

pub returns-clause-exact : goal.returns-clause-exact
returns-clause-exact c =
    closure_exact c.args.events.now c.args.place c.loop-event.flags.items c.requires
    (closure_end c.args.events.now _ c.args.place c.loop-event.event-index c.loop-event.flags.items (is_node_flagged c.loop-event.marks) (omega arith) c.loop-event.invariant)
