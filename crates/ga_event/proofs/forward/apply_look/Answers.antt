use Rattle.std.proofs.Common.{◌≡◌, true, length, arith}
use Rattle.ga_event.proofs.Applied.{due_applied}
use Rattle.ga_event.proofs.forward.apply_look.Goals as goal

pub returns : goal.returns
returns c =
    let size : length c.args.chip.now ≡ 144 = c.node_mut.ensures.size in
    due_applied c.args.chip.now c.args.node c.node_mut.result.now c.execute_action_logged.new.self c.execute_action_logged.result c.execute_action_logged.new.saved c.neighbour_states-seen.result c.args.due true (omega arith) c.node_mut.ensures.value
    c.requires.next.ready c.requires.next.due_is c.requires.next.looks_is (λ yes. c.neighbour_states-seen.ensures) c.execute_action_logged.ensures.event c.execute_action_logged.ensures.saves
