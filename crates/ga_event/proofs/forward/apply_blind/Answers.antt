use Rattle.std.proofs.Common.{◌≡◌, false, length, arith, refl}
use Rattle.std.proofs.lemmas.Bool.{both_ways}
use Rattle.ga_event.proofs.Applied.{due_applied}
use Rattle.ga_event.proofs.forward.apply_blind.Goals as goal

pub returns : goal.returns
returns c =
    let size : length c.args.chip.now ≡ 144 = c.node_mut.ensures.size in
    due_applied c.args.chip.now c.args.node c.node_mut.result.now c.execute_action_logged.new.self c.execute_action_logged.result c.execute_action_logged.new.saved c.no_neighbours.result c.args.due false (omega arith) c.node_mut.ensures.value
    c.requires.next.ready c.requires.next.due_is c.requires.next.looks_is (λ yes. absurd (both_ways false refl yes)) c.execute_action_logged.ensures.event c.execute_action_logged.ensures.saves
