use Rattle.std.proofs.Common.{[], ◌∷◌, ◌++◌, refl}
use Rattle.ga_dap_control.specs.Stopping.{stopped_message}
use Rattle.ga_dap_queries.proofs.Sent.{ok_then, sent_next}
use Rattle.ga_dap.proofs.changes.tell_standing.Goals as goal

pub returns : goal.returns
returns c =
    let told = c.in_ok-tell_threads.ensures in
    let last = stopped_message c.args.reason.now c.args.description.now c.args.node.number in
    ok_then c.emit_stopped_event.result c.emit_stopped_event.ensures.sent
    (λ sent. (told.0 ++ (last ∷ []), (told.0, told.1, refl), sent_next c.args.out.now told.0 c.tell_threads.new.out last c.emit_stopped_event.new.out told.2 sent))
