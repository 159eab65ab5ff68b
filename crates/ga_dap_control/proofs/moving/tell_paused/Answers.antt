use Rattle.std.proofs.Common.{◌∷◌, [], codes, ap}
use Rattle.ga_grid.specs.declared.node_id.NodeId.{NodeId}
use Rattle.ga_dap_queries.specs.Sending.{bare_success_response}
use Rattle.ga_dap_queries.proofs.Sent.{ok_then, sent_one}
use Rattle.ga_dap_control.specs.Stopping.{stopped_message}
use Rattle.ga_dap_control.proofs.moving.tell_paused.Goals as goal

pub returns : goal.returns
returns c = let asked = c.node_or-node.ensures in
    ok_then c.emit_stopped_event.result c.emit_stopped_event.ensures.sent
    (λ sent. (
      bare_success_response c.args.request.now ∷ stopped_message (codes "pause") (codes "pause") c.node_or-node.result.number ∷ [],
      (
        c.first_of-first.result,
        asked.0,
        c.first_of-first.ensures,
        asked.1,
        ap (λ (z : NodeId). bare_success_response c.args.request.now ∷ stopped_message (codes "pause") (codes "pause") z.number ∷ []) asked.2,
      ),
      (c.acknowledge.new.self, c.in_ok-acknowledge.ensures.sent, sent_one c.acknowledge.new.self (stopped_message (codes "pause") (codes "pause") c.node_or-node.result.number) c.emit_stopped_event.new.out sent),
    ))
