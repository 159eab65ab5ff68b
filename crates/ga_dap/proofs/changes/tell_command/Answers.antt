use Rattle.std.proofs.Common.{◌∷◌, ap}
use Rattle.serde_json.specs.View.{view}
use Rattle.ga_dap_queries.specs.Sending.{success_response}
use Rattle.ga_dap_queries.proofs.Sent.{ok_then}
use Rattle.ga_dap.proofs.Known.{sent_then}
use Rattle.ga_dap.proofs.changes.tell_command.Goals as goal

pub returns : goal.returns
returns c =
    let body = c.in_ok-body.ensures in
    let first = success_response c.args.request.now (view c.in_ok-body.body) in
    ok_then c.tell_moved.result c.tell_moved.ensures
    (λ told. (
      first ∷ told.0,
      (body.0, told.0, body.1, told.1, ap (λ z. success_response c.args.request.now z ∷ told.0) body.2),
      sent_then c.args.out.now first c.respond.new.self told.0 c.tell_moved.new.out c.in_ok-respond.ensures.sent told.2,
    ))
