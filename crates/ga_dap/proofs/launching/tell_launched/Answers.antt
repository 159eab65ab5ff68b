use Rattle.std.proofs.Common.{◌∷◌, codes}
use Rattle.ga_dap_queries.specs.Sending.{bare_success_response}
use Rattle.ga_dap_queries.proofs.Sent.{ok_then, sent_next}
use Rattle.ga_dap.specs.Launches.{bare_event_message}
use Rattle.ga_dap.proofs.Known.{sent_then}
use Rattle.ga_dap.proofs.launching.tell_launched.Goals as goal

pub returns : goal.returns
returns c =
    let first = bare_success_response c.args.request.now in
    let warned = c.in_ok-tell_warnings.ensures in
    ok_then c.add_bare_event.result c.add_bare_event.ensures.sent
    (λ sent. (
      warned.0,
      warned.1,
      sent_next c.args.out.now (first ∷ warned.0) c.tell_warnings.new.out (bare_event_message (codes "initialized")) c.add_bare_event.new.self
          (sent_then c.args.out.now first c.acknowledge.new.self warned.0 c.tell_warnings.new.out c.in_ok-acknowledge.ensures.sent warned.2) sent,
    ))
