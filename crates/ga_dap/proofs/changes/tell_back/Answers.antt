use Rattle.std.proofs.Common.{◌∷◌, codes, refl}
use Rattle.ga_dap_queries.specs.Sending.{bare_success_response}
use Rattle.ga_dap_control.specs.Back.{rollback_summary_text}
use Rattle.ga_dap_queries.proofs.Sent.{ok_then}
use Rattle.ga_dap.specs.Launches.{output_message}
use Rattle.ga_dap.proofs.Known.{sent_then}
use Rattle.ga_dap.proofs.changes.tell_back.Goals as goal

pub returns : goal.returns
returns c =
    let gone = output_message (codes "console") (rollback_summary_text c.args.gone.now.node c.args.gone.now.before c.args.gone.now.removed c.args.program.now.lab) in
    let first = bare_success_response c.args.request.now in
    ok_then c.tell_standing.result c.tell_standing.ensures
    (λ told. (
      first ∷ gone ∷ told.0,
      (told.0, told.1, refl),
      sent_then c.args.out.now first c.acknowledge.new.self (gone ∷ told.0) c.tell_standing.new.out c.in_ok-acknowledge.ensures.sent
          (sent_then c.acknowledge.new.self gone c.tell_gone.new.out told.0 c.tell_standing.new.out c.in_ok-tell_gone.ensures told.2),
    ))
