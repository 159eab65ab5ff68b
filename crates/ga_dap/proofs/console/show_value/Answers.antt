use Rattle.std.proofs.Common.{[], ◌∷◌, ap}
use Rattle.serde_json.specs.Data.{Data}
use Rattle.serde_json.specs.View.{view}
use Rattle.ga_dap_queries.specs.Sending.{success_response}
use Rattle.ga_dap_queries.proofs.Sent.{sent_one}
use Rattle.ga_dap.proofs.console.show_value.Goals as goal

pub returns-in-Ok-respond : goal.returns-in-Ok-respond
returns-in-Ok-respond c =
    let shown = c.in-Ok.ensures in (
      success_response c.args.request.now (view c.in-Ok.body) ∷ [],
      (shown.0, shown.1, ap (λ (z : Data). success_response c.args.request.now z ∷ []) shown.2),
      sent_one c.args.out.now (success_response c.args.request.now (view c.in-Ok.body)) c.respond.new.self c.in-Ok-respond.ensures.sent,
    )
