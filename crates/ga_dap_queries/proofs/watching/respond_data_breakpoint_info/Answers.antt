use Rattle.std.proofs.Common.{◌∙◌, Option, ap}
use Rattle.serde_json.specs.View.{view}
use Rattle.ga_text.specs.Lines.{Text}
use Rattle.ga_dap_queries.specs.Sending.{success_response}
use Rattle.ga_dap_queries.specs.Watching.{data_breakpoint_info_body}
use Rattle.ga_dap_queries.proofs.Sent.{ok_then}
use Rattle.ga_dap_queries.proofs.watching.respond_data_breakpoint_info.Goals as goal

pub returns-clause-sent : goal.returns-clause-sent
returns-clause-sent c = ok_then c.respond.result c.respond.ensures.sent
    (λ sent. (
      success_response c.args.request.now (view c.in_ok-body.body),
      (
        c.variables_reference_argument-at.result,
        c.variables_reference_argument-at.ensures,
        ap (success_response c.args.request.now) (c.in_ok-body.ensures ∙ ap (λ (z : Option Text). data_breakpoint_info_body c.variables_reference_argument-at.result z) c.member_as_text.ensures),
      ),
      sent,
    ))
