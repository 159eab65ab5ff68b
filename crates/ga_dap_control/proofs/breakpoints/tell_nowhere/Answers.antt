use Rattle.std.proofs.Common.{◌≡◌, ◌∙◌, ℕ, length, replicate, codes, ap, subst}
use Rattle.serde_json.specs.Data.{Data}
use Rattle.serde_json.specs.View.{view}
use Rattle.ga_dap_queries.specs.Arguments.{member_list_values}
use Rattle.ga_dap_queries.specs.Sending.{SendsMessage, success_response}
use Rattle.ga_dap_queries.proofs.Sent.{ok_then}
use Rattle.ga_dap_control.specs.Breakpoints.{breakpoints_body, other_file_breakpoint_object}
use Rattle.ga_dap_control.proofs.breakpoints.tell_nowhere.Goals as goal

pub returns-clause-sent : goal.returns-clause-sent
returns-clause-sent c =
    let e : view c.in_ok-body.body ≡ breakpoints_body (replicate (length (member_list_values (codes "breakpoints") (view c.args.request.now.arguments))) other_file_breakpoint_object) =
    c.in_ok-body.ensures ∙ ap breakpoints_body (c.in_ok-list.ensures ∙ ap (λ (z : ℕ). replicate z other_file_breakpoint_object) c.count_asked-count.ensures) in
    ok_then c.respond.result c.respond.ensures.sent
    (λ sent. subst (λ (z : Data). SendsMessage c.args.out.now (success_response c.args.request.now z) c.respond.new.self) e sent)
