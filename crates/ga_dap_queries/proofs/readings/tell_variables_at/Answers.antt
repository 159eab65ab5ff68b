use Rattle.std.proofs.Common.{◌≡◌, ◌∙◌, ℕ, Bool, List, codes, ap, subst}
use Rattle.serde_json.specs.View.{view}
use Rattle.ga_node.specs.Record.{NodeRecord}
use Rattle.ga_dap_protocol.specs.Messages.{member_as_text}
use Rattle.ga_dap_queries.specs.Arguments.{number_member_or_default}
use Rattle.ga_dap_queries.specs.Readings.{TellsIfNodeIsDeadlocked, matches_variables_filter, filtered_variables_body}
use Rattle.ga_dap_queries.specs.Sending.{success_response}
use Rattle.ga_dap_queries.proofs.Sent.{ok_then}
use Rattle.ga_dap_queries.proofs.readings.tell_variables_at.Goals as goal

pub returns-clause-sent : goal.returns-clause-sent
returns-clause-sent c =
    let asked : Bool = matches_variables_filter c.args.at.1 (member_as_text (codes "filter") (view c.args.request.now.arguments)) in
    let e : view c.in_ok-body.body ≡ filtered_variables_body asked c.args.program.now.lab c.is_deadlocked-stuck.result c.args.at.0.number c.args.at.1
    (number_member_or_default (codes "start") 0 (view c.args.request.now.arguments)) (number_member_or_default (codes "count") 0 (view c.args.request.now.arguments)) =
    c.in_ok-body.ensures
    ∙ ap (λ (z : Bool). filtered_variables_body z c.args.program.now.lab c.is_deadlocked-stuck.result c.args.at.0.number c.args.at.1 c.number_member_or_default-start.result c.number_member_or_default-count.result)
    (c.matches_variables_filter-asked.ensures ∙ ap (matches_variables_filter c.args.at.1) c.member_as_text.ensures)
    ∙ ap (λ (z : ℕ). filtered_variables_body asked c.args.program.now.lab c.is_deadlocked-stuck.result c.args.at.0.number c.args.at.1 z c.number_member_or_default-count.result) c.number_member_or_default-start.ensures
    ∙ ap (λ (z : ℕ). filtered_variables_body asked c.args.program.now.lab c.is_deadlocked-stuck.result c.args.at.0.number c.args.at.1
    (number_member_or_default (codes "start") 0 (view c.args.request.now.arguments)) z) c.number_member_or_default-count.ensures in
    ok_then c.respond.result c.respond.ensures.sent
    (λ sent. (
      success_response c.args.request.now (view c.in_ok-body.body),
      (
        c.is_deadlocked-stuck.result,
        subst (λ (z : List NodeRecord). TellsIfNodeIsDeadlocked z c.args.at.0.number c.is_deadlocked-stuck.result) c.chip.ensures.value c.is_deadlocked-stuck.ensures,
        ap (success_response c.args.request.now) e,
      ),
      sent,
    ))
