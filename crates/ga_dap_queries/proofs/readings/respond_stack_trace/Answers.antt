use Rattle.std.proofs.Common.{◌≡◌, ◌∙◌, ℕ, codes, Some, None, refl, ap}
use Rattle.ga_debug_info.specs.declared.notes.DebugInfo.{DebugInfo}
use Rattle.serde_json.specs.View.{view}
use Rattle.ga_dap_views.specs.Frames.{stack_trace_body}
use Rattle.ga_dap_queries.specs.Arguments.{number_member_or_default}
use Rattle.ga_dap_queries.specs.Disassembling.{program_debug_info}
use Rattle.ga_dap_queries.specs.Sending.{success_response, refused_response}
use Rattle.ga_dap_queries.proofs.Sent.{ok_then}
use Rattle.ga_dap_queries.proofs.readings.respond_stack_trace.Goals as goal

pub returns-in-None-clause-sent : goal.returns-in-None-clause-sent
returns-in-None-clause-sent c = ok_then c.refuse.result c.refuse.ensures.sent
    (λ sent. (refused_response c.args.request.now (codes "stackTrace: no such thread"), (None, c.in-None.ensures, refl), sent))

pub returns-in_ok-body-in-Some-clause-sent : goal.returns-in_ok-body-in-Some-clause-sent
returns-in_ok-body-in-Some-clause-sent c =
    let e : view c.in_ok-body-in-Some.body ≡ stack_trace_body c.file.result (program_debug_info c.args.program.now) c.args.program.now.lab c.in-Some.node
    (number_member_or_default (codes "startFrame") 0 (view c.args.request.now.arguments)) (number_member_or_default (codes "levels") 0 (view c.args.request.now.arguments)) =
    c.in_ok-body-in-Some.ensures
    ∙ ap (λ (z : DebugInfo). stack_trace_body c.file.result z c.args.program.now.lab c.in-Some.node c.number_member_or_default-start.result c.number_member_or_default-count.result) c.source_debug_info-notes.ensures
    ∙ ap (λ (z : ℕ). stack_trace_body c.file.result (program_debug_info c.args.program.now) c.args.program.now.lab c.in-Some.node z c.number_member_or_default-count.result) c.number_member_or_default-start.ensures
    ∙ ap (λ (z : ℕ). stack_trace_body c.file.result (program_debug_info c.args.program.now) c.args.program.now.lab c.in-Some.node
    (number_member_or_default (codes "startFrame") 0 (view c.args.request.now.arguments)) z) c.number_member_or_default-count.ensures in
    ok_then c.respond.result c.respond.ensures.sent
    (λ sent. (
      success_response c.args.request.now (view c.in_ok-body-in-Some.body),
      (Some c.in-Some.node, c.in-Some.ensures, (c.file.result, (c.file.ensures.name, c.file.ensures.path), ap (success_response c.args.request.now) e)),
      sent,
    ))
