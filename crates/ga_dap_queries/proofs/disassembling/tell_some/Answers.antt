use Rattle.std.proofs.Common.{◌≡◌, ◌∙◌, ℕ, ap}
use Rattle.serde_json.specs.View.{view}
use Rattle.ga_debug_info.specs.declared.notes.DebugInfo.{DebugInfo}
use Rattle.ga_dap_views.specs.Disassembly.{disassemble_response_body}
use Rattle.ga_dap_queries.specs.Disassembling.{first_instruction_address, program_debug_info}
use Rattle.ga_dap_queries.specs.Sending.{success_response}
use Rattle.ga_dap_queries.proofs.Sent.{ok_then}
use Rattle.ga_dap_queries.proofs.disassembling.tell_some.Goals as goal

pub returns-clause-sent : goal.returns-clause-sent
returns-clause-sent c =
    let e : view c.in_ok-body.body ≡ disassemble_response_body c.file.result (program_debug_info c.args.program.now) c.args.program.now.lab c.args.at.0
    (first_instruction_address (view c.args.request.now.arguments) c.args.at.1) c.args.count =
    c.in_ok-body.ensures
    ∙ ap (λ (z : DebugInfo). disassemble_response_body c.file.result z c.args.program.now.lab c.args.at.0 c.first_instruction_address-first.result c.args.count) c.source_debug_info-notes.ensures
    ∙ ap (λ (z : ℕ). disassemble_response_body c.file.result (program_debug_info c.args.program.now) c.args.program.now.lab c.args.at.0 z c.args.count) c.first_instruction_address-first.ensures.value in
    ok_then c.respond.result c.respond.ensures.sent
    (λ sent. (success_response c.args.request.now (view c.in_ok-body.body), (c.file.result, (c.file.ensures.name, c.file.ensures.path), ap (success_response c.args.request.now) e), sent))
