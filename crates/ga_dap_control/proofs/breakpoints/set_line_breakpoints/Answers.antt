use Rattle.std.proofs.Common.{true, false, refl}
use Rattle.ga_dap_queries.proofs.Sent.{ok_then}
use Rattle.ga_dap_control.proofs.Answered.{lines_if}
use Rattle.ga_dap_control.proofs.breakpoints.set_line_breakpoints.Goals as goal

pub returns-then-is_program_file-clause-sent : goal.returns-then-is_program_file-clause-sent
returns-then-is_program_file-clause-sent c = ok_then c.replace_breakpoints.result c.replace_breakpoints.ensures.sent
    (λ sent. (
      sent.0,
      lines_if _ c.is_program_file.result c.args.program.now c.args.settings.now c.args.request.now sent.0 c.replace_breakpoints.new.settings true c.is_program_file.ensures c.if-is_program_file.true sent.1,
      sent.2,
    ))

pub returns-else-is_program_file-clause-sent : goal.returns-else-is_program_file-clause-sent
returns-else-is_program_file-clause-sent c = ok_then c.tell_nowhere.result c.tell_nowhere.ensures.sent
    (λ sent. (
      _,
      lines_if _ c.is_program_file.result c.args.program.now c.args.settings.now c.args.request.now _ c.args.settings.now false c.is_program_file.ensures c.if-is_program_file.false (refl, refl),
      sent,
    ))
