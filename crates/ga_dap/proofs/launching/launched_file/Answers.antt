use Rattle.ga_dap.proofs.LaunchedSession.{not_read}
use Rattle.ga_dap.proofs.launching.launched_file.Goals as goal

pub returns-in-Err : goal.returns-in-Err
returns-in-Err g c =
    not_read g.S.ProgramFiles.gives c.args.sources.now c.read.new.self c.args.request.now c.args.path.now c.args.limit c.args.schedule c.in-Err.why c.source_error_text.result.now
    c.args.out.now c.refuse_file.new.out c.refuse_file.result c.in-Err.ensures.refused c.source_error_text.ensures c.refuse_file.ensures
