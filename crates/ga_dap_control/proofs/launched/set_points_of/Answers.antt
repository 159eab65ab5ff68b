use Rattle.ga_dap_control.proofs.Answered.{sets_so}
use Rattle.ga_dap_control.proofs.launched.set_points_of.Goals as goal

pub returns-clause-sent : goal.returns-clause-sent
returns-clause-sent c = sets_so _ c.args.launched.now c.replace_breakpoints.new.settings c.args.out.now c.replace_breakpoints.new.out c.in_ok-replace_breakpoints.ensures.sent
