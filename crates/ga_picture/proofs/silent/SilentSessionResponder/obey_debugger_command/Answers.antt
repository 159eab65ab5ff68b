use Rattle.std.proofs.Common.{rules, []}
use Rattle.ga_text.proofs.WriteLemmas.{written_pending}
use Rattle.ga_picture.proofs.Following.{silent_command}
use Rattle.ga_picture.proofs.silent.SilentSessionResponder.obey_debugger_command.Goals as goal

pub returns : goal.returns
returns g c = (
  search rules,
  λ before said h.
      let heard = c.hear_command.ensures in
      ([], silent_command c.args.self.now c.hear_command.new.self c.args.command heard.0 c.hear_command.result heard.1 heard.2, written_pending _ before said _ h),
)
