use Rattle.std.proofs.Common.{rules, ◌++◌, inl}
use Rattle.ga_text.proofs.WriteLemmas.{at_err, truncated_here}
use Rattle.ga_text.specs.declared.output.WriteError.{WriteError}
use Rattle.std.specs.Prelude.{Result}
use Rattle.ga_console.specs.inner.Run.{AnswersCommandOrEnds}
use Rattle.ga_console.specs.Session.{NeverAnswersAndEnds}
use Rattle.ga_console.specs.Replies.{IsBriefAnswer}
use Rattle.ga_console.specs.Replies.IsAnswerInWording.{command}
use Rattle.ga_console.specs.declared.responder.LineAction.{LineAction}
use Rattle.ga_console.proofs.responder.LabResponder.obey_debugger_command.Goals as goal

pub returns-in_err-execute_command_in_wording : goal.returns-in_err-execute_command_in_wording
returns-in_err-execute_command_in_wording g c = (
  search rules,
  λ before said h.
      let done = c.in_err-execute_command_in_wording.ensures.1 before said h in (
        done.0,
        at_err (λ (r : Result LineAction WriteError). AnswersCommandOrEnds IsBriefAnswer NeverAnswersAndEnds c.args.self.now c.args.command c.execute_command_in_wording.new.lab r done.0) c.from_residual.result c.from_residual.ensures.0
            (λ why. inl (λ line short spelled. command c.args.command short spelled done.1)),
        truncated_here c.from_residual.result _ before (said ++ done.0) _ c.from_residual.ensures.0 done.2,
      ),
)

pub returns : goal.returns
returns g c = (
  search rules,
  λ before said h.
      let done = c.in_ok-execute_command_in_wording.ensures.1 before said h in
      (done.0, λ line short spelled. command c.args.command short spelled done.1, done.2),
)
