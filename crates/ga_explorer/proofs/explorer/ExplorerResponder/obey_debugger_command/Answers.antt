use Rattle.std.proofs.Common.{rules, ◌++◌, ap, subst, inl, inr}
use Rattle.std.specs.Prelude.{Result}
use Rattle.ga_text.proofs.WriteLemmas.{at_err, truncated_here}
use Rattle.ga_text.specs.declared.output.WriteError.{WriteError}
use Rattle.ga_display.specs.declared.wording.RefusalWording.TheVariants.{Advised}
use Rattle.ga_console.specs.Replies.{IsAnswerInWording}
use Rattle.ga_console.specs.Replies.IsAnswerInWording.{command}
use Rattle.ga_console.specs.Session.{NeverAnswersAndEnds}
use Rattle.ga_console.specs.inner.Run.{AnswersCommandOrEnds}
use Rattle.ga_console.specs.declared.responder.LineAction.{LineAction}
use Rattle.ga_explorer.specs.Answers.{AnswersExplorerLine}
use Rattle.ga_explorer.specs.Opening.{ExplorerState, explorer_state}
use Rattle.ga_explorer.specs.Answers.AnswersExplorerLine.{debugged}
use Rattle.ga_explorer.proofs.LineAnswers.{debugger_alone}
use Rattle.ga_explorer.proofs.explorer.ExplorerResponder.obey_debugger_command.Goals as goal

pub returns-in_err-execute_command_in_wording : goal.returns-in_err-execute_command_in_wording
returns-in_err-execute_command_in_wording g c = (
  search rules,
  λ before said h.
      let done = c.in_err-execute_command_in_wording.ensures.1 before said h in
      let new = explorer_state c.execute_command_in_wording.new.lab c.self.inside.notes in (
        done.0,
        at_err (λ (r : Result LineAction WriteError). AnswersCommandOrEnds AnswersExplorerLine NeverAnswersAndEnds c.args.self.now c.args.command new r done.0) c.from_residual.result c.from_residual.ensures.0
            (λ why. inl (λ line short spelled. debugged (λ fits. debugger_alone c.args.self.now.notes c.args.command line spelled)
            (inl (inr (short, c.args.command, spelled), subst (λ (s : ExplorerState). IsAnswerInWording Advised s.lab line done.0 c.execute_command_in_wording.new.lab) c.self.view_is (command c.args.command short spelled done.1)))
            (ap (λ (s : ExplorerState). s.notes) c.self.view_is))),
        truncated_here c.from_residual.result _ before (said ++ done.0) _ c.from_residual.ensures.0 done.2,
      ),
)

pub returns : goal.returns
returns g c = (
  search rules,
  λ before said h.
      let done = c.in_ok-execute_command_in_wording.ensures.1 before said h in (
        done.0,
        λ line short spelled. debugged (λ fits. debugger_alone c.args.self.now.notes c.args.command line spelled)
            (inl (inr (short, c.args.command, spelled), subst (λ (s : ExplorerState). IsAnswerInWording Advised s.lab line done.0 c.execute_command_in_wording.new.lab) c.self.view_is (command c.args.command short spelled done.1)))
            (ap (λ (s : ExplorerState). s.notes) c.self.view_is),
        done.2,
      ),
)
