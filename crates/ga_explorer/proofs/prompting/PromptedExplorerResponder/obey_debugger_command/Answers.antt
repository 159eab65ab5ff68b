use Rattle.std.proofs.Common.{ℕ, List, ◌++◌, ◌∙◌, inl}
use Rattle.std.specs.Prelude.{Result}
use Rattle.ga_text.specs.declared.output.WriteError.{WriteError}
use Rattle.ga_text.proofs.WriteLemmas.{at_err, truncated_here, said_assoc, cut_assoc}
use Rattle.ga_console.specs.inner.Run.{AnswersCommandOrEnds}
use Rattle.ga_console.specs.declared.responder.LineAction.{LineAction}
use Rattle.ga_explorer.specs.Session.{prompt_text}
use Rattle.ga_explorer.proofs.Prompted.{AnswersPrompted, EndsPrompted, on, prompted_command, ended_command, command_err}
use Rattle.ga_explorer.proofs.prompting.PromptedExplorerResponder.obey_debugger_command.Goals as goal

pub returns-in_err-obey_debugger_command : goal.returns-in_err-obey_debugger_command
returns-in_err-obey_debugger_command g c = (
  c.in_err-obey_debugger_command.ensures.0,
  λ before said h.
      let done = c.in_err-obey_debugger_command.ensures.1 before said h in
      command_err c.args.self.now c.obey_debugger_command.new.self c.args.command done.0 c.from_residual.result _ before said _ c.from_residual.ensures.0 done.1 done.2,
)

pub returns-in-Quit : goal.returns-in-Quit
returns-in-Quit g c = (
  c.in_ok-obey_debugger_command.ensures.0,
  λ before said h.
      let turn = rw c.in-Quit.is at (c.in_ok-obey_debugger_command.ensures.1 before said h) in
      (turn.0, turn.1, turn.2),
)

pub returns-in-Refused : goal.returns-in-Refused
returns-in-Refused g c = (
  c.in_ok-obey_debugger_command.ensures.0,
  λ before said h.
      let turn = rw c.in-Refused.is at (c.in_ok-obey_debugger_command.ensures.1 before said h) in
      (turn.0, ended_command c.args.self.now c.obey_debugger_command.new.self c.args.command turn.0 turn.1, turn.2),
)

pub returns-in_err-write_prompt-in-Answered : goal.returns-in_err-write_prompt-in-Answered
returns-in_err-write_prompt-in-Answered g c = (
  c.in_err-write_prompt-in-Answered.ensures.0 ∙ c.in_ok-obey_debugger_command.ensures.0,
  λ before said h.
      let turn = rw c.in-Answered.is at (c.in_ok-obey_debugger_command.ensures.1 before said h) in
      let told = c.in_err-write_prompt-in-Answered.ensures.1 before (said ++ turn.0) turn.2 in
      let text : List ℕ = turn.0 ++ prompt_text c.args.self.now.is_prompted in (
        text,
        at_err (λ (r : Result LineAction WriteError). AnswersCommandOrEnds AnswersPrompted EndsPrompted c.args.self.now c.args.command (on c.args.self.now c.obey_debugger_command.new.self) r text)
            c.from_residual-in_err-write_prompt-in-Answered.result c.from_residual-in_err-write_prompt-in-Answered.ensures.0
            (λ why. inl (prompted_command c.args.self.now c.obey_debugger_command.new.self c.args.command turn.0 turn.1)),
        truncated_here c.from_residual-in_err-write_prompt-in-Answered.result _ before (said ++ text) _ c.from_residual-in_err-write_prompt-in-Answered.ensures.0
            (cut_assoc _ before said turn.0 (prompt_text c.args.self.now.is_prompted) told),
      ),
)

pub returns-in_ok-write_prompt-in-Answered : goal.returns-in_ok-write_prompt-in-Answered
returns-in_ok-write_prompt-in-Answered g c = (
  c.in_ok-write_prompt-in-Answered.ensures.0 ∙ c.in_ok-obey_debugger_command.ensures.0,
  λ before said h.
      let turn = rw c.in-Answered.is at (c.in_ok-obey_debugger_command.ensures.1 before said h) in
      let told = c.in_ok-write_prompt-in-Answered.ensures.1 before (said ++ turn.0) turn.2 in (
        turn.0 ++ prompt_text c.args.self.now.is_prompted,
        prompted_command c.args.self.now c.obey_debugger_command.new.self c.args.command turn.0 turn.1,
        said_assoc _ before said turn.0 (prompt_text c.args.self.now.is_prompted) _ told,
      ),
)
