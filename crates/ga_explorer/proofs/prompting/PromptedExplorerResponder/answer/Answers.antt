use Rattle.std.proofs.Common.{ℕ, List, ◌++◌, ◌∙◌, inl}
use Rattle.std.specs.Prelude.{Result}
use Rattle.ga_text.specs.declared.output.WriteError.{WriteError}
use Rattle.ga_text.proofs.WriteLemmas.{at_err, truncated_here, said_assoc, cut_assoc}
use Rattle.ga_console.specs.inner.Run.{AnswersLineOrEnds}
use Rattle.ga_console.specs.declared.responder.LineAction.{LineAction}
use Rattle.ga_explorer.specs.Session.{prompt_text}
use Rattle.ga_explorer.proofs.Prompted.{AnswersPrompted, EndsPrompted, on, prompted_line, ended_line, line_err, quit_turn}
use Rattle.ga_explorer.proofs.prompting.PromptedExplorerResponder.answer.Goals as goal

pub returns-in_err-answer : goal.returns-in_err-answer
returns-in_err-answer g c = (
  c.in_err-answer.ensures.0,
  λ before said h.
      let done = c.in_err-answer.ensures.1 before said h in
      line_err c.args.self.now c.answer.new.self c.args.line.now done.0 c.from_residual.result _ before said _ c.from_residual.ensures.0 done.1 done.2,
)

pub returns-in-Quit : goal.returns-in-Quit
returns-in-Quit g c = (
  c.in_ok-answer.ensures.0,
  λ before said h.
      let turn = rw c.in-Quit.is at (c.in_ok-answer.ensures.1 before said h) in
      (turn.0, quit_turn c.args.self.now c.answer.new.self c.args.line.now turn.0 turn.1, turn.2),
)

pub returns-in-Refused : goal.returns-in-Refused
returns-in-Refused g c = (
  c.in_ok-answer.ensures.0,
  λ before said h.
      let turn = rw c.in-Refused.is at (c.in_ok-answer.ensures.1 before said h) in
      (turn.0, ended_line c.args.self.now c.answer.new.self c.args.line.now turn.0 turn.1, turn.2),
)

pub returns-in_err-write_prompt-in-Answered : goal.returns-in_err-write_prompt-in-Answered
returns-in_err-write_prompt-in-Answered g c = (
  c.in_err-write_prompt-in-Answered.ensures.0 ∙ c.in_ok-answer.ensures.0,
  λ before said h.
      let turn = rw c.in-Answered.is at (c.in_ok-answer.ensures.1 before said h) in
      let told = c.in_err-write_prompt-in-Answered.ensures.1 before (said ++ turn.0) turn.2 in
      let text : List ℕ = turn.0 ++ prompt_text c.args.self.now.is_prompted in (
        text,
        at_err (λ (r : Result LineAction WriteError). AnswersLineOrEnds AnswersPrompted EndsPrompted c.args.self.now c.args.line.now (on c.args.self.now c.answer.new.self) r text)
            c.from_residual-in_err-write_prompt-in-Answered.result c.from_residual-in_err-write_prompt-in-Answered.ensures.0
            (λ why. inl (prompted_line c.args.self.now c.answer.new.self c.args.line.now turn.0 turn.1)),
        truncated_here c.from_residual-in_err-write_prompt-in-Answered.result _ before (said ++ text) _ c.from_residual-in_err-write_prompt-in-Answered.ensures.0
            (cut_assoc _ before said turn.0 (prompt_text c.args.self.now.is_prompted) told),
      ),
)

pub returns-in_ok-write_prompt-in-Answered : goal.returns-in_ok-write_prompt-in-Answered
returns-in_ok-write_prompt-in-Answered g c = (
  c.in_ok-write_prompt-in-Answered.ensures.0 ∙ c.in_ok-answer.ensures.0,
  λ before said h.
      let turn = rw c.in-Answered.is at (c.in_ok-answer.ensures.1 before said h) in
      let told = c.in_ok-write_prompt-in-Answered.ensures.1 before (said ++ turn.0) turn.2 in (
        turn.0 ++ prompt_text c.args.self.now.is_prompted,
        prompted_line c.args.self.now c.answer.new.self c.args.line.now turn.0 turn.1,
        said_assoc _ before said turn.0 (prompt_text c.args.self.now.is_prompted) _ told,
      ),
)
