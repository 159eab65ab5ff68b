use Rattle.std.proofs.Common.{rules, subst}
use Rattle.ga_console.specs.Session.{AnswersOrQuitsLine, NeverAnswersAndEnds}
use Rattle.ga_console.proofs.Ending.{answers_or_ends}
use Rattle.ga_explorer.specs.Answers.{AnswersExplorerLine}
use Rattle.ga_explorer.specs.Opening.{ExplorerState, explorer_state}
use Rattle.ga_explorer.proofs.explorer.ExplorerResponder.answer.Goals as goal

pub returns : goal.returns
returns g c = (
  search rules,
  λ before said h.
      let new = explorer_state c.answer_explorer_line.new.lab c.self.inside.notes in
      let done = c.answer_explorer_line.ensures.1 before said h in (
        done.0,
        answers_or_ends AnswersExplorerLine NeverAnswersAndEnds c.args.self.now new done.0 c.args.line.now c.answer_explorer_line.result
            (subst (λ (s : ExplorerState). AnswersOrQuitsLine AnswersExplorerLine s c.args.line.now new c.answer_explorer_line.result done.0) c.self.view_is done.1),
        done.2,
      ),
)
