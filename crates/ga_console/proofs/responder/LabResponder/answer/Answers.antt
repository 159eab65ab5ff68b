use Rattle.std.proofs.Common.{rules}
use Rattle.ga_console.specs.Replies.{IsBriefAnswer}
use Rattle.ga_console.specs.Session.{NeverAnswersAndEnds}
use Rattle.ga_console.proofs.Ending.{answers_or_ends}
use Rattle.ga_console.proofs.responder.LabResponder.answer.Goals as goal

pub returns : goal.returns
returns g c = (
  search rules,
  λ before said h.
      let done = c.answer_line_in_wording.ensures.1 before said h in
      (done.0, answers_or_ends IsBriefAnswer NeverAnswersAndEnds c.args.self.now c.answer_line_in_wording.new.lab done.0 c.args.line.now c.answer_line_in_wording.result done.1, done.2),
)
