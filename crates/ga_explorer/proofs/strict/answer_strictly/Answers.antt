use Rattle.std.proofs.Common.{◌≡◌, [], ◌++◌, Some, ap, refl, true, rules}
use Rattle.std.specs.Prelude.{Result}
use Rattle.ga_text.specs.declared.output.WriteError.{WriteError}
use Rattle.ga_text.proofs.WriteLemmas.{at_err, truncated_here, truncated_more, said_cut, written_pending}
use Rattle.ga_console.specs.inner.Run.{AnswersLineOrEnds}
use Rattle.ga_console.specs.declared.responder.LineAction.{LineAction}
use Rattle.ga_console.proofs.RunLemmas.{written_fresh}
use Rattle.ga_console.proofs.Ending.{only_answers}
use Rattle.ga_explorer.specs.Answers.{AnswersExplorerLine}
use Rattle.ga_explorer.specs.Session.{AnswersLineAndContinues, AnswersAndEndsSession}
use Rattle.ga_explorer.proofs.StrictLemmas.{line_fails, line_result}
use Rattle.ga_explorer.proofs.strict.answer_strictly.Goals as goal

pub returns-in_err-answer-clause-answered : goal.returns-in_err-answer-clause-answered
returns-in_err-answer-clause-answered g c = (
  search rules,
  λ before said h.
      let stream = c.new-held.ensures.stream in
      let empty = c.new-long.ensures.items in
      let begun : c.new-held.result.stream.now.items ≡ [] = cc in
      let done = c.in_err-answer.ensures.1 [] [] (written_fresh _ [] [] _ (ap Some begun) c.new-held.ensures.nothing) in (
        done.0,
        at_err (λ (r : Result LineAction WriteError). AnswersLineOrEnds (AnswersLineAndContinues true) (AnswersAndEndsSession true) c.args.explorer.now c.args.line.now c.answer.new.self r done.0) c.from_residual.result c.from_residual.ensures.0
            (λ why. line_fails c.args.explorer.now c.answer.new.self c.args.line.now done.0 (only_answers AnswersExplorerLine c.args.explorer.now c.answer.new.self done.0 c.args.line.now done.1)),
        truncated_here c.from_residual.result _ before (said ++ done.0) _ c.from_residual.ensures.0 (truncated_more _ before said done.0 (said_cut _ before said _ h)),
      ),
)

pub returns-in-Quit-clause-answered : goal.returns-in-Quit-clause-answered
returns-in-Quit-clause-answered g c = (
  search rules,
  λ before said h.
      let stream = c.new-held.ensures.stream in
      let empty = c.new-long.ensures.items in
      let begun : c.new-held.result.stream.now.items ≡ [] = cc in
      let done = rw c.in-Quit.is at (c.in_ok-answer.ensures.1 [] [] (written_fresh _ [] [] _ (ap Some begun) c.new-held.ensures.nothing)) in
      ([], (done.1.0, done.1.1, refl), written_pending _ before said _ h),
)

pub returns-in-Refused-clause-answered : goal.returns-in-Refused-clause-answered
returns-in-Refused-clause-answered g c = (
  search rules,
  λ before said h.
      let stream = c.new-held.ensures.stream in
      let empty = c.new-long.ensures.items in
      let begun : c.new-held.result.stream.now.items ≡ [] = cc in
      let done = rw c.in-Refused.is at (c.in_ok-answer.ensures.1 [] [] (written_fresh _ [] [] _ (ap Some begun) c.new-held.ensures.nothing)) in
      ([], λ part kept. absurd (done.1 part kept).0, written_pending _ before said _ h),
)

pub returns-clause-answered : goal.returns-clause-answered
returns-clause-answered g c =
    let stream = c.new-held.ensures.stream in
    let empty = c.new-long.ensures.items in
    let begun : c.new-held.result.stream.now.items ≡ [] = cc in
    let done = rw c.in-Answered.is at (c.in_ok-answer.ensures.1 [] [] (written_fresh _ [] [] _ (ap Some begun) c.new-held.ensures.nothing)) in
    let passed = c.pass_on.ensures.answer done.0 done.2 in (
      passed.0.0,
      λ before said h. (
        done.0,
        line_result c.args.explorer.now c.answer.new.self c.args.line.now done.0 done.1 c.pass_on.result passed.1,
        passed.0.1 before said h,
      ),
    )
