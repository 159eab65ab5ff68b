use Rattle.std.proofs.Common.{◌≡◌, [], Some, Ok, true≢false, ap, sym, subst}
use Rattle.ga_explorer.specs.Opening.{ExplorerState}
use Rattle.ga_console.specs.Session.{NeverAnswersAndEnds}
use Rattle.ga_console.specs.inner.Run.{AnswersLineOrEnds}
use Rattle.ga_console.specs.declared.responder.LineAction.TheVariants.{Answered, Refused}
use Rattle.ga_console.proofs.RunLemmas.{written_fresh}
use Rattle.ga_console.proofs.Ending.{only_answers}
use Rattle.ga_explorer.specs.Answers.{AnswersExplorerLine}
use Rattle.ga_picture.proofs.Following.{quiet_notes}
use Rattle.ga_picture.proofs.silent.SilentSession.hear.Goals as goal

pub returns-in-Ok-Answered-clause-heard : goal.returns-in-Ok-Answered-clause-heard
returns-in-Ok-Answered-clause-heard c =
    let stream = c.new-said.ensures.stream in
    let empty = c.new-answer.ensures.items in
    let begun : c.new-said.result.stream.now.items ≡ [] = cc in
    let heard = rw c.in-Ok-Answered.field-0-is at c.in-Ok-Answered.ensures in
    let done = heard.1 [] [] (written_fresh _ [] [] _ (ap Some begun) c.new-said.ensures.nothing) in
    let P : ExplorerState → Type 0 = λ s. AnswersLineOrEnds AnswersExplorerLine NeverAnswersAndEnds c.args.self.now.explorer c.args.line.now s (Ok Answered) done.0 in
    (done.0, subst P (sym c.note.ensures.same) done.1, c.note.ensures.noted done.0 done.2)

pub returns-in-Ok-Refused-clause-heard : goal.returns-in-Ok-Refused-clause-heard
returns-in-Ok-Refused-clause-heard c =
    let stream = c.new-said.ensures.stream in
    let empty = c.new-answer.ensures.items in
    let begun : c.new-said.result.stream.now.items ≡ [] = cc in
    let heard = rw c.in-Ok-Refused.field-0-is at c.in-Ok-Refused.ensures in
    let done = heard.1 [] [] (written_fresh _ [] [] _ (ap Some begun) c.new-said.ensures.nothing) in
    let P : ExplorerState → Type 0 = λ s. AnswersLineOrEnds AnswersExplorerLine NeverAnswersAndEnds c.args.self.now.explorer c.args.line.now s (Ok Refused) done.0 in
    (done.0, subst P (sym c.note-in-Ok-Refused.ensures.same) done.1, c.note-in-Ok-Refused.ensures.noted done.0 done.2)

pub returns-in-Ok-Quit-clause-heard : goal.returns-in-Ok-Quit-clause-heard
returns-in-Ok-Quit-clause-heard c =
    let stream = c.new-said.ensures.stream in
    let empty = c.new-answer.ensures.items in
    let begun : c.new-said.result.stream.now.items ≡ [] = cc in
    let heard = rw c.in-Ok-Quit.field-0-is at c.in-Ok-Quit.ensures in
    let done = heard.1 [] [] (written_fresh _ [] [] _ (ap Some begun) c.new-said.ensures.nothing) in
    (done.0, done.1, quiet_notes c.args.self.now.short done.0 done.1.2)

pub returns-clause-heard : goal.returns-clause-heard
returns-clause-heard c =
    let stream = c.new-said.ensures.stream in
    let empty = c.new-answer.ensures.items in
    let begun : c.new-said.result.stream.now.items ≡ [] = cc in
    let done = c.in-Err.ensures.1 [] [] (written_fresh _ [] [] _ (ap Some begun) c.new-said.ensures.nothing) in
    (done.0, only_answers AnswersExplorerLine c.args.self.now.explorer c.answer.new.self done.0 c.args.line.now done.1, λ e. absurd (true≢false e))
