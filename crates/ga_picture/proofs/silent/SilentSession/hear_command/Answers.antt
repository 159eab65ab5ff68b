use Rattle.std.proofs.Common.{◌≡◌, [], Some, Ok, true≢false, ap, sym, subst}
use Rattle.ga_explorer.specs.Opening.{ExplorerState}
use Rattle.ga_console.specs.inner.Run.{AnswersCommandOrEnds}
use Rattle.ga_console.specs.Session.{NeverAnswersAndEnds}
use Rattle.ga_console.proofs.Ending.{only_obeys}
use Rattle.ga_console.proofs.RunLemmas.{written_fresh}
use Rattle.ga_explorer.specs.Answers.{AnswersExplorerLine}
use Rattle.ga_picture.proofs.silent.SilentSession.hear_command.Goals as goal

pub returns-in-Ok : goal.returns-in-Ok
returns-in-Ok c =
    let stream = c.new-said.ensures.stream in
    let empty = c.new-answer.ensures.items in
    let begun : c.new-said.result.stream.now.items ≡ [] = cc in
    let done = c.in-Ok.ensures.1 [] [] (written_fresh _ [] [] _ (ap Some begun) c.new-said.ensures.nothing) in
    let P : ExplorerState → Type 0 = λ s. AnswersCommandOrEnds AnswersExplorerLine NeverAnswersAndEnds c.args.self.now.explorer c.args.command s (Ok c.in-Ok.turn) done.0 in
    (done.0, subst P (sym c.note.ensures.same) done.1, c.note.ensures.noted done.0 done.2)

pub returns : goal.returns
returns c =
    let stream = c.new-said.ensures.stream in
    let empty = c.new-answer.ensures.items in
    let begun : c.new-said.result.stream.now.items ≡ [] = cc in
    let done = c.in-Err.ensures.1 [] [] (written_fresh _ [] [] _ (ap Some begun) c.new-said.ensures.nothing) in
    (done.0, only_obeys AnswersExplorerLine c.args.self.now.explorer c.obey_debugger_command.new.self done.0 c.args.command done.1, λ e. absurd (true≢false e))
