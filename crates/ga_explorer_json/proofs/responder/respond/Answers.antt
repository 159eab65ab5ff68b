use Rattle.std.proofs.Common.{◌≡◌, [], ◌++◌, Some, ap, rules}
use Rattle.std.specs.Prelude.{Result}
use Rattle.ga_text.specs.declared.output.WriteError.{WriteError}
use Rattle.ga_text.proofs.WriteLemmas.{at_err, truncated_here, truncated_more, said_cut}
use Rattle.ga_console.specs.declared.responder.LineAction.{LineAction}
use Rattle.ga_console.proofs.RunLemmas.{written_fresh}
use Rattle.ga_explorer.specs.Opening.{explorer_state}
use Rattle.ga_explorer_json.specs.inner.{RespondsToLineRequest}
use Rattle.ga_explorer_json.proofs.Turns.{responded}
use Rattle.ga_explorer_json.proofs.responder.respond.Goals as goal

pub returns-in_err-answer_request : goal.returns-in_err-answer_request
returns-in_err-answer_request g c = (
  search rules,
  λ before said h.
      let e = explorer_state c.args.lab.now c.args.notes.now in
      let now = explorer_state c.answer_request.new.lab c.args.notes.now in
      let stream = c.new-held.ensures.stream in
      let empty = c.new-long.ensures.items in
      let begun : c.new-held.result.stream.now.items ≡ [] = cc in
      let done = c.in_err-answer_request.ensures.1 [] [] (written_fresh _ [] [] _ (ap Some begun) c.new-held.ensures.nothing) in (
        done.0,
        at_err (λ (r : Result LineAction WriteError). RespondsToLineRequest c.args.is_strict e c.args.line.now c.args.request now r done.0) c.from_residual.result c.from_residual.ensures.0 (λ why. done.1),
        truncated_here c.from_residual.result _ before (said ++ done.0) _ c.from_residual.ensures.0 (truncated_more _ before said done.0 (said_cut _ before said _ h)),
      ),
)

pub returns : goal.returns
returns g c =
    let e = explorer_state c.args.lab.now c.args.notes.now in
    let now = explorer_state c.answer_request.new.lab c.args.notes.now in
    let stream = c.new-held.ensures.stream in
    let empty = c.new-long.ensures.items in
    let begun : c.new-held.result.stream.now.items ≡ [] = cc in
    let done = c.in_ok-answer_request.ensures.1 [] [] (written_fresh _ [] [] _ (ap Some begun) c.new-held.ensures.nothing) in
    let passed = c.pass_on.ensures done.0 done.2 in (
      passed.0.0,
      λ before said h. (
        done.0,
        responded c.args.is_strict e now c.args.line.now c.args.request done.0 done.1 c.pass_on.result passed.1,
        passed.0.1 before said h,
      ),
    )
