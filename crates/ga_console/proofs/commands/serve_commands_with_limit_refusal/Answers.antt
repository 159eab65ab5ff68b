use Rattle.std.proofs.Common.{◌≡◌, ℕ, ◌-◌, ◌++◌, List, sym, ap, ◌∙◌}
use Rattle.std.specs.Prelude.{Result, Ok}
use Rattle.std.proofs.lemmas.List.{append-nil}
use Rattle.ga_console.specs.Session.{ServesCommandsWithLimitRefusal, IsWholeOrPrefixOnWriteError}
use Rattle.ga_console.specs.declared.commands.CommandsEnd.{CommandsEnd}
use Rattle.ga_text.specs.declared.output.WriteError.{WriteError}
use Rattle.ga_console.proofs.Heard.{cut_short}
use Rattle.ga_text.proofs.WriteLemmas.{at_err}
use Rattle.ga_console.proofs.commands.serve_commands_with_limit_refusal.Goals as goal

pub returns-in_err-ending-clause-serves : goal.returns-in_err-ending-clause-serves
returns-in_err-ending-clause-serves g c = λ left before said known held.
    let done = c.in_err-ending.ensures.serves left before said known held in (
      done.0,
      done.1,
      done.2,
      done.6.sent,
      done.3,
      done.4,
      done.6.held,
      at_err (λ (r : Result CommandsEnd WriteError). ServesCommandsWithLimitRefusal c.args.limit_refusal.now g.S.Responder.answers g.S.Responder.refuses (16777216 - c.args.input.now.taken) c.args.session.now done.0 done.1 done.2 c.answer_lines.new.session r) c.from_residual.result
          c.from_residual.ensures.0 (λ why. done.5),
      at_err (λ (r : Result CommandsEnd WriteError). IsWholeOrPrefixOnWriteError r (said ++ done.2) done.6.sent) c.from_residual.result c.from_residual.ensures.0 (λ why. done.6.front),
    )

pub returns-in_err-flush-clause-serves : goal.returns-in_err-flush-clause-serves
returns-in_err-flush-clause-serves g c = λ left before said known held.
    let done = c.in_ok-ending.ensures.serves left before said known held in
    let told = c.in_err-flush.ensures.said.1 before (said ++ done.2) done.6 in
    let cut = cut_short c.args.limit_refusal.now _ _ (16777216 - c.args.input.now.taken) c.args.session.now done.0 done.1 done.2 _ (Ok c.in_ok-ending.ending) done.5 in (
      done.0,
      done.1,
      done.2,
      told.sent,
      done.3,
      done.4,
      told.held,
      at_err (λ (r : Result CommandsEnd WriteError). ServesCommandsWithLimitRefusal c.args.limit_refusal.now g.S.Responder.answers g.S.Responder.refuses (16777216 - c.args.input.now.taken) c.args.session.now done.0 done.1 done.2 c.answer_lines.new.session r) c.from_residual-in_err-flush.result
          c.from_residual-in_err-flush.ensures.0 (λ why. cut),
      at_err (λ (r : Result CommandsEnd WriteError). IsWholeOrPrefixOnWriteError r (said ++ done.2) told.sent) c.from_residual-in_err-flush.result c.from_residual-in_err-flush.ensures.0 (λ why. told.front),
    )

pub returns-clause-serves : goal.returns-clause-serves
returns-clause-serves g c = λ left before said known held.
    let done = c.in_ok-ending.ensures.serves left before said known held in
    let told = c.in_ok-flush.ensures.said.1 before (said ++ done.2) done.6 in
    let whole : told.sent ≡ said ++ done.2 =
    sym (told.splits ∙ ap (λ (t : List ℕ). told.sent ++ t) c.in_ok-flush.ensures.sent ∙ append-nil told.sent) in
    (done.0, done.1, done.2, told.sent, done.3, done.4, told.held, done.5, whole)
