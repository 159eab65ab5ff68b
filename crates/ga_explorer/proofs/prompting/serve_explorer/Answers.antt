use Rattle.std.proofs.Common.{ℕ, ◌-◌, List, [], ◌++◌, refl}
use Rattle.std.specs.Prelude.{Result}
use Rattle.ga_text.specs.declared.output.WriteError.{WriteError}
use Rattle.ga_text.proofs.WriteLemmas.{at_err}
use Rattle.ga_console.specs.Session.{ServesCommands, IsWholeOrPrefixOnWriteError}
use Rattle.ga_console.specs.declared.commands.CommandsEnd.{CommandsEnd}
use Rattle.ga_explorer.specs.Session.{prompt_text, AnswersWithPrompt, AnswersAndEndsSession}
use Rattle.ga_explorer.proofs.Prompted.{serves_prompted, nothing_served, written_on, prefix_on}
use Rattle.ga_explorer.proofs.prompting.serve_explorer.Goals as goal

pub returns-in_err-write_prompt-clause-serves : goal.returns-in_err-write_prompt-clause-serves
returns-in_err-write_prompt-clause-serves g c = λ left before said known held.
    let told = c.in_err-write_prompt.ensures.1 before said held in
    let read : List ℕ = c.args.input.now.bytes in
    let session = c.args.session.now in
    let first : List ℕ = prompt_text session.is_prompted in (
      read,
      left,
      [],
      told.sent,
      refl,
      known,
      told.held,
      at_err (λ (r : Result CommandsEnd WriteError). ServesCommands (AnswersWithPrompt session.is_prompted session.explorer.is_strict) (AnswersAndEndsSession session.explorer.is_strict)
          (16777216 - c.args.input.now.taken) session.explorer.explorer read left [] session.explorer.explorer r)
          c.from_residual.result c.from_residual.ensures.0
          (λ why. nothing_served session.is_prompted session.explorer.is_strict (16777216 - c.args.input.now.taken) session.explorer.explorer read left),
      at_err (λ (r : Result CommandsEnd WriteError). IsWholeOrPrefixOnWriteError r (said ++ (first ++ [])) told.sent) c.from_residual.result c.from_residual.ensures.0
          (λ why. prefix_on said first told.sent told.front),
    )

pub returns-clause-serves : goal.returns-clause-serves
returns-clause-serves g c = λ left before said known held.
    let told = c.in_ok-write_prompt.ensures.1 before said held in
    let session = c.args.session.now in
    let first : List ℕ = prompt_text session.is_prompted in
    let done = c.serve_commands.ensures.serves left before (said ++ first) known told in (
      done.0,
      done.1,
      done.2,
      done.3,
      done.4,
      done.5,
      done.6,
      serves_prompted _ session.is_prompted session.explorer.is_strict session done.0 done.1 done.2 c.serve_commands.new.session c.serve_commands.result refl refl done.7,
      written_on c.serve_commands.result said first done.2 done.3 done.8,
    )
