use Rattle.std.proofs.Common.{◌≡◌, ℕ, ◌-◌, List, [], ◌++◌, refl, sym, subst, append_assoc, append-nil}
use Rattle.std.specs.Prelude.{Result}
use Rattle.ga_text.specs.declared.output.WriteError.{WriteError}
use Rattle.ga_text.proofs.WriteLemmas.{at_err}
use Rattle.ga_json.specs.Compact.{json_line}
use Rattle.ga_console.specs.Session.{ServesCommandsWithLimitRefusal, IsWholeOrPrefixOnWriteError}
use Rattle.ga_console.specs.declared.commands.CommandsEnd.{CommandsEnd}
use Rattle.ga_explorer.specs.Opening.{explorer_state}
use Rattle.ga_explorer.proofs.Prompted.{written_on, prefix_on}
use Rattle.ga_explorer_json.specs.Session.{session_ready_json, long_input_refusal_line, AnswersJsonAndContinues, AnswersJsonAndEndsSession}
use Rattle.ga_explorer_json.proofs.Turns.{GoesOn, EndsThere, serves_objects, nothing_served}
use Rattle.ga_explorer_json.proofs.session.serve_objects.Goals as goal

pub returns-in_err-write_ready-clause-serves : goal.returns-in_err-write_ready-clause-serves
returns-in_err-write_ready-clause-serves g c = λ left before said known held.
    let told = c.in_err-write_ready.ensures.1 before said held in
    let read : List ℕ = c.args.input.now.bytes in
    let session = c.args.session.now in
    let e = explorer_state session.lab session.notes in
    let first : List ℕ = json_line session_ready_json in (
      read,
      left,
      [],
      told.sent,
      refl,
      known,
      told.held,
      at_err (λ (r : Result CommandsEnd WriteError). ServesCommandsWithLimitRefusal long_input_refusal_line (AnswersJsonAndContinues session.is_strict) (AnswersJsonAndEndsSession session.is_strict)
          (16777216 - c.args.input.now.taken) e read left [] e r)
          c.from_residual.result c.from_residual.ensures.0
          (λ why. nothing_served session.is_strict (16777216 - c.args.input.now.taken) e read left),
      at_err (λ (r : Result CommandsEnd WriteError). IsWholeOrPrefixOnWriteError r (said ++ (first ++ [])) told.sent) c.from_residual.result c.from_residual.ensures.0
          (λ why. prefix_on said first told.sent told.front),
    )

pub returns-clause-serves : goal.returns-clause-serves
returns-clause-serves g c = λ left before said known held.
    let told = c.in_ok-write_ready.ensures.1 before said held in
    let session = c.args.session.now in
    let first : List ℕ = json_line session_ready_json in
    let done = c.serve_commands_with_limit_refusal.ensures.serves left before (said ++ first) known told in
    let Q : List ℕ → Type 0 = λ past. ServesCommandsWithLimitRefusal past GoesOn EndsThere (16777216 - c.args.input.now.taken) session done.0 done.1 done.2 c.serve_commands_with_limit_refusal.new.session c.serve_commands_with_limit_refusal.result in (
      done.0,
      done.1,
      done.2,
      done.3,
      done.4,
      done.5,
      done.6,
      serves_objects _ session.is_strict session done.0 done.1 done.2 c.serve_commands_with_limit_refusal.new.session c.serve_commands_with_limit_refusal.result refl (subst Q c.limit_refusal.ensures done.7),
      written_on c.serve_commands_with_limit_refusal.result said first done.2 done.3 done.8,
    )
