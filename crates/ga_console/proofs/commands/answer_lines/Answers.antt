use Rattle.std.proofs.Common.{ℕ, ◌+◌, ◌-◌, ◌++◌, [], List, take, drop, length, length-take, refl, sym, ap, subst, ◌∙◌, arith}
use Rattle.std.specs.Prelude.{Result, Ok}
use Rattle.std.specs.Result.{IsErr}
use Rattle.ga_console.specs.inner.Run.{IsCommandAhead, IsLineAhead}
use Rattle.ga_console.specs.Session.{AnswerRelation, ServesCommandsWithLimitRefusal, ServesToWriteFailure}
use Rattle.ga_text.specs.declared.output.WriteError.{WriteError}
use Rattle.ga_console.specs.declared.commands.CommandsEnd.{CommandsEnd}
use Rattle.ga_console.specs.declared.commands.CommandsEnd.TheVariants.{PastLimit}
use Rattle.ga_text.proofs.WriteLemmas.{at_err, truncated_here, said_assoc, cut_assoc, written_pending, empty_part, some_part}
use Rattle.ga_console.proofs.AheadLemmas.{ahead_whole, line_whole, line_taken, line_kept, line_within}
use Rattle.ga_console.proofs.Ending.{turn_goes, turn_ends, turn_fails, obeyed_goes, obeyed_ends, obeyed_fails}
use Rattle.ga_console.proofs.Heard.{heard_none, heard_push, heard_cut, heard_failed, heard_ended, heard_last, heard_past, cut_short, read_to, read_past, read_over, split_at, split_past, split_over, heard_ends, heard_broken, heard_last_ends, heard_last_broken}
use Rattle.ga_console.proofs.commands.answer_lines.Goals as goal

-- a write failed
serves_cut : {M : Type 0} (past : List ℕ) (A R : AnswerRelation M) (room : ℕ) (m : M) (read rest text : List ℕ) (last : M) (result : Result CommandsEnd WriteError) → IsErr result
    → ServesToWriteFailure past A R room m read rest text last → ServesCommandsWithLimitRefusal past A R room m read rest text last result
serves_cut past A R room m read rest text last result is h = at_err (λ (r : Result CommandsEnd WriteError). ServesCommandsWithLimitRefusal past A R room m read rest text last r) result is (λ why. h)

pub lines-init : goal.lines-init
lines-init g c = record {
  within = c.requires;
  counted = omega arith;
  same = refl;
  heard = λ left before said known held.
      (left, [], known, written_pending _ before said c.args.writer.now.pending.items held, heard_none g.S.Responder.answers c.args.session.now (c.args.input.now.bytes ++ left) c.args.input.now.taken);
}

pub returns-in_err-read_line-clause-serves : goal.returns-in_err-read_line-clause-serves
returns-in_err-read_line-clause-serves g c = λ left before said known held.
    let inv = c.lines.invariant.heard left before said known held in
    let got = c.in_err-read_line.ensures.reads inv.0 inv.2 in
    let told = c.in_err-read_line.ensures.said.1 before (said ++ inv.1) inv.3 in
    let part : List ℕ = got.2.part in
    let heard = inv.4 in (
      read_to heard part,
      got.0,
      inv.1,
      split_at heard part got.0 got.2.is_line.splits,
      got.1,
      serves_cut c.args.limit_refusal.now _ _ _ _ _ _ _ _ c.from_residual-in_err-read_line.result c.from_residual-in_err-read_line.ensures.0
          (heard_cut heard c.args.limit_refusal.now g.S.Responder.refuses part got.0 (omega (arith, got.2.counts, got.2.none_left, c.in_err-read_line.ensures.within))),
      truncated_here c.from_residual-in_err-read_line.result _ before (said ++ inv.1) _ c.from_residual-in_err-read_line.ensures.0 told,
    )

pub returns-in_err-turn-in-EndedByFeed-clause-serves : goal.returns-in_err-turn-in-EndedByFeed-clause-serves
returns-in_err-turn-in-EndedByFeed-clause-serves g c = λ left before said known held.
    let inv = c.lines.invariant.heard left before said known held in
    let got = rw c.in-EndedByFeed.is at (c.in_ok-read_line.ensures.reads inv.0 inv.2) in
    let told = c.in_ok-read_line.ensures.said.1 before (said ++ inv.1) inv.3 in
    let part : List ℕ = got.2.part in
    let heard = inv.4 in
    let turn = c.in_err-turn-in-EndedByFeed.ensures.1 before (said ++ inv.1) told in (
      read_past heard part c.read_line.new.input.bytes,
      got.0,
      inv.1 ++ turn.0,
      split_past heard part c.read_line.new.input.bytes got.0 got.2.is_line.splits,
      got.1,
      serves_cut c.args.limit_refusal.now _ _ _ _ _ _ _ _ c.from_residual-in_err-turn-in-EndedByFeed.result c.from_residual-in_err-turn-in-EndedByFeed.ensures.0
          (heard_broken heard c.args.limit_refusal.now g.S.Responder.refuses part c.read_line.new.input.bytes got.0 turn.0 c.read_line.new.input.taken c.answer-in-EndedByFeed.new.self
          got.2.is_line.no_feed got.2.counts c.in_ok-read_line.ensures.within
          (turn_fails g.S.Responder.answers g.S.Responder.refuses c.lines.session c.answer-in-EndedByFeed.new.self turn.0 c.as_slice.result.now part (c.as_slice.ensures.value ∙ got.2.is_line.kept) turn.1)),
      truncated_here c.from_residual-in_err-turn-in-EndedByFeed.result _ before (said ++ (inv.1 ++ turn.0)) _ c.from_residual-in_err-turn-in-EndedByFeed.ensures.0
          (cut_assoc _ before said inv.1 turn.0 turn.2),
    )

pub returns-in-Some-commands_end_after_line_action-2-clause-serves : goal.returns-in-Some-commands_end_after_line_action-2-clause-serves
returns-in-Some-commands_end_after_line_action-2-clause-serves g c = λ left before said known held.
    let inv = c.lines.invariant.heard left before said known held in
    let got = rw c.in-EndedByFeed.is at (c.in_ok-read_line.ensures.reads inv.0 inv.2) in
    let told = c.in_ok-read_line.ensures.said.1 before (said ++ inv.1) inv.3 in
    let part : List ℕ = got.2.part in
    let turn = c.in_ok-turn-in-EndedByFeed.ensures.1 before (said ++ inv.1) told in
    let heard = inv.4 in (
      read_past heard part c.read_line.new.input.bytes,
      got.0,
      inv.1 ++ turn.0,
      split_past heard part c.read_line.new.input.bytes got.0 got.2.is_line.splits,
      got.1,
      heard_ends heard c.args.limit_refusal.now g.S.Responder.refuses part c.read_line.new.input.bytes got.0 turn.0 c.read_line.new.input.taken (c.lines.number + 1) c.answer-in-EndedByFeed.new.self c.in-Some-commands_end_after_line_action-2.ending
          got.2.is_line.no_feed got.2.counts c.in_ok-read_line.ensures.within refl
          (turn_ends g.S.Responder.answers g.S.Responder.refuses c.lines.session c.answer-in-EndedByFeed.new.self turn.0 c.in_ok-turn-in-EndedByFeed.turn c.as_slice.result.now part (c.lines.number + 1) c.in-Some-commands_end_after_line_action-2.ending (sym c.in-Some-commands_end_after_line_action-2.ensures)
          (c.as_slice.ensures.value ∙ got.2.is_line.kept) turn.1),
      said_assoc _ before said inv.1 turn.0 _ turn.2,
    )

pub lines-preserved : goal.lines-preserved
lines-preserved g c = record {
  within = c.in_ok-read_line.ensures.within;
  counted = omega (arith, c.lines.invariant.counted, c.in_ok-read_line.ensures.goes_on (ap Ok c.in-EndedByFeed.is));
  same = c.in_ok-turn-in-EndedByFeed.ensures.0 ∙ c.in_ok-read_line.ensures.said.0 ∙ c.lines.invariant.same;
  heard = λ left before said known held.
      let inv = c.lines.invariant.heard left before said known held in
      let got = rw c.in-EndedByFeed.is at (c.in_ok-read_line.ensures.reads inv.0 inv.2) in
      let told = c.in_ok-read_line.ensures.said.1 before (said ++ inv.1) inv.3 in
      let part : List ℕ = got.2.part in
      let heard = inv.4 in
      let turn = c.in_ok-turn-in-EndedByFeed.ensures.1 before (said ++ inv.1) told in
      let answered = turn_goes g.S.Responder.answers g.S.Responder.refuses c.lines.session c.answer-in-EndedByFeed.new.self turn.0 c.in_ok-turn-in-EndedByFeed.turn c.as_slice.result.now (c.lines.number + 1) (sym c.in-None-commands_end_after_line_action-2.ensures) turn.1 part (c.as_slice.ensures.value ∙ got.2.is_line.kept) in (
        got.0,
        inv.1 ++ turn.0,
        got.1,
        said_assoc _ before said inv.1 turn.0 _ turn.2,
        heard_push heard part (c.read_line.new.input.bytes ++ got.0) c.read_line.new.input.taken (c.lines.number + 1) turn.0 c.answer-in-EndedByFeed.new.self
            got.2.is_line.splits got.2.is_line.no_feed got.2.counts refl answered,
      );
}

pub returns-then-is_empty-clause-serves : goal.returns-then-is_empty-clause-serves
returns-then-is_empty-clause-serves g c = λ left before said known held.
    let inv = c.lines.invariant.heard left before said known held in
    let got = rw c.in-Last.is at (c.in_ok-read_line.ensures.reads inv.0 inv.2) in
    let told = c.in_ok-read_line.ensures.said.1 before (said ++ inv.1) inv.3 in
    let part : List ℕ = got.2.0.part in
    let heard = inv.4 in
    let none = empty_part c.read_line.new.line.items part got.2.0.is_line.kept c.if-is_empty.ensures in (
      read_to heard part,
      got.0,
      inv.1,
      split_at heard part got.0 (got.2.0.is_line.splits ∙ ap (λ (l : List ℕ). part ++ l) (sym got.2.1)),
      got.1,
      heard_ended heard part got.0 none got.2.1 (omega (arith, got.2.0.counts, c.in_ok-read_line.ensures.within)),
      told,
    )

pub returns-in_err-turn-in-Last-clause-serves : goal.returns-in_err-turn-in-Last-clause-serves
returns-in_err-turn-in-Last-clause-serves g c = λ left before said known held.
    let inv = c.lines.invariant.heard left before said known held in
    let got = rw c.in-Last.is at (c.in_ok-read_line.ensures.reads inv.0 inv.2) in
    let told = c.in_ok-read_line.ensures.said.1 before (said ++ inv.1) inv.3 in
    let part : List ℕ = got.2.0.part in
    let heard = inv.4 in
    let some = some_part c.read_line.new.line.items part got.2.0.is_line.kept c.if-is_empty.ensures in
    let turn = c.in_err-turn-in-Last.ensures.1 before (said ++ inv.1) told in (
      read_to heard part,
      got.0,
      inv.1 ++ turn.0,
      split_at heard part got.0 (got.2.0.is_line.splits ∙ ap (λ (l : List ℕ). part ++ l) (sym got.2.1)),
      got.1,
      serves_cut c.args.limit_refusal.now _ _ _ _ _ _ _ _ c.from_residual-in_err-turn-in-Last.result c.from_residual-in_err-turn-in-Last.ensures.0
          (heard_last_broken heard c.args.limit_refusal.now g.S.Responder.refuses part got.0 turn.0 c.answer-in-Last.new.self got.2.0.is_line.no_feed some got.2.1
          (omega (arith, got.2.0.counts, got.2.0.none_left, c.in_ok-read_line.ensures.within))
          (turn_fails g.S.Responder.answers g.S.Responder.refuses c.lines.session c.answer-in-Last.new.self turn.0 c.as_slice-in-Last.result.now part (c.as_slice-in-Last.ensures.value ∙ got.2.0.is_line.kept) turn.1)),
      truncated_here c.from_residual-in_err-turn-in-Last.result _ before (said ++ (inv.1 ++ turn.0)) _ c.from_residual-in_err-turn-in-Last.ensures.0
          (cut_assoc _ before said inv.1 turn.0 turn.2),
    )

pub returns-in-Some-commands_end_after_line_action-3-clause-serves : goal.returns-in-Some-commands_end_after_line_action-3-clause-serves
returns-in-Some-commands_end_after_line_action-3-clause-serves g c = λ left before said known held.
    let inv = c.lines.invariant.heard left before said known held in
    let got = rw c.in-Last.is at (c.in_ok-read_line.ensures.reads inv.0 inv.2) in
    let told = c.in_ok-read_line.ensures.said.1 before (said ++ inv.1) inv.3 in
    let part : List ℕ = got.2.0.part in
    let some = some_part c.read_line.new.line.items part got.2.0.is_line.kept c.if-is_empty.ensures in
    let turn = c.in_ok-turn-in-Last.ensures.1 before (said ++ inv.1) told in
    let heard = inv.4 in (
      read_to heard part,
      got.0,
      inv.1 ++ turn.0,
      split_at heard part got.0 (got.2.0.is_line.splits ∙ ap (λ (l : List ℕ). part ++ l) (sym got.2.1)),
      got.1,
      heard_last_ends heard c.args.limit_refusal.now g.S.Responder.refuses part got.0 turn.0 (c.lines.number + 1) c.answer-in-Last.new.self c.in-Some-commands_end_after_line_action-3.ending got.2.0.is_line.no_feed some got.2.1
          (omega (arith, got.2.0.counts, got.2.0.none_left, c.in_ok-read_line.ensures.within)) refl
          (turn_ends g.S.Responder.answers g.S.Responder.refuses c.lines.session c.answer-in-Last.new.self turn.0 c.in_ok-turn-in-Last.turn c.as_slice-in-Last.result.now part (c.lines.number + 1) c.in-Some-commands_end_after_line_action-3.ending (sym c.in-Some-commands_end_after_line_action-3.ensures)
          (c.as_slice-in-Last.ensures.value ∙ got.2.0.is_line.kept) turn.1),
      said_assoc _ before said inv.1 turn.0 _ turn.2,
    )

pub returns-in-None-commands_end_after_line_action-3-clause-serves : goal.returns-in-None-commands_end_after_line_action-3-clause-serves
returns-in-None-commands_end_after_line_action-3-clause-serves g c = λ left before said known held.
    let inv = c.lines.invariant.heard left before said known held in
    let got = rw c.in-Last.is at (c.in_ok-read_line.ensures.reads inv.0 inv.2) in
    let told = c.in_ok-read_line.ensures.said.1 before (said ++ inv.1) inv.3 in
    let part : List ℕ = got.2.0.part in
    let heard = inv.4 in
    let some = some_part c.read_line.new.line.items part got.2.0.is_line.kept c.if-is_empty.ensures in
    let turn = c.in_ok-turn-in-Last.ensures.1 before (said ++ inv.1) told in
    let answered = turn_goes g.S.Responder.answers g.S.Responder.refuses c.lines.session c.answer-in-Last.new.self turn.0 c.in_ok-turn-in-Last.turn c.as_slice-in-Last.result.now (c.lines.number + 1) (sym c.in-None-commands_end_after_line_action-3.ensures) turn.1 part (c.as_slice-in-Last.ensures.value ∙ got.2.0.is_line.kept) in (
      read_to heard part,
      got.0,
      inv.1 ++ turn.0,
      split_at heard part got.0 (got.2.0.is_line.splits ∙ ap (λ (l : List ℕ). part ++ l) (sym got.2.1)),
      got.1,
      heard_last heard part got.0 turn.0 c.answer-in-Last.new.self got.2.0.is_line.no_feed some got.2.1 (omega (arith, got.2.0.counts, got.2.0.none_left, c.in_ok-read_line.ensures.within)) answered,
      said_assoc _ before said inv.1 turn.0 _ turn.2,
    )

pub returns-in_err-write_blocks-in-PastLimit-clause-serves : goal.returns-in_err-write_blocks-in-PastLimit-clause-serves
returns-in_err-write_blocks-in-PastLimit-clause-serves g c = λ left before said known held.
    let inv = c.lines.invariant.heard left before said known held in
    let got = rw c.in-PastLimit.is at (c.in_ok-read_line.ensures.reads inv.0 inv.2) in
    let told = c.in_ok-read_line.ensures.said.1 before (said ++ inv.1) inv.3 in
    let part : List ℕ = got.2.takes.part in
    let heard = inv.4 in (
      read_over heard part got.2.byte,
      got.0,
      inv.1 ++ c.args.limit_refusal.now,
      split_over heard part got.2.byte got.0 got.2.takes.is_line.splits,
      got.1,
      serves_cut c.args.limit_refusal.now _ _ _ _ _ _ _ _ c.from_residual-in_err-write_blocks-in-PastLimit.result c.from_residual-in_err-write_blocks-in-PastLimit.ensures.0
          (cut_short c.args.limit_refusal.now _ g.S.Responder.refuses (16777216 - c.args.input.now.taken) c.args.session.now (read_over heard part got.2.byte) got.0 (inv.1 ++ c.args.limit_refusal.now) _ (Ok (PastLimit (c.lines.number + 1)))
          (heard_past heard c.args.limit_refusal.now part got.2.byte got.0 c.read_line.new.input.taken (c.lines.number + 1) got.2.takes.is_line.no_feed got.2.takes.counts got.2.full refl)),
      truncated_here c.from_residual-in_err-write_blocks-in-PastLimit.result _ before (said ++ (inv.1 ++ c.args.limit_refusal.now)) _ c.from_residual-in_err-write_blocks-in-PastLimit.ensures.0
          (cut_assoc _ before said inv.1 c.args.limit_refusal.now (c.in_err-write_blocks-in-PastLimit.ensures.1 before (said ++ inv.1) told)),
    )

pub returns-in-PastLimit-clause-serves : goal.returns-in-PastLimit-clause-serves
returns-in-PastLimit-clause-serves g c = λ left before said known held.
    let inv = c.lines.invariant.heard left before said known held in
    let got = rw c.in-PastLimit.is at (c.in_ok-read_line.ensures.reads inv.0 inv.2) in
    let told = c.in_ok-read_line.ensures.said.1 before (said ++ inv.1) inv.3 in
    let part : List ℕ = got.2.takes.part in
    let heard = inv.4 in (
      read_over heard part got.2.byte,
      got.0,
      inv.1 ++ c.args.limit_refusal.now,
      split_over heard part got.2.byte got.0 got.2.takes.is_line.splits,
      got.1,
      heard_past heard c.args.limit_refusal.now part got.2.byte got.0 c.read_line.new.input.taken (c.lines.number + 1) got.2.takes.is_line.no_feed got.2.takes.counts got.2.full refl,
      said_assoc _ before said inv.1 c.args.limit_refusal.now _ (c.in_ok-write_blocks-in-PastLimit.ensures.1 before (said ++ inv.1) told),
    )

pub returns-in-ReadFailed-clause-serves : goal.returns-in-ReadFailed-clause-serves
returns-in-ReadFailed-clause-serves g c = λ left before said known held.
    let inv = c.lines.invariant.heard left before said known held in
    let got = rw c.in-ReadFailed.is at (c.in_ok-read_line.ensures.reads inv.0 inv.2) in
    let told = c.in_ok-read_line.ensures.said.1 before (said ++ inv.1) inv.3 in
    let part : List ℕ = got.2.part in
    let heard = inv.4 in (
      read_to heard part,
      got.0,
      inv.1,
      split_at heard part got.0 got.2.is_line.splits,
      got.1,
      heard_failed heard part got.0 got.2.is_line.no_feed (omega (arith, got.2.counts, c.in_ok-read_line.ensures.within)),
      told,
    )

pub returns-in_err-turn-in-SpelledCommand-clause-serves : goal.returns-in_err-turn-in-SpelledCommand-clause-serves
returns-in_err-turn-in-SpelledCommand-clause-serves g c = λ left before said known held.
    let inv = c.lines.invariant.heard left before said known held in
    let ahead = subst (λ (t : List ℕ). IsCommandAhead t c.in-SpelledCommand.command c.in-SpelledCommand.count) c.unread_bytes-text.ensures c.in-SpelledCommand.ensures in
    let done = c.in_err-turn-in-SpelledCommand.ensures.1 before (said ++ inv.1) inv.3 in
    let heard = inv.4 in (
      read_past heard ahead.line c.skip.new.self.bytes,
      inv.0,
      inv.1 ++ done.0,
      split_past heard ahead.line c.skip.new.self.bytes inv.0 (ahead_whole c.lines.input.bytes c.skip.new.self.bytes inv.0 c.in-SpelledCommand.command c.in-SpelledCommand.count ahead c.skip.ensures.bytes),
      inv.2,
      serves_cut c.args.limit_refusal.now _ _ _ _ _ _ _ _ c.from_residual.result c.from_residual.ensures.0
          (heard_broken heard c.args.limit_refusal.now g.S.Responder.refuses ahead.line c.skip.new.self.bytes inv.0 done.0 c.skip.new.self.taken c.obey_debugger_command.new.self ahead.no_feed
          (omega (arith, c.skip.ensures.taken, ahead.counts)) c.skip.ensures.within
          (obeyed_fails g.S.Responder.answers g.S.Responder.refuses c.lines.session c.obey_debugger_command.new.self done.0 c.in-SpelledCommand.command ahead.line (omega (arith, ahead.counts, ahead.short)) ahead.spelled ahead.not_quit c.in_err-turn-in-SpelledCommand.field-0.0 done.1)),
      truncated_here c.from_residual.result _ before (said ++ (inv.1 ++ done.0)) _ c.from_residual.ensures.0 (cut_assoc _ before said inv.1 done.0 done.2),
    )

pub returns-in-Some-clause-serves : goal.returns-in-Some-clause-serves
returns-in-Some-clause-serves g c = λ left before said known held.
    let inv = c.lines.invariant.heard left before said known held in
    let ahead = subst (λ (t : List ℕ). IsCommandAhead t c.in-SpelledCommand.command c.in-SpelledCommand.count) c.unread_bytes-text.ensures c.in-SpelledCommand.ensures in
    let done = c.in_ok-turn-in-SpelledCommand.ensures.1 before (said ++ inv.1) inv.3 in
    let heard = inv.4 in (
      read_past heard ahead.line c.skip.new.self.bytes,
      inv.0,
      inv.1 ++ done.0,
      split_past heard ahead.line c.skip.new.self.bytes inv.0 (ahead_whole c.lines.input.bytes c.skip.new.self.bytes inv.0 c.in-SpelledCommand.command c.in-SpelledCommand.count ahead c.skip.ensures.bytes),
      inv.2,
      heard_ends heard c.args.limit_refusal.now g.S.Responder.refuses ahead.line c.skip.new.self.bytes inv.0 done.0 c.skip.new.self.taken (c.lines.number + 1) c.obey_debugger_command.new.self c.in-Some.ending ahead.no_feed
          (omega (arith, c.skip.ensures.taken, ahead.counts)) c.skip.ensures.within refl
          (obeyed_ends g.S.Responder.answers g.S.Responder.refuses c.lines.session c.obey_debugger_command.new.self done.0 c.in-SpelledCommand.command ahead.line (omega (arith, ahead.counts, ahead.short)) ahead.spelled ahead.not_quit c.in_ok-turn-in-SpelledCommand.turn (c.lines.number + 1)
          c.in-Some.ending (sym c.in-Some.ensures) done.1),
      said_assoc _ before said inv.1 done.0 _ done.2,
    )

pub lines-preserved-in-None : goal.lines-preserved-in-None
lines-preserved-in-None g c = record {
  within = c.skip.ensures.within;
  counted = omega (arith, c.lines.invariant.counted, c.skip.ensures.taken);
  same = c.in_ok-turn-in-SpelledCommand.ensures.0 ∙ c.lines.invariant.same;
  heard = λ left before said known held.
      let inv = c.lines.invariant.heard left before said known held in
      let ahead = subst (λ (t : List ℕ). IsCommandAhead t c.in-SpelledCommand.command c.in-SpelledCommand.count) c.unread_bytes-text.ensures c.in-SpelledCommand.ensures in
      let done = c.in_ok-turn-in-SpelledCommand.ensures.1 before (said ++ inv.1) inv.3 in (
        inv.0,
        inv.1 ++ done.0,
        inv.2,
        said_assoc _ before said inv.1 done.0 _ done.2,
        heard_push inv.4 ahead.line (c.skip.new.self.bytes ++ inv.0) c.skip.new.self.taken (c.lines.number + 1) done.0 c.obey_debugger_command.new.self
            (ahead_whole c.lines.input.bytes c.skip.new.self.bytes inv.0 c.in-SpelledCommand.command c.in-SpelledCommand.count ahead c.skip.ensures.bytes)
            ahead.no_feed (omega (arith, c.skip.ensures.taken, ahead.counts)) refl
            (obeyed_goes g.S.Responder.answers g.S.Responder.refuses c.lines.session c.obey_debugger_command.new.self done.0 c.in-SpelledCommand.command ahead.line (omega (arith, ahead.counts, ahead.short)) ahead.spelled ahead.not_quit c.in_ok-turn-in-SpelledCommand.turn (c.lines.number + 1)
            (sym c.in-None.ensures) done.1),
      );
}

pub returns-in_err-turn-in-OtherWholeLine-clause-serves : goal.returns-in_err-turn-in-OtherWholeLine-clause-serves
returns-in_err-turn-in-OtherWholeLine-clause-serves g c = λ left before said known held.
    let inv = c.lines.invariant.heard left before said known held in
    let bytes : List ℕ = c.lines.input.bytes in
    let count : ℕ = c.in-OtherWholeLine.size in
    let ahead = subst (λ (t : List ℕ). IsLineAhead t count) c.unread_bytes-text.ensures c.in-OtherWholeLine.ensures in
    let part : List ℕ = take count bytes in
    let next : List ℕ = drop (count + 1) bytes in
    let turn = c.in_err-turn-in-OtherWholeLine.ensures.1 before (said ++ inv.1) inv.3 in
    let heard = inv.4 in (
      read_past heard part next,
      inv.0,
      inv.1 ++ turn.0,
      split_past heard part next inv.0 (line_whole bytes inv.0 count ahead),
      inv.2,
      serves_cut c.args.limit_refusal.now _ _ _ _ _ _ _ _ c.from_residual-in_err-turn-in-OtherWholeLine.result c.from_residual-in_err-turn-in-OtherWholeLine.ensures.0
          (heard_broken heard c.args.limit_refusal.now g.S.Responder.refuses part next inv.0 turn.0 (c.lines.input.taken + length part + 1) c.answer.new.self ahead.no_feed refl
          (line_within bytes count c.lines.input.taken 16777216 ahead c.lines.invariant.within)
          (turn_fails g.S.Responder.answers g.S.Responder.refuses c.lines.session c.answer.new.self turn.0 (take count c.unread_bytes-text.result.now) part (ap (take count) c.unread_bytes-text.ensures ∙ line_kept bytes count ahead) turn.1)),
      truncated_here c.from_residual-in_err-turn-in-OtherWholeLine.result _ before (said ++ (inv.1 ++ turn.0)) _ c.from_residual-in_err-turn-in-OtherWholeLine.ensures.0
          (cut_assoc _ before said inv.1 turn.0 turn.2),
    )

pub returns-in-Some-commands_end_after_line_action-clause-serves : goal.returns-in-Some-commands_end_after_line_action-clause-serves
returns-in-Some-commands_end_after_line_action-clause-serves g c = λ left before said known held.
    let inv = c.lines.invariant.heard left before said known held in
    let bytes : List ℕ = c.lines.input.bytes in
    let count : ℕ = c.in-OtherWholeLine.size in
    let ahead = subst (λ (t : List ℕ). IsLineAhead t count) c.unread_bytes-text.ensures c.in-OtherWholeLine.ensures in
    let part : List ℕ = take count bytes in
    let turn = c.in_ok-turn-in-OtherWholeLine.ensures.1 before (said ++ inv.1) inv.3 in
    let heard = inv.4 in (
      read_past heard part c.skip-in-OtherWholeLine.new.self.bytes,
      inv.0,
      inv.1 ++ turn.0,
      split_past heard part c.skip-in-OtherWholeLine.new.self.bytes inv.0 (line_taken bytes c.skip-in-OtherWholeLine.new.self.bytes inv.0 count ahead c.skip-in-OtherWholeLine.ensures.bytes),
      inv.2,
      heard_ends heard c.args.limit_refusal.now g.S.Responder.refuses part c.skip-in-OtherWholeLine.new.self.bytes inv.0 turn.0 c.skip-in-OtherWholeLine.new.self.taken (c.lines.number + 1) c.answer.new.self c.in-Some-commands_end_after_line_action.ending ahead.no_feed
          (omega (arith, c.skip-in-OtherWholeLine.ensures.taken, ahead.below, length-take count bytes)) c.skip-in-OtherWholeLine.ensures.within refl
          (turn_ends g.S.Responder.answers g.S.Responder.refuses c.lines.session c.answer.new.self turn.0 c.in_ok-turn-in-OtherWholeLine.turn (take count c.unread_bytes-text.result.now) part (c.lines.number + 1) c.in-Some-commands_end_after_line_action.ending (sym c.in-Some-commands_end_after_line_action.ensures)
          (ap (take count) c.unread_bytes-text.ensures ∙ line_kept bytes count ahead) turn.1),
      said_assoc _ before said inv.1 turn.0 _ turn.2,
    )

pub lines-preserved-in-None-commands_end_after_line_action : goal.lines-preserved-in-None-commands_end_after_line_action
lines-preserved-in-None-commands_end_after_line_action g c = record {
  within = c.skip-in-OtherWholeLine.ensures.within;
  counted = omega (arith, c.lines.invariant.counted, c.skip-in-OtherWholeLine.ensures.taken);
  same = c.in_ok-turn-in-OtherWholeLine.ensures.0 ∙ c.lines.invariant.same;
  heard = λ left before said known held.
      let inv = c.lines.invariant.heard left before said known held in
      let bytes : List ℕ = c.lines.input.bytes in
      let count : ℕ = c.in-OtherWholeLine.size in
      let ahead = subst (λ (t : List ℕ). IsLineAhead t count) c.unread_bytes-text.ensures c.in-OtherWholeLine.ensures in
      let part : List ℕ = take count bytes in
      let turn = c.in_ok-turn-in-OtherWholeLine.ensures.1 before (said ++ inv.1) inv.3 in
      let answered = turn_goes g.S.Responder.answers g.S.Responder.refuses c.lines.session c.answer.new.self turn.0 c.in_ok-turn-in-OtherWholeLine.turn (take count c.unread_bytes-text.result.now) (c.lines.number + 1) (sym c.in-None-commands_end_after_line_action.ensures) turn.1 part
      (ap (take count) c.unread_bytes-text.ensures ∙ line_kept bytes count ahead) in (
        inv.0,
        inv.1 ++ turn.0,
        inv.2,
        said_assoc _ before said inv.1 turn.0 _ turn.2,
        heard_push inv.4 part (c.skip-in-OtherWholeLine.new.self.bytes ++ inv.0) c.skip-in-OtherWholeLine.new.self.taken (c.lines.number + 1) turn.0 c.answer.new.self
            (line_taken bytes c.skip-in-OtherWholeLine.new.self.bytes inv.0 count ahead c.skip-in-OtherWholeLine.ensures.bytes)
            ahead.no_feed (omega (arith, c.skip-in-OtherWholeLine.ensures.taken, ahead.below, length-take count bytes)) refl answered,
      );
}
