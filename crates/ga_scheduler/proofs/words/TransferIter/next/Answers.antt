use Rattle.std.proofs.Common.{◌∙◌, ℕ, ◌+◌, ◌∷◌, drop, sym, ap, arith}
use Rattle.ga_lab.specs.Machine.{history_of_node}
use Rattle.ga_scheduler.specs.Words.{numbered_transfers, unlisted_transfers}
use Rattle.ga_scheduler.proofs.WordCounts.{read_on, read_all, read_past, passed_over, told_word}
use Rattle.ga_scheduler.proofs.words.TransferIter.next.Goals as goal

pub returns-in-Some-sent_as-clause-word : goal.returns-in-Some-sent_as-clause-word
returns-in-Some-sent_as-clause-word c =
    let w = c.args.self.now.writer.number in
    let r = c.args.self.now.reader.number in
    let list = history_of_node c.args.lab.now c.scanned_link_end-end.result.number in
    c.loop-place.invariant.ahead
    ∙ ap (numbered_transfers w r c.args.self.now.before) (read_on list c.loop-place.place c.in-Some.made c.in-Some.ensures)
    ∙ told_word w r c.args.self.now.before c.in-Some.made (drop (c.loop-place.place + 1) list) c.in-Some-sent_as.sent c.in-Some-sent_as.ensures
    ∙ ap (λ (z : ℕ). c.in-Some-sent_as.sent ∷ numbered_transfers w r (c.args.self.now.before + 1) (drop (c.loop-place.place + 1) (history_of_node c.args.lab.now z))) c.scanned_link_end-end.ensures

pub returns-in-None-clause-word : goal.returns-in-None-clause-word
returns-in-None-clause-word c = ap (unlisted_transfers c.args.lab.now) (sym c.loop-place.invariant.same)

pub returns-in-None-clause-end : goal.returns-in-None-clause-end
returns-in-None-clause-end c =
    let w = c.args.self.now.writer.number in
    c.loop-place.invariant.ahead
    ∙ ap (numbered_transfers w c.args.self.now.reader.number c.args.self.now.before) (read_all (history_of_node c.args.lab.now c.scanned_link_end-end.result.number) c.loop-place.place c.in-None.ensures)

pub loop-place-preserved : goal.loop-place-preserved
loop-place-preserved c =
    let w = c.args.self.now.writer.number in
    let r = c.args.self.now.reader.number in
    let list = history_of_node c.args.lab.now c.scanned_link_end-end.result.number in
    record {
      same = c.loop-place.invariant.same;
      ahead = c.loop-place.invariant.ahead
          ∙ ap (numbered_transfers w r c.args.self.now.before) (read_on list c.loop-place.place c.in-Some.made c.in-Some.ensures)
          ∙ passed_over w r c.args.self.now.before c.in-Some.made (drop (c.loop-place.place + 1) list) c.in_default.ensures;
      past = omega (arith, c.loop-place.invariant.past);
    }

pub returns-clause-word : goal.returns-clause-word
returns-clause-word c = ap (unlisted_transfers c.args.lab.now) (sym c.loop-place.invariant.same)

pub returns-clause-end : goal.returns-clause-end
returns-clause-end c =
    let w = c.args.self.now.writer.number in
    c.loop-place.invariant.ahead
    ∙ ap (numbered_transfers w c.args.self.now.reader.number c.args.self.now.before)
    (read_past (history_of_node c.args.lab.now c.scanned_link_end-end.result.number) c.loop-place.place (omega (arith, c.loop-place-test.false, c.steps-steps.ensures.told)))
