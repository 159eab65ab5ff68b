use Rattle.std.proofs.Common.{◌∙◌, arith}
use Rattle.ga_rollback.proofs.Restoring.{some_left}
use Rattle.ga_rollback.proofs.Foretold.{raising_more, raising_few, raised_less, raised_same}
use Rattle.ga_rollback.proofs.forecast.release.Goals as goal

pub let_stay-events-requires-clause-few : goal.let_stay-events-requires-clause-few
let_stay-events-requires-clause-few c =
    let some = some_left c.marks.journal c.new-node.result.number c.entries_to_remove.result c.entries_to_remove.ensures.sound c.entries_to_remove.ensures.value c.marks-test.true in
    raising_few c.args.journal.now c.marks.journal c.marks.events c.new-node.result.number 4294967296 c.entries_to_remove.ensures.sound c.marks.invariant.raising some c.requires.few

pub let_stay-events-requires-clause-going : goal.let_stay-events-requires-clause-going
let_stay-events-requires-clause-going c = some_left c.marks.journal c.new-node.result.number c.entries_to_remove.result c.entries_to_remove.ensures.sound c.entries_to_remove.ensures.value c.marks-test.true

pub marks-preserved : goal.marks-preserved
marks-preserved c =
    let some = some_left c.marks.journal c.new-node.result.number c.entries_to_remove.result c.entries_to_remove.ensures.sound c.entries_to_remove.ensures.value c.marks-test.true in record {
      raising = raising_more c.args.journal.now c.marks.journal c.marks.events c.new-node.result.number c.let_stay-events.new.journal c.let_stay-events.result c.entries_to_remove.ensures.sound c.marks.invariant.raising some c.let_stay-events.ensures.journal_with_raised_mark c.let_stay-events.ensures.counted;
      none = λ m l. raised_less c.marks.journal c.let_stay-events.new.journal c.new-node.result.number m c.let_stay-events.ensures.journal_with_raised_mark (c.marks.invariant.none m l);
      ahead = λ m l. raised_same c.marks.journal c.let_stay-events.new.journal c.new-node.result.number m c.let_stay-events.ensures.journal_with_raised_mark (λ q. omega (arith, q, l, c.new-node.ensures)) ∙ c.marks.invariant.ahead m l;
    }
