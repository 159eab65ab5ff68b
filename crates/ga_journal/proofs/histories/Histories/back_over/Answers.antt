use Rattle.std.proofs.Common.{◌≡◌, ◌+◌, ◌-◌, suc, drop, subst, arith}
use Rattle.ga_journal.specs.inner.Histories.{entry_lists_of_histories, AreCutHistoriesOfLog}
use Rattle.ga_journal.proofs.Recalling.{walked_drop}
use Rattle.ga_journal.proofs.histories.Histories.back_over.Goals as goal

pub loop-preserved : goal.loop-preserved
loop-preserved c log long r =
    let w : AreCutHistoriesOfLog (entry_lists_of_histories c.args.self.now) c.loop.lengths c.loop.top (drop (c.loop.counter - 1) log) = c.loop.invariant log long r in
    subst (λ n. AreCutHistoriesOfLog (entry_lists_of_histories c.args.self.now) c.back.new.lengths c.back.new.top (drop n log)) (let q : suc (c.loop.counter - 1) ≡ c.loop.counter + 1 - 1 = omega (arith, c.loop.auto.counter) in q)
    (walked_drop (entry_lists_of_histories c.args.self.now) c.back.new.lengths c.back.new.top log (c.loop.counter - 1) (omega (arith, long, c.loop-test.true)) (c.back.ensures.left (drop (c.loop.counter - 1) log) w))

pub returns-clause-left : goal.returns-clause-left
returns-clause-left c log long r =
    let w : AreCutHistoriesOfLog (entry_lists_of_histories c.args.self.now) c.loop.lengths c.loop.top (drop (c.loop.counter - 1) log) = c.loop.invariant log long r in
    let last : suc (c.loop.counter - 1) ≡ c.args.count = omega (arith, c.loop.auto.counter, c.loop.auto.counter-end, c.loop-test.false, c.requires.some) in
    subst (λ n. AreCutHistoriesOfLog (entry_lists_of_histories c.args.self.now) c.back-2.new.lengths c.back-2.new.top (drop n log)) last
    (walked_drop (entry_lists_of_histories c.args.self.now) c.back-2.new.lengths c.back-2.new.top log (c.loop.counter - 1) (omega (arith, long, last)) (c.back-2.ensures.left (drop (c.loop.counter - 1) log) w))
