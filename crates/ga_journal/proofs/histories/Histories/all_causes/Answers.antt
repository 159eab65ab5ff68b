use Rattle.std.proofs.Common.{◌∙◌, ◌++◌, ◌∷◌, [], ap, sym, map, drop, take, subst, arith, rules, add-one}
use Rattle.std.specs.Prelude.{reverse}
use Rattle.std.proofs.lemmas.List.{length-map, take_all}
use Rattle.ga_journal.specs.inner.Histories.{entry_lists_of_histories, entry_records_of_held, AreCutHistoriesOfLog}
use Rattle.ga_journal.proofs.Recalling.{cause_at, walk_whole, walked_drop, first_drop, turned}
use Rattle.ga_journal.proofs.histories.Histories.all_causes.Goals as goal

pub loop-init : goal.loop-init
loop-init c = (
  λ log long r. (
    walk_whole (entry_lists_of_histories c.args.self.now) c.lengths_of-lengths.result c.args.top log (length-map c.args.self.now entry_records_of_held ∙ c.lengths_of-lengths.ensures.nodes) c.lengths_of-lengths.ensures.all c.lengths_of-lengths.ensures.lengths r,
    c.reserve.ensures.items ∙ c.new-list.ensures.items,
  ),
  search rules,
  search rules,
)

pub loop-preserved : goal.loop-preserved
loop-preserved c = (
  λ log long r.
      let w = c.loop.invariant.0 log long r in (
        subst (λ n. AreCutHistoriesOfLog (entry_lists_of_histories c.args.self.now) c.back.new.lengths c.back.new.top (drop n log)) (sym (add-one c.loop.counter))
            (walked_drop (entry_lists_of_histories c.args.self.now) c.back.new.lengths c.back.new.top log c.loop.counter (omega (arith, long, c.loop-test.true)) (c.back.ensures.left (drop c.loop.counter log) w.0)),
        c.push_reserved.ensures.items ∙ ap (λ z. z ++ c.back.result.0 ∷ []) w.1
            ∙ sym (ap (λ n. map cause_at (take n log)) (add-one c.loop.counter) ∙ first_drop log c.loop.counter c.back.result.0 c.back.result.1 (c.back.ensures.first (drop c.loop.counter log) w.0)),
      ),
  omega (arith, c.push_reserved.ensures.len, c.loop.invariant.1),
  omega (arith, c.push_reserved.ensures.capacity, c.loop.invariant.2),
)

pub returns-clause-ok : goal.returns-clause-ok
returns-clause-ok c log long r =
    c.reverse.ensures.items
    ∙ ap reverse ((c.loop.invariant.0 log long r).1 ∙ ap (λ z. map cause_at z) (take_all c.loop.counter log (omega (arith, long, c.loop-test.false))))
    ∙ turned log
