use Rattle.std.proofs.Common.{◌≡◌, ◌∙◌, ◌+◌, ◌-◌, ◌<◌, ◌≤◌, ℕ, List, suc, length, drop, get_or, refl, sym, subst, arith, rules}
use Rattle.std.specs.Prelude.{reverse}
use Rattle.std.proofs.lemmas.List.{length-map}
use Rattle.ga_event.specs.declared.made.MadeEvent.{MadeEvent}
use Rattle.ga_journal.specs.inner.Histories.{entry_lists_of_histories, entry_records_of_held, AreCutHistoriesOfLog, AreMadeEventsAtPlaces}
use Rattle.ga_journal.proofs.Down.{left_long, walked_on, told_on, told_none, told_more}
use Rattle.ga_journal.proofs.Recalling.{walk_whole}
use Rattle.ga_journal.proofs.histories.Histories.recall_all.Goals as goal

pub loop-at-init : goal.loop-at-init
loop-at-init c =
    let places : List ℕ = c.args.places.now in (
      λ log long r. (
        subst (λ n. AreCutHistoriesOfLog (entry_lists_of_histories c.args.self.now) c.lengths_of-lengths.result c.args.top (drop n log)) (let z : 0 ≡ c.args.kept - c.args.kept = omega arith in z)
            (walk_whole (entry_lists_of_histories c.args.self.now) c.lengths_of-lengths.result c.args.top log (length-map c.args.self.now entry_records_of_held ∙ c.lengths_of-lengths.ensures.nodes) c.lengths_of-lengths.ensures.all c.lengths_of-lengths.ensures.lengths r),
        told_none log places c.reserve.new.self.items (c.reserve.ensures.items ∙ c.new-list.ensures.items),
      ),
      omega arith,
      λ some. c.requires.within (length places - 1) 0 (omega (arith, some)),
      omega (arith, c.reserve.ensures.len, c.new-list.ensures.len),
      search rules,
    )

pub loop-at-preserved : goal.loop-at-preserved
loop-at-preserved c =
    let places : List ℕ = c.args.places.now in
    let at : ℕ = c.loop-at.at - 1 in
    let place : ℕ = get_or places at 0 in
    let some : 0 < c.loop-at.at = c.loop-at-test.true in
    let within : c.loop-at.left ≤ c.args.kept = c.loop-at.invariant.1 in
    let below : place < c.loop-at.left = c.loop-at.invariant.2 some in
    let count = c.loop-at.invariant.3 in (
      λ log long r.
          let walk = c.loop-at.invariant.0 log long r in
          let more = left_long log c.args.kept c.loop-at.left place long within in (
            walked_on (entry_lists_of_histories c.args.self.now) c.back_over-made.new.lengths c.back_over-made.new.top log c.args.kept c.loop-at.left place within below
                (c.back_over-made.ensures.left (drop (c.args.kept - c.loop-at.left) log) more walk.0),
            subst (λ (z : List MadeEvent). AreMadeEventsAtPlaces log (drop at places) (reverse z)) (sym c.push_reserved.ensures.items)
                (told_more log places at place c.back_over-made.result.1 c.loop-at.list.items (omega (arith, some, count)) refl
                (told_on log c.args.kept c.loop-at.left place c.back_over-made.result.0 c.back_over-made.result.1 long within below
                (c.back_over-made.ensures.first (drop (c.args.kept - c.loop-at.left) log) more walk.0))
                (subst (λ (n : ℕ). AreMadeEventsAtPlaces log (drop n places) (reverse c.loop-at.list.items)) (let q : c.loop-at.at ≡ suc (c.loop-at.at - 1) = omega (arith, some) in q) walk.1)),
          ),
      omega (arith, within, below),
      λ still.
          subst (λ (n : ℕ). get_or places (at - 1) 0 < get_or places n 0) (let q : at - 1 + 1 ≡ at = omega (arith, still) in q)
          (c.requires.rise (at - 1) (omega (arith, still, count))),
      omega (arith, some, count, c.push_reserved.ensures.len),
      omega (arith, c.loop-at.invariant.4, c.push_reserved.ensures.capacity),
    )
