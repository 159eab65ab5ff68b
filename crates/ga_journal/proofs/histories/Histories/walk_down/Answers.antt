use Rattle.std.proofs.Common.{◌≡◌, ◌+◌, ◌-◌, ◌∙◌, ◌<◌, ◌++◌, ◌∷◌, [], Bool, true, cond, not, suc, length, drop, ap, subst, arith}
use Rattle.std.specs.Prelude.{is_ok, slice_index}
use Rattle.std.proofs.lemmas.List.{length-map, length_push, length-reverse}
use Rattle.ga_journal.specs.inner.Histories.{entry_lists_of_histories, entry_records_of_held}
use Rattle.ga_journal.proofs.Down.{IsDown, tested, tested_not, some_of, down_within, down_some, down_first, down_more, down_last}
use Rattle.ga_journal.proofs.histories.Histories.walk_down.Goals as goal

pub loop-lengths-init : goal.loop-lengths-init
loop-lengths-init c =
    let hs = entry_lists_of_histories c.args.self.now in (
      λ log long r. subst (IsDown hs c.lengths_of-lengths.result c.args.top log c.args.from.0.number c.args.from.1 _) (let z : 0 ≡ c.args.kept - c.args.kept = omega arith in z)
          (down_first hs c.lengths_of-lengths.result c.args.top log c.args.from.0.number c.args.from.1 _ (length-map c.args.self.now entry_records_of_held ∙ c.lengths_of-lengths.ensures.nodes) c.lengths_of-lengths.ensures.all
          c.lengths_of-lengths.ensures.lengths r c.requires.stands (c.reserve.ensures.items ∙ c.new-causes.ensures.items)),
      c.lengths_of-lengths.ensures.all,
      ap (λ z. c.args.kept + length z) (c.reserve.ensures.items ∙ c.new-causes.ensures.items) ∙ (let h : c.args.kept + 0 ≡ c.args.kept = omega arith in h),
    )

pub back-requires : goal.back-requires
back-requires c =
    let log = c.requires.walk.0 in
    let i = c.args.kept - c.loop-lengths.before in
    let d = c.loop-lengths.invariant.0 log c.requires.walk.1 c.requires.walk.2 in
    let l = tested c.loop-lengths.lengths c.index-at.result c.args.from.0.number c.args.from.1 c.index-at.ensures.value c.loop-lengths-test.true in (
      drop i log,
      some_of log i (down_within (entry_lists_of_histories c.args.self.now) c.loop-lengths.lengths c.loop-lengths.top log c.args.from.0.number c.args.from.1 c.loop-lengths.causes.items i (length-map c.args.self.now entry_records_of_held ∙ c.lengths_of-lengths.ensures.nodes)
          c.loop-lengths.invariant.1 c.args.from.0.in_range c.requires.counted l d),
      d.walk,
    )

pub overflow_sub-before : goal.overflow_sub-before
overflow_sub-before c =
    down_some (entry_lists_of_histories c.args.self.now) c.loop-lengths.lengths c.loop-lengths.top c.requires.walk.0 c.args.from.0.number c.args.from.1 c.args.kept c.loop-lengths.before c.loop-lengths.causes.items
    (length-map c.args.self.now entry_records_of_held ∙ c.lengths_of-lengths.ensures.nodes) c.loop-lengths.invariant.1 c.args.from.0.in_range c.requires.counted
    (tested c.loop-lengths.lengths c.index-at.result c.args.from.0.number c.args.from.1 c.index-at.ensures.value c.loop-lengths-test.true) c.requires.walk.1 c.loop-lengths.invariant.2
    (c.loop-lengths.invariant.0 c.requires.walk.0 c.requires.walk.1 c.requires.walk.2)

pub loop-lengths-smaller : goal.loop-lengths-smaller
loop-lengths-smaller c =
    let some : 0 < c.loop-lengths.before = down_some (entry_lists_of_histories c.args.self.now) c.loop-lengths.lengths c.loop-lengths.top c.requires.walk.0 c.args.from.0.number c.args.from.1 c.args.kept c.loop-lengths.before c.loop-lengths.causes.items
    (length-map c.args.self.now entry_records_of_held ∙ c.lengths_of-lengths.ensures.nodes) c.loop-lengths.invariant.1 c.args.from.0.in_range c.requires.counted
    (tested c.loop-lengths.lengths c.index-at.result c.args.from.0.number c.args.from.1 c.index-at.ensures.value c.loop-lengths-test.true) c.requires.walk.1 c.loop-lengths.invariant.2
    (c.loop-lengths.invariant.0 c.requires.walk.0 c.requires.walk.1 c.requires.walk.2) in
    omega (arith, some)

pub loop-lengths-preserved : goal.loop-lengths-preserved
loop-lengths-preserved c =
    let hs = entry_lists_of_histories c.args.self.now in
    let i = c.args.kept - c.loop-lengths.before in
    let l = tested c.loop-lengths.lengths c.index-at.result c.args.from.0.number c.args.from.1 c.index-at.ensures.value c.loop-lengths-test.true in
    let some : 0 < c.loop-lengths.before = down_some (entry_lists_of_histories c.args.self.now) c.loop-lengths.lengths c.loop-lengths.top c.requires.walk.0 c.args.from.0.number c.args.from.1 c.args.kept c.loop-lengths.before c.loop-lengths.causes.items
    (length-map c.args.self.now entry_records_of_held ∙ c.lengths_of-lengths.ensures.nodes) c.loop-lengths.invariant.1 c.args.from.0.in_range c.requires.counted
    (tested c.loop-lengths.lengths c.index-at.result c.args.from.0.number c.args.from.1 c.index-at.ensures.value c.loop-lengths-test.true) c.requires.walk.1 c.loop-lengths.invariant.2
    (c.loop-lengths.invariant.0 c.requires.walk.0 c.requires.walk.1 c.requires.walk.2) in
    let went_in : is_ok c.push.result ≡ true = c.is_err-in-loop-lengths.ensures.negation ∙ ap not c.if-is_err-2.false in
    let added : c.push.new.self.items ≡ c.loop-lengths.causes.items ++ c.back.result.0 ∷ [] = c.push.ensures.items ∙ ap (λ (b : Bool). cond b (c.loop-lengths.causes.items ++ c.back.result.0 ∷ []) c.loop-lengths.causes.items) went_in in (
      λ log long r.
          let d = c.loop-lengths.invariant.0 log long r in
          subst (IsDown hs c.back.new.lengths c.back.new.top log c.args.from.0.number c.args.from.1 c.push.new.self.items)
          (let next : suc (c.args.kept - c.loop-lengths.before) ≡ c.args.kept - (c.loop-lengths.before - 1) = omega (arith, some, c.loop-lengths.invariant.2) in next)
          (down_more hs c.loop-lengths.lengths c.back.new.lengths c.loop-lengths.top c.back.new.top log c.args.from.0.number c.args.from.1 c.loop-lengths.causes.items c.push.new.self.items i c.back.result.0 c.back.result.1
          (length-map c.args.self.now entry_records_of_held ∙ c.lengths_of-lengths.ensures.nodes) c.loop-lengths.invariant.1 c.args.from.0.in_range c.requires.counted l d
          (c.back.ensures.first (drop i log) d.walk) (c.back.ensures.left (drop i log) d.walk) added),
      c.back.ensures.size,
      (let n : length c.push.new.self.items ≡ length c.loop-lengths.causes.items + 1 = ap length added ∙ length_push c.loop-lengths.causes.items c.back.result.0 in omega (arith, n, some, c.loop-lengths.invariant.2)),
    )

pub returns-clause-ok : goal.returns-clause-ok
returns-clause-ok c log long r =
    let e : c.args.kept ≡ length log = long in
    down_last (entry_lists_of_histories c.args.self.now) c.loop-lengths.lengths c.loop-lengths.top log c.args.from.0.number c.args.from.1 c.args.other.number c.loop-lengths.before _ c.loop-lengths.causes.items c.reverse.new.self.items (c.args.kept - c.loop-lengths.before)
    (length-map c.args.self.now entry_records_of_held ∙ c.lengths_of-lengths.ensures.nodes) c.loop-lengths.invariant.1 c.args.from.0.in_range c.args.other.in_range
    (omega (arith, e)) (let b : length log - (c.args.kept - c.loop-lengths.before) ≡ c.loop-lengths.before = omega (arith, e, c.loop-lengths.invariant.2) in b)
    (tested_not c.loop-lengths.lengths c.index-at.result c.args.from.0.number c.args.from.1 c.index-at.ensures.value c.loop-lengths-test.false) (c.loop-lengths.invariant.0 log long r) c.reverse.ensures.items
    (ap (λ z. slice_index c.loop-lengths.lengths z) c.index.ensures.value)

pub returns-clause-short : goal.returns-clause-short
returns-clause-short c =
    let n : length c.reverse.new.self.items ≡ length c.loop-lengths.causes.items = ap length c.reverse.ensures.items ∙ length-reverse c.loop-lengths.causes.items in
    omega (arith, n, c.loop-lengths.invariant.2)
