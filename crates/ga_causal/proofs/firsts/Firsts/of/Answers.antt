use Rattle.std.proofs.Common.{◌≡◌, ◌<◌, ◌+◌, length, ◌∙◌, sym, subst, arith}
use Rattle.ga_causal.specs.inner.{oldest_place_of_node, AreOldestEventPlaces}
use Rattle.ga_causal.proofs.OldestEventPlaces.{noted_first, noted_more, noted_none}
use Rattle.ga_causal.proofs.firsts.Firsts.of.Goals as goal
use Rattle.ga_causal.proofs.firsts.Firsts.of.Goals.{then-oldest-to, else-oldest-to}

pub loop-place-init : goal.loop-place-init
loop-place-init c =
    let within : c.args.from < length c.args.events.now = omega arith in
    record {
      firsts = noted_first c.args.events.now c.args.from c.args.to c.new-firsts.result c.note.new.self c.index-events-from.result c.requires.order within c.index-events-from.is c.new-firsts.ensures.places c.note.ensures.places;
      none = c.note.ensures.none ∙ c.new-firsts.ensures.none;
    }

pub loop-place-preserved : goal.loop-place-preserved
loop-place-preserved c =
    let within : c.loop-place.place < length c.args.events.now = omega arith in
    let after : c.args.from < c.loop-place.place = omega arith in
    elim c.if-oldest-to.branch [
      | then-oldest-to w ↦ (
          let made : AreOldestEventPlaces c.args.events.now c.args.from (c.loop-place.place + 1) c.args.to (oldest_place_of_node w.note-then-oldest-to.new.self) =
          noted_more c.args.events.now c.args.from c.loop-place.place c.args.to c.loop-place.firsts w.note-then-oldest-to.new.self c.index-events-place.result c.oldest.result
          c.loop-place.invariant.firsts c.loop-place.invariant.none within c.loop-place-test.true c.index-events-place.is c.oldest.ensures w.if-oldest-to.true w.note-then-oldest-to.ensures.places in
          record {
            firsts = subst (λ z. AreOldestEventPlaces c.args.events.now c.args.from (c.loop-place.place + 1) c.args.to (oldest_place_of_node z)) (sym w.firsts-is) made;
            none = subst (λ z. z.none ≡ c.args.to) (sym w.firsts-is) (w.note-then-oldest-to.ensures.none ∙ c.loop-place.invariant.none);
          })
      | else-oldest-to w ↦ (
          let made : AreOldestEventPlaces c.args.events.now c.args.from (c.loop-place.place + 1) c.args.to (oldest_place_of_node c.loop-place.firsts) =
          noted_none c.args.events.now c.args.from c.loop-place.place c.args.to c.loop-place.firsts c.index-events-place.result c.oldest.result
          c.loop-place.invariant.firsts c.loop-place.invariant.none after within c.loop-place-test.true c.index-events-place.is c.oldest.ensures w.if-oldest-to.false in
          record {
            firsts = subst (λ z. AreOldestEventPlaces c.args.events.now c.args.from (c.loop-place.place + 1) c.args.to (oldest_place_of_node z)) (sym w.firsts-is) made;
            none = subst (λ z. z.none ≡ c.args.to) (sym w.firsts-is) c.loop-place.invariant.none;
          })
    ]
