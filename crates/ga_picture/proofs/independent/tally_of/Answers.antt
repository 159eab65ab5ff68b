use Rattle.std.proofs.Common.{◌≡◌, ℕ, ◌+◌, ◌-◌, ◌≤◌, ◌++◌, ◌∷◌, [], map, ap, sym, ◌∙◌, subst, arith}
use Rattle.std.specs.List.{range_with_len}
use Rattle.std.proofs.lemmas.List.FromFn.{map-range_with_len_more}
use Rattle.ga_picture.specs.declared.item.PictureItem.{PictureItem}
use Rattle.ga_picture.specs.Items.{picture_item_at}
use Rattle.ga_picture.specs.inner.{picture_facts_of_events, IsActivityOfItems, HasNodeStepsWithinBound}
use Rattle.ga_picture.proofs.independent.tally_of.Goals as goal

pub events-init : goal.events-init
events-init c =
    let none : 0 ≡ c.args.from - c.args.from = omega arith in
    record {
      few = subst (λ z. HasNodeStepsWithinBound c.new-tally.result z) none c.new-tally.ensures.few;
      tallied = λ ready h. subst (λ z. IsActivityOfItems (map (picture_item_at (picture_facts_of_events c.args.facts ready) c.args.view) (range_with_len c.args.from z)) c.new-tally.result) none c.new-tally.ensures.none;
    }

pub add-requires : goal.add-requires
add-requires c =
    let begun : c.args.from ≤ c.events.place = c.events.auto.place in
    let few = c.events.invariant.few in
    record { size = few.size; few = λ n. omega (arith, few.few n) }

pub events-preserved : goal.events-preserved
events-preserved c =
    let place = c.events.place in
    let from = c.args.from in
    let begun : from ≤ place = c.events.auto.place in
    let next : place - from + 1 ≡ place + 1 - from = omega arith in
    let sum : from + (place - from) ≡ place = omega arith in
    record {
      few = subst (λ z. HasNodeStepsWithinBound c.add.new.self z) next (c.add.ensures.few (place - from) c.events.invariant.few);
      tallied = λ ready h.
          let at : ℕ → PictureItem = picture_item_at (picture_facts_of_events c.args.facts ready) c.args.view in
          let item : c.picture_item_at.result ≡ at place = c.picture_item_at.ensures ready (h place (omega arith)) in
          let more : map at (range_with_len from (place - from)) ++ c.picture_item_at.result ∷ [] ≡ map at (range_with_len from (place + 1 - from)) =
          ap (λ (z : PictureItem). map at (range_with_len from (place - from)) ++ z ∷ []) item
          ∙ sym (map-range_with_len_more at from (place - from) place sum) ∙ ap (λ (z : ℕ). map at (range_with_len from z)) next in
          subst (λ z. IsActivityOfItems z c.add.new.self) more (c.add.ensures.more _ (c.events.invariant.tallied ready h));
    }

pub returns : goal.returns
returns c = λ ready h.
    let all : c.events.place - c.args.from ≡ c.args.to - c.args.from = let within : c.events.place ≤ c.args.to = c.events.auto.place-end c.requires.order in omega arith in
    subst (λ z. IsActivityOfItems (map (picture_item_at (picture_facts_of_events c.args.facts ready) c.args.view) (range_with_len c.args.from z)) c.events.tally) all (c.events.invariant.tallied ready h)
