use Rattle.std.proofs.Common.{◌≡◌, ℕ, ◌+◌, ◌-◌, ◌≤◌, ◌++◌, ◌∷◌, [], List, map, ap, sym, ◌∙◌, arith}
use Rattle.std.specs.List.{range_with_len}
use Rattle.std.proofs.lemmas.List.{map-append}
use Rattle.std.proofs.lemmas.List.FromFn.{map-range_with_len_more}
use Rattle.ga_causal.specs.Dependence.{is_node_flagged}
use Rattle.ga_picture.specs.declared.item.PictureItem.{PictureItem}
use Rattle.ga_picture.specs.Items.{picture_item_at}
use Rattle.ga_picture.specs.Drawing.{item_with_nodes_left_out}
use Rattle.ga_picture.specs.inner.{picture_facts_of_events}
use Rattle.ga_picture.proofs.item.items.Goals as goal

pub events-init : goal.events-init
events-init c = λ ready h.
    let none : 0 ≡ c.args.from - c.args.from = omega arith in
    c.in_ok-items.ensures.items
    ∙ ap (λ (z : ℕ). map (item_with_nodes_left_out (is_node_flagged c.args.alone.now)) (map (picture_item_at (picture_facts_of_events c.args.facts ready) c.args.view) (range_with_len c.args.from z))) none

pub events-preserved : goal.events-preserved
events-preserved c = λ ready h.
    let place = c.events.place in
    let from = c.args.from in
    let at : ℕ → PictureItem = picture_item_at (picture_facts_of_events c.args.facts ready) c.args.view in
    let left : PictureItem → PictureItem = item_with_nodes_left_out (is_node_flagged c.args.alone.now) in
    let item : c.item_with_nodes_left_out.result ≡ left (at place) = c.item_with_nodes_left_out.ensures ∙ ap left (c.picture_item_at.ensures ready (h place (omega arith))) in
    let begun : from ≤ place = c.events.auto.place in
    let next : place - from + 1 ≡ place + 1 - from = omega arith in
    let sum : from + (place - from) ≡ place = omega arith in
    c.in_ok-push.ensures.items ∙ ap (λ (z : List PictureItem). z ++ c.item_with_nodes_left_out.result ∷ []) (c.events.invariant ready h)
    ∙ ap (λ (z : PictureItem). map left (map at (range_with_len from (place - from))) ++ z ∷ []) item
    ∙ sym (map-append left (map at (range_with_len from (place - from))) (at place ∷ []))
    ∙ ap (map left) (sym (map-range_with_len_more at from (place - from) place sum)) ∙ ap (λ (z : ℕ). map left (map at (range_with_len from z))) next

pub returns : goal.returns
returns c = λ ready h.
    let all : c.events.place - c.args.from ≡ c.args.to - c.args.from = let within : c.events.place ≤ c.args.to = c.events.auto.place-end c.requires.order in omega arith in
    c.events.invariant ready h
    ∙ ap (λ (z : ℕ). map (item_with_nodes_left_out (is_node_flagged c.args.alone.now)) (map (picture_item_at (picture_facts_of_events c.args.facts ready) c.args.view) (range_with_len c.args.from z))) all
