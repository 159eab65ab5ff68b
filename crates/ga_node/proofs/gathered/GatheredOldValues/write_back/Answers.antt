use Rattle.std.proofs.Common.{◌≡◌, ℕ, suc, ◌+◌, ◌-◌, ◌<◌, ◌∙◌, ap, sym, subst, get_or, drop, arith}
use Rattle.std.proofs.lemmas.List.{drop_all}
use Rattle.ga_node.specs.declared.place.NodePlace.{NodePlace}
use Rattle.ga_node.specs.Record.{NodeState}
use Rattle.ga_node.specs.State.{node_with_restored_values, node_with_value, node_with_resumed_status, ArePlaceValuesValid, IsPlaceValueInRange}
use Rattle.ga_node.specs.inner.Packed.{place_values_of_packed_words}
use Rattle.ga_node.proofs.Restoring.{back_past_none, back_past_one, fit_of}
use Rattle.ga_node.proofs.gathered.GatheredOldValues.write_back.Goals.{then-word-gt0, else-word-gt0}
use Rattle.ga_node.proofs.gathered.GatheredOldValues.write_back.Goals as goal

pub loop-k-init : goal.loop-k-init
unfolding node_with_restored_values
loop-k-init c =
    let long = c.self.invariant.0 in
    record {
      back = sym (ap (λ xs. node_with_restored_values (node_with_resumed_status c.args.node.now c.args.aside.now) (place_values_of_packed_words xs)) (drop_all 249 c.self.inside.words (omega (arith, long))));
      cleared = c.requires.cleared;
      in_range = c.requires.in_range;
    }

-- a word that is above 0
one_more : (word : ℕ) → 0 < word → word ≡ suc (word - 1)
one_more word l = omega (arith, l)

pub put_back-requires-clause-fit : goal.put_back-requires-clause-fit
put_back-requires-clause-fit c =
    let long = c.self.invariant.0 in
    subst (λ (v : NodePlace × ℕ). IsPlaceValueInRange v.0 v.1) (sym c.unpack-place.ensures)
    (fit_of c.self.inside.words (248 - c.loop-k.k) (get_or c.self.inside.words (248 - c.loop-k.k) 0 - 1) (subst ArePlaceValuesValid (sym c.self.view_is) c.requires.fit) (omega (arith, long)) (one_more (get_or c.self.inside.words (248 - c.loop-k.k) 0) c.if-word-gt0.true))

pub loop-k-preserved : goal.loop-k-preserved
loop-k-preserved c =
    let ws = c.self.inside.words in
    let n : NodeState = node_with_resumed_status c.args.node.now c.args.aside.now in
    let long = c.self.invariant.0 in
    let i : ℕ = 248 - c.loop-k.k in
    let here : 249 - (c.loop-k.k + 1) ≡ i = omega arith in
    let after : 249 - c.loop-k.k ≡ i + 1 = omega arith in
    elim c.if-word-gt0.branch [
      | then-word-gt0 w ↦ rw (here, w.node-is, w.aside-is) (record {
        back = w.put_back.ensures.back
            ∙ ap (λ (m : NodeState). node_with_value m w.unpack-place.result.0 w.unpack-place.result.1) (rw after at c.loop-k.invariant.back)
            ∙ ap (λ (v : NodePlace × ℕ). node_with_value (node_with_restored_values n (place_values_of_packed_words (drop (i + 1) ws))) v.0 v.1) w.unpack-place.ensures
            ∙ sym (back_past_one n ws i (omega (arith, long)) w.if-word-gt0.true);
        cleared = w.put_back.ensures.cleared;
        in_range = w.put_back.ensures.in_range;
      })
      | else-word-gt0 w ↦ rw (here, w.node-is, w.aside-is) (record {
        back = rw after at c.loop-k.invariant.back ∙ sym (back_past_none n ws i (omega (arith, long)) w.if-word-gt0.false);
        cleared = c.loop-k.invariant.cleared;
        in_range = c.loop-k.invariant.in_range;
      })
    ]
