use Rattle.std.proofs.Common.{◌∙◌, ◌/◌, ◌+◌, ap, sym, subst, length-set, slice_set, arith}
use Rattle.ga_node.specs.State.{node_with_value, node_with_restored_values, ArePlaceValuesValid}
use Rattle.ga_node.specs.inner.Packed.{unpacked_place_value, place_values_of_packed_words, ArePackedWordsAtPlaceCodes}
use Rattle.ga_node.proofs.Restoring.{put_last, at_put, fit_put}
use Rattle.ga_node.proofs.gathered.GatheredOldValues.put.Goals as goal

pub invariant_of-self : goal.invariant_of-self
invariant_of-self c = (
  length-set c.self.inside.words (c.args.word / 16777216) (c.args.word + 1) ∙ c.self.invariant.0,
  subst (λ w. ArePackedWordsAtPlaceCodes 0 (slice_set c.self.inside.words (c.args.word / 16777216) w)) (omega arith) (at_put 0 (c.args.word / 16777216) c.args.word c.self.inside.words c.self.invariant.1 c.requires (omega arith)),
)

pub returns-clause-back : goal.returns-clause-back
returns-clause-back c node =
    let small = c.requires.0 in
    let long = c.self.invariant.0 in
    ap (λ w. node_with_restored_values node (place_values_of_packed_words (slice_set c.self.inside.words (c.args.word / 16777216) w))) (omega arith)
    ∙ put_last node 0 (c.args.word / 16777216) c.args.word c.self.inside.words c.self.invariant.1 c.requires (omega arith) (omega (arith, small, long))
    ∙ ap (λ pairs. node_with_value (node_with_restored_values node pairs) (unpacked_place_value c.args.word).0 (unpacked_place_value c.args.word).1) c.self.view_is

pub returns-clause-fit : goal.returns-clause-fit
returns-clause-fit c fit here =
    subst (λ w. ArePlaceValuesValid (place_values_of_packed_words (slice_set c.self.inside.words (c.args.word / 16777216) w))) (omega arith)
    (fit_put (c.args.word / 16777216) c.args.word c.self.inside.words (subst ArePlaceValuesValid (sym c.self.view_is) fit) here)
