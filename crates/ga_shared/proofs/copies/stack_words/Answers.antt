use Rattle.std.proofs.Common.{◌≡◌, slice_index, sym, ◌∙◌, arith, below_more}
use Rattle.std.proofs.lemmas.Grind.{same_number_lists}
use Rattle.ga_node.specs.Record.{record_of_node}
use Rattle.ga_shared.proofs.copies.stack_words.Goals as goal

pub returns : goal.returns
returns c =
    let i = c.loop-place.invariant in
    let d = (record_of_node c.args.node.now).d in
    let r = (record_of_node c.args.node.now).r in
    let each = below_more (λ k. slice_index c.loop-place.data_words k ≡ slice_index d k) 9 (λ k below. i.data_words k (omega arith)) i.bottom in (
      same_number_lists c.loop-place.data_words d (i.data_size ∙ sym (c.word_of_data_stack.ensures.size (omega arith))) (λ k b. each k (omega (arith, i.data_size))),
      same_number_lists c.loop-place.return_words r (i.return_size ∙ sym (c.word_of_return_stack.ensures.size (omega arith))) (λ k b. i.return_words k (omega (arith, i.return_size))),
    )
