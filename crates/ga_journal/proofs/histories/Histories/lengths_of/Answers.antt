use Rattle.std.proofs.Common.{◌∙◌, length, ap, sym, set, arith, ⊎_elim, get_or-set_same, get_or-set_other, length-set}
use Rattle.std.specs.Prelude.{slice_index}
use Rattle.std.proofs.lemmas.Bool.{cases_eq}
use Rattle.ga_journal.specs.inner.Histories.{entry_lists_of_histories}
use Rattle.ga_journal.specs.Histories.{history}
use Rattle.ga_journal.proofs.histories.Histories.lengths_of.Goals as goal

pub loop-number-preserved : goal.loop-number-preserved
loop-number-preserved c = (
  length-set c.loop-number.lengths c.loop-number.number c.count.result ∙ c.loop-number.invariant.0,
  λ n l. ⊎_elim
      (λ q. ap (λ z. slice_index (set c.loop-number.lengths c.loop-number.number c.count.result) z) q ∙ get_or-set_same c.loop-number.lengths c.loop-number.number c.count.result 0 (rw c.loop-number.invariant.0 c.loop-number-test.true)
      ∙ c.count.ensures ∙ ap (λ z. length (history (entry_lists_of_histories c.args.self.now) z)) (c.new.ensures ∙ sym q))
      (λ ne. get_or-set_other c.loop-number.lengths c.loop-number.number n c.count.result 0 ne ∙ c.loop-number.invariant.1 n (omega (arith, l, ne)))
      (cases_eq n c.loop-number.number),
)
