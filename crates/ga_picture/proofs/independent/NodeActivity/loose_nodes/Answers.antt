use Rattle.std.proofs.Common.{◌≡◌, ◌<◌, false, length, set, get_or, sym, ap, ◌∙◌, inl, inr, arith, length-set, get_or-set_other}
use Rattle.std.proofs.lemmas.Grind.{get_or-set_at}
use Rattle.std.proofs.lemmas.Bool.{cases_eq}
use Rattle.ga_picture.specs.inner.{works_independently}
use Rattle.ga_picture.proofs.independent.NodeActivity.loose_nodes.Goals as goal

pub nodes-preserved : goal.nodes-preserved
nodes-preserved c =
    let flags = c.nodes.loose in
    let k = c.nodes.number in
    let self = c.args.self.now in
    let size : length flags ≡ 144 = c.nodes.invariant.size in
    let small : k < 144 = c.nodes-test.true in
    record {
      size = length-set flags k c.works_independently.result ∙ size;
      marked = λ n l. elim (cases_eq n k) as (λ z. get_or (set flags k c.works_independently.result) n false ≡ works_independently self n) [
        | inl q ↦ get_or-set_at flags k n c.works_independently.result false q (omega arith) ∙ c.works_independently.ensures ∙ ap (works_independently self) (c.new.ensures ∙ sym q)
        | inr ne ↦ get_or-set_other flags k n c.works_independently.result false ne ∙ c.nodes.invariant.marked n (omega (arith, l, ne))
      ];
    }
