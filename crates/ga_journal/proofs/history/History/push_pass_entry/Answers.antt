use Rattle.std.proofs.Common.{◌≡◌, ◌∙◌, ◌++◌, ◌∷◌, [], length, map, refl, sym, ap, subst, arith}
use Rattle.std.proofs.lemmas.List.{length-map}
use Rattle.ga_journal.specs.inner.Histories.{HeldNodeHistory}
use Rattle.ga_journal.specs.Histories.{new_entry_record}
use Rattle.ga_journal.specs.inner.Stored.{IsStoredNodeHistory, entry_record_of_entry, entry_role_of_pass_end}
use Rattle.ga_journal.proofs.Looking.{pass_more}
use Rattle.ga_journal.proofs.Storing.{numbered_long, pasts_passed, with_looked, same_act}
use Rattle.ga_journal.proofs.history.History.push_pass_entry.Goals as goal

pub overflow_cast-place : goal.overflow_cast-place
overflow_cast-place c =
    let long : length c.args.self.now.items ≡ length c.self.inside.entries.items =
    ap (λ (h : HeldNodeHistory). length h.items) (sym c.self.view_is) ∙ length-map c.self.inside.entries.items (entry_record_of_entry c.self.inside.passes.items) in
    let few = numbered_long 0 (length c.self.inside.passes.items) c.self.inside.entries.items c.self.invariant.numbered in
    let here : length c.as_slice.result.now ≡ length c.self.inside.passes.items = ap length c.as_slice.ensures.value in
    omega (arith, long, few, here, c.requires.fits)

pub invariant_of-self : goal.invariant_of-self
invariant_of-self c =
    subst (λ z. IsStoredNodeHistory c.push_reserved-2.new.self.items z c.self.inside.looked) (sym c.push_reserved.ensures.items)
    (subst (λ z. IsStoredNodeHistory z (c.self.inside.passes.items ++ with_looked c.args.pass c.self.inside.looked ∷ []) c.self.inside.looked) (sym c.push_reserved-2.ensures.items)
    (pass_more c.self.inside.entries.items c.self.inside.passes.items c.self.inside.looked (with_looked c.args.pass c.self.inside.looked) _ c.args.role c.self.invariant refl (ap length c.as_slice.ensures.value) refl))

pub returns : goal.returns
returns c =
    ap (λ z. map (entry_record_of_entry z) c.push_reserved-2.new.self.items) c.push_reserved.ensures.items
    ∙ ap (λ z. map (entry_record_of_entry (c.self.inside.passes.items ++ with_looked c.args.pass c.self.inside.looked ∷ [])) z) c.push_reserved-2.ensures.items
    ∙ pasts_passed c.self.inside.passes.items (with_looked c.args.pass c.self.inside.looked) c.args.role c.self.inside.entries.items _ c.self.invariant.numbered refl (ap length c.as_slice.ensures.value)
    ∙ ap (λ z. map (entry_record_of_entry c.self.inside.passes.items) c.self.inside.entries.items ++ new_entry_record c.args.stamp z c.args.saved ∷ []) (same_act c.args.role c.args.pass c.self.inside.looked)
    ∙ ap (λ (h : HeldNodeHistory). h.items ++ new_entry_record c.args.stamp (entry_role_of_pass_end c.args.role c.args.pass) c.args.saved ∷ []) c.self.view_is
