use Rattle.std.proofs.Common.{◌∙◌, ◌++◌, ◌∷◌, [], map, sym, ap, subst}
use Rattle.ga_journal.specs.inner.Histories.{HeldNodeHistory}
use Rattle.ga_journal.specs.Histories.{new_entry_record}
use Rattle.ga_journal.specs.inner.Stored.{IsStoredNodeHistory, entry_record_of_entry}
use Rattle.ga_journal.proofs.Storing.{last_is_below, last_counts, dropped_pasts}
use Rattle.ga_journal.proofs.Looking.{one_less}
use Rattle.ga_journal.proofs.history.History.pop.Goals as goal

pub act_of-act-requires : goal.act_of-act-requires
act_of-act-requires c =
    let whole : IsStoredNodeHistory (c.pop.new.self.items ++ c.in-Some.entry ∷ []) c.self.inside.passes.items c.self.inside.looked = subst (λ z. IsStoredNodeHistory z c.self.inside.passes.items c.self.inside.looked) c.in-Some.ensures.items c.self.invariant in
    last_is_below c.pop.new.self.items c.in-Some.entry c.self.inside.passes.items whole.numbered

pub looked_before-self-inside-requires : goal.looked_before-self-inside-requires
looked_before-self-inside-requires c =
    let whole : IsStoredNodeHistory (c.pop.new.self.items ++ c.in-Some.entry ∷ []) c.self.inside.passes.items c.self.inside.looked = subst (λ z. IsStoredNodeHistory z c.self.inside.passes.items c.self.inside.looked) c.in-Some.ensures.items c.self.invariant in
    last_is_below c.pop.new.self.items c.in-Some.entry c.self.inside.passes.items whole.numbered

pub drop_pass-requires : goal.drop_pass-requires
drop_pass-requires c =
    let whole : IsStoredNodeHistory (c.pop.new.self.items ++ c.in-Some.entry ∷ []) c.self.inside.passes.items c.self.inside.looked = subst (λ z. IsStoredNodeHistory z c.self.inside.passes.items c.self.inside.looked) c.in-Some.ensures.items c.self.invariant in
    last_counts c.pop.new.self.items c.in-Some.entry c.self.inside.passes.items whole.numbered

pub invariant_of-self : goal.invariant_of-self
invariant_of-self c =
    subst (λ z. IsStoredNodeHistory c.pop.new.self.items c.drop_pass.new.passes.items z) (sym c.looked_before-self-inside.ensures)
    (one_less c.pop.new.self.items c.in-Some.entry c.self.inside.passes.items c.drop_pass.new.passes.items c.self.inside.looked
    (subst (λ z. IsStoredNodeHistory z c.self.inside.passes.items c.self.inside.looked) c.in-Some.ensures.items c.self.invariant) c.drop_pass.ensures)

pub returns : goal.returns
returns c =
    let whole : IsStoredNodeHistory (c.pop.new.self.items ++ c.in-Some.entry ∷ []) c.self.inside.passes.items c.self.inside.looked = subst (λ z. IsStoredNodeHistory z c.self.inside.passes.items c.self.inside.looked) c.in-Some.ensures.items c.self.invariant in
    sym (ap (λ (h : HeldNodeHistory). h.items) c.self.view_is)
    ∙ ap (λ z. map (entry_record_of_entry c.self.inside.passes.items) z) c.in-Some.ensures.items
    ∙ dropped_pasts c.pop.new.self.items c.in-Some.entry c.self.inside.passes.items c.drop_pass.new.passes.items whole.numbered c.drop_pass.ensures
    ∙ ap (λ z. map (entry_record_of_entry c.drop_pass.new.passes.items) c.pop.new.self.items ++ new_entry_record c.in-Some.entry.stamp z c.in-Some.entry.saved ∷ []) (sym c.act_of-act.ensures)
