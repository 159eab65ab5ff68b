use Rattle.std.proofs.Common.{◌∙◌, ◌++◌, ◌∷◌, [], length, map, refl, sym, ap, subst}
use Rattle.ga_journal.specs.declared.entry.Entry.{Entry}
use Rattle.ga_journal.specs.declared.entry.EntryRole.TheVariants as act
use Rattle.ga_journal.specs.inner.Histories.{HeldNodeHistory}
use Rattle.ga_journal.specs.Histories.{new_entry_record}
use Rattle.ga_journal.specs.inner.Stored.{IsStoredNodeHistory, entry_record_of_entry, newest_look_end_after}
use Rattle.ga_journal.proofs.Looking.{own_more}
use Rattle.ga_journal.proofs.Storing.{pasts_deed}
use Rattle.ga_journal.proofs.history.History.push_own_entry.Goals as goal

pub invariant_of-self : goal.invariant_of-self
invariant_of-self c =
    let es = c.self.inside.entries.items in
    let ps = c.self.inside.passes.items in
    let e : Entry = record { stamp = c.args.stamp; place = c.self.inside.looked; part = c.part_of-part.result; before = c.args.before; saved = c.args.saved } in
    subst (λ z. IsStoredNodeHistory z ps c.looked_with-self-inside.result) (sym c.push_reserved.ensures.items)
    (subst (λ z. IsStoredNodeHistory (es ++ e ∷ []) ps z)
    (sym (c.looked_with-self-inside.ensures ∙ ap (λ z. newest_look_end_after c.self.inside.looked z c.part_of-part.result) (ap length c.as_slice.ensures.value) ∙ ap (newest_look_end_after c.self.inside.looked (length es)) c.part_of-part.ensures))
    (own_more es ps c.self.inside.looked e c.args.deed.kind c.args.deed.look c.self.invariant c.part_of-part.ensures refl))

pub returns : goal.returns
returns c =
    let es = c.self.inside.entries.items in
    let ps = c.self.inside.passes.items in
    let e : Entry = record { stamp = c.args.stamp; place = c.self.inside.looked; part = c.part_of-part.result; before = c.args.before; saved = c.args.saved } in
    ap (λ z. map (entry_record_of_entry ps) z) c.push_reserved.ensures.items
    ∙ pasts_deed ps es e c.args.deed.kind c.args.deed.look c.part_of-part.ensures
    ∙ ap (λ (h : HeldNodeHistory). h.items ++ new_entry_record c.args.stamp (act.Own c.args.deed) c.args.saved ∷ []) c.self.view_is
