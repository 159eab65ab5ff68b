use Rattle.std.proofs.Common.{◌≡◌, ◌+◌, ◌-◌, ◌∙◌, ◌++◌, ◌∷◌, [], length, map, sym, ap, subst, arith, length-append}
use Rattle.ga_journal.specs.declared.entry.Entry.{Entry}
use Rattle.ga_journal.specs.declared.entry.EntryRole.TheVariants as act
use Rattle.ga_journal.specs.inner.Histories.{HeldNodeHistory}
use Rattle.ga_journal.specs.Histories.{new_entry_record}
use Rattle.ga_journal.specs.inner.Stored.{IsStoredNodeHistory, entry_record_of_entry, newest_look_end_after, part_of_own_outcome}
use Rattle.ga_journal.proofs.Looking.{own_more}
use Rattle.ga_journal.proofs.Storing.{pasts_deed, read_last, set_last}
use Rattle.ga_journal.proofs.history.History.make_own_event.Goals as goal

pub invariant_of-self : goal.invariant_of-self
invariant_of-self c =
    let es = c.self.inside.entries.items in
    let ps = c.self.inside.passes.items in
    let first = c.index_mut-entry.result.now in
    let e : Entry = record { stamp = first.stamp; place = first.place; part = c.part_of-part.result; before = first.before; saved = c.apply_own_event-deed.new.saved } in
    let here : length c.as_slice.result.now ≡ length c.push_reserved.new.self.items = ap length c.as_slice.ensures.value in
    let more : length c.push_reserved.new.self.items ≡ length es + 1 = ap length c.push_reserved.ensures.items ∙ length-append es _ in
    let read = read_last es c.push_reserved.new.self.items _ first (length c.as_slice.result.now - 1) c.push_reserved.ensures.items (omega (arith, here, more)) c.index_mut-entry.ensures.value in
    subst (λ z. IsStoredNodeHistory z ps c.note_look.new.looked)
    (sym (set_last es c.push_reserved.new.self.items _ e (length c.as_slice.result.now - 1) c.push_reserved.ensures.items (omega (arith, here, more))))
    (subst (λ z. IsStoredNodeHistory (es ++ e ∷ []) ps z)
    (sym (c.note_look.ensures
    ∙ ap (λ z. newest_look_end_after c.self.inside.looked z (part_of_own_outcome c.apply_own_event-deed.result)) (let q : length c.as_slice.result.now - 1 ≡ length es = omega (arith, here, more) in q)))
    (own_more es ps c.self.inside.looked e c.apply_own_event-deed.result.kind c.apply_own_event-deed.result.look c.self.invariant c.part_of-part.ensures (ap (λ (z : Entry). z.place) read)))

pub returns : goal.returns
returns c =
    let es = c.self.inside.entries.items in
    let ps = c.self.inside.passes.items in
    let first = c.index_mut-entry.result.now in
    let e : Entry = record { stamp = first.stamp; place = first.place; part = c.part_of-part.result; before = first.before; saved = c.apply_own_event-deed.new.saved } in
    let here : length c.as_slice.result.now ≡ length c.push_reserved.new.self.items = ap length c.as_slice.ensures.value in
    let more : length c.push_reserved.new.self.items ≡ length es + 1 = ap length c.push_reserved.ensures.items ∙ length-append es _ in
    let read = read_last es c.push_reserved.new.self.items _ first (length c.as_slice.result.now - 1) c.push_reserved.ensures.items (omega (arith, here, more)) c.index_mut-entry.ensures.value in
    record {
      saved = c.apply_own_event-deed.new.saved;
      applied = c.apply_own_event-deed.ensures;
      added = ap (λ z. map (entry_record_of_entry ps) z) (set_last es c.push_reserved.new.self.items _ e (length c.as_slice.result.now - 1) c.push_reserved.ensures.items (omega (arith, here, more)))
          ∙ pasts_deed ps es e c.apply_own_event-deed.result.kind c.apply_own_event-deed.result.look c.part_of-part.ensures
          ∙ ap (λ (h : HeldNodeHistory). h.items ++ new_entry_record first.stamp (act.Own c.apply_own_event-deed.result) c.apply_own_event-deed.new.saved ∷ []) c.self.view_is
          ∙ ap (λ (z : Entry). c.args.self.now.items ++ new_entry_record z.stamp (act.Own c.apply_own_event-deed.result) c.apply_own_event-deed.new.saved ∷ []) read;
    }
