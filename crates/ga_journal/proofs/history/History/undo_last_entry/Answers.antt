use Rattle.std.proofs.Common.{◌<◌, ◌-◌, ◌∙◌, ◌++◌, ◌∷◌, [], map, take, sym, ap, subst, vec_len}
use Rattle.ga_journal.specs.inner.Histories.{HeldNodeHistory, stamp_bound_of_history}
use Rattle.ga_journal.specs.inner.Stored.{IsStoredNodeHistory, entry_record_of_entry}
use Rattle.ga_journal.proofs.Storing.{ended, pasts_own, last_is_below, last_counts, dropped_pasts}
use Rattle.ga_journal.proofs.Looking.{one_less}
use Rattle.ga_journal.proofs.history.History.undo_last_entry.Goals as goal

pub restore_node_values-requires : goal.restore_node_values-requires
restore_node_values-requires c =
    let es = c.self.inside.entries.items in
    let ps = c.self.inside.passes.items in
    let some : 0 < stamp_bound_of_history (map (entry_record_of_entry ps) es) = subst (λ (h : HeldNodeHistory). 0 < stamp_bound_of_history h.items) (sym c.self.view_is) c.requires.some in
    let whole = ended ps es c.as_slice.result.now c.index-entry.result.now (vec_len c.self.inside.entries) c.self.inside.looked c.as_slice.ensures.value c.as_slice.ensures.len some c.index-entry.ensures c.self.invariant in
    c.requires.can (map (entry_record_of_entry ps) (take (vec_len c.self.inside.entries - 1) es)) (entry_record_of_entry ps c.index-entry.result.now)
    (sym (ap (λ (h : HeldNodeHistory). h.items) c.self.view_is) ∙ ap (λ z. map (entry_record_of_entry ps) z) whole.0 ∙ pasts_own ps (take (vec_len c.self.inside.entries - 1) es) c.index-entry.result.now)

pub act_of-act-requires : goal.act_of-act-requires
act_of-act-requires c =
    let es = c.self.inside.entries.items in
    let ps = c.self.inside.passes.items in
    let some : 0 < stamp_bound_of_history (map (entry_record_of_entry ps) es) = subst (λ (h : HeldNodeHistory). 0 < stamp_bound_of_history h.items) (sym c.self.view_is) c.requires.some in
    let whole = ended ps es c.as_slice.result.now c.index-entry.result.now (vec_len c.self.inside.entries) c.self.inside.looked c.as_slice.ensures.value c.as_slice.ensures.len some c.index-entry.ensures c.self.invariant in
    last_is_below (take (vec_len c.self.inside.entries - 1) es) c.index-entry.result.now ps whole.1.numbered

pub looked_before-self-inside-requires : goal.looked_before-self-inside-requires
looked_before-self-inside-requires c =
    let es = c.self.inside.entries.items in
    let ps = c.self.inside.passes.items in
    let some : 0 < stamp_bound_of_history (map (entry_record_of_entry ps) es) = subst (λ (h : HeldNodeHistory). 0 < stamp_bound_of_history h.items) (sym c.self.view_is) c.requires.some in
    let whole = ended ps es c.as_slice.result.now c.index-entry.result.now (vec_len c.self.inside.entries) c.self.inside.looked c.as_slice.ensures.value c.as_slice.ensures.len some c.index-entry.ensures c.self.invariant in
    last_is_below (take (vec_len c.self.inside.entries - 1) es) c.index-entry.result.now ps whole.1.numbered

pub drop_pass-requires : goal.drop_pass-requires
drop_pass-requires c =
    let es = c.self.inside.entries.items in
    let ps = c.self.inside.passes.items in
    let some : 0 < stamp_bound_of_history (map (entry_record_of_entry ps) es) = subst (λ (h : HeldNodeHistory). 0 < stamp_bound_of_history h.items) (sym c.self.view_is) c.requires.some in
    let whole = ended ps es c.as_slice.result.now c.index-entry.result.now (vec_len c.self.inside.entries) c.self.inside.looked c.as_slice.ensures.value c.as_slice.ensures.len some c.index-entry.ensures c.self.invariant in
    last_counts (take (vec_len c.self.inside.entries - 1) es) c.index-entry.result.now ps whole.1.numbered

pub invariant_of-self : goal.invariant_of-self
invariant_of-self c =
    let es = c.self.inside.entries.items in
    let ps = c.self.inside.passes.items in
    let some : 0 < stamp_bound_of_history (map (entry_record_of_entry ps) es) = subst (λ (h : HeldNodeHistory). 0 < stamp_bound_of_history h.items) (sym c.self.view_is) c.requires.some in
    let whole = ended ps es c.as_slice.result.now c.index-entry.result.now (vec_len c.self.inside.entries) c.self.inside.looked c.as_slice.ensures.value c.as_slice.ensures.len some c.index-entry.ensures c.self.invariant in
    subst (λ z. IsStoredNodeHistory z c.drop_pass.new.passes.items c.looked_before-self-inside.result) (sym c.pop.ensures.rest)
    (subst (λ z. IsStoredNodeHistory (take (vec_len c.self.inside.entries - 1) es) c.drop_pass.new.passes.items z) (sym c.looked_before-self-inside.ensures)
    (one_less (take (vec_len c.self.inside.entries - 1) es) c.index-entry.result.now ps c.drop_pass.new.passes.items c.self.inside.looked whole.1 c.drop_pass.ensures))

pub returns : goal.returns
returns c =
    let es = c.self.inside.entries.items in
    let ps = c.self.inside.passes.items in
    let some : 0 < stamp_bound_of_history (map (entry_record_of_entry ps) es) = subst (λ (h : HeldNodeHistory). 0 < stamp_bound_of_history h.items) (sym c.self.view_is) c.requires.some in
    let whole = ended ps es c.as_slice.result.now c.index-entry.result.now (vec_len c.self.inside.entries) c.self.inside.looked c.as_slice.ensures.value c.as_slice.ensures.len some c.index-entry.ensures c.self.invariant in
    record {
      entry = entry_record_of_entry ps c.index-entry.result.now;
      last = sym (ap (λ (h : HeldNodeHistory). h.items) c.self.view_is)
          ∙ ap (λ z. map (entry_record_of_entry ps) z) whole.0
          ∙ dropped_pasts (take (vec_len c.self.inside.entries - 1) es) c.index-entry.result.now ps c.drop_pass.new.passes.items whole.1.numbered c.drop_pass.ensures
          ∙ ap (λ z. map (entry_record_of_entry c.drop_pass.new.passes.items) z ++ entry_record_of_entry ps c.index-entry.result.now ∷ []) (sym c.pop.ensures.rest);
      part = sym c.act_of-act.ensures;
      node = c.restore_node_values.ensures;
    }
