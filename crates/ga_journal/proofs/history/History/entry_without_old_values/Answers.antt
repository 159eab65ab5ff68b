use Rattle.std.proofs.Common.{◌<◌, ◌∙◌, length, refl, sym, ap, subst}
use Rattle.std.specs.Prelude.{slice_get}
use Rattle.std.proofs.lemmas.List.{length-map}
use Rattle.ga_journal.specs.inner.Histories.{HeldNodeHistory}
use Rattle.ga_journal.specs.inner.Stored.{entry_record_of_entry}
use Rattle.ga_journal.proofs.Storing.{numbered_below, pasts_at}
use Rattle.ga_journal.proofs.history.History.entry_without_old_values.Goals as goal

pub act_of-requires : goal.act_of-requires
act_of-requires c =
    let long = ap (λ (h : HeldNodeHistory). length h.items) (sym c.self.view_is) ∙ length-map c.self.inside.entries.items (entry_record_of_entry c.self.inside.passes.items) in
    numbered_below 0 (length c.self.inside.passes.items) c.args.at c.self.inside.entries.items c.index-entry.result.now c.self.invariant.numbered (subst (λ z. c.args.at < z) long c.requires) c.index-entry.ensures

pub returns : goal.returns
returns c =
    let long = ap (λ (h : HeldNodeHistory). length h.items) (sym c.self.view_is) ∙ length-map c.self.inside.entries.items (entry_record_of_entry c.self.inside.passes.items) in
    record {
      entry = entry_record_of_entry c.self.inside.passes.items c.index-entry.result.now;
      found = ap (λ (h : HeldNodeHistory). slice_get h.items c.args.at) (sym c.self.view_is)
          ∙ pasts_at c.self.inside.passes.items c.self.inside.entries.items c.args.at c.index-entry.result.now (subst (λ z. c.args.at < z) long c.requires) c.index-entry.ensures;
      stamp = refl;
      act = sym c.act_of.ensures;
    }
