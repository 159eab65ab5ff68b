use Rattle.std.proofs.Common.{◌≡◌, ◌∙◌, Some, length, sym, ap, subst, arith}
use Rattle.std.specs.Prelude.{slice_get}
use Rattle.ga_journal.specs.inner.Histories.{entry_lists_of_histories}
use Rattle.ga_journal.specs.Histories.{history}
use Rattle.ga_journal.specs.inner.Marks.{ArePartnerPositionsAtMost, partner_position_of_role, made_events_of_entries, made_event_of_entry}
use Rattle.ga_journal.proofs.Cutting.{history_read}
use Rattle.ga_journal.proofs.Telling.{at_read, entry_picked, none_past}
use Rattle.ga_journal.proofs.histories.Histories.made_of.Goals as goal

pub made_by-requires-clause-own : goal.made_by-requires-clause-own
made_by-requires-clause-own c =
    let read = history_read _ c.args.node.number c.at-history.result.now (rw c.at-history.ensures.size c.args.node.in_range) c.at-history.ensures.value in
    let same : length c.at-history.result.now.items ≡ length (history (entry_lists_of_histories c.args.self.now) c.args.node.number) = ap length read in
    omega (arith, same, c.requires.fits, c.len.ensures)

pub made_by-requires-clause-partner : goal.made_by-requires-clause-partner
made_by-requires-clause-partner c =
    let read = history_read _ c.args.node.number c.at-history.result.now (rw c.at-history.ensures.size c.args.node.in_range) c.at-history.ensures.value in
    let a = at_read 4294967294 c.at-history.result.now.items c.args.place c.entry_without_old_values.ensures.entry (subst (λ z. ArePartnerPositionsAtMost 4294967294 z) (sym read) c.requires.ats) c.entry_without_old_values.ensures.found in
    let b : partner_position_of_role c.entry_without_old_values.ensures.entry.act ≡ partner_position_of_role c.entry_without_old_values.result.act = ap partner_position_of_role c.entry_without_old_values.ensures.act in
    omega (arith, a, b)

pub returns : goal.returns
returns c =
    let read = history_read _ c.args.node.number c.at-history.result.now (rw c.at-history.ensures.size c.args.node.in_range) c.at-history.ensures.value in
    ap Some (c.made_by.ensures ∙ ap (made_event_of_entry c.args.node c.args.place) (sym c.entry_without_old_values.ensures.act))
    ∙ sym (entry_picked c.args.node c.args.place c.at-history.result.now.items c.entry_without_old_values.ensures.entry c.entry_without_old_values.ensures.found)
    ∙ ap (λ h. slice_get (made_events_of_entries c.args.node 0 h) c.args.place) read

pub returns-then-place-len : goal.returns-then-place-len
returns-then-place-len c =
    let read = history_read _ c.args.node.number c.at-history.result.now (rw c.at-history.ensures.size c.args.node.in_range) c.at-history.ensures.value in
    let same : length c.at-history.result.now.items ≡ length (history (entry_lists_of_histories c.args.self.now) c.args.node.number) = ap length read in
    sym (none_past c.args.node c.args.place (history (entry_lists_of_histories c.args.self.now) c.args.node.number) (omega (arith, same, c.len.ensures)))
