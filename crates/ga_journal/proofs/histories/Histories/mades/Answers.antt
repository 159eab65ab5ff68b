use Rattle.std.proofs.Common.{◌≡◌, ◌∙◌, ◌++◌, ◌∷◌, [], length, take, sym, ap, subst, arith}
use Rattle.std.proofs.lemmas.List.{take_all}
use Rattle.ga_journal.specs.inner.Histories.{entry_lists_of_histories}
use Rattle.ga_journal.specs.Histories.{history}
use Rattle.ga_journal.specs.inner.Marks.{ArePartnerPositionsAtMost, partner_position_of_role, made_events_of_entries, made_event_of_entry}
use Rattle.ga_journal.proofs.Cutting.{history_read}
use Rattle.ga_journal.proofs.Telling.{at_read, made_events_of_entries-more}
use Rattle.ga_journal.proofs.histories.Histories.mades.Goals as goal

pub made_by-requires-clause-own : goal.made_by-requires-clause-own
made_by-requires-clause-own c =
    let read = history_read _ c.args.node.number c.at-history.result.now (rw c.at-history.ensures.size c.args.node.in_range) c.at-history.ensures.value in
    let same : length c.at-history.result.now.items ≡ length (history (entry_lists_of_histories c.args.self.now) c.args.node.number) = ap length read in
    omega (arith, same, c.requires.fits, c.len-entries.ensures, c.loop-place-test.true)

pub made_by-requires-clause-partner : goal.made_by-requires-clause-partner
made_by-requires-clause-partner c =
    let read = history_read _ c.args.node.number c.at-history.result.now (rw c.at-history.ensures.size c.args.node.in_range) c.at-history.ensures.value in
    let a = at_read 4294967294 c.at-history.result.now.items c.loop-place.place c.entry_without_old_values.ensures.entry (subst (λ z. ArePartnerPositionsAtMost 4294967294 z) (sym read) c.requires.ats) c.entry_without_old_values.ensures.found in
    let b : partner_position_of_role c.entry_without_old_values.ensures.entry.act ≡ partner_position_of_role c.entry_without_old_values.result.act = ap partner_position_of_role c.entry_without_old_values.ensures.act in
    omega (arith, a, b)

pub loop-place-preserved : goal.loop-place-preserved
loop-place-preserved c = (
  c.push_reserved.ensures.items ∙ ap (λ z. z ++ c.made_by.result ∷ []) c.loop-place.invariant.0
      ∙ ap (λ z. made_events_of_entries c.args.node 0 (take c.loop-place.place c.at-history.result.now.items) ++ z ∷ []) (c.made_by.ensures ∙ ap (made_event_of_entry c.args.node c.loop-place.place) (sym c.entry_without_old_values.ensures.act))
      ∙ sym (made_events_of_entries-more c.args.node c.at-history.result.now.items c.loop-place.place c.entry_without_old_values.ensures.entry c.entry_without_old_values.ensures.found),
  omega (arith, c.push_reserved.ensures.len, c.loop-place.invariant.1),
  omega (arith, c.push_reserved.ensures.capacity, c.loop-place.invariant.2),
)

pub returns-clause-ok : goal.returns-clause-ok
returns-clause-ok c =
    let read = history_read _ c.args.node.number c.at-history.result.now (rw c.at-history.ensures.size c.args.node.in_range) c.at-history.ensures.value in
    c.loop-place.invariant.0
    ∙ ap (made_events_of_entries c.args.node 0) (take_all c.loop-place.place c.at-history.result.now.items (omega (arith, c.len-entries.ensures, c.loop-place-test.false)))
    ∙ ap (made_events_of_entries c.args.node 0) read
