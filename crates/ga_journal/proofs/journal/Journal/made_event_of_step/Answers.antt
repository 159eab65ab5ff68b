use Rattle.std.proofs.Common.{◌∙◌, sym, ap, subst, arith}
use Rattle.std.specs.Prelude.{slice_get}
use Rattle.ga_journal.specs.Histories.{JournalState, history}
use Rattle.ga_journal.specs.inner.Histories.{entry_lists_of_histories}
use Rattle.ga_journal.specs.inner.Marks.{made_events_of_entries}
use Rattle.ga_journal.specs.Logs.{AreHistoriesOfSomeLog}
use Rattle.ga_journal.proofs.Keeping.{fits}
use Rattle.ga_journal.proofs.Telling.{ats_log, mades_log}
use Rattle.ga_journal.proofs.journal.Journal.made_event_of_step.Goals as goal

pub made_of-requires-clause-fits : goal.made_of-requires-clause-fits
made_of-requires-clause-fits c = fits c.self.inside.histories c.self.inside.top c.self.inside.made c.self.inside.kept c.self.inside.limit c.args.node.number c.self.invariant.keeps

pub made_of-requires-clause-ats : goal.made_of-requires-clause-ats
made_of-requires-clause-ats c =
    let whole : AreHistoriesOfSomeLog (entry_lists_of_histories c.self.inside.histories) c.self.inside.made = subst (λ (b : JournalState). AreHistoriesOfSomeLog b.histories b.made) (sym c.self.view_is) c.requires in
    ats_log (entry_lists_of_histories c.self.inside.histories) c.self.inside.made c.self.inside.kept _ c.args.node.number whole c.self.invariant.keeps.count (omega (arith, c.self.invariant.keeps.within, c.self.invariant.keeps.fits))

pub returns : goal.returns
returns c =
    let same = ap (λ (b : JournalState). made_events_of_entries c.args.node 0 (history b.histories c.args.node.number)) c.self.view_is ∙ mades_log c.args.self.now c.args.node c.requires in
    c.made_of.ensures ∙ ap (λ z. slice_get z c.args.place) same
