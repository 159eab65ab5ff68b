use Rattle.std.proofs.Common.{◌≡◌, ◌∙◌, length, sym, ap, subst}
use Rattle.ga_journal.specs.Histories.{JournalState}
use Rattle.ga_journal.specs.inner.Histories.{entry_lists_of_histories, AreStoredHistoriesSound}
use Rattle.ga_journal.specs.Events.{kept_events_with_outcomes}
use Rattle.ga_journal.proofs.Keeping.{fits}
use Rattle.ga_journal.proofs.Down.{none_told}
use Rattle.ga_journal.proofs.journal.Journal.backward_reader.Goals as goal

pub lengths_of-requires : goal.lengths_of-requires
lengths_of-requires c = record { fits = λ n. fits c.self.inside.histories c.self.inside.top c.self.inside.made c.self.inside.kept c.self.inside.limit n c.self.invariant.keeps }

pub invariant_of-result : goal.invariant_of-result
invariant_of-result c =
    let vecs = c.self.inside.histories in
    let is : entry_lists_of_histories vecs ≡ c.args.self.now.histories = ap (λ (b : JournalState). b.histories) c.self.view_is in
    let many : c.self.inside.kept ≡ length (kept_events_with_outcomes c.args.self.now) = c.self.invariant.keeps.count ∙ ap (λ (b : JournalState). length (kept_events_with_outcomes b)) c.self.view_is in
    none_told vecs c.lengths_of.result c.self.inside.top c.self.inside.kept c.args.self.now (sym is) many
    (subst (λ (b : JournalState). AreStoredHistoriesSound vecs c.self.inside.top b.made c.self.inside.kept b.limit) c.self.view_is c.self.invariant.keeps) c.requires
    c.lengths_of.ensures.nodes c.lengths_of.ensures.all c.lengths_of.ensures.lengths
