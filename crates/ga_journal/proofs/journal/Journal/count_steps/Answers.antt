use Rattle.std.proofs.Common.{◌<◌, ◌≤◌, ◌-◌, ◌^◌, ◌∙◌, length, ap, subst, arith}
use Rattle.ga_journal.specs.Histories.{JournalState, history}
use Rattle.ga_journal.specs.inner.Histories.{entry_lists_of_histories}
use Rattle.ga_journal.specs.Events.{kept_events_with_outcomes}
use Rattle.ga_journal.proofs.Keeping.{count_within, fits}
use Rattle.ga_journal.proofs.Logs.{steps_log}
use Rattle.ga_journal.proofs.journal.Journal.count_steps.Goals as goal

pub count-requires : goal.count-requires
count-requires c = fits c.self.inside.histories c.self.inside.top c.self.inside.made c.self.inside.kept c.self.inside.limit c.args.node.number c.self.invariant.keeps

pub returns-clause-steps : goal.returns-clause-steps
returns-clause-steps c whole =
    c.count.ensures ∙ ap (λ (b : JournalState). length (history b.histories c.args.node.number)) c.self.view_is ∙ steps_log c.args.self.now c.args.node.number whole

pub returns-clause-within : goal.returns-clause-within
returns-clause-within c =
    let q = count_within (entry_lists_of_histories c.self.inside.histories) c.self.inside.top c.self.inside.made c.args.node.number c.self.invariant.keeps.rise c.self.invariant.keeps.below in
    subst (λ (b : JournalState). c.count.result ≤ length (kept_events_with_outcomes b)) c.self.view_is (omega (arith, q, c.count.ensures))

pub returns-clause-below : goal.returns-clause-below
returns-clause-below c =
    let q = count_within (entry_lists_of_histories c.self.inside.histories) c.self.inside.top c.self.inside.made c.args.node.number c.self.invariant.keeps.rise c.self.invariant.keeps.below in
    subst (λ (b : JournalState). length (kept_events_with_outcomes b) < b.limit → c.count.result < 2 ^ 32 - 1) c.self.view_is (λ l. omega (arith, l, q, c.count.ensures, c.self.invariant.keeps.fits))
