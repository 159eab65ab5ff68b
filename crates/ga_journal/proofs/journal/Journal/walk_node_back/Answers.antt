use Rattle.std.proofs.Common.{◌≤◌, ◌∙◌, List, length, take, drop, sym, ap, subst}
use Rattle.ga_journal.specs.Histories.{JournalState, EntryRecord, history}
use Rattle.ga_journal.specs.Walked.{node_before_entries, CanRestoreEntries}
use Rattle.ga_journal.proofs.Cutting.{history_read}
use Rattle.ga_journal.proofs.journal.Journal.walk_node_back.Goals as goal

pub walk_node_back-requires-clause-within : goal.walk_node_back-requires-clause-within
walk_node_back-requires-clause-within c =
    let read = history_read _ c.args.node.number c.at-history.result.now (rw c.at-history.ensures.size c.args.node.in_range) c.at-history.ensures.value in
    subst (λ (h : List EntryRecord). c.args.from ≤ length h) (sym (read ∙ ap (λ (b : JournalState). history b.histories c.args.node.number) c.self.view_is)) c.requires.within

pub walk_node_back-requires-clause-can : goal.walk_node_back-requires-clause-can
walk_node_back-requires-clause-can c =
    let read = history_read _ c.args.node.number c.at-history.result.now (rw c.at-history.ensures.size c.args.node.in_range) c.at-history.ensures.value in
    subst (λ (h : List EntryRecord). CanRestoreEntries c.args.now.now (drop c.args.to (take c.args.from h))) (sym (read ∙ ap (λ (b : JournalState). history b.histories c.args.node.number) c.self.view_is)) c.requires.can

pub returns : goal.returns
returns c =
    let read = history_read _ c.args.node.number c.at-history.result.now (rw c.at-history.ensures.size c.args.node.in_range) c.at-history.ensures.value in
    c.walk_node_back.ensures ∙ ap (λ (h : List EntryRecord). node_before_entries c.args.now.now (drop c.args.to (take c.args.from h))) (read ∙ ap (λ (b : JournalState). history b.histories c.args.node.number) c.self.view_is)
