use Rattle.std.proofs.Common.{◌∙◌, List, ap}
use Rattle.ga_journal.specs.Histories.{JournalState, EntryRecord, history}
use Rattle.ga_journal.specs.Walked.{overwritten_value}
use Rattle.ga_journal.proofs.Cutting.{history_read}
use Rattle.ga_journal.proofs.journal.Journal.overwritten_value.Goals as goal

pub returns : goal.returns
returns c =
    let read = history_read _ c.args.node.number c.at.result.now (rw c.at.ensures.size c.args.node.in_range) c.at.ensures.value in
    c.overwritten_value.ensures
    ∙ ap (λ (h : List EntryRecord). overwritten_value h c.args.at c.args.what) read
    ∙ ap (λ (b : JournalState). overwritten_value (history b.histories c.args.node.number) c.args.at c.args.what) c.self.view_is
