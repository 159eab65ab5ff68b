use Rattle.std.proofs.Common.{◌∙◌, ap}
use Rattle.ga_journal.specs.inner.Histories.{stamp_bound_of_history}
use Rattle.ga_journal.proofs.Cutting.{history_read}
use Rattle.ga_journal.proofs.histories.Histories.last_stamp.Goals as goal

pub returns : goal.returns
returns c =
    c.in-Some.ensures.some
    ∙ ap stamp_bound_of_history (history_read _ c.args.node.number c.at-history.result.now (rw c.at-history.ensures.size c.args.node.in_range) c.at-history.ensures.value)
