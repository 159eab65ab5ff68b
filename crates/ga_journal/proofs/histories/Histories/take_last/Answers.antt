use Rattle.std.proofs.Common.{◌<◌, subst, sym}
use Rattle.ga_journal.specs.inner.Histories.{stamp_bound_of_history}
use Rattle.ga_journal.proofs.Cutting.{history_read, popped_last, popped_others}
use Rattle.ga_journal.proofs.histories.Histories.take_last.Goals as goal

pub pop-requires : goal.pop-requires
pop-requires c =
    subst (λ z. 0 < stamp_bound_of_history z)
    (sym (history_read _ c.args.node.number c.at_mut-history.result.now (rw c.at_mut-history.ensures.size c.args.node.in_range) c.at_mut-history.ensures.value))
    c.requires

pub returns-clause-last : goal.returns-clause-last
returns-clause-last c =
    popped_last _ c.args.node.number c.at_mut-history.result.now c.pop.new.self _ (rw c.at_mut-history.ensures.size c.args.node.in_range) c.at_mut-history.ensures.value c.pop.ensures

pub returns-clause-others : goal.returns-clause-others
returns-clause-others c = popped_others _ c.args.node.number c.pop.new.self (rw c.at_mut-history.ensures.size c.args.node.in_range)
