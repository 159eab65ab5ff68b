use Rattle.ga_journal.proofs.Cutting.{lists_pushed}
use Rattle.ga_journal.proofs.histories.Histories.push_own_entry.Goals as goal

pub returns-clause-after : goal.returns-clause-after
returns-clause-after c =
    lists_pushed _ c.args.node.number c.at_mut-history.result.now c.push_own_entry.new.self _ (rw c.at_mut-history.ensures.size c.args.node.in_range) c.at_mut-history.ensures.value c.push_own_entry.ensures
