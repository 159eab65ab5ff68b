use Rattle.ga_journal.proofs.Cutting.{lists_pushed, pass_room_others}
use Rattle.ga_journal.proofs.histories.Histories.push_end.Goals as goal

pub returns-clause-after : goal.returns-clause-after
returns-clause-after c =
    lists_pushed _ c.args.node.number c.at_mut-history.result.now c.push_pass_entry.new.self _ (rw c.at_mut-history.ensures.size c.args.node.in_range) c.at_mut-history.ensures.value c.push_pass_entry.ensures

pub returns-clause-others : goal.returns-clause-others
returns-clause-others c n ne h = pass_room_others _ c.args.node.number c.push_pass_entry.new.self n ne h
