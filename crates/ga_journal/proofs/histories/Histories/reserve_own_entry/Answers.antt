use Rattle.std.proofs.Common.{◌∙◌, ap}
use Rattle.ga_journal.specs.Histories.{ReservedCapacity}
use Rattle.ga_journal.proofs.Cutting.{on_ok, lists_same, room_grown}
use Rattle.ga_journal.proofs.histories.Histories.reserve_own_entry.Goals as goal

pub returns-clause-same : goal.returns-clause-same
returns-clause-same c = lists_same c.args.self.now c.args.node.number c.at_mut-history.result.now c.reserve_own_entry.new.self (rw c.at_mut-history.ensures.size c.args.node.in_range) c.at_mut-history.ensures.value c.reserve_own_entry.ensures.same

pub returns-clause-room : goal.returns-clause-room
returns-clause-room c =
    let grown = room_grown c.args.self.now c.args.node.number c.reserve_own_entry.new.self (rw c.at_mut-history.ensures.size c.args.node.in_range) in
    on_ok c.reserve_own_entry.result (λ h. ap (λ (r : ReservedCapacity). r.entry) grown ∙ h) c.reserve_own_entry.ensures.room
