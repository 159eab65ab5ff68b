use Rattle.std.proofs.Common.{◌∙◌, ap, sym, Result, Ok, Err, OnOk, OnErr}
use Rattle.ga_journal.specs.Histories.{ReservedCapacity}
use Rattle.ga_journal.proofs.Cutting.{on_ok, lists_same, room_grown, room_read, pass_rooms}
use Rattle.ga_journal.proofs.histories.Histories.reserve_pass_entry.Goals as goal

both_ok : {T E : Type 0} (A B : Type 0) (r : Result T E) → OnOk r A → OnOk r B → OnOk r (A × B)
both_ok A B (Ok x) h k = (h, k)
both_ok A B (Err e) h k = h

pub returns-clause-same : goal.returns-clause-same
returns-clause-same c = lists_same c.args.self.now c.args.node.number c.at_mut-history.result.now c.reserve_pass_entry.new.self (rw c.at_mut-history.ensures.size c.args.node.in_range) c.at_mut-history.ensures.value c.reserve_pass_entry.ensures.same

pub returns-clause-room : goal.returns-clause-room
returns-clause-room c =
    let grown = room_grown c.args.self.now c.args.node.number c.reserve_pass_entry.new.self (rw c.at_mut-history.ensures.size c.args.node.in_range) in
    on_ok c.reserve_pass_entry.result (λ h. (ap (λ (r : ReservedCapacity). r.entry) grown ∙ h.0, ap (λ (r : ReservedCapacity). r.pass) grown ∙ h.1))
    (both_ok _ _ c.reserve_pass_entry.result c.reserve_pass_entry.ensures.room c.reserve_pass_entry.ensures.pass)

pub returns-clause-others : goal.returns-clause-others
returns-clause-others c =
    let grown = room_grown c.args.self.now c.args.node.number c.reserve_pass_entry.new.self (rw c.at_mut-history.ensures.size c.args.node.in_range) in
    on_ok c.reserve_pass_entry.result
    (λ h. pass_rooms c.args.self.now c.args.node.number c.reserve_pass_entry.new.self (rw c.at_mut-history.ensures.size c.args.node.in_range)
    (ap (λ (r : ReservedCapacity). r.entry) grown ∙ h.0, ap (λ (r : ReservedCapacity). r.pass) grown ∙ h.1))
    (both_ok _ _ c.reserve_pass_entry.result c.reserve_pass_entry.ensures.room c.reserve_pass_entry.ensures.pass)

on_err : {T E A B : Type 0} → (r : Result T E) → (A → B) → OnErr r A → OnErr r B
on_err (Ok x) f h = h
on_err (Err e) f h = f h

pub returns-clause-full : goal.returns-clause-full
returns-clause-full c =
    let read = room_read c.args.self.now c.args.node.number c.at_mut-history.result.now (rw c.at_mut-history.ensures.size c.args.node.in_range) c.at_mut-history.ensures.value in
    on_err c.reserve_pass_entry.result (λ no h. no (sym (ap (λ (r : ReservedCapacity). r.entry) read) ∙ h.0, sym (ap (λ (r : ReservedCapacity). r.pass) read) ∙ h.1)) c.reserve_pass_entry.ensures.full
