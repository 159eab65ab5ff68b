use Rattle.std.proofs.Common.{◌≡◌, [], ◌∷◌, ◌++◌, ap, ◌∙◌, arith, refl, rules, ◌+◌}
use Rattle.ga_grid.specs.Chip.{records_of_chip}
use Rattle.ga_shared.specs.declared.call.LogEntry.{LogEntry}
use Rattle.ga_shared.specs.declared.call.CallReceipt.{CallReceipt}
use Rattle.ga_shared.specs.Log.{LockedState, Worker, MakesLoggedCall}
use Rattle.ga_shared.proofs.Logs.{state_after_call-limit, HasConsistentLog-push}
use Rattle.ga_shared.proofs.locked.LockedLab.call.Goals as goal

-- the log grew by this call's entry
grown : (g : _) (c : goal.After-push_reserved-2 g) → c.push_reserved.new.self.items ≡ c.self.inside.log.items ++ record { worker = c.seat.inside.number; call = c.args.call; answer = c.in_ok-answer.field-0 } ∷ []
grown g c = c.push_reserved.ensures.items ∙ ap (λ l. l ++ c.entry.result ∷ []) c.reserve-2.ensures.items ∙ ap (λ e. c.self.inside.log.items ++ e ∷ []) c.entry.ensures

pub invariant_of-self-2 : goal.invariant_of-self-2
invariant_of-self-2 g c =
    let was = c.self.inside in
    let answered = c.in_ok-answer.ensures in
    let entry : LogEntry = record { worker = c.seat.inside.number; call = c.args.call; answer = c.in_ok-answer.field-0 } in
    let desk : LockedState = record { load = records_of_chip was.load; lab = was.lab; log = was.log.items; calls = was.book.total } in
    HasConsistentLog-push desk c.answer.new.lab c.push_reserved.new.self.items c.add.new.self.total entry c.self.invariant answered.answer answered.given answered.lab (grown g c) (omega (arith, c.add.ensures.total, c.audit.ensures.total))

pub returns-clause-history : goal.returns-clause-history
returns-clause-history g c = invariant_of-self-2 g c

pub returns-clause-makes : goal.returns-clause-makes
returns-clause-makes g c =
    let was = c.self.inside in
    let seat = c.seat.inside in
    let answered = c.in_ok-answer.ensures in
    let receipt : CallReceipt = record { place = c.len-place.result; call = c.args.call; answer = c.in_ok-answer.field-0 } in
    let old : LockedState = record { load = records_of_chip was.load; lab = was.lab; log = was.log.items; calls = was.book.total } in
    let worker : Worker = record { number = seat.number; receipts = seat.receipts.items; calls = seat.share.amount } in
    let makes : MakesLoggedCall old (record { load = records_of_chip was.load; lab = c.answer.new.lab; log = c.push_reserved.new.self.items; calls = c.add.new.self.total }) worker (record { number = seat.number; receipts = c.push_reserved-2.new.self.items; calls = c.add.new.share.amount }) c.args.call receipt =
    record {
      receipt_is = λ i. record { place = (c.len-place.ensures ∙ c.reserve-2.ensures.len ∙ was.log.ok.0) i; call = c.args.call; answer = answered.answer i };
      lab = answered.lab;
      limit = ap (λ s. s.limit) answered.lab ∙ state_after_call-limit was.lab c.args.call;
      load = refl;
      log = grown g c;
      book = c.add.ensures.total ∙ ap (λ n. n + 1) c.audit.ensures.total;
      worker = λ i. record { number = seat.number; receipts = (c.push_reserved-2.ensures.items ∙ ap (λ l. l ++ receipt ∷ []) c.reserve.ensures.items) i; calls = (c.add.ensures.amount ∙ ap (λ n. n + 1) c.audit.ensures.amount) i };
    } in
    search rules
