use Rattle.std.proofs.Common.{◌≡◌, arith, refl, sym, ap, ◌∙◌, subst}
use Rattle.std.proofs.lemmas.List.{take_all}
use Rattle.ga_shared.specs.Log.{HasMatchingReceipts, receipts_of_worker}
use Rattle.ga_shared.proofs.Logs.{HasMatchingReceipts-more}
use Rattle.ga_shared.proofs.closing.agrees.Goals as goal
use Rattle.ga_shared.proofs.closing.agrees.Goals.{else-number-worker-via-then-number-worker+else-not-receipts_match_log, else-number-worker-via-else-number-worker}

pub loop-i-preserved : goal.loop-i-preserved
loop-i-preserved g c =
    let here : c.index-seats-i.result.number ≡ c.args.worker → c.index-seats-i.result.receipts ≡ receipts_of_worker c.args.worker 0 c.args.log.now =
    elim c.else-number-worker.branch [ else-number-worker-via-then-number-worker+else-not-receipts_match_log w ↦ λ (_ : c.index-seats-i.result.number ≡ c.args.worker). ap (λ s. s.receipts) (sym c.seat.view_is) ∙ sym w.as_slice.ensures.value ∙ w.if-not-receipts_match_log.ensures.0 refl | else-number-worker-via-else-number-worker w ↦ λ (is : c.index-seats-i.result.number ≡ c.args.worker). absurd (w.if-number-worker.false (c.number.ensures ∙ is)) ] in
    HasMatchingReceipts-more c.args.log.now c.args.seats.now c.args.worker c.loop-i.i c.index-seats-i.result (omega arith) c.index-seats-i.is c.loop-i.invariant here

pub returns : goal.returns
returns g c = ((λ _. subst (λ l. HasMatchingReceipts c.args.log.now l c.args.worker) (take_all c.loop-i.i c.args.seats.now (omega arith)) c.loop-i.invariant), λ _. refl)
