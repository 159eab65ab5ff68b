use Rattle.std.proofs.Common.{◌≡◌, Some, [], ◌∷◌, ◌++◌, ◌∙◌, ap, arith, below_more, length}
use Rattle.std.specs.Prelude.{slice_get}
use Rattle.ga_shared.specs.Log.{fresh_worker}
use Rattle.ga_shared.proofs.Places.{slice_get-last, slice_get-front}
use Rattle.ga_shared.proofs.shared.SharedLab.new.Goals as goal

pub loop-number-preserved : goal.loop-number-preserved
loop-number-preserved g c =
    let i = c.loop-number.invariant in
    let seats = c.loop-number.seats in
    let e = c.in-Ok-push.ensures in
    let number = c.loop-number.number in
    let last : number ≡ length seats.items = omega (arith, i.size, seats.ok.0) in
    record {
      parts = omega (arith, i.parts, c.split_off-share.ensures.parts_left, c.split_off-share.ensures.parts);
      amount = omega (arith, i.amount, c.split_off-share.ensures.amount_left, c.split_off-share.ensures.amount);
      size = omega (arith, i.size, e.len);
      fresh = below_more (λ w. slice_get c.push.new.self.items w ≡ Some (fresh_worker w)) number
          (λ w below. ap (λ l. slice_get l w) e.items ∙ slice_get-front seats.items _ w (omega arith) ∙ i.fresh w below)
          (ap (λ l. slice_get l number) e.items ∙ ap (slice_get (seats.items ++ _ ∷ [])) last ∙ slice_get-last seats.items _
          ∙ (λ k. Some (record { number = number; receipts = c.new.ensures.items k; calls = c.split_off-share.ensures.amount k })));
    }
