use Rattle.std.proofs.Common.{◌≡◌, ◌+◌, [], ◌∷◌, ◌++◌, length, Some, arith, sym, ap, ◌∙◌, subst, vec_len, map, true≢false}
use Rattle.std.specs.Prelude.{slice_get}
use Rattle.ga_shared.specs.Log.{Worker, fresh_worker}
use Rattle.ga_shared.specs.inner.{HasWorkerMadeListedCalls}
use Rattle.ga_shared.proofs.Places.{Each-push, Each-front, Each-last, Each-along, on_ok, slice_get-last, slice_get-front}
use Rattle.ga_shared.proofs.racing.run_all.Goals as goal
use Rattle.ga_shared.proofs.racing.run_all.Goals.{then-is_err, else-is_err}

pub loop-seat-preserved : goal.loop-seat-preserved
loop-seat-preserved g c =
    let i = c.loop-seat.invariant in
    let seats = c.in-Some.ensures.items in
    let left = c.pop.new.self.items in
    let here : Some c.in-Some.seat ≡ Some (fresh_worker (length left)) = sym (slice_get-last left c.in-Some.seat) ∙ ap (λ l. slice_get l (length left)) (sym seats) ∙ i.fresh (length left) (omega (arith, c.in-Some.ensures.len)) in
    let seat : c.in-Some.seat ≡ fresh_worker (length left) = cc in
    let worker : c.in-Ok-start.thread.promise.worker ≡ length left = ap (λ p. p.worker) c.in-Ok-start.ensures ∙ c.number.ensures ∙ ap (λ s. s.number) seat in
    record {
      size = omega (arith, i.size, c.in-Some.ensures.len, c.push_reserved.ensures.len);
      room = omega (arith, i.room, c.push_reserved.ensures.capacity);
      fresh = λ w below. sym (slice_get-front left c.in-Some.seat w (omega arith)) ∙ ap (λ l. slice_get l w) (sym seats) ∙ i.fresh w (omega (arith, c.in-Some.ensures.len));
      promised = Each-along (c.loop-seat.threads.items ++ c.in-Ok-start.thread ∷ []) c.push_reserved.new.self.items (λ k t. (t.promise.worker + k + 1 ≡ vec_len c.args.lists.now) × (t.promise.lists.value ≡ c.args.lists.now)) (sym c.push_reserved.ensures.items) (Each-push c.loop-seat.threads.items c.in-Ok-start.thread (λ k t. (t.promise.worker + k + 1 ≡ vec_len c.args.lists.now) × (t.promise.lists.value ≡ c.args.lists.now)) i.promised (omega (arith, i.size, c.in-Some.ensures.len, worker), ap (λ p. p.lists.value) c.in-Ok-start.ensures ∙ c.of.ensures));
    }

pub loop-thread-preserved : goal.loop-thread-preserved
loop-thread-preserved g c =
    let i = c.loop-thread.invariant in
    let threads = c.in-Some-pop.ensures.items in
    let left = c.pop-in-loop-thread.new.self.items in
    let thread = c.in-Some-pop.thread in
    let back = c.loop-thread.back.items in
    let joined = c.join-seat.ensures in
    let last = Each-last left thread (λ k t. (t.promise.worker + k + 1 ≡ vec_len c.args.lists.now) × (t.promise.lists.value ≡ c.args.lists.now)) (Each-along c.loop-thread.threads.items (left ++ thread ∷ []) (λ k t. (t.promise.worker + k + 1 ≡ vec_len c.args.lists.now) × (t.promise.lists.value ≡ c.args.lists.now)) threads i.promised) in
    let lists = map (λ v. v.items) c.args.lists.now.items in
    let same : map (λ v. v.items) thread.promise.lists.value.items ≡ lists = ap (λ l. map (λ v. v.items) l.items) last.1 in
    let seat = c.join-seat.result.0 in
    let pushed = c.push_reserved-in-Some-pop.ensures.items in
    record {
      size = omega (arith, i.size, c.in-Some-pop.ensures.len, c.push_reserved-in-Some-pop.ensures.len);
      room = omega (arith, i.room, c.push_reserved-in-Some-pop.ensures.capacity);
      promised = Each-front left thread (λ k t. (t.promise.worker + k + 1 ≡ vec_len c.args.lists.now) × (t.promise.lists.value ≡ c.args.lists.now)) (Each-along c.loop-thread.threads.items (left ++ thread ∷ []) (λ k t. (t.promise.worker + k + 1 ≡ vec_len c.args.lists.now) × (t.promise.lists.value ≡ c.args.lists.now)) threads i.promised);
      numbered = Each-along (back ++ seat ∷ []) c.push_reserved-in-Some-pop.new.self.items (λ k (s : Worker). s.number ≡ k) (sym pushed) (Each-push back seat (λ k (s : Worker). s.number ≡ k) i.numbered (omega (arith, joined.0, last.0, i.size, c.in-Some-pop.ensures.len)));
      done = λ whole. elim c.if-is_err.branch [
        | then-is_err w ↦ absurd (true≢false (sym whole ∙ w.is_whole-is))
        | else-is_err w ↦ Each-along (back ++ seat ∷ []) c.push_reserved-in-Some-pop.new.self.items (λ k (s : Worker). HasWorkerMadeListedCalls lists s) (sym pushed) (Each-push back seat (λ k (s : Worker). HasWorkerMadeListedCalls lists s) (i.done (sym w.is_whole-is ∙ whole)) (subst (λ l. HasWorkerMadeListedCalls l seat) same (on_ok c.join-seat.result.1 (HasWorkerMadeListedCalls (map (λ v. v.items) thread.promise.lists.value.items) seat) (sym c.is_err.ensures.value ∙ w.if-is_err.false) joined.1)))
      ];
    }
