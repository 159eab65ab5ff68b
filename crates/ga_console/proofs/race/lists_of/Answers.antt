use Rattle.std.proofs.Common.{◌≡◌, [], ◌∷◌, ◌++◌, map, length, vec_len, Some, subst, sym, ap, ◌∙◌, arith, below_more}
use Rattle.std.specs.Prelude.{All, slice_get}
use Rattle.std.proofs.lemmas.List.{map-append, length-map}
use Rattle.std.proofs.lemmas.List.Elements.{All-push}
use Rattle.ga_shared.proofs.Places.{slice_get-last, slice_get-front}
use Rattle.ga_console.specs.Race.{worker_calls}
use Rattle.ga_console.proofs.race.lists_of.Goals as goal

pub loop-worker-preserved : goal.loop-worker-preserved
loop-worker-preserved c =
    let i = c.loop-worker.invariant in
    let worker = c.loop-worker.worker in
    let lists = c.loop-worker.lists in
    let list = c.in_ok-list_of.field-0 in
    let pushed = c.in_ok-push.ensures in
    let grown = ap (λ l. map (λ v. v.items) l) pushed.items ∙ map-append (λ v. v.items) lists.items (list ∷ []) in
    let last : worker ≡ length (map (λ v. v.items) lists.items) = omega (arith, i.size, lists.ok.0, length-map lists.items (λ v. v.items)) in
    record {
      size = omega (arith, i.size, pushed.len);
      lists = below_more (λ w. slice_get (map (λ v. v.items) c.push.new.self.items) w ≡ Some (worker_calls w c.args.calls)) worker
          (λ w below. ap (λ l. slice_get l w) grown ∙ slice_get-front (map (λ v. v.items) lists.items) list.items w (omega arith) ∙ i.lists w below)
          (ap (λ l. slice_get l worker) grown ∙ ap (slice_get (map (λ v. v.items) lists.items ++ list.items ∷ [])) last ∙ slice_get-last (map (λ v. v.items) lists.items) list.items ∙ ap Some c.in_ok-list_of.ensures.list);
      short = subst (All (λ v. vec_len v ≡ c.args.calls)) (sym pushed.items) (All-push (λ v. vec_len v ≡ c.args.calls) lists.items list i.short c.in_ok-list_of.ensures.count);
    }
