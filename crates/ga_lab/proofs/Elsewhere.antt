-- Nodes of which a rollback takes no step.
use Rattle.std.proofs.Common.{◌≡◌, ℕ, zero, suc, ◌+◌, ◌≤◌, cond, Bool, true, false, ◌||◌, List, [], ◌∷◌, Option, Some, None, refl, sym, ◌∙◌, ap, subst, arith, ◌⊎◌, inl, inr}
use Rattle.std.specs.Prelude.{option_map, unwrap_or, IsSome}
use Rattle.std.proofs.lemmas.Bool.{or_from, cases_Bool}
use Rattle.std.proofs.lemmas.Option.{same_Some}
use Rattle.ga_node.specs.Record.{NodeRecord}
use Rattle.ga_grid.specs.Chip.{node_record_at}
use Rattle.ga_event.specs.declared.event.Event.{Event}
use Rattle.ga_event.specs.declared.event.EventWithLook.{EventWithLook}
use Rattle.ga_event.specs.Touches.{observes_marked_node}
use Rattle.ga_event.specs.Apply.{MadeEventOutcome, event_with_look_on_chip, run_events, replay, AgreeOutsideMarks}
use Rattle.ga_event.proofs.Locality.{AgreeOutsideMarks-sym}
use Rattle.ga_causal.specs.Dependence.{event_with_look_touches_node, dependent_flags_from_marks, unflagged_elements, rest, position_of_step, remaining_events_or_all}
use Rattle.ga_event.specs.Told.{events_of_causes, count_steps}
use Rattle.ga_causal.specs.Steps.{count_touching_events}
use Rattle.ga_causal.proofs.Runs.{kept, run_more, FirstOf, first_of_run, keeps_of, AgreeOutsideMarks-marked_nodes, Same, same_of}
use Rattle.ga_causal.proofs.Places.{touching_in, count_touching_events-cons}
use Rattle.ga_lab.specs.Machine.{MachineState, chip_of_machine, run_events_with_outcomes, machine_events_with_looks, state_after_rewind}
use Rattle.ga_lab.proofs.Called.{Runs, runs_of, chip_is}
use Rattle.ga_lab.proofs.Reasoned.{causes, replayed}

one : Bool → ℕ
one b = cond b 1 0

-- leaving events out adds no step
fewer : (n : ℕ) (flags : List Bool) (es : List EventWithLook) → count_touching_events n (unflagged_elements flags es) ≤ count_touching_events n es
fewer n [] es = omega arith
fewer n (true ∷ flags) [] = omega arith
fewer n (false ∷ flags) [] = omega arith
fewer n (true ∷ flags) (e ∷ es) = let a = fewer n flags es in let b = count_touching_events-cons n e es in omega arith
fewer n (false ∷ flags) (e ∷ es) =
    let a = fewer n flags es in let b = count_touching_events-cons n e es in let c = count_touching_events-cons n e (unflagged_elements flags es) in omega arith

not_it : (b : Bool) (x y : ℕ) → x ≤ y → x ≡ cond b 1 0 + y → b ≡ false
not_it true x y l h = absurd (omega arith)
not_it false x y l h = refl

same_count : (b : Bool) (x y : ℕ) → b ≡ false → x ≡ cond b 1 0 + y → x ≡ y
same_count true x y f h = absurd (cc)
same_count false x y f h = omega arith

-- the remaining events run, and if no step of node m is left out, the node is the same at the end
record Elsewhere (b last : List NodeRecord) (m : ℕ) (es : List Event) : Type 0 where
  pub now : List NodeRecord
  pub told : List (EventWithLook × MadeEventOutcome)
  pub run_is : run_events b es ≡ Some (now, told)
  pub same : node_record_at last m ≡ node_record_at now m

kept_elsewhere : (marks : ℕ → Bool) (es : List Event) (c b last : List NodeRecord) (ts : List (EventWithLook × MadeEventOutcome)) (m : ℕ) → AgreeOutsideMarks marks c b → marks m ≡ false
    → run_events c es ≡ Some (last, ts) → count_touching_events m (kept marks (causes ts)) ≡ count_touching_events m (causes ts) → Elsewhere b last m (events_of_causes (kept marks (causes ts)))
kept_elsewhere marks [] c b last ts m a free h count =
    let p : (c, []) ≡ (last, ts) = same_Some _ _ h in
    subst (λ z. Elsewhere b last m (events_of_causes (kept marks (causes z)))) (ap (λ (z : List NodeRecord × List (EventWithLook × MadeEventOutcome)). z.1) p)
    (record { now = b; told = []; run_is = refl; same = ap (λ (z : List NodeRecord × List (EventWithLook × MadeEventOutcome)). node_record_at z.0 m) (sym p) ∙ a.same m free })
kept_elsewhere marks (e ∷ es) c b last ts m a free h count =
    let f = first_of_run c e es last ts h in
    subst (λ z. Elsewhere b last m (events_of_causes (kept marks (causes z)))) (sym f.all)
    (go f
    (λ no k. kept_elsewhere (λ n. marks n || event_with_look_touches_node (event_with_look_on_chip c e) n) es f.mid b last f.others m (AgreeOutsideMarks-marked_nodes marks e c f.mid b f.told a f.first) (or_from (marks m) (event_with_look_touches_node (event_with_look_on_chip c e) m) free no) f.then k)
    (λ s k. kept_elsewhere marks es f.mid s.mid last f.others m s.agree free f.then k)
    (subst (λ z. count_touching_events m (kept marks (causes z)) ≡ count_touching_events m (causes z)) f.all count) (cases_Bool (observes_marked_node marks (event_with_look_on_chip c e))))
  where
    go : (f : FirstOf c e es last ts)
        → (event_with_look_touches_node (event_with_look_on_chip c e) m ≡ false → count_touching_events m (kept (λ n. marks n || event_with_look_touches_node (event_with_look_on_chip c e) n) (causes f.others)) ≡ count_touching_events m (causes f.others)
        → Elsewhere b last m (events_of_causes (kept (λ n. marks n || event_with_look_touches_node (event_with_look_on_chip c e) n) (causes f.others))))
        → ((s : Same marks e c f.mid b f.told) → count_touching_events m (kept marks (causes f.others)) ≡ count_touching_events m (causes f.others) → Elsewhere s.mid last m (events_of_causes (kept marks (causes f.others))))
        → count_touching_events m (kept marks (event_with_look_on_chip c e ∷ causes f.others)) ≡ count_touching_events m (event_with_look_on_chip c e ∷ causes f.others)
        → (observes_marked_node marks (event_with_look_on_chip c e) ≡ true) ⊎ (observes_marked_node marks (event_with_look_on_chip c e) ≡ false) → Elsewhere b last m (events_of_causes (kept marks (event_with_look_on_chip c e ∷ causes f.others)))
    go f ih1 ih2 k (inl t) =
        let k2 : count_touching_events m (kept (λ n. marks n || event_with_look_touches_node (event_with_look_on_chip c e) n) (causes f.others)) ≡ count_touching_events m (event_with_look_on_chip c e ∷ causes f.others) = rw t at k in
        let less = fewer m (dependent_flags_from_marks (λ n. marks n || event_with_look_touches_node (event_with_look_on_chip c e) n) (causes f.others)) (causes f.others) in
        let cons = count_touching_events-cons m (event_with_look_on_chip c e) (causes f.others) in
        let no : event_with_look_touches_node (event_with_look_on_chip c e) m ≡ false = not_it (event_with_look_touches_node (event_with_look_on_chip c e) m) _ _ less (k2 ∙ cons) in
        let k3 : count_touching_events m (kept (λ n. marks n || event_with_look_touches_node (event_with_look_on_chip c e) n) (causes f.others)) ≡ count_touching_events m (causes f.others) = same_count (event_with_look_touches_node (event_with_look_on_chip c e) m) _ _ no (k2 ∙ cons) in
        rw t (ih1 no k3)
    go f ih1 ih2 k (inr t) =
        let k2 : count_touching_events m (event_with_look_on_chip c e ∷ kept marks (causes f.others)) ≡ count_touching_events m (event_with_look_on_chip c e ∷ causes f.others) = rw t at k in
        let cons = count_touching_events-cons m (event_with_look_on_chip c e) (causes f.others) in
        let cons2 = count_touching_events-cons m (event_with_look_on_chip c e) (kept marks (causes f.others)) in
        let s = same_of marks e c f.mid b f.told a t f.first in
        let g = ih2 s (omega arith) in
        rw t (record { now = g.now; told = _; run_is = run_more b e (events_of_causes (kept marks (causes f.others))) s.mid g.now f.told g.told s.done g.run_is; same = g.same })

rest_elsewhere : (chip : List NodeRecord) (es : List Event) (i : ℕ) (last : List NodeRecord) (ts : List (EventWithLook × MadeEventOutcome)) (m : ℕ) → run_events chip es ≡ Some (last, ts)
    → count_touching_events m (rest (causes ts) i) ≡ count_touching_events m (causes ts) → Elsewhere chip last m (events_of_causes (rest (causes ts) i))
rest_elsewhere chip [] i last ts m h count =
    let p : (chip, []) ≡ (last, ts) = same_Some _ _ h in
    subst (λ z. Elsewhere chip last m (events_of_causes (rest (causes z) i))) (ap (λ (z : List NodeRecord × List (EventWithLook × MadeEventOutcome)). z.1) p)
    (record { now = chip; told = []; run_is = refl; same = ap (λ (z : List NodeRecord × List (EventWithLook × MadeEventOutcome)). node_record_at z.0 m) (sym p) })
rest_elsewhere chip (e ∷ es) zero last ts m h count =
    let f = first_of_run chip e es last ts h in
    let k : count_touching_events m (kept (event_with_look_touches_node (event_with_look_on_chip chip e)) (causes f.others)) ≡ count_touching_events m (event_with_look_on_chip chip e ∷ causes f.others) = subst (λ z. count_touching_events m (rest (causes z) zero) ≡ count_touching_events m (causes z)) f.all count in
    let less = fewer m (dependent_flags_from_marks (event_with_look_touches_node (event_with_look_on_chip chip e)) (causes f.others)) (causes f.others) in
    let cons = count_touching_events-cons m (event_with_look_on_chip chip e) (causes f.others) in
    let no : event_with_look_touches_node (event_with_look_on_chip chip e) m ≡ false = not_it (event_with_look_touches_node (event_with_look_on_chip chip e) m) _ _ less (k ∙ cons) in
    subst (λ z. Elsewhere chip last m (events_of_causes (rest (causes z) zero))) (sym f.all)
    (kept_elsewhere (event_with_look_touches_node (event_with_look_on_chip chip e)) es f.mid chip last f.others m (AgreeOutsideMarks-sym (event_with_look_touches_node (event_with_look_on_chip chip e)) chip f.mid (keeps_of chip e f.mid f.told f.first)) no f.then
    (same_count (event_with_look_touches_node (event_with_look_on_chip chip e) m) _ _ no (k ∙ cons)))
rest_elsewhere chip (e ∷ es) (suc i) last ts m h count =
    let f = first_of_run chip e es last ts h in
    let k : count_touching_events m (event_with_look_on_chip chip e ∷ rest (causes f.others) i) ≡ count_touching_events m (event_with_look_on_chip chip e ∷ causes f.others) = subst (λ z. count_touching_events m (rest (causes z) (suc i)) ≡ count_touching_events m (causes z)) f.all count in
    let cons = count_touching_events-cons m (event_with_look_on_chip chip e) (causes f.others) in
    let cons2 = count_touching_events-cons m (event_with_look_on_chip chip e) (rest (causes f.others) i) in
    let g = rest_elsewhere f.mid es i last f.others m f.then (omega arith) in
    subst (λ z. Elsewhere chip last m (events_of_causes (rest (causes z) (suc i)))) (sym f.all)
    (record { now = g.now; told = _; run_is = run_more chip e (events_of_causes (rest (causes f.others) i)) f.mid g.now f.told g.told f.first g.run_is; same = g.same })

-- in the machine
pub rollback_leaves_other_nodes : (s : MachineState) (n k m : ℕ) → IsSome (replay s.load s.kept) → count_steps m (state_after_rewind s n k).kept ≡ count_steps m s.kept
    → node_record_at (chip_of_machine (state_after_rewind s n k)) m ≡ node_record_at (chip_of_machine s) m
rollback_leaves_other_nodes s n k m some count = go (position_of_step (machine_events_with_looks s) n k) refl
  where
    go : (o : Option ℕ) → position_of_step (machine_events_with_looks s) n k ≡ o → node_record_at (chip_of_machine (state_after_rewind s n k)) m ≡ node_record_at (chip_of_machine s) m
    go None is = ap (λ (o : Option ℕ). node_record_at (unwrap_or (replay s.load (events_of_causes (remaining_events_or_all (machine_events_with_looks s) o))) []) m) is
        ∙ ap (λ z. node_record_at (unwrap_or (replay s.load z) []) m) (replayed s some)
    go (Some i) is =
        let r : Runs s = runs_of s some in
        let told : machine_events_with_looks s ≡ causes r.told = ap (λ o. causes (run_events_with_outcomes o)) r.run_is in
        let here : (state_after_rewind s n k).kept ≡ events_of_causes (rest (causes r.told) i) = ap (λ (o : Option ℕ). events_of_causes (remaining_events_or_all (machine_events_with_looks s) o)) is ∙ ap (λ z. events_of_causes (rest z i)) told in
        let there : s.kept ≡ events_of_causes (causes r.told) = sym (replayed s some) ∙ ap events_of_causes told in
        let c : count_touching_events m (rest (causes r.told) i) ≡ count_touching_events m (causes r.told) =
        touching_in m (rest (causes r.told) i) ∙ ap (count_steps m) (sym here) ∙ count ∙ ap (count_steps m) there ∙ sym (touching_in m (causes r.told)) in
        let e = rest_elsewhere s.load s.kept i r.last r.told m r.run_is c in
        ap (λ z. node_record_at (unwrap_or (replay s.load z) []) m) here
        ∙ ap (λ (o : Option (List NodeRecord × List (EventWithLook × MadeEventOutcome))). node_record_at (unwrap_or (option_map (λ (x : List NodeRecord × List (EventWithLook × MadeEventOutcome)). x.0) o) []) m) e.run_is
        ∙ sym e.same ∙ ap (λ z. node_record_at z m) (sym (chip_is s r))
