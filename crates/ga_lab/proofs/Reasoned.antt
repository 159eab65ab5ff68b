-- What `why` explains by a step is what a rollback of that step takes.
use Rattle.std.proofs.Common.{◌≡◌, ℕ, suc, Bool, true, false, List, [], ◌∷◌, Some, None, Ok, refl, sym, ◌∙◌, ap, ◌↔◌, ⊎_elim}
use Rattle.std.specs.Prelude.{Option, Result, map, is_some, IsSome, IsNone, slice_index_or}
use Rattle.std.proofs.lemmas.Bool.{cases_Bool, cond-true, cond-false, both_ways}
use Rattle.ga_event.specs.declared.event.EventWithLook.{EventWithLook}
use Rattle.ga_event.specs.Apply.{MadeEventOutcome, run_events, replay}
use Rattle.ga_causal.specs.declared.chain.ChainLink.{ChainLink}
use Rattle.ga_causal.specs.Dependence.{DependsOn, dependent_flags, unflagged_elements, rest, position_of_step, remaining_events_or_all, events_after_rewind}
use Rattle.ga_event.specs.Told.{events_of_causes}
use Rattle.ga_causal.specs.Chains.{chain_from_cause, chain_links_to_effect}
use Rattle.ga_causal.proofs.Rollbacks.{rewound_twice}
use Rattle.ga_event.specs.declared.event.Event.{Event}
use Rattle.ga_causal.proofs.Runs.{run_rest}
use Rattle.ga_causal.proofs.Exact.{DependsOn_from_flag, flag_from_DependsOn}
use Rattle.ga_causal.proofs.LocalHistories.{count_touching_events, refused_exactly}
use Rattle.ga_lab.specs.declared.fault.LabFault.{LabFault}
use Rattle.ga_lab.specs.Machine.{MachineState, run_events_with_outcomes, machine_events_with_looks, has_step, state_after_rewind, chain_between, why_answer}
use Rattle.ga_lab.proofs.Replays.{IsReplayed}
use Rattle.ga_lab.proofs.Explaining.{step_has_position}
use Rattle.ga_lab.proofs.Called.{events_run, Runs, runs_of}

abbrev pub causes : List (EventWithLook × MadeEventOutcome) → List EventWithLook
causes ts = map (λ (x : EventWithLook × MadeEventOutcome). x.0) ts

causes_without : (flags : List Bool) (ts : List (EventWithLook × MadeEventOutcome)) → causes (unflagged_elements flags ts) ≡ unflagged_elements flags (causes ts)
causes_without [] ts = refl
causes_without (true ∷ flags) [] = refl
causes_without (false ∷ flags) [] = refl
causes_without (true ∷ flags) (x ∷ ts) = causes_without flags ts
causes_without (false ∷ flags) (x ∷ ts) = ap (λ z. x.0 ∷ z) (causes_without flags ts)

-- a machine whose list can be replayed
pub replayed : (s : MachineState) → IsSome (replay s.load s.kept) → IsReplayed s
replayed s some =
    let r : Runs s = runs_of s some in
    ap (λ o. events_of_causes (causes (run_events_with_outcomes o))) r.run_is ∙ events_run s.load r.last s.kept r.told r.run_is

-- the causes that a rollback leaves
pub rewound_causes : (s : MachineState) (n k i : ℕ) → IsSome (replay s.load s.kept) → position_of_step (machine_events_with_looks s) n k ≡ Some i → machine_events_with_looks (state_after_rewind s n k) ≡ rest (machine_events_with_looks s) i
rewound_causes s n k i some is =
    let r : Runs s = runs_of s some in
    let told : machine_events_with_looks s ≡ causes r.told = ap (λ o. causes (run_events_with_outcomes o)) r.run_is in
    let left = run_rest s.load s.kept i r.last r.told r.run_is in
    ap (λ (o : Option ℕ). causes (run_events_with_outcomes (run_events s.load (events_of_causes (remaining_events_or_all (machine_events_with_looks s) o))))) is
    ∙ ap (λ z. causes (run_events_with_outcomes (run_events s.load (events_of_causes (rest z i))))) told
    ∙ ap (λ o. causes (run_events_with_outcomes o)) left.1
    ∙ causes_without (dependent_flags (causes r.told) i) r.told
    ∙ ap (λ z. rest z i) (sym told)

rewound_replayed : (s : MachineState) (n k i : ℕ) → IsSome (replay s.load s.kept) → position_of_step (machine_events_with_looks s) n k ≡ Some i → IsReplayed (state_after_rewind s n k)
rewound_replayed s n k i some is =
    ap events_of_causes (rewound_causes s n k i some is) ∙ ap (λ (o : Option ℕ). events_of_causes (remaining_events_or_all (machine_events_with_looks s) o)) (sym is)

record Found (o : Option ℕ) : Type 0 where
  pub at : ℕ
  pub is : o ≡ Some at

found : (o : Option ℕ) → is_some o ≡ true → Found o
found None h = absurd (cc)
found (Some i) h = record { at = i; is = refl }

none_of : (o : Option ℕ) → IsNone o → is_some o ≡ false
none_of None h = refl
none_of (Some i) h = absurd (cc)

of_none : (o : Option ℕ) → is_some o ≡ false → IsNone o
of_none None h = refl
of_none (Some i) h = absurd (cc)

chain_none : (es : List EventWithLook) (i q : ℕ) → slice_index_or (dependent_flags es i) q false ≡ false → chain_from_cause es i q ≡ None
unfolding chain_from_cause
chain_none es i q h = cond-false (slice_index_or (dependent_flags es i) q false) (Some (chain_links_to_effect (suc q) es i q)) None h

chain_some : (es : List EventWithLook) (i q : ℕ) → slice_index_or (dependent_flags es i) q false ≡ true → chain_from_cause es i q ≡ Some (chain_links_to_effect (suc q) es i q)
unfolding chain_from_cause
chain_some es i q h = cond-true (slice_index_or (dependent_flags es i) q false) (Some (chain_links_to_effect (suc q) es i q)) None h

apart : (es : List EventWithLook) (i q : ℕ) (w : Result (Option (List ChainLink)) LabFault) → w ≡ Ok (chain_from_cause es i q) → slice_index_or (dependent_flags es i) q false ≡ true → w ≡ Ok None → ⊥
apart es i q w is t h = let p : Ok (Some (chain_links_to_effect (suc q) es i q)) ≡ Ok None = ap Ok (sym (chain_some es i q t)) ∙ sym is ∙ h in absurd (cc)

explained : (es : List EventWithLook) (n k m j i q : ℕ) (w : Result (Option (List ChainLink)) LabFault) (b : Bool) → position_of_step es n k ≡ Some i → position_of_step es m j ≡ Some q
    → w ≡ Ok (chain_from_cause es i q) → b ≡ is_some (position_of_step (rest es i) m j) → (w ≡ Ok None) ↔ (b ≡ true)
explained es n k m j i q w b at to is there = ⊎_elim
    (λ t. let gone : b ≡ false = there ∙ none_of (position_of_step (rest es i) m j) ((refused_exactly es n k m j i q at to).1 (DependsOn_from_flag es i q (count_touching_events es m j q to).0 t)) in
    (λ h. absurd (apart es i q w is t h), λ h. absurd (both_ways b gone h)))
    (λ f. let stays : is_some (position_of_step (rest es i) m j) ≡ true = ⊎_elim
    (λ y. y)
    (λ z. let d : DependsOn es i q = (refused_exactly es n k m j i q at to).0 (of_none (position_of_step (rest es i) m j) z) in
    absurd (both_ways (slice_index_or (dependent_flags es i) q false) f (flag_from_DependsOn es i q (count_touching_events es n k i at).0 d)))
    (cases_Bool (is_some (position_of_step (rest es i) m j))) in
    (λ h. there ∙ stays, λ h. is ∙ ap Ok (chain_none es i q f)))
    (cases_Bool (slice_index_or (dependent_flags es i) q false))

pub rollback_iff_chain : (s : MachineState) (n k m j : ℕ) → IsSome (replay s.load s.kept) → has_step s n k ≡ true → has_step s m j ≡ true
    → (why_answer s n k m j ≡ Ok None) ↔ (has_step (state_after_rewind s n k) m j ≡ true)
rollback_iff_chain s n k m j some h g =
    let same : IsReplayed s = replayed s some in
    let a : Found (position_of_step (machine_events_with_looks s) n k) = found (position_of_step (machine_events_with_looks s) n k) (step_has_position s n k same ∙ h) in
    let b : Found (position_of_step (machine_events_with_looks s) m j) = found (position_of_step (machine_events_with_looks s) m j) (step_has_position s m j same ∙ g) in
    explained (machine_events_with_looks s) n k m j a.at b.at (why_answer s n k m j) (has_step (state_after_rewind s n k) m j) a.is b.is
    (ap (λ (o : Option ℕ). chain_between (machine_events_with_looks s) o (position_of_step (machine_events_with_looks s) m j)) a.is ∙ ap (λ (o : Option ℕ). chain_between (machine_events_with_looks s) (Some a.at) o) b.is)
    (sym (step_has_position (state_after_rewind s n k) m j (rewound_replayed s n k a.at some a.is)) ∙ ap (λ z. is_some (position_of_step z m j)) (rewound_causes s n k a.at some a.is))

-- the causes after a rollback, whether the step exists or not
pub rewound_list_causes : (s : MachineState) (n k : ℕ) → IsSome (replay s.load s.kept) → machine_events_with_looks (state_after_rewind s n k) ≡ events_after_rewind (machine_events_with_looks s) n k
rewound_list_causes s n k some = go (position_of_step (machine_events_with_looks s) n k) refl
  where
    go : (o : Option ℕ) → position_of_step (machine_events_with_looks s) n k ≡ o → machine_events_with_looks (state_after_rewind s n k) ≡ events_after_rewind (machine_events_with_looks s) n k
    go (Some i) is = rewound_causes s n k i some is ∙ ap (remaining_events_or_all (machine_events_with_looks s)) (sym is)
    go None is =
        ap (λ (o : Option ℕ). causes (run_events_with_outcomes (run_events s.load (events_of_causes (remaining_events_or_all (machine_events_with_looks s) o))))) is
        ∙ ap (λ z. causes (run_events_with_outcomes (run_events s.load z))) (replayed s some)
        ∙ ap (remaining_events_or_all (machine_events_with_looks s)) (sym is)

pub machine_rollbacks_commute : (s : MachineState) (n k m j : ℕ) → IsSome (replay s.load s.kept) → state_after_rewind (state_after_rewind s n k) m j ≡ state_after_rewind (state_after_rewind s m j) n k
machine_rollbacks_commute s n k m j some =
    let keep : List Event → MachineState = λ z. record s { kept = z } in
    ap (λ z. keep (events_of_causes (events_after_rewind z m j))) (rewound_list_causes s n k some)
    ∙ ap (λ z. keep (events_of_causes z)) (rewound_twice (machine_events_with_looks s) n k m j)
    ∙ sym (ap (λ z. keep (events_of_causes (events_after_rewind z n k))) (rewound_list_causes s m j some))
