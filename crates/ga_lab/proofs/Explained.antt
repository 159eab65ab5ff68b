-- What `why` finds in machines that differ in the order of independent events alone.
use Rattle.std.proofs.Common.{◌≡◌, ℕ, ◌↔◌, Bool, false, ◌&&◌, List, Some, None, Ok, Err, refl, sym, ◌∙◌, ap, ap₂, subst, ⊎_elim}
use Rattle.std.specs.Prelude.{Option, Result, IsSome, nat_le}
use Rattle.std.proofs.lemmas.Bool.{cases_Bool, and_parts}
use Rattle.ga_event.specs.declared.event.Event.{Event}
use Rattle.ga_event.specs.declared.event.EventWithLook.{EventWithLook}
use Rattle.ga_event.specs.Apply.{replay}
use Rattle.ga_causal.specs.declared.chain.ChainLink.{ChainLink}
use Rattle.ga_causal.specs.Chains.{IsChain, IsChainAnswer, chain_from_cause}
use Rattle.ga_causal.specs.Equivalence.{AreEquivalentLists}
use Rattle.ga_causal.specs.Dependence.{position_of_step}
use Rattle.ga_causal.proofs.ChainOf.{chain_chain, chain_found}
use Rattle.ga_causal.proofs.Consistent.{shuffled_by}
use Rattle.ga_causal.proofs.Moved.{Again, chain_again}
use Rattle.ga_causal.proofs.LocalHistories.{count_touching_events}
use Rattle.ga_causal.proofs.Runs.{causes}
use Rattle.ga_lab.specs.declared.fault.LabFault.{LabFault}
use Rattle.ga_lab.specs.declared.fault.LabFault.TheVariants.{NoStep}
use Rattle.ga_lab.specs.Machine.{MachineState, machine_events_with_looks, has_step, state_after_rewind, chain_between, why_answer}
use Rattle.ga_lab.specs.Calls.{AreEquivalentStates}
use Rattle.ga_lab.proofs.Alike.{Both, both_run, alike_is, equivalent_steps, same_rewind}
use Rattle.ga_lab.proofs.Called.{with_kept, causes_is, runs_some}
use Rattle.ga_lab.proofs.Reasoned.{replayed, rollback_iff_chain}
use Rattle.ga_lab.proofs.Explaining.{no_cause, no_effect}

-- a step exists in both or in neither
stands_alike : (s z : MachineState) (n k : ℕ) → AreEquivalentStates s z → has_step s n k ≡ has_step z n k
stands_alike s z n k a = ap (λ (x : ℕ). nat_le 1 k && nat_le k x) (equivalent_steps n s.load s.kept z.kept a.kept)

alike_runs : (s z : MachineState) → IsSome (replay s.load s.kept) → AreEquivalentStates s z → IsSome (replay z.load z.kept)
alike_runs s z some a =
    subst (λ (x : MachineState). IsSome (replay x.load x.kept)) (alike_is s z a) (runs_some (with_kept s z.kept) ((both_run s z.kept some a.kept).there))

-- `why` refuses if one of the two steps doesn't exist
abbrev why : Bool → Bool → Result (Option (List ChainLink)) LabFault → Type 0
why a b answer = ((a && b) ≡ false) → answer ≡ Err NoStep

refuses : (s : MachineState) (n k m j : ℕ) → IsSome (replay s.load s.kept) → why (has_step s n k) (has_step s m j) (why_answer s n k m j)
refuses s n k m j some h = ⊎_elim
    (λ t. no_effect s n k m j (replayed s some) (subst (λ z. (z && has_step s m j) ≡ false) t h))
    (λ f. no_cause s n k m j (replayed s some) f)
    (cases_Bool (has_step s n k))

no_link : (answer : Result (Option (List ChainLink)) LabFault) → answer ≡ Err NoStep → answer ≡ Ok None → ⊥
no_link answer h k = let q : Err NoStep ≡ Ok None = sym h ∙ k in absurd (cc)

pub same_none : (s z : MachineState) (n k m j : ℕ) → IsSome (replay s.load s.kept) → AreEquivalentStates s z → (why_answer s n k m j ≡ Ok None) ↔ (why_answer z n k m j ≡ Ok None)
same_none s z n k m j some a = ⊎_elim
    (λ t. let p = and_parts (has_step s n k) (has_step s m j) t in
    let x = rollback_iff_chain s n k m j some p.0 p.1 in
    let y = rollback_iff_chain z n k m j there (sym cause ∙ p.0) (sym effect ∙ p.1) in
    (λ h. y.1 (sym left ∙ x.0 h), λ h. x.1 (left ∙ y.0 h)))
    (λ f. (
      λ h. absurd (no_link (why_answer s n k m j) (refuses s n k m j some f) h),
      λ h. absurd (no_link (why_answer z n k m j) (refuses z n k m j there (ap₂ (λ (u v : Bool). u && v) (sym cause) (sym effect) ∙ f)) h),
    ))
    (cases_Bool (has_step s n k && has_step s m j))
  where
    there : IsSome (replay z.load z.kept)
    there = alike_runs s z some a

    cause : has_step s n k ≡ has_step z n k
    cause = stands_alike s z n k a

    effect : has_step s m j ≡ has_step z m j
    effect = stands_alike s z m j a

    left : has_step (state_after_rewind s n k) m j ≡ has_step (state_after_rewind z n k) m j
    left = stands_alike (state_after_rewind s n k) (state_after_rewind z n k) m j ((same_rewind s z n k some a).1)

-- a chain that is returned is a chain
chain_told : (es : List EventWithLook) (n k m j : ℕ) (links : List ChainLink) → chain_between es (position_of_step es n k) (position_of_step es m j) ≡ Ok (Some links) → IsChain es links
chain_told es n k m j links h = go (position_of_step es n k) (position_of_step es m j) (λ i is. (count_touching_events es n k i is).0) h
  where
    go : (o p : Option ℕ) → ((i : ℕ) → o ≡ Some i → Rattle.std.specs.Prelude.◌<◌ i (Rattle.std.specs.Prelude.length es))
        → chain_between es o p ≡ Ok (Some links) → IsChain es links
    go None p x k = absurd (cc)
    go (Some i) None x k = absurd (cc)
    go (Some i) (Some q) x k =
        let is : chain_from_cause es i q ≡ Some links = cc in
        chain_chain es i q links (x i refl) (subst (IsChainAnswer es i q) is (chain_found es i q (x i refl)))

chain_alike : (s : MachineState) (ys : List Event) (n k m j : ℕ) (links : List ChainLink) → IsSome (replay s.load s.kept) → AreEquivalentLists s.load s.kept ys
    → why_answer s n k m j ≡ Ok (Some links) → Again (machine_events_with_looks s) (machine_events_with_looks (with_kept s ys)) links
chain_alike s ys n k m j links some e h =
    let b : Both s ys = both_run s ys some e in
    let c : IsChain (causes b.here.told) links = subst (λ z. IsChain z links) (causes_is s b.here) (chain_told (machine_events_with_looks s) n k m j links h) in
    subst (λ z. Again z (machine_events_with_looks (with_kept s ys)) links) (sym (causes_is s b.here))
    (subst (λ z. Again (causes b.here.told) z links) (sym (causes_is (with_kept s ys) b.there))
    (chain_again (causes b.here.told) (causes b.there.told) links
    (shuffled_by s.load b.here.last b.there.last s.kept ys b.here.told b.there.told b.here.run_is b.there.run_is e) c))

pub same_chain : (s z : MachineState) (n k m j : ℕ) (links : List ChainLink) → IsSome (replay s.load s.kept) → AreEquivalentStates s z → why_answer s n k m j ≡ Ok (Some links) → Again (machine_events_with_looks s) (machine_events_with_looks z) links
same_chain s z n k m j links some a h = subst (λ (x : MachineState). Again (machine_events_with_looks s) (machine_events_with_looks x) links) (alike_is s z a) (chain_alike s z.kept n k m j links some a.kept h)
