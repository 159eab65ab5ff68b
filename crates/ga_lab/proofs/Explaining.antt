-- A chain of causes, as the events of its links.
use Rattle.std.proofs.Common.{◌≡◌, ℕ, zero, suc, ◌+◌, ◌<◌, List, [], ◌∷◌, length, map, All, Some, None, Ok, Err, refl, sym, ◌∙◌, ap, subst, arith, ◌⊎◌, inl, inr, ◌≤◌, true, false, ◌&&◌, ◌↔◌, ⊎_elim, ◌-◌, ◌++◌, drop, length-drop}
use Rattle.std.specs.Prelude.{Option, slice_index, IsOk, Result, is_some, is_ok, nat_le, nat_lt}
use Rattle.std.specs.List.Sorted.{IsStrictlyIncreasing}
use Rattle.std.proofs.lemmas.List.{length-map, length-append}
use Rattle.std.proofs.lemmas.List.Elements.{All-nil, All-cons}
use Rattle.ga_event.specs.declared.event.EventWithLook.{EventWithLook}
use Rattle.ga_node.specs.Record.{NodeState}
use Rattle.ga_event.specs.Apply.{MadeEventOutcome}
use Rattle.ga_event.specs.Told.{made_event_at_place, count_steps}
use Rattle.ga_causal.specs.declared.chain.ChainLink.{ChainLink}
use Rattle.ga_causal.specs.Dependence.{position_of_step}
use Rattle.ga_causal.specs.Chains.{IsChainAnswer, AreNextChainLinks, IsChain, chain_from_cause}
use Rattle.ga_causal.proofs.ChainOf.{chain_chain, chain_found, chain_is, place_later}
use Rattle.ga_causal.proofs.Places.{place_step, place_stands, place-zero, touching_in, on_by, place_split, place_more}
use Rattle.ga_journal.specs.Histories.{JournalState}
use Rattle.ga_journal.specs.Events.{kept_events_with_outcomes, journal_events}
use Rattle.ga_lab.specs.declared.fault.LabFault.TheVariants.{Memory, NoStep}
use Rattle.ga_lab.specs.inner.LabInvariant.{AreHistoriesOfChip, state_of}
use Rattle.ga_lab.proofs.Replays.{told_tied, causes_tied, IsReplayed}
use Rattle.ga_lab.specs.Machine.{MachineState, machine_events_with_outcomes, machine_events_with_looks, chain_between, has_step, why_answer}
use Rattle.std.proofs.lemmas.Bool.{cases_lt, leb-true, le-leb, lt-leb, lt-ltb, le-ltb, cases_Bool, both_ways, and_from, and_right, and_parts, and_cases}
use Rattle.ga_causal.specs.Steps.{count_touching_events}
use Rattle.ga_lab.specs.declared.fault.LabFault.{LabFault}
use Rattle.std.proofs.Math.Seq.{drop-append_seam}
use Rattle.ga_journal.specs.Logs.{AreEventsSinceStep}
use Rattle.ga_causal.proofs.OldestEventPlaces.{DependsOn-order}

abbrev pub places : List ChainLink → List ℕ
places links = map (λ (link : ChainLink). link.place) links

-- the places of a chain rise
linked_rise : (es : List EventWithLook) (before : ℕ) (links : List ChainLink) → AreNextChainLinks es before links → IsStrictlyIncreasing (before ∷ places links)
linked_rise es before [] h k l = absurd (omega (arith, l))
linked_rise es before (x ∷ xs) h zero l = h.0.0.before
linked_rise es before (x ∷ xs) h (suc k) l =
    subst (λ (n : ℕ). slice_index (x.place ∷ places xs) k < slice_index (before ∷ x.place ∷ places xs) n) (let q : suc (k + 1) ≡ suc k + 1 = omega arith in q)
    (linked_rise es x.place xs h.1 k (omega (arith, l)))

pub chain_rises : (es : List EventWithLook) (links : List ChainLink) → IsChain es links → IsStrictlyIncreasing (places links)
chain_rises es [] h = absurd h
chain_rises es (first ∷ links) h = linked_rise es first.place links h.2

-- and are those of the list
linked_within : (es : List EventWithLook) (before : ℕ) (links : List ChainLink) → AreNextChainLinks es before links → All (λ (place : ℕ). place < length es) (places links)
linked_within es before [] h = All-nil (λ (place : ℕ). place < length es)
linked_within es before (x ∷ xs) h = All-cons (λ (place : ℕ). place < length es) x.place (places xs) h.0.0.within (linked_within es x.place xs h.1)

pub chain_within : (es : List EventWithLook) (links : List ChainLink) → IsChain es links → All (λ (place : ℕ). place < length es) (places links)
chain_within es [] h = absurd h
chain_within es (first ∷ links) h = All-cons (λ (place : ℕ). place < length es) first.place (places links) h.0 (linked_within es first.place links h.2)

-- the events at its places
told_places : (told : List (EventWithLook × MadeEventOutcome)) (links : List ChainLink) → map (made_event_at_place told) (places links) ≡ map (λ (link : ChainLink). made_event_at_place told link.place) links
told_places told [] = refl
told_places told (x ∷ xs) = ap (λ z. made_event_at_place told x.place ∷ z) (told_places told xs)

-- a chain that is answered is one
found_links : (es : List EventWithLook) (i q : ℕ) (links : List ChainLink) → i < length es → chain_from_cause es i q ≡ Some links → IsChain es links
found_links es i q links l is = chain_chain es i q links l (subst (λ z. IsChainAnswer es i q z) is (chain_found es i q l))

same_found : (es : List EventWithLook) (i q : ℕ) (links : List ChainLink) → Ok (Some links) ≡ chain_between es (Some i) (Some q) → chain_from_cause es i q ≡ Some links
same_found es i q links h = cc

answered_chain : (es : List EventWithLook) (n k m j : ℕ) (links : List ChainLink) → Ok (Some links) ≡ chain_between es (position_of_step es n k) (position_of_step es m j) → IsChain es links
answered_chain es n k m j links h = go (position_of_step es n k) (position_of_step es m j) refl h
  where
    go : (a b : Option ℕ) → position_of_step es n k ≡ a → Ok (Some links) ≡ chain_between es a b → IsChain es links
    go None b at h = absurd (cc)
    go (Some i) None at h = absurd (cc)
    go (Some i) (Some q) at h = found_links es i q links (place_step es n k i at).within (same_found es i q links h)

pub answered : (es : List EventWithLook) (n k m j : ℕ) (links : List ChainLink)
    → (Ok (Some links) ≡ chain_between es (position_of_step es n k) (position_of_step es m j)) ⊎ ((Ok (Some links) ≡ Err Memory) × IsOk (chain_between es (position_of_step es n k) (position_of_step es m j)))
    → IsChain es links
answered es n k m j links (inl h) = answered_chain es n k m j links h
answered es n k m j links (inr h) = absurd (let bad = h.0 in cc)

-- there are as many causes as events of the history
pub kept_long : (chip : List NodeState) (book : JournalState) (s : MachineState) → AreHistoriesOfChip chip book → state_of chip book ≡ s → length (machine_events_with_looks s) ≡ length (kept_events_with_outcomes book)
kept_long chip book s tied is =
    ap (λ (z : MachineState). length (machine_events_with_looks z)) (sym is) ∙ ap length (causes_tied chip book tied) ∙ length-map (kept_events_with_outcomes book) (λ (x : EventWithLook × MadeEventOutcome). x.0)

pub told_links : (chip : List NodeState) (book : JournalState) (s : MachineState) (links : List ChainLink) → AreHistoriesOfChip chip book → state_of chip book ≡ s
    → map (made_event_at_place (kept_events_with_outcomes book)) (places links) ≡ map (λ (link : ChainLink). made_event_at_place (machine_events_with_outcomes s) link.place) links
told_links chip book s links tied is =
    ap (λ t. map (made_event_at_place t) (places links)) (sym (told_tied chip book tied)) ∙ ap (λ (z : MachineState). map (made_event_at_place (machine_events_with_outcomes z)) (places links)) is
    ∙ told_places (machine_events_with_outcomes s) links

-- ---- why a step came about

-- a step exists exactly if it has a place
stands_suc : (n k steps : ℕ) → nat_lt k steps ≡ (nat_le 1 (suc k) && nat_le (suc k) steps)
stands_suc n k steps = ⊎_elim
    (λ l. lt-ltb k steps l ∙ sym (and_from (nat_le 1 (suc k)) (nat_le (suc k) steps) (le-leb 1 (suc k) (omega arith)) (le-leb (suc k) steps (omega arith))))
    (λ l. le-ltb k steps l ∙ sym (and_right (nat_le 1 (suc k)) (nat_le (suc k) steps) (lt-leb (suc k) steps (omega arith))))
    (cases_lt k steps)

pub step_has_position : (s : MachineState) (n k : ℕ) → IsReplayed s → is_some (position_of_step (machine_events_with_looks s) n k) ≡ has_step s n k
step_has_position s n zero same = ap is_some (place-zero (machine_events_with_looks s) n)
step_has_position s n (suc k) same =
    place_stands (machine_events_with_looks s) n k ∙ stands_suc n k (count_touching_events n (machine_events_with_looks s))
    ∙ ap (λ z. nat_le 1 (suc k) && nat_le (suc k) z) (touching_in n (machine_events_with_looks s) ∙ ap (count_steps n) same)

no_place : (o : Option ℕ) → is_some o ≡ false → o ≡ None
no_place None h = refl
no_place (Some i) h = absurd (cc)

pub place_none : (s : MachineState) (n k : ℕ) → IsReplayed s → has_step s n k ≡ false → position_of_step (machine_events_with_looks s) n k ≡ None
place_none s n k same h = no_place (position_of_step (machine_events_with_looks s) n k) (step_has_position s n k same ∙ h)

-- what the journal counts
pub stands_read : (chip : List NodeState) (book : JournalState) (n k steps : ℕ) → 1 ≤ k → steps ≡ count_steps n (journal_events book) → nat_le k steps ≡ has_step (state_of chip book) n k
unfolding state_of
stands_read chip book n k steps some is =
    ap (nat_le k) is ∙ ap (λ z. z && nat_le k (count_steps n (journal_events book))) (sym (le-leb 1 k some))

-- if one of the steps doesn't exist
pub no_cause : (s : MachineState) (n k m j : ℕ) → IsReplayed s → has_step s n k ≡ false → why_answer s n k m j ≡ Err NoStep
no_cause s n k m j same h = ap (λ (o : Option ℕ). chain_between (machine_events_with_looks s) o (position_of_step (machine_events_with_looks s) m j)) (place_none s n k same h)

to_none : (causes : List EventWithLook) (o : Option ℕ) → chain_between causes o None ≡ Err NoStep
to_none causes None = refl
to_none causes (Some i) = refl

pub no_effect : (s : MachineState) (n k m j : ℕ) → IsReplayed s → has_step s m j ≡ false → why_answer s n k m j ≡ Err NoStep
no_effect s n k m j same h =
    ap (chain_between (machine_events_with_looks s) (position_of_step (machine_events_with_looks s) n k)) (place_none s m j same h) ∙ to_none (machine_events_with_looks s) (position_of_step (machine_events_with_looks s) n k)

-- if both exist
ok_between : (causes : List EventWithLook) (a b : Option ℕ) → is_some a ≡ true → is_some b ≡ true → IsOk (chain_between causes a b)
ok_between causes None b h k = absurd (cc)
ok_between causes (Some i) None h k = absurd (cc)
ok_between causes (Some i) (Some q) h k = refl

pub reasoned : (s : MachineState) (n k m j : ℕ) → IsReplayed s → has_step s n k ≡ true → has_step s m j ≡ true → IsOk (why_answer s n k m j)
reasoned s n k m j same h g =
    ok_between (machine_events_with_looks s) (position_of_step (machine_events_with_looks s) n k) (position_of_step (machine_events_with_looks s) m j) (step_has_position s n k same ∙ h) (step_has_position s m j same ∙ g)

-- it is refused exactly where one doesn't
pub unreasoned : (s : MachineState) (n k m j : ℕ) → IsReplayed s → (has_step s n k && has_step s m j) ≡ false → why_answer s n k m j ≡ Err NoStep
unreasoned s n k m j same f = ⊎_elim (no_cause s n k m j same) (no_effect s n k m j same) (and_cases (has_step s n k) (has_step s m j) f)

abbrev pub Answers : MachineState → ℕ → ℕ → ℕ → ℕ → Result (Option (List ChainLink)) LabFault → Type 0
Answers s n k m j result = (result ≡ why_answer s n k m j) ⊎ ((result ≡ Err Memory) × IsOk (why_answer s n k m j))

fails : (s : MachineState) (n k m j : ℕ) (result : Result (Option (List ChainLink)) LabFault) → Answers s n k m j result → result ≡ Err NoStep → IsOk (why_answer s n k m j) → ⊥
fails s n k m j result (inl w) e o = let q : is_ok (why_answer s n k m j) ≡ false = ap is_ok (sym w ∙ e) in both_ways (is_ok (why_answer s n k m j)) q o
fails s n k m j result (inr w) e o = let q : Err Memory ≡ Err NoStep = sym (w.0) ∙ e in absurd (cc)

refuses : (s : MachineState) (n k m j : ℕ) (result : Result (Option (List ChainLink)) LabFault) → IsReplayed s → Answers s n k m j result → (has_step s n k && has_step s m j) ≡ false → result ≡ Err NoStep
refuses s n k m j result same (inl w) f = w ∙ unreasoned s n k m j same f
refuses s n k m j result same (inr w) f =
    absurd (both_ways (is_ok (why_answer s n k m j)) (let q : is_ok (why_answer s n k m j) ≡ false = ap is_ok (unreasoned s n k m j same f) in q) w.1)

pub why_refused : (s : MachineState) (n k m j : ℕ) (result : Result (Option (List ChainLink)) LabFault) → IsReplayed s → Answers s n k m j result → (result ≡ Err NoStep) ↔ ((has_step s n k && has_step s m j) ≡ false)
why_refused s n k m j result same h = (
  λ e. ⊎_elim
      (λ t. let p = and_parts (has_step s n k) (has_step s m j) t in absurd (fails s n k m j result h e (reasoned s n k m j same p.0 p.1)))
      (λ f. f)
      (cases_Bool (has_step s n k && has_step s m j)),
  λ f. refuses s n k m j result same h f,
)

-- a step that exists is counted from 1 on, and its node has made at least this number of steps
pub stands_counted : (s : MachineState) (n k : ℕ) → has_step s n k ≡ true → 0 < k
stands_counted s n k h = leb-true 1 k (and_parts (nat_le 1 k) (nat_le k (count_steps n s.kept)) h).0

pub stands_kept : (chip : List NodeState) (book : JournalState) (n k : ℕ) → has_step (state_of chip book) n k ≡ true → k ≤ count_steps n (journal_events book)
unfolding state_of
stands_kept chip book n k h = leb-true k (count_steps n (journal_events book)) (and_parts (nat_le 1 k) (nat_le k (count_steps n (journal_events book))) h).1

-- ---- the chain from a step, read off the events from there on

-- the last events of the list, and how many there are of all
pub tail_is : (all : List EventWithLook) (n k m : ℕ) (causes : List EventWithLook) (before steps : ℕ) → AreEventsSinceStep all n k m causes before steps → drop before all ≡ causes
tail_is all n k m causes before steps s =
    ap (λ z. drop before z) (sym s.parts) ∙ ap (λ (z : ℕ). drop z (s.earlier ++ causes)) (sym s.count) ∙ drop-append_seam s.earlier causes

some_more : (all : List EventWithLook) (n k m : ℕ) (causes : List EventWithLook) (before steps : ℕ) → AreEventsSinceStep all n k m causes before steps → before < length all
some_more all n k m causes before steps s =
    let a : length (s.earlier ++ causes) ≡ length all = ap length s.parts in
    let b : length (s.earlier ++ causes) ≡ length s.earlier + length causes = length-append s.earlier causes in
    let d : length causes ≡ suc (length s.later) = ap length s.begins in
    let e : length s.earlier ≡ before = s.count in
    omega (arith, a, b, d, e)

-- the place of the first
cause_place : (all : List EventWithLook) (n k m : ℕ) (causes : List EventWithLook) (before steps : ℕ) → AreEventsSinceStep all n k m causes before steps → position_of_step all n k ≡ Some before
cause_place all n k m causes before steps s =
    let t = touching_in n s.earlier in
    let q = s.number in
    subst (λ z. position_of_step z n k ≡ Some before) (ap (λ z. s.earlier ++ z) (sym s.begins) ∙ s.parts)
    (subst (λ (z : ℕ). position_of_step (s.earlier ++ s.first ∷ s.later) n z ≡ Some before) (numbered (count_touching_events n s.earlier) k (ap (λ (z : ℕ). z + 1) t ∙ q))
    (place_split n (count_touching_events n s.earlier) s.earlier s.first s.later refl s.is_step ∙ ap Some s.count))
  where
    numbered : (a b : ℕ) → a + 1 ≡ b → suc a ≡ b
    numbered a b h = omega arith

-- a step that is among the last events
effect_later : (all : List EventWithLook) (n k m j : ℕ) (causes : List EventWithLook) (before steps : ℕ) → AreEventsSinceStep all n k m causes before steps → steps < j → position_of_step all m j ≡ on_by before (position_of_step causes m (j - steps))
effect_later all n k m j causes before steps s l =
    let t : count_touching_events m s.earlier ≡ steps = touching_in m s.earlier ∙ s.others in
    ap (λ z. position_of_step z m j) (sym s.parts) ∙ place_later m j s.earlier causes (subst (λ (z : ℕ). z < j) (sym t) l)
    ∙ ap (λ (z : ℕ). on_by (length s.earlier) (position_of_step causes m (j - z))) t ∙ ap (λ (z : ℕ). on_by z (position_of_step causes m (j - steps))) s.count

-- one that comes before them
record IsEarlier (all : List EventWithLook) (m j before : ℕ) : Type 0 where
  place : ℕ
  is : position_of_step all m j ≡ Some place
  early : place < before

found_at : (all earlier : List EventWithLook) (m j : ℕ) (o : Option ℕ) → is_some o ≡ true → position_of_step earlier m j ≡ o → position_of_step all m j ≡ o → IsEarlier all m j (length earlier)
found_at all earlier m j None h p q = absurd (cc)
found_at all earlier m j (Some i) h p q = record { place = i; is = q; early = (place_step earlier m j i p).within }

effect_earlier : (all : List EventWithLook) (n k m j : ℕ) (causes : List EventWithLook) (before steps : ℕ) → AreEventsSinceStep all n k m causes before steps → 0 < j → j ≤ steps → IsEarlier all m j before
effect_earlier all n k m zero causes before steps s some l = absurd (omega (arith, some))
effect_earlier all n k m (suc j) causes before steps s some l =
    let t : count_touching_events m s.earlier ≡ steps = touching_in m s.earlier ∙ s.others in
    let below : j < count_touching_events m s.earlier = subst (λ (z : ℕ). j < z) (sym t) (omega (arith, l)) in
    subst (IsEarlier all m (suc j)) s.count
    (found_at all s.earlier m (suc j) (position_of_step s.earlier m (suc j)) (place_stands s.earlier m j ∙ lt-ltb j (count_touching_events m s.earlier) below) refl
    (ap (λ z. position_of_step z m (suc j)) (sym s.parts) ∙ place_more m j s.earlier causes below))

-- it does not depend on the first
pub before_none : (all : List EventWithLook) (n k m j : ℕ) (causes : List EventWithLook) (before steps : ℕ) → AreEventsSinceStep all n k m causes before steps → 0 < j → j ≤ steps
    → Ok None ≡ chain_between all (position_of_step all n k) (position_of_step all m j)
before_none all n k m j causes before steps s some l =
    let e : IsEarlier all m j before = effect_earlier all n k m j causes before steps s some l in
    let early : e.place < before = e.early in
    let more : before < length all = some_more all n k m causes before steps s in
    let none : None ≡ chain_from_cause all before e.place = chain_is all before e.place None more (λ d. let o : before ≤ e.place = DependsOn-order all before e.place d in absurd (omega (arith, o, early))) in
    sym (ap (λ (o : Option ℕ). chain_between all o (position_of_step all m j)) (cause_place all n k m causes before steps s) ∙ ap (λ (o : Option ℕ). chain_between all (Some before) o) e.is ∙ ap Ok (sym none))

-- the answer where the second step has a place among the last events, and where it has none
pub there : (all : List EventWithLook) (n k m j : ℕ) (causes : List EventWithLook) (before steps effect : ℕ) (result : Result (Option (List ChainLink)) LabFault) → AreEventsSinceStep all n k m causes before steps → steps < j → Some effect ≡ position_of_step causes m (j - steps)
    → (result ≡ chain_between all (Some before) (Some (before + effect))) ⊎ (result ≡ Err Memory)
    → (result ≡ chain_between all (position_of_step all n k) (position_of_step all m j)) ⊎ ((result ≡ Err Memory) × IsOk (chain_between all (position_of_step all n k) (position_of_step all m j)))
there all n k m j causes before steps effect result s l at h = ⊎_elim
    (λ w. inl (w ∙ sym is))
    (λ w. inr (w, subst IsOk (sym is) refl))
    h
  where
    is : chain_between all (position_of_step all n k) (position_of_step all m j) ≡ chain_between all (Some before) (Some (before + effect))
    is = ap (λ (o : Option ℕ). chain_between all o (position_of_step all m j)) (cause_place all n k m causes before steps s)
        ∙ ap (λ (o : Option ℕ). chain_between all (Some before) o) (effect_later all n k m j causes before steps s l ∙ ap (on_by before) (sym at))

pub nowhere : (all : List EventWithLook) (n k m j : ℕ) (causes : List EventWithLook) (before steps : ℕ) → AreEventsSinceStep all n k m causes before steps → steps < j → None ≡ position_of_step causes m (j - steps)
    → Err NoStep ≡ chain_between all (position_of_step all n k) (position_of_step all m j)
nowhere all n k m j causes before steps s l at = sym (
    ap (λ (o : Option ℕ). chain_between all o (position_of_step all m j)) (cause_place all n k m causes before steps s)
    ∙ ap (λ (o : Option ℕ). chain_between all (Some before) o) (effect_later all n k m j causes before steps s l ∙ ap (on_by before) (sym at)))

-- the chain that is found in the last events
pub found_chain : (all causes : List EventWithLook) (before effect : ℕ) (found : Option (List ChainLink)) → drop before all ≡ causes → effect < length causes → IsChainAnswer all (before + 0) (before + effect) found
    → Ok found ≡ chain_between all (Some before) (Some (before + effect))
found_chain all causes before effect found is l f =
    let n : length causes ≡ length all - before = ap length (sym is) ∙ length-drop before all in
    ap Ok (chain_is all before (before + effect) found (omega (arith, n, l)) (subst (λ (z : ℕ). IsChainAnswer all z (before + effect) found) (let h : before + 0 ≡ before = omega arith in h) f))
