-- Machines that differ in the order of independent events alone.
use Rattle.std.proofs.Common.{◌≡◌, ℕ, suc, ◌+◌, ◌-◌, ◌^◌, cond, List, [], ◌∷◌, length, Some, None, Ok, Err, refl, sym, ◌∙◌, ap, subst, arith}
use Rattle.std.specs.Prelude.{Option, Result, unwrap_or, is_some, IsSome, nat_le}
use Rattle.std.specs.List.{flat_map}
use Rattle.std.proofs.lemmas.List.Sums.{sum_by-cons}
use Rattle.ga_node.specs.declared.kind.EventRefusal.{EventRefusal}
use Rattle.ga_node.specs.Record.{NodeRecord}
use Rattle.ga_node.specs.Table.{register_t, own}
use Rattle.ga_grid.specs.Chip.{node_record_at}
use Rattle.ga_grid.specs.declared.node_id.NodeId.{NodeId}
use Rattle.ga_event.specs.declared.event.Event.{Event}
use Rattle.ga_event.specs.declared.event.Event.TheVariants as event
use Rattle.ga_event.specs.declared.event.EventWithLook.{EventWithLook}
use Rattle.ga_event.specs.Touches.{touches as event_touches}
use Rattle.ga_event.specs.Apply.{neighbour_states, run_events, replay}
use Rattle.ga_event.specs.Next.{next_event_of_node}
use Rattle.ga_causal.specs.Dependence.{rest, position_of_step, remaining_events_or_all, events_after_rewind}
use Rattle.ga_event.specs.Told.{events_of_causes}
use Rattle.ga_causal.specs.Equivalence.{AreEquivalentLists, same, swapped, later, joined, local_history}
use Rattle.ga_causal.proofs.Runs.{causes, replay_equivalent}
use Rattle.ga_causal.proofs.Equivalences.{IsSwapOf}
use Rattle.ga_causal.proofs.Consistent.{kept_alike, same_accounts, shuffled_by, equivalent-append}
use Rattle.ga_causal.proofs.Moved.{rolled_back, rewound_shuffled, length_shuffled, place_shuffled}
use Rattle.ga_event.specs.declared.made.MadeEvent.{MadeEvent}
use Rattle.ga_event.specs.declared.made.MadeEvent.TheVariants as made
use Rattle.ga_event.specs.Told.{count_steps, made_events_of_node}
use Rattle.ga_lab.specs.declared.fault.LabFault.{LabFault}
use Rattle.ga_lab.specs.declared.fault.LabFault.TheVariants.{Full, EventNumbersSpent}
use Rattle.ga_lab.specs.Machine.{MachineState, initial_state, chip_of_machine, run_events_with_outcomes, machine_events_with_looks, made_next_event, answer_to_event, machine_with_event, step_answer, state_unless_refused, state_after_step, count_removed_events, rewind_answer, state_after_rewind, history_of_node}
use Rattle.ga_lab.specs.Calls.{MachineCall, state_after_machine_calls, AreEquivalentStates}
use Rattle.ga_lab.proofs.Stepping.{same_state}
use Rattle.ga_lab.proofs.Told.{made_of, history_accounted}
use Rattle.ga_lab.proofs.Called.{Runs, runs_of, with_kept, told_is, causes_is, first_runs, calls_load}

-- what equivalent lists count
pub equivalent_length : (c : List NodeRecord) (xs ys : List Event) → AreEquivalentLists c xs ys → length xs ≡ length ys
equivalent_length c xs ys same = refl
equivalent_length c xs ys (swapped {e} {f} {xs = zs} h) = refl
equivalent_length c xs ys (later {now} {e} {xs = us} {ys = vs} h k) = ap suc (equivalent_length now us vs k)
equivalent_length c xs ys (joined {ys = zs} h k) = equivalent_length c xs zs h ∙ equivalent_length c zs ys k

steps-cons : (n : ℕ) (e : Event) (es : List Event) → count_steps n (e ∷ es) ≡ cond (event_touches e n) 1 0 + count_steps n es
steps-cons n e es = sum_by-cons (λ (x : Event). cond (event_touches x n) 1 0) e es

pub equivalent_steps : (n : ℕ) (c : List NodeRecord) (xs ys : List Event) → AreEquivalentLists c xs ys → count_steps n xs ≡ count_steps n ys
equivalent_steps n c xs ys same = refl
equivalent_steps n c xs ys (swapped {e} {f} {xs = zs} h) = two _ _ _ _ _ _ _ (steps-cons n e (f ∷ zs)) (steps-cons n f zs) (steps-cons n f (e ∷ zs)) (steps-cons n e zs)
  where
    two : (a b c d e f g : ℕ) → a ≡ b + c → c ≡ d + e → f ≡ d + g → g ≡ b + e → a ≡ f
    two a b c d e f g p q r s = omega arith
equivalent_steps n c xs ys (later {now} {e} {xs = us} {ys = vs} h k) =
    steps-cons n e us ∙ ap (λ (z : ℕ). cond (event_touches e n) 1 0 + z) (equivalent_steps n now us vs k) ∙ sym (steps-cons n e vs)
equivalent_steps n c xs ys (joined {ys = zs} h k) = equivalent_steps n c xs zs h ∙ equivalent_steps n c zs ys k

-- the chip
alike_chip : (s : MachineState) (ys : List Event) → AreEquivalentLists s.load s.kept ys → chip_of_machine s ≡ chip_of_machine (with_kept s ys)
alike_chip s ys h = ap (λ o. unwrap_or o []) (replay_equivalent s.load s.kept ys h)

-- the history of a node
alike_history : (s : MachineState) (ys : List Event) → IsSome (replay s.load s.kept) → AreEquivalentLists s.load s.kept ys → (n : ℕ) → history_of_node s n ≡ history_of_node (with_kept s ys) n
alike_history s ys some h n =
    let r = runs_of s some in
    let k = kept_alike s.load r.last s.kept ys r.told r.run_is h in
    ap (λ z. made_events_of_node z n) (told_is s r) ∙ history_accounted r.told n ∙ ap (flat_map made_of) (k.3 n) ∙ sym (history_accounted k.0 n) ∙ sym (ap (λ o. made_events_of_node (run_events_with_outcomes o) n) k.1)

-- what a step answers
told_alike : (s : MachineState) (ys : List Event) → AreEquivalentLists s.load s.kept ys → (e : Event) → made_next_event s e ≡ made_next_event (with_kept s ys) e
told_alike s ys h (event.Own n) =
    ap (λ (z : ℕ). made.Own n (z + 1) ((own (neighbour_states (chip_of_machine s) n.number) (node_record_at (chip_of_machine s) n.number)).0)) (equivalent_steps n.number s.load s.kept ys h)
    ∙ ap (λ z. made.Own n (count_steps n.number ys + 1) ((own (neighbour_states z n.number) (node_record_at z n.number)).0)) (alike_chip s ys h)
told_alike s ys h (event.Pass w r side) =
    ap (λ (z : ℕ). made.Pass w (z + 1) r (count_steps r.number s.kept + 1) (register_t (node_record_at (chip_of_machine s) w.number))) (equivalent_steps w.number s.load s.kept ys h)
    ∙ ap (λ (z : ℕ). made.Pass w (count_steps w.number ys + 1) r (z + 1) (register_t (node_record_at (chip_of_machine s) w.number))) (equivalent_steps r.number s.load s.kept ys h)
    ∙ ap (λ z. made.Pass w (count_steps w.number ys + 1) r (count_steps r.number ys + 1) (register_t (node_record_at z w.number))) (alike_chip s ys h)

answer_alike : (s : MachineState) (ys : List Event) → AreEquivalentLists s.load s.kept ys → (o : Result Event EventRefusal) → answer_to_event s o ≡ answer_to_event (with_kept s ys) o
answer_alike s ys h (Err why) = refl
answer_alike s ys h (Ok e) =
    ap (λ (z : ℕ). cond (nat_le s.limit z) (Err Full) (cond (nat_le (2 ^ 64 - 1) s.made) (Err EventNumbersSpent) (Ok (made_next_event s e)))) (equivalent_length s.load s.kept ys h)
    ∙ ap (λ z. cond (nat_le s.limit (length ys)) (Err Full) (cond (nat_le (2 ^ 64 - 1) s.made) (Err EventNumbersSpent) (Ok z))) (told_alike s ys h e)

step_alike : (s : MachineState) (ys : List Event) (n : NodeId) → AreEquivalentLists s.load s.kept ys → step_answer s n ≡ step_answer (with_kept s ys) n
step_alike s ys n h = ap (λ c. answer_to_event s (next_event_of_node c n)) (alike_chip s ys h) ∙ answer_alike s ys h (next_event_of_node (chip_of_machine (with_kept s ys)) n)

-- and leaves
left_alike : (s : MachineState) (ys : List Event) → AreEquivalentLists s.load s.kept ys → (o : Result Event EventRefusal) (a : Result MadeEvent LabFault) → AreEquivalentStates (state_unless_refused s a (machine_with_event s o)) (state_unless_refused (with_kept s ys) a (machine_with_event (with_kept s ys) o))
left_alike s ys h (Err why) (Ok told) = record { load = refl; limit = refl; made = refl; kept = h }
left_alike s ys h (Err why) (Err fault) = record { load = refl; limit = refl; made = refl; kept = h }
left_alike s ys h (Ok e) (Err fault) = record { load = refl; limit = refl; made = refl; kept = h }
left_alike s ys h (Ok e) (Ok told) = record { load = refl; limit = refl; made = refl; kept = equivalent-append s.load s.kept ys (e ∷ []) h }

stepped_alike : (s : MachineState) (ys : List Event) (n : NodeId) → AreEquivalentLists s.load s.kept ys → AreEquivalentStates (state_after_step s n) (state_after_step (with_kept s ys) n)
stepped_alike s ys n h =
    let z = with_kept s ys in
    subst (λ a. AreEquivalentStates (state_after_step s n) (state_unless_refused z a (machine_with_event z (next_event_of_node (chip_of_machine z) n)))) (step_alike s ys n h)
    (subst (λ c. AreEquivalentStates (state_after_step s n) (state_unless_refused z (step_answer s n) (machine_with_event z (next_event_of_node c n)))) (alike_chip s ys h)
    (left_alike s ys h (next_event_of_node (chip_of_machine s) n) (step_answer s n)))

-- what a rollback answers, and leaves
rest_alike : (xs ys : List EventWithLook) (n k : ℕ) → IsSwapOf xs ys → count_removed_events xs (position_of_step xs n k) ≡ count_removed_events ys (position_of_step ys n k)
rest_alike xs ys n k h = go (position_of_step xs n k) (position_of_step ys n k) (place_shuffled n k xs ys h) (length_shuffled (events_after_rewind xs n k) (events_after_rewind ys n k) (rewound_shuffled xs ys n k h))
  where
    go : (o p : Option ℕ) → is_some o ≡ is_some p → length (remaining_events_or_all xs o) ≡ length (remaining_events_or_all ys p) → count_removed_events xs o ≡ count_removed_events ys p
    go None None q l = refl
    go None (Some j) q l = absurd (cc)
    go (Some i) None q l = absurd (cc)
    go (Some i) (Some j) q l = ap (λ (z : ℕ). Ok (z - length (rest xs i))) (length_shuffled xs ys h) ∙ ap (λ (z : ℕ). Ok (length ys - z)) l

pub record Both (s : MachineState) (ys : List Event) : Type 0 where
  pub here : Runs s
  pub there : Runs (with_kept s ys)

pub both_run : (s : MachineState) (ys : List Event) → IsSome (replay s.load s.kept) → AreEquivalentLists s.load s.kept ys → Both s ys
both_run s ys some h =
    let r = runs_of s some in
    let k = kept_alike s.load r.last s.kept ys r.told r.run_is h in
    record { here = r; there = record { last = r.last; told = k.0; run_is = k.1 } }

rewind_alike : (s : MachineState) (ys : List Event) (n k : ℕ) → IsSome (replay s.load s.kept) → AreEquivalentLists s.load s.kept ys → rewind_answer s n k ≡ rewind_answer (with_kept s ys) n k
rewind_alike s ys n k some h =
    let b = both_run s ys some h in
    ap (λ z. count_removed_events z (position_of_step z n k)) (causes_is s b.here)
    ∙ rest_alike (causes b.here.told) (causes b.there.told) n k (shuffled_by s.load b.here.last b.there.last s.kept ys b.here.told b.there.told b.here.run_is b.there.run_is h)
    ∙ sym (ap (λ z. count_removed_events z (position_of_step z n k)) (causes_is (with_kept s ys) b.there))

rewound_alike : (s : MachineState) (ys : List Event) (n k : ℕ) → IsSome (replay s.load s.kept) → AreEquivalentLists s.load s.kept ys → AreEquivalentStates (state_after_rewind s n k) (state_after_rewind (with_kept s ys) n k)
rewound_alike s ys n k some h =
    let b = both_run s ys some h in
    let e : AreEquivalentLists s.load (events_of_causes (events_after_rewind (causes b.here.told) n k)) (events_of_causes (events_after_rewind (causes b.there.told) n k)) =
    rolled_back s.load b.here.last b.there.last s.kept ys b.here.told b.there.told b.here.run_is b.there.run_is h ((n, k) ∷ []) in
    record {
      load = refl;
      limit = refl;
      made = refl;
      kept = subst (λ z. AreEquivalentLists s.load (events_of_causes (events_after_rewind z n k)) (state_after_rewind (with_kept s ys) n k).kept) (sym (causes_is s b.here))
          (subst (λ z. AreEquivalentLists s.load (events_of_causes (events_after_rewind (causes b.here.told) n k)) (events_of_causes (events_after_rewind z n k))) (sym (causes_is (with_kept s ys) b.there)) e);
    }

-- one machine is the other with an equivalent list
pub alike_is : (s z : MachineState) → AreEquivalentStates s z → with_kept s z.kept ≡ z
alike_is s z a = same_state s.load z.load s.limit z.limit z.kept z.kept s.made z.made a.load a.limit refl a.made

pub same_chip : (s z : MachineState) → AreEquivalentStates s z → chip_of_machine s ≡ chip_of_machine z
same_chip s z a = subst (λ x. chip_of_machine s ≡ chip_of_machine x) (alike_is s z a) (alike_chip s z.kept a.kept)

pub same_history : (s z : MachineState) (n : ℕ) → IsSome (replay s.load s.kept) → AreEquivalentStates s z → history_of_node s n ≡ history_of_node z n
same_history s z n some a = subst (λ x. history_of_node s n ≡ history_of_node x n) (alike_is s z a) (alike_history s z.kept some a.kept n)

alike_account : (s : MachineState) (ys : List Event) → IsSome (replay s.load s.kept) → AreEquivalentLists s.load s.kept ys → (n : ℕ) → local_history n (machine_events_with_looks s) ≡ local_history n (machine_events_with_looks (with_kept s ys))
alike_account s ys some h n =
    let b = both_run s ys some h in
    ap (local_history n) (causes_is s b.here)
    ∙ (same_accounts s.load b.here.last b.there.last s.kept ys b.here.told b.there.told b.here.run_is b.there.run_is).0 h n
    ∙ sym (ap (local_history n) (causes_is (with_kept s ys) b.there))

pub same_account : (s z : MachineState) (n : ℕ) → IsSome (replay s.load s.kept) → AreEquivalentStates s z → local_history n (machine_events_with_looks s) ≡ local_history n (machine_events_with_looks z)
same_account s z n some a = subst (λ x. local_history n (machine_events_with_looks s) ≡ local_history n (machine_events_with_looks x)) (alike_is s z a) (alike_account s z.kept some a.kept n)

pub same_step : (s z : MachineState) (n : NodeId) → AreEquivalentStates s z → (step_answer s n ≡ step_answer z n) × AreEquivalentStates (state_after_step s n) (state_after_step z n)
same_step s z n a = subst (λ x. (step_answer s n ≡ step_answer x n) × AreEquivalentStates (state_after_step s n) (state_after_step x n)) (alike_is s z a) (step_alike s z.kept n a.kept, stepped_alike s z.kept n a.kept)

pub same_rewind : (s z : MachineState) (n k : ℕ) → IsSome (replay s.load s.kept) → AreEquivalentStates s z → (rewind_answer s n k ≡ rewind_answer z n k) × AreEquivalentStates (state_after_rewind s n k) (state_after_rewind z n k)
same_rewind s z n k some a =
    subst (λ x. (rewind_answer s n k ≡ rewind_answer x n k) × AreEquivalentStates (state_after_rewind s n k) (state_after_rewind x n k)) (alike_is s z a)
    (rewind_alike s z.kept n k some a.kept, rewound_alike s z.kept n k some a.kept)

-- Whatever led to two machines with one load, if each node has the same local history, they keep the same events except for the
-- order.
abbrev pub KeepTheSame : List NodeRecord → MachineState → MachineState → Type 0
KeepTheSame load s z = AreEquivalentLists load s.kept z.kept × (chip_of_machine s ≡ chip_of_machine z) × ((n : ℕ) → history_of_node s n ≡ history_of_node z n)

pub kept_same : (s z : MachineState) → s.load ≡ z.load → Runs s → Runs z → ((n : ℕ) → local_history n (machine_events_with_looks s) ≡ local_history n (machine_events_with_looks z)) → KeepTheSame s.load s z
kept_same s z load r q h =
    let there : run_events s.load z.kept ≡ Some (q.last, q.told) = ap (λ c. run_events c z.kept) load ∙ q.run_is in
    let e : AreEquivalentLists s.load s.kept z.kept =
    (same_accounts s.load r.last q.last s.kept z.kept r.told q.told r.run_is there).1 (λ n. ap (local_history n) (sym (causes_is s r)) ∙ h n ∙ ap (local_history n) (causes_is z q)) in
    let k = kept_alike s.load r.last s.kept z.kept r.told r.run_is e in (
      e,
      alike_chip s z.kept e ∙ ap (λ c. unwrap_or (replay c z.kept) []) load,
      λ n. ap (λ x. made_events_of_node x n) (told_is s r) ∙ history_accounted r.told n ∙ ap (flat_map made_of) (k.3 n) ∙ sym (history_accounted k.0 n)
          ∙ sym (ap (λ o. made_events_of_node (run_events_with_outcomes o) n) k.1) ∙ ap (λ c. made_events_of_node (run_events_with_outcomes (run_events c z.kept)) n) load,
    )

pub consistent : (load : List NodeRecord) (limit bound : ℕ) (calls others : List MachineCall)
    → ((n : ℕ) → local_history n (machine_events_with_looks (state_after_machine_calls (initial_state load limit) calls)) ≡ local_history n (machine_events_with_looks (state_after_machine_calls (initial_state load bound) others)))
    → KeepTheSame load (state_after_machine_calls (initial_state load limit) calls) (state_after_machine_calls (initial_state load bound) others)
consistent load limit bound calls others h =
    let s = state_after_machine_calls (initial_state load limit) calls in
    let z = state_after_machine_calls (initial_state load bound) others in
    let at : s.load ≡ load = calls_load (initial_state load limit) calls in
    subst (λ c. KeepTheSame c s z) at (kept_same s z (at ∙ sym (calls_load (initial_state load bound) others)) (first_runs load limit calls) (first_runs load bound others) h)
