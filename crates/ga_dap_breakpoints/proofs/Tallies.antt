-- The hits that a run counts are those that are counted over the kept events.
use Rattle.std.proofs.Common.{◌≡◌, ◌≢◌, ℕ, zero, suc, ◌+◌, ◌-◌, ◌%◌, ◌^◌, ◌<◌, ◌≤◌, ◌==◌, Bool, true, false, ◌&&◌, cond, List, [], ◌∷◌, ◌++◌, length, take, length-append, Option, Some, None, Ok, Err, IsSome, refl, sym, subst, ◌∙◌, ap, arith}
use Rattle.std.specs.Prelude.{Result, nat_lt, slice_set, replicate, unwrap_or}
use Rattle.std.specs.Int.{from_bool}
use Rattle.std.specs.List.{slice_get}
use Rattle.std.specs.Result.{result_ok}
use Rattle.std.proofs.Math.Bool.{and_comm}
use Rattle.std.proofs.Math.Nat.{mod-eq_of_lt, mod-mod}
use Rattle.std.proofs.Math.Seq.{take-append_seam}
use Rattle.std.proofs.lemmas.Bool.{lt-ltb}
use Rattle.std.proofs.lemmas.Grind.{get_or-set_at}
use Rattle.std.proofs.lemmas.List.{length-set, get_or-set_other}
use Rattle.std.proofs.lemmas.Nat.{mod_below}
use Rattle.std.proofs.lemmas.Option.{same_Some}
use Rattle.ga_node.specs.Record.{NodeRecord}
use Rattle.ga_node.specs.declared.kind.OwnEventKind.{OwnEventKind}
use Rattle.ga_grid.specs.declared.node_id.NodeId.{NodeId}
use Rattle.ga_grid.specs.Chip.{node_record_at}
use Rattle.ga_event.specs.declared.event.Event.{Event}
use Rattle.ga_event.specs.declared.made.MadeEvent.{MadeEvent}
use Rattle.ga_event.specs.declared.made.MadeEvent.TheVariants as made
use Rattle.ga_event.specs.Apply.{replay}
use Rattle.ga_event.specs.Told.{count_steps}
use Rattle.ga_event.specs.Touches.{touches}
use Rattle.ga_lab.specs.declared.fault.LabFault.{LabFault}
use Rattle.ga_lab.specs.Machine.{MachineState, chip_of_machine, history_of_node, step_answer, state_after_step, made_next_event, state_after_undo}
use Rattle.ga_provenance.specs.Origins.{node_after_steps}
use Rattle.ga_provenance.specs.Fetched.{fetched_cell}
use Rattle.ga_scheduler.specs.Conditions.{is_step_of_node, is_node_own_event_of_kind, stores_in_cell, node_before_newest_event}
use Rattle.ga_scheduler.specs.Running.{ScheduledMachine, next_event_of_optional_node, run_after_step}
use Rattle.ga_scheduler.specs.Watched.{next_node_with_precedence, next_event_with_precedence, run_after_event_with_precedence, run_after_events_with_precedence}
use Rattle.ga_dap_views.specs.Spots.{slot_address_of_node_record}
use Rattle.ga_dap_breakpoints.specs.declared.back.WatchedAction.{WatchedAction}
use Rattle.ga_dap_breakpoints.specs.declared.back.WatchedAction.TheVariants.{ArrivesAtSlot, WritesWatchedCell}
use Rattle.ga_dap_breakpoints.specs.declared.breakpoint.Breakpoint.{Breakpoint}
use Rattle.ga_dap_breakpoints.specs.declared.condition.HitCondition.{HitCondition}
use Rattle.ga_dap_breakpoints.specs.declared.hits.HitTally.{HitTally}
use Rattle.ga_dap_breakpoints.specs.Back.{can_event_reach_slot, is_at_slot_address, reaches_slot}
use Rattle.ga_dap_breakpoints.specs.Breakpoints.{is_watched_event, is_breakpoint_hit, hit_count_at_index, incremented_hit_counts, tally_with_hit, tally_after_breakpoint, tally_after_breakpoints}
use Rattle.ga_dap_breakpoints.specs.Conditions.{is_optional_value_test_passed}
use Rattle.ga_dap_breakpoints.specs.Going.{tally_after_optional_event, tally_after_events}
use Rattle.ga_dap_breakpoints.specs.Reversing.{is_event_storing_in_cell, is_watched_step, is_hit_step, hit_count_among_steps, hit_count_if_conditional, hit_count_in_history, hit_counts_with_count_at_index, hit_counts_updated_from_index, hit_tally_of_history}
use Rattle.ga_dap_breakpoints.proofs.Following.{IsCounted, More, Step, step_of, steps_more, well_more, told_stays, node_stays, fetched_stays, refused_stays}
use Rattle.ga_dap_breakpoints.proofs.Cells.{node_now, well_of, newest_own, replays_next}

-- ---- counts by their places

other_count : (p count : ℕ) (counts : List ℕ) (place : ℕ) → place ≢ p → hit_count_at_index (hit_counts_with_count_at_index p count counts) place ≡ hit_count_at_index counts place
other_count p count counts place l = go (nat_lt p 64)
  where
    go : (b : Bool) → hit_count_at_index (cond b (slice_set counts p count) counts) place ≡ hit_count_at_index counts place
    go true = get_or-set_other counts p place count 0 l
    go false = refl

same_count : (p count : ℕ) (counts : List ℕ) (place : ℕ) → place ≡ p → place < 64 → length counts ≡ 64 → hit_count_at_index (hit_counts_with_count_at_index p count counts) place ≡ count
same_count p count counts place at few long =
    ap (λ (b : Bool). hit_count_at_index (cond b (slice_set counts p count) counts) place) (lt-ltb p 64 (omega (arith, at, few)))
    ∙ get_or-set_at counts p place count 0 at (omega (arith, at, few, long))

long_count : (p count : ℕ) (counts : List ℕ) → length (hit_counts_with_count_at_index p count counts) ≡ length counts
long_count p count counts = go (nat_lt p 64)
  where
    go : (b : Bool) → length (cond b (slice_set counts p count) counts) ≡ length counts
    go true = length-set counts p count
    go false = refl

kept_below : (s : MachineState) (p : ℕ) (breakpoints : List Breakpoint) (counts : List ℕ) (place : ℕ) → place < p → hit_count_at_index (hit_counts_updated_from_index s p breakpoints counts) place ≡ hit_count_at_index counts place
kept_below s p [] counts place l = refl
kept_below s p (x ∷ rest) counts place l =
    kept_below s (p + 1) rest (hit_counts_with_count_at_index p (hit_count_in_history s x) counts) place (omega (arith, l)) ∙ other_count p (hit_count_in_history s x) counts place (λ e. omega (arith, e, l))

kept_at : (s : MachineState) (p : ℕ) (breakpoints : List Breakpoint) (counts : List ℕ) (place j : ℕ) (one : Breakpoint) → place ≡ p + j → place < 64 → length counts ≡ 64 → slice_get breakpoints j ≡ Some one
    → hit_count_at_index (hit_counts_updated_from_index s p breakpoints counts) place ≡ hit_count_in_history s one
kept_at s p [] counts place j one at few long is = absurd (cc)
kept_at s p (x ∷ rest) counts place zero one at few long is =
    kept_below s (p + 1) rest (hit_counts_with_count_at_index p (hit_count_in_history s x) counts) place (omega (arith, at))
    ∙ same_count p (hit_count_in_history s x) counts place (omega (arith, at)) few long
    ∙ ap (hit_count_in_history s) (same_Some x one is)
kept_at s p (x ∷ rest) counts place (suc j) one at few long is =
    kept_at s (p + 1) rest (hit_counts_with_count_at_index p (hit_count_in_history s x) counts) place j one (omega (arith, at)) few (long_count p (hit_count_in_history s x) counts ∙ long) is

kept_is : (s : MachineState) (breakpoints : List Breakpoint) (place : ℕ) (one : Breakpoint) → place < 64 → slice_get breakpoints place ≡ Some one → hit_count_at_index (hit_tally_of_history s breakpoints).counts place ≡ hit_count_in_history s one
kept_is s breakpoints place one few is = kept_at s 0 breakpoints (replicate 64 0) place place one (omega arith) few refl is

-- ---- the hits of an event

other_hit : (p : ℕ) (counts : List ℕ) (place : ℕ) → place ≢ p → hit_count_at_index (incremented_hit_counts p counts) place ≡ hit_count_at_index counts place
other_hit p counts place l = other_count p ((hit_count_at_index counts p + 1) % 2 ^ 32) counts place l

same_hit : (p : ℕ) (counts : List ℕ) (place : ℕ) → place ≡ p → place < 64 → length counts ≡ 64 → hit_count_at_index (incremented_hit_counts p counts) place ≡ (hit_count_at_index counts place + 1) % 2 ^ 32
same_hit p counts place at few long =
    same_count p ((hit_count_at_index counts p + 1) % 2 ^ 32) counts place at few long ∙ ap (λ (z : ℕ). (hit_count_at_index counts z + 1) % 2 ^ 32) (sym at)

-- the counts after a breakpoint
counted_one : (b : Bool) (x : Breakpoint) (p : ℕ) (tally : HitTally) → (cond b (tally_with_hit x p tally) tally).counts ≡ cond b (incremented_hit_counts p tally.counts) tally.counts
counted_one true x p tally = refl
counted_one false x p tally = refl

other_one : (b : Bool) (x : Breakpoint) (p : ℕ) (tally : HitTally) (place : ℕ) → place ≢ p → hit_count_at_index (cond b (tally_with_hit x p tally) tally).counts place ≡ hit_count_at_index tally.counts place
other_one true x p tally place l = other_hit p tally.counts place l
other_one false x p tally place l = refl

same_one : (b : Bool) (x : Breakpoint) (p : ℕ) (tally : HitTally) (place : ℕ) → place ≡ p → place < 64 → length tally.counts ≡ 64
    → hit_count_at_index (cond b (tally_with_hit x p tally) tally).counts place ≡ cond b ((hit_count_at_index tally.counts place + 1) % 2 ^ 32) (hit_count_at_index tally.counts place)
same_one true x p tally place at few long = same_hit p tally.counts place at few long
same_one false x p tally place at few long = refl

long_one : (b : Bool) (x : Breakpoint) (p : ℕ) (tally : HitTally) → length (cond b (tally_with_hit x p tally) tally).counts ≡ length tally.counts
long_one true x p tally = long_count p ((hit_count_at_index tally.counts p + 1) % 2 ^ 32) tally.counts
long_one false x p tally = refl

counted_below : (told : MadeEvent) (s : MachineState) (p : ℕ) (breakpoints : List Breakpoint) (tally : HitTally) (place : ℕ) → place < p → hit_count_at_index (tally_after_breakpoints told s p breakpoints tally).counts place ≡ hit_count_at_index tally.counts place
counted_below told s p [] tally place l = refl
counted_below told s p (x ∷ rest) tally place l =
    counted_below told s (p + 1) rest (tally_after_breakpoint told s x p tally) place (omega (arith, l)) ∙ other_one (is_breakpoint_hit told s x) x p tally place (λ e. omega (arith, e, l))

counted_at : (told : MadeEvent) (s : MachineState) (p : ℕ) (breakpoints : List Breakpoint) (tally : HitTally) (place j : ℕ) (one : Breakpoint) → place ≡ p + j → place < 64 → length tally.counts ≡ 64 → slice_get breakpoints j ≡ Some one
    → hit_count_at_index (tally_after_breakpoints told s p breakpoints tally).counts place ≡ cond (is_breakpoint_hit told s one) ((hit_count_at_index tally.counts place + 1) % 2 ^ 32) (hit_count_at_index tally.counts place)
counted_at told s p [] tally place j one at few long is = absurd (cc)
counted_at told s p (x ∷ rest) tally place zero one at few long is =
    counted_below told s (p + 1) rest (tally_after_breakpoint told s x p tally) place (omega (arith, at))
    ∙ same_one (is_breakpoint_hit told s x) x p tally place (omega (arith, at)) few long
    ∙ ap (λ (z : Breakpoint). cond (is_breakpoint_hit told s z) ((hit_count_at_index tally.counts place + 1) % 2 ^ 32) (hit_count_at_index tally.counts place)) (same_Some x one is)
counted_at told s p (x ∷ rest) tally place (suc j) one at few long is =
    counted_at told s (p + 1) rest (tally_after_breakpoint told s x p tally) place j one (omega (arith, at)) few (long_one (is_breakpoint_hit told s x) x p tally ∙ long) is
    ∙ ap (λ (z : ℕ). cond (is_breakpoint_hit told s one) ((z + 1) % 2 ^ 32) z) (other_one (is_breakpoint_hit told s x) x p tally place (λ e. omega (arith, e, at)))

long_from : (told : MadeEvent) (s : MachineState) (p : ℕ) (breakpoints : List Breakpoint) (tally : HitTally) → length (tally_after_breakpoints told s p breakpoints tally).counts ≡ length tally.counts
long_from told s p [] tally = refl
long_from told s p (x ∷ rest) tally = long_from told s (p + 1) rest (tally_after_breakpoint told s x p tally) ∙ long_one (is_breakpoint_hit told s x) x p tally

long_kept : (s : MachineState) (p : ℕ) (breakpoints : List Breakpoint) (counts : List ℕ) → length (hit_counts_updated_from_index s p breakpoints counts) ≡ length counts
long_kept s p [] counts = refl
long_kept s p (x ∷ rest) counts = long_kept s (p + 1) rest (hit_counts_with_count_at_index p (hit_count_in_history s x) counts) ∙ long_count p (hit_count_in_history s x) counts

long_told : (breakpoints : List Breakpoint) (tally : HitTally) (o : Option MadeEvent) (s : MachineState) → length (tally_after_optional_event breakpoints tally o s).counts ≡ length tally.counts
long_told breakpoints tally None s = refl
long_told breakpoints tally (Some told) s = long_from told s 0 breakpoints (record tally { hit = None })

long_on : (first : Option NodeId) (breakpoints : List Breakpoint) (tally : HitTally) (r : ScheduledMachine) (k : ℕ) → length (tally_after_events first breakpoints tally r k).counts ≡ length tally.counts
long_on first breakpoints tally r zero = refl
long_on first breakpoints tally r (suc k) =
    long_told breakpoints (tally_after_events first breakpoints tally r k) (next_event_with_precedence first (run_after_events_with_precedence first r k)) (run_after_event_with_precedence first (run_after_events_with_precedence first r k)).state ∙ long_on first breakpoints tally r k

-- ---- the kept steps hit as before, where an event is made

told_at_stays : (s t : MachineState) (more : More s t) (n k : ℕ) → IsCounted s n → k < count_steps n s.kept → slice_get (history_of_node t n) k ≡ slice_get (history_of_node s n) k
told_at_stays s t more n k counted l =
    ap (λ (z : List MadeEvent). slice_get z k) (more.told n) ∙ told_stays (history_of_node s n) (cond (touches more.event n) (made_next_event s more.event ∷ []) []) k (omega (arith, l, counted))

did_stays : (s t : MachineState) (more : More s t) (node : NodeId) (watched : WatchedAction) (k : ℕ) → IsCounted s node.number → k < count_steps node.number s.kept → is_watched_step t node watched k ≡ is_watched_step s node watched k
did_stays s t more node (ArrivesAtSlot at) k counted l =
    ap (λ (o : Option MadeEvent). can_event_reach_slot o && is_at_slot_address at (slot_address_of_node_record (node_after_steps t node.number (k + 1)) (fetched_cell t node (k + 1)))) (told_at_stays s t more node.number k counted l)
    ∙ ap (λ (z : NodeRecord). can_event_reach_slot (slice_get (history_of_node s node.number) k) && is_at_slot_address at (slot_address_of_node_record z (fetched_cell t node (k + 1)))) (node_stays s t more node.number (k + 1) (omega (arith, l)))
    ∙ ap (λ (z : Option ℕ). can_event_reach_slot (slice_get (history_of_node s node.number) k) && is_at_slot_address at (slot_address_of_node_record (node_after_steps s node.number (k + 1)) z)) (fetched_stays s t more node counted (k + 1) (omega (arith, l)))
did_stays s t more node (WritesWatchedCell address) k counted l =
    ap (λ (z : NodeRecord). is_event_storing_in_cell (address % 64) z (slice_get (history_of_node t node.number) k)) (node_stays s t more node.number k (omega (arith, l)))
    ∙ ap (is_event_storing_in_cell (address % 64) (node_after_steps s node.number k)) (told_at_stays s t more node.number k counted l)

hit_stays : (s t : MachineState) (more : More s t) (node : NodeId) (one : Breakpoint) (k : ℕ) → IsCounted s node.number → k < count_steps node.number s.kept → is_hit_step t node one k ≡ is_hit_step s node one k
hit_stays s t more node one k counted l =
    ap (λ (z : NodeRecord). is_optional_value_test_passed one.condition z (k + 1) && is_watched_step t node one.watched k) (node_stays s t more node.number (k + 1) (omega (arith, l)))
    ∙ ap (λ (b : Bool). is_optional_value_test_passed one.condition (node_after_steps s node.number (k + 1)) (k + 1) && b) (did_stays s t more node one.watched k counted l)

hits_stay : (s t : MachineState) (more : More s t) (node : NodeId) (one : Breakpoint) (k : ℕ) → IsCounted s node.number → k ≤ count_steps node.number s.kept → hit_count_among_steps t node one k ≡ hit_count_among_steps s node one k
hits_stay s t more node one zero counted l = refl
hits_stay s t more node one (suc k) counted l =
    ap (λ (z : ℕ). z + from_bool (is_hit_step t node one k)) (hits_stay s t more node one k counted (omega (arith, l)))
    ∙ ap (λ (b : Bool). hit_count_among_steps s node one k + from_bool b) (hit_stays s t more node one k counted (omega (arith, l)))

-- ---- and the newest one hits what the event does

undone_is : (s t : MachineState) (more : More s t) → chip_of_machine (state_after_undo t) ≡ chip_of_machine s
undone_is s t more =
    let e : length (s.kept ++ more.event ∷ []) - 1 ≡ length s.kept = grind (arith, length-append) in
    ap (λ (z : List NodeRecord). unwrap_or (replay z (take (length t.kept - 1) t.kept)) []) more.load
    ∙ ap (λ (z : List Event). unwrap_or (replay s.load (take (length z - 1) z)) []) more.kept
    ∙ ap (λ (z : ℕ). unwrap_or (replay s.load (take z (s.kept ++ more.event ∷ []))) []) e
    ∙ ap (λ (z : List Event). unwrap_or (replay s.load z) []) (take-append_seam s.kept (more.event ∷ []))

none_stored : (a : Bool) → (a && false && true) ≡ false
none_stored true = refl
none_stored false = refl

one_stored : (a b c : Bool) → a ≡ true → b ≡ true → (a && (b && c) && true) ≡ c
one_stored true true true h k = refl
one_stored true true false h k = refl
one_stored true false c h k = absurd (cc)
one_stored false b c h k = absurd (cc)

is_ram : (cell : ℕ) → cell < 64 → nat_lt cell 128 ≡ true
is_ram cell few = lt-ltb cell 128 (omega (arith, few))

stored_told : (told : MadeEvent) (n cell : ℕ) (before : NodeRecord) → is_step_of_node n told ≡ true → cell < 64
    → (nat_lt cell 128 && is_node_own_event_of_kind n (stores_in_cell cell before) told && true) ≡ is_event_storing_in_cell cell before (Some told)
stored_told (made.Own x step kind) n cell before own few = one_stored (nat_lt cell 128) (x.number == n) (stores_in_cell cell before kind) (is_ram cell few) own
stored_told (made.Pass writer i reader j word) n cell before own few = none_stored (nat_lt cell 128)

not_stored : (told : MadeEvent) (n cell : ℕ) (test : OwnEventKind → Bool) → is_step_of_node n told ≡ false → (nat_lt cell 128 && is_node_own_event_of_kind n test told && true) ≡ false
not_stored (made.Own x step kind) n cell test own = ap (λ (b : Bool). nat_lt cell 128 && (b && test kind) && true) own ∙ none_stored (nat_lt cell 128)
not_stored (made.Pass writer i reader j word) n cell test own = none_stored (nat_lt cell 128)

newest_did : (s : MachineState) (m : NodeId) (told : MadeEvent) (by : Step s m told) (node : NodeId) (watched : WatchedAction) → IsSome (replay s.load s.kept) → is_step_of_node node.number told ≡ true
    → is_watched_event watched node told (state_after_step s m) ≡ is_watched_step (state_after_step s m) node watched (count_steps node.number s.kept)
newest_did s m told by node (ArrivesAtSlot at) some own =
    let t : MachineState = state_after_step s m in
    let more : count_steps node.number t.kept ≡ count_steps node.number s.kept + 1 = steps_more s m told by node.number ∙ ap (λ (b : Bool). count_steps node.number s.kept + cond b 1 0) own in
    let e : count_steps node.number t.kept - 1 ≡ count_steps node.number s.kept = omega (arith, more) in
    ap (λ (b : Bool). b && reaches_slot t node at (count_steps node.number t.kept - 1)) own ∙ ap (reaches_slot t node at) e
newest_did s m told by node (WritesWatchedCell address) some own =
    let t : MachineState = state_after_step s m in
    let n : ℕ = node.number in
    let k : ℕ = count_steps n s.kept in
    let cell : ℕ = address % 64 in
    let counted : IsCounted s n = (well_of s some n).counted in
    let more : count_steps n t.kept ≡ k + 1 = steps_more s m told by n ∙ ap (λ (b : Bool). k + cond b 1 0) own in
    let e : count_steps n t.kept - 1 ≡ k = omega (arith, more) in
    let before : node_before_newest_event t n ≡ node_after_steps t n k =
    ap (λ (z : List NodeRecord). node_record_at z n) (undone_is s t by.more) ∙ sym (node_now s n some) ∙ sym (node_stays s t by.more n k (omega arith)) in
    ap (λ (z : ℕ). nat_lt cell 128 && is_node_own_event_of_kind n (stores_in_cell z (node_before_newest_event t n)) told && true) (mod-mod address 64)
    ∙ ap (λ (z : NodeRecord). nat_lt cell 128 && is_node_own_event_of_kind n (stores_in_cell cell z) told && true) before
    ∙ stored_told told n cell (node_after_steps t n k) own (mod_below address 64 (omega arith))
    ∙ ap (is_event_storing_in_cell cell (node_after_steps t n k)) (sym (sym (ap (slice_get (history_of_node t n)) e) ∙ newest_own s m told by n counted own))

not_done : (told : MadeEvent) (t : MachineState) (node : NodeId) (watched : WatchedAction) → is_step_of_node node.number told ≡ false → is_watched_event watched node told t ≡ false
not_done told t node (ArrivesAtSlot at) own = ap (λ (b : Bool). b && reaches_slot t node at (count_steps node.number t.kept - 1)) own
not_done told t node (WritesWatchedCell address) own = not_stored told node.number (address % 64) (stores_in_cell (address % 64 % 64) (node_before_newest_event t node.number)) own

newest_hit : (s : MachineState) (m : NodeId) (told : MadeEvent) (by : Step s m told) (one : Breakpoint) → IsSome (replay s.load s.kept) → IsSome (replay (state_after_step s m).load (state_after_step s m).kept) → is_step_of_node one.node.number told ≡ true
    → is_breakpoint_hit told (state_after_step s m) one ≡ is_hit_step (state_after_step s m) one.node one (count_steps one.node.number s.kept)
newest_hit s m told by one some then own =
    let t : MachineState = state_after_step s m in
    let n : ℕ = one.node.number in
    let k : ℕ = count_steps n s.kept in
    let d : Bool = is_watched_step t one.node one.watched k in
    let more : count_steps n t.kept ≡ k + 1 = steps_more s m told by n ∙ ap (λ (b : Bool). k + cond b 1 0) own in
    ap (λ (b : Bool). b && is_optional_value_test_passed one.condition (node_record_at (chip_of_machine t) n) (count_steps n t.kept)) (newest_did s m told by one.node one.watched some own)
    ∙ ap (λ (z : NodeRecord). d && is_optional_value_test_passed one.condition z (count_steps n t.kept)) (sym (node_now t n then))
    ∙ ap (λ (z : ℕ). d && is_optional_value_test_passed one.condition (node_after_steps t n z) z) more
    ∙ and_comm d (is_optional_value_test_passed one.condition (node_after_steps t n (k + 1)) (k + 1))

add_if : (b : Bool) (c : ℕ) → c + from_bool b ≡ cond b (c + 1) c
add_if true c = refl
add_if false c = omega arith

kept_more : (s : MachineState) (m : NodeId) (told : MadeEvent) (one : Breakpoint) (hits : HitCondition) → IsSome (replay s.load s.kept) → step_answer s m ≡ Ok told → one.hits ≡ Some hits
    → hit_count_in_history (state_after_step s m) one ≡ cond (is_breakpoint_hit told (state_after_step s m) one) (hit_count_in_history s one + 1) (hit_count_in_history s one)
kept_more s m told one hits some h asked =
    ap (λ (z : Option HitCondition). hit_count_if_conditional z (state_after_step s m) one) asked
    ∙ go (is_step_of_node one.node.number told) refl
    ∙ ap (λ (z : ℕ). cond (is_breakpoint_hit told (state_after_step s m) one) (z + 1) z) (sym (ap (λ (z : Option HitCondition). hit_count_if_conditional z s one) asked))
  where
    t : MachineState
    t = state_after_step s m

    n : ℕ
    n = one.node.number

    k : ℕ
    k = count_steps n s.kept

    by : Step s m told
    by = step_of s m told some h

    counted : IsCounted s n
    counted = (well_of s some n).counted

    c : ℕ
    c = hit_count_among_steps s one.node one k

    stays : hit_count_among_steps t one.node one k ≡ c
    stays = hits_stay s t by.more one.node one k counted (omega arith)

    go : (b : Bool) → is_step_of_node n told ≡ b → hit_count_among_steps t one.node one (count_steps n t.kept) ≡ cond (is_breakpoint_hit told t one) (c + 1) c
    go true own =
        let more : count_steps n t.kept ≡ suc k = steps_more s m told by n ∙ ap (λ (b : Bool). k + cond b 1 0) own ∙ (let e : k + 1 ≡ suc k = omega arith in e) in
        ap (hit_count_among_steps t one.node one) more
        ∙ ap (λ (z : ℕ). z + from_bool (is_hit_step t one.node one k)) stays
        ∙ ap (λ (b : Bool). c + from_bool b) (sym (newest_hit s m told by one some (well_more s m told n h (well_of s some n)).replays own))
        ∙ add_if (is_breakpoint_hit told t one) c
    go false own =
        let none : is_breakpoint_hit told t one ≡ false = ap (λ (b : Bool). b && is_optional_value_test_passed one.condition (node_record_at (chip_of_machine t) n) (count_steps n t.kept)) (not_done told t one.node one.watched own) in
        let same : count_steps n t.kept ≡ k = steps_more s m told by n ∙ ap (λ (b : Bool). k + cond b 1 0) own ∙ (let e : k + 0 ≡ k = omega arith in e) in
        ap (hit_count_among_steps t one.node one) same ∙ stays ∙ sym (ap (λ (b : Bool). cond b (c + 1) c) none)

-- ---- along a run

by_hit : (b : Bool) (c then x most : ℕ) → then ≡ cond b (c + 1) c → then < most → (c < most → x ≡ c) → cond b ((x + 1) % most) x ≡ then
by_hit true c then x most is below same = ap (λ (z : ℕ). (z + 1) % most) (same (omega (arith, is, below))) ∙ mod-eq_of_lt (omega (arith, is, below)) ∙ sym is
by_hit false c then x most is below same = same (omega (arith, is, below)) ∙ sym is

counts_next : (r : ScheduledMachine) (o : Option NodeId) (breakpoints : List Breakpoint) (tally : HitTally) (place : ℕ) (one : Breakpoint) (hits : HitCondition) → IsSome (replay r.state.load r.state.kept)
    → place < 64 → slice_get breakpoints place ≡ Some one → one.hits ≡ Some hits → length tally.counts ≡ 64 → (hit_count_in_history r.state one < 2 ^ 32 → hit_count_at_index tally.counts place ≡ hit_count_in_history r.state one)
    → hit_count_in_history (run_after_step r o).state one < 2 ^ 32
    → hit_count_at_index (tally_after_optional_event breakpoints tally (next_event_of_optional_node r.state o) (run_after_step r o).state).counts place ≡ hit_count_in_history (run_after_step r o).state one
counts_next r None breakpoints tally place one hits some few at asked long same below = same below
counts_next r (Some m) breakpoints tally place one hits some few at asked long same below = go (step_answer r.state m) refl
  where
    t : MachineState
    t = state_after_step r.state m

    go : (a : Result MadeEvent LabFault) → step_answer r.state m ≡ a → hit_count_at_index (tally_after_optional_event breakpoints tally (result_ok (step_answer r.state m)) t).counts place ≡ hit_count_in_history t one
    go (Ok told) is =
        ap (λ (z : Option MadeEvent). hit_count_at_index (tally_after_optional_event breakpoints tally z t).counts place) (ap result_ok is)
        ∙ counted_at told t 0 breakpoints (record tally { hit = None }) place place one (omega arith) few long at
        ∙ by_hit (is_breakpoint_hit told t one) (hit_count_in_history r.state one) (hit_count_in_history t one) (hit_count_at_index tally.counts place) (2 ^ 32) (kept_more r.state m told one hits some is asked) below same
    go (Err why) is =
        let stays : r.state ≡ t = refused_stays r.state m why is in
        ap (λ (z : Option MadeEvent). hit_count_at_index (tally_after_optional_event breakpoints tally z t).counts place) (ap result_ok is)
        ∙ same (subst (λ (z : MachineState). hit_count_in_history z one < 2 ^ 32) (sym stays) below)
        ∙ ap (λ (z : MachineState). hit_count_in_history z one) stays

replays_after : (first : Option NodeId) (r : ScheduledMachine) (k : ℕ) → IsSome (replay r.state.load r.state.kept) → IsSome (replay (run_after_events_with_precedence first r k).state.load (run_after_events_with_precedence first r k).state.kept)
replays_after first r zero some = some
replays_after first r (suc k) some = replays_next (run_after_events_with_precedence first r k) (next_node_with_precedence first (run_after_events_with_precedence first r k)) (replays_after first r k some)

counts_on : (first : Option NodeId) (breakpoints : List Breakpoint) (r : ScheduledMachine) (events place : ℕ) (one : Breakpoint) (hits : HitCondition) → IsSome (replay r.state.load r.state.kept)
    → place < 64 → slice_get breakpoints place ≡ Some one → one.hits ≡ Some hits → hit_count_in_history (run_after_events_with_precedence first r events).state one < 2 ^ 32
    → hit_count_at_index (tally_after_events first breakpoints (hit_tally_of_history r.state breakpoints) r events).counts place ≡ hit_count_in_history (run_after_events_with_precedence first r events).state one
counts_on first breakpoints r zero place one hits some few at asked below = kept_is r.state breakpoints place one few at
counts_on first breakpoints r (suc k) place one hits some few at asked below =
    let now : ScheduledMachine = run_after_events_with_precedence first r k in
    let tally : HitTally = tally_after_events first breakpoints (hit_tally_of_history r.state breakpoints) r k in
    counts_next now (next_node_with_precedence first now) breakpoints tally place one hits (replays_after first r k some) few at asked
    (long_on first breakpoints (hit_tally_of_history r.state breakpoints) r k ∙ long_kept r.state 0 breakpoints (replicate 64 0))
    (counts_on first breakpoints r k place one hits some few at asked) below

pub counted_on : (first : Option NodeId) (breakpoints : List Breakpoint) (r : ScheduledMachine) (events place : ℕ) (one : Breakpoint) (hits : HitCondition) → IsSome (replay r.state.load r.state.kept)
    → place < 64 → slice_get breakpoints place ≡ Some one → one.hits ≡ Some hits → hit_count_at_index (hit_tally_of_history (run_after_events_with_precedence first r events).state breakpoints).counts place < 2 ^ 32
    → hit_count_at_index (tally_after_events first breakpoints (hit_tally_of_history r.state breakpoints) r events).counts place ≡ hit_count_at_index (hit_tally_of_history (run_after_events_with_precedence first r events).state breakpoints).counts place
counted_on first breakpoints r events place one hits some few at asked below =
    let then : hit_count_at_index (hit_tally_of_history (run_after_events_with_precedence first r events).state breakpoints).counts place ≡ hit_count_in_history (run_after_events_with_precedence first r events).state one =
    kept_is (run_after_events_with_precedence first r events).state breakpoints place one few at in
    counts_on first breakpoints r events place one hits some few at asked (subst (λ (z : ℕ). z < 2 ^ 32) then below) ∙ sym then
