-- The watches of the moves end a run where the moves halt.
use Rattle.ga_scheduler.specs.declared.watched.WatchedRunEnd.TheVariants as the_end
use Rattle.std.proofs.Common.{◌≡◌, ℕ, ◌+◌, Bool, true, false, ◌||◌, List, Option, Some, None, refl, sym, ◌∙◌, ap, subst, add-one, zero, suc, cond}
use Rattle.std.specs.Prelude.{is_some}
use Rattle.ga_grid.specs.declared.node_id.NodeId.{NodeId}
use Rattle.ga_event.specs.declared.made.MadeEvent.{MadeEvent}
use Rattle.ga_lab.specs.Machine.{MachineState}
use Rattle.ga_scheduler.specs.declared.watched.WatchedRunEnd.{WatchedRunEnd}
use Rattle.ga_scheduler.specs.Conditions.{is_step_of_node}
use Rattle.ga_scheduler.specs.Running.{ScheduledMachine}
use Rattle.ga_scheduler.specs.Watched.{next_event_with_precedence, run_after_event_with_precedence, run_after_events_with_precedence, RunWatch, make_run_watch, watch_ends_run_after, HasNoWatchEnd, HasWatchedRunEnded, watch_after_event, watch_ends_at_event, watch_state_after_events}
use Rattle.ga_state_expectations.specs.Breaking.{line_broken_by_newest_event}
use Rattle.ga_state_expectations.proofs.Breaches.{broken_by_line}
use Rattle.ga_dap_breakpoints.specs.declared.breakpoint.Breakpoint.{Breakpoint}
use Rattle.ga_dap_breakpoints.specs.declared.hits.HitTally.{HitTally}
use Rattle.ga_dap_breakpoints.specs.declared.going.HaltReason.{HaltReason}
use Rattle.ga_dap_breakpoints.specs.declared.halts.HaltConditions.{HaltConditions}
use Rattle.ga_dap_breakpoints.specs.declared.moves.StepState.{StepState}
use Rattle.ga_dap_breakpoints.specs.declared.stepping.StepMove.{StepMove}
use Rattle.ga_dap_breakpoints.specs.Breakpoints.{tally_after_event, is_move_ending_stop, ends_move_early}
use Rattle.ga_dap_breakpoints.specs.Going.{MovePlan, tally_after_optional_event, tally_after_events, is_halting_event, halts_after_event, HasNoHaltBefore, IsFirstHalt, IsMoveResult, continue_plan, step_plan}
use Rattle.ga_dap_breakpoints.specs.Stepping.{pending_call_after_step, move_after_event, move_after_optional_event, move_after_events, completes_move}
use Rattle.ga_scheduler.specs.Watched.{IsRunStep}
use Rattle.ga_dap_breakpoints.specs.declared.stepping.Granularity.TheVariants.{Line}
use Rattle.ga_dap_breakpoints.specs.inner.Words.{instruction_cell_after_event}
use Rattle.ga_dap_breakpoints.proofs.Following.{cell_after_step}
use Rattle.ga_dap_breakpoints.proofs.Cells.{well_of}
use Rattle.ga_dap_breakpoints.specs.inner.Halting.{IsInstructionCell, halt_conditions_after_event, halt_reason_after_event, halt_reason_of_run}
use Rattle.ga_dap_breakpoints.specs.inner.Stepping.{step_state_after_event}

-- ---- how a move ends, by how its run did

-- the watch ends a run where the move halts
abbrev pub AreAlike : {W : Type 0} → RunWatch W → W → ScheduledMachine → MovePlan → Type 0
AreAlike by w r g = (k : ℕ) → watch_ends_run_after by w r k ≡ halts_after_event g r k

never_so : {W : Type 0} (by : RunWatch W) (w : W) (r : ScheduledMachine) (g : MovePlan) (n : ℕ) → AreAlike by w r g → HasNoWatchEnd by w r n → HasNoHaltBefore g r n
never_so by w r g n alike never k l = sym (alike k) ∙ never k l

-- by an event that hits, stops, breaks an expectation or moves
hit_so : (g : MovePlan) (r : ScheduledMachine) (most n k : ℕ) (told : MadeEvent) (s : MachineState) (hit : Option ℕ) (stopping : Bool) (line : Option ℕ) → s ≡ (run_after_event_with_precedence g.node (run_after_events_with_precedence g.node r k)).state
    → IsFirstHalt g r n k told → (tally_after_event g.breakpoints told s (g.tally k)).hit ≡ hit → is_move_ending_stop g.stops g.node told ≡ stopping → line_broken_by_newest_event g.expectations s ≡ line
    → (((is_some hit || stopping) || is_some line) || g.ends k told s) ≡ true → IsMoveResult g r most n (halt_reason_after_event stopping told line hit)
hit_so g r most n k told s (Some which) stopping line at first is stop broken ends =
    (k, first, ap (λ (z : MachineState). (tally_after_event g.breakpoints told z (g.tally k)).hit) (sym at) ∙ is)
hit_so g r most n k told s None true line at first is stop broken ends =
    (k, first, ap (λ (z : MachineState). (tally_after_event g.breakpoints told z (g.tally k)).hit) (sym at) ∙ is, stop)
hit_so g r most n k told s None false (Some line) at first is stop broken ends =
    (k, first, ap (λ (z : MachineState). (tally_after_event g.breakpoints told z (g.tally k)).hit) (sym at) ∙ is, stop, ap (line_broken_by_newest_event g.expectations) (sym at) ∙ broken)
hit_so g r most n k told s None false None at first is stop broken ends =
    (k, first, ap (λ (z : MachineState). (tally_after_event g.breakpoints told z (g.tally k)).hit) (sym at) ∙ is, stop, ap (line_broken_by_newest_event g.expectations) (sym at) ∙ broken, ap (g.ends k told) (sym at) ∙ ends)

after_more : (first : Option NodeId) (r : ScheduledMachine) (n k : ℕ) → n ≡ k + 1 → run_after_events_with_precedence first r n ≡ run_after_event_with_precedence first (run_after_events_with_precedence first r k)
after_more first r n k e = ap (run_after_events_with_precedence first r) (e ∙ add-one k)

-- the newest of `n` events hit this
pub counted_so : (first : Option NodeId) (breakpoints : List Breakpoint) (tally : HitTally) (r : ScheduledMachine) (n k : ℕ) (told : MadeEvent) → n ≡ k + 1
    → next_event_with_precedence first (run_after_events_with_precedence first r k) ≡ Some told
    → (tally_after_events first breakpoints tally r n).hit ≡ (tally_after_event breakpoints told (run_after_event_with_precedence first (run_after_events_with_precedence first r k)).state (tally_after_events first breakpoints tally r k)).hit
counted_so first breakpoints tally r n k told e is =
    ap (λ (z : ℕ). (tally_after_events first breakpoints tally r z).hit) (e ∙ add-one k)
    ∙ ap (λ (o : Option MadeEvent). (tally_after_optional_event breakpoints (tally_after_events first breakpoints tally r k) o (run_after_event_with_precedence first (run_after_events_with_precedence first r k)).state).hit) is

abbrev pub IsNewestHit : MovePlan → ScheduledMachine → ℕ → Option ℕ → Type 0
IsNewestHit g r n hit = (k : ℕ) (told : MadeEvent) → n ≡ k + 1 → next_event_with_precedence g.node (run_after_events_with_precedence g.node r k) ≡ Some told
    → hit ≡ (tally_after_event g.breakpoints told (run_after_event_with_precedence g.node (run_after_events_with_precedence g.node r k)).state (g.tally k)).hit

pub went_so : {W : Type 0} (ends : W → MadeEvent → MachineState → Bool) (seen : W → MadeEvent → MachineState → W) (w : W) (r now : ScheduledMachine) (g : MovePlan) (most n : ℕ) (end : WatchedRunEnd) (halt : HaltReason) (hit : Option ℕ)
    → AreAlike (make_run_watch g.node ends seen) w r g → now ≡ run_after_events_with_precedence g.node r n → HasWatchedRunEnded (make_run_watch g.node ends seen) w r most n end
    → IsNewestHit g r n hit → halt ≡ halt_reason_of_run hit g.stops g.expectations g.node end now.state → IsMoveResult g r most n halt
went_so ends seen w r now g most n (the_end.EndedByWatch told) halt hit alike at h counted is =
    let by = make_run_watch g.node ends seen in
    let k : ℕ = h.0 in
    let next : ScheduledMachine = run_after_event_with_precedence g.node (run_after_events_with_precedence g.node r k) in
    let here : now ≡ next = at ∙ after_more g.node r n k h.1 in
    let says : is_halting_event g k (next_event_with_precedence g.node (run_after_events_with_precedence g.node r k)) next.state ≡ true = sym (alike k) ∙ h.4 in
    let ends_so : is_halting_event g k (Some told) now.state ≡ true =
    ap (λ (z : ScheduledMachine). is_halting_event g k (Some told) z.state) here ∙ sym (ap (λ (o : Option MadeEvent). is_halting_event g k o next.state) h.3) ∙ says in
    let tallied : Option ℕ = (tally_after_event g.breakpoints told now.state (g.tally k)).hit in
    let stopping : Bool = is_move_ending_stop g.stops g.node told in
    let line : Option ℕ = line_broken_by_newest_event g.expectations now.state in
    let same : hit ≡ tallied = counted k told h.1 h.3 ∙ ap (λ (z : ScheduledMachine). (tally_after_event g.breakpoints told z.state (g.tally k)).hit) (sym here) in
    subst (IsMoveResult g r most n) (sym (is ∙ ap (halt_reason_after_event stopping told line) same))
    (hit_so g r most n k told now.state tallied stopping line (ap (λ (z : ScheduledMachine). z.state) here)
    (record { last = h.1; before = never_so by w r g k alike h.2; made = h.3 }) refl refl refl
    (ap (λ (b : Bool). ((is_some tallied || stopping) || b) || g.ends k told now.state) (sym (broken_by_line g.expectations now.state)) ∙ ends_so))
went_so ends seen w r now g most n the_end.Made halt hit alike at h counted is =
    subst (IsMoveResult g r most n) (sym is) (h.0, never_so (make_run_watch g.node ends seen) w r g n alike h.1)
went_so ends seen w r now g most n the_end.Quiet halt hit alike at h counted is =
    subst (IsMoveResult g r most n) (sym is) (h.0, never_so (make_run_watch g.node ends seen) w r g n alike h.1, h.2)
went_so ends seen w r now g most n (the_end.Refused why) halt hit alike at h counted is =
    subst (IsMoveResult g r most n) (sym is) (h.0, never_so (make_run_watch g.node ends seen) w r g n alike h.1, h.2)

-- ---- `continue`

abbrev pub by_halts : RunWatch HaltConditions
by_halts =
    make_run_watch None (λ (w : HaltConditions) (told : MadeEvent) (s : MachineState). ends_move_early w.breakpoints.now w.expectations.now w.tally w.stops None told s)
    (λ (w : HaltConditions) (told : MadeEvent) (s : MachineState). halt_conditions_after_event w told s)

abbrev pub with_tally : HaltConditions → HitTally → HaltConditions
with_tally w tally = record w { tally = tally }

counts_told : (w : HaltConditions) (tally : HitTally) (o : Option MadeEvent) (s : MachineState) → watch_after_event by_halts (with_tally w tally) o s ≡ with_tally w (tally_after_optional_event w.breakpoints.now tally o s)
counts_told w tally None s = refl
counts_told w tally (Some told) s = refl

pub hits_after : (w : HaltConditions) (r : ScheduledMachine) (k : ℕ) → watch_state_after_events by_halts w r k ≡ with_tally w (tally_after_events None w.breakpoints.now w.tally r k)
hits_after w r zero = refl
hits_after w r (suc k) =
    let o : Option MadeEvent = next_event_with_precedence None (run_after_events_with_precedence None r k) in
    let s : MachineState = (run_after_event_with_precedence None (run_after_events_with_precedence None r k)).state in
    ap (λ (z : HaltConditions). watch_after_event by_halts z o s) (hits_after w r k) ∙ counts_told w (tally_after_events None w.breakpoints.now w.tally r k) o s

or_false : (b : Bool) → b ≡ (b || false)
or_false true = refl
or_false false = refl

told_alike : (w : HaltConditions) (r : ScheduledMachine) (k : ℕ) (o : Option MadeEvent) (s : MachineState)
    → watch_ends_at_event by_halts (with_tally w (tally_after_events None w.breakpoints.now w.tally r k)) o s ≡ is_halting_event (continue_plan w.breakpoints.now w.expectations.now w.tally w.stops r) k o s
told_alike w r k None s = refl
told_alike w r k (Some told) s = or_false (ends_move_early w.breakpoints.now w.expectations.now (tally_after_events None w.breakpoints.now w.tally r k) w.stops None told s)

pub go_alike : (w : HaltConditions) (r : ScheduledMachine) → AreAlike by_halts w r (continue_plan w.breakpoints.now w.expectations.now w.tally w.stops r)
go_alike w r k =
    let o : Option MadeEvent = next_event_with_precedence None (run_after_events_with_precedence None r k) in
    let s : MachineState = (run_after_event_with_precedence None (run_after_events_with_precedence None r k)).state in
    ap (λ (z : HaltConditions). watch_ends_at_event by_halts z o s) (hits_after w r k) ∙ told_alike w r k o s

-- ---- a move of a node

abbrev pub by_steps : NodeId → RunWatch StepState
by_steps node =
    make_run_watch (Some node)
    (λ (w : StepState) (told : MadeEvent) (s : MachineState). ends_move_early w.halts.breakpoints.now w.halts.expectations.now w.halts.tally w.halts.stops (Some w.stepping.node) told s || completes_move w.notes.now w.stepping told s)
    (λ (w : StepState) (told : MadeEvent) (s : MachineState). step_state_after_event w told s)

abbrev pub with_parts : StepState → HitTally → StepMove → StepState
with_parts w tally by = record w { halts = with_tally w.halts tally; stepping = by }

goes_told : (node : NodeId) (w : StepState) (tally : HitTally) (by : StepMove) (o : Option MadeEvent) (s : MachineState)
    → watch_after_event (by_steps node) (with_parts w tally by) o s ≡ with_parts w (tally_after_optional_event w.halts.breakpoints.now tally o s) (move_after_optional_event by o s)
goes_told node w tally by None s = refl
goes_told node w tally by (Some told) s = refl

chosen_node : (b : Bool) (by : StepMove) (call : Option ℕ) → (cond {A = StepMove} b (record by { call = call }) by).node ≡ by.node
chosen_node true by call = refl
chosen_node false by call = refl

chosen_grain : (b : Bool) (by : StepMove) (call : Option ℕ) → (cond {A = StepMove} b (record by { call = call }) by).grain ≡ by.grain
chosen_grain true by call = refl
chosen_grain false by call = refl

pub moved_node : (by : StepMove) (told : MadeEvent) (s : MachineState) → (move_after_event by told s).node ≡ by.node
moved_node by told s = chosen_node (is_step_of_node by.node.number told) by (pending_call_after_step s by.node by.over by.call)

pub moved_grain : (by : StepMove) (told : MadeEvent) (s : MachineState) → (move_after_event by told s).grain ≡ by.grain
moved_grain by told s = chosen_grain (is_step_of_node by.node.number told) by (pending_call_after_step s by.node by.over by.call)

-- the cell of the node's word is known after an event
pub word_remembered : (by next : StepMove) (s t : MachineState) (told : MadeEvent) → IsRunStep s t told → next ≡ move_after_event by told t → (word behind : Option ℕ) → behind ≡ instruction_cell_after_event by.node word told t
    → (by.grain ≡ Line → IsInstructionCell s by.node word) → next.grain ≡ Line → IsInstructionCell t next.node behind
word_remembered by next s t told step next_is word behind behind_is right line =
    let lines : by.grain ≡ Line = sym (ap (λ (z : StepMove). z.grain) next_is ∙ moved_grain by told t) ∙ line in
    let same : next.node ≡ by.node = ap (λ (z : StepMove). z.node) next_is ∙ moved_node by told t in
    subst (λ (z : NodeId). IsInstructionCell t z behind) (sym same) (subst (λ (z : Option ℕ). IsInstructionCell t by.node z) (sym behind_is)
    (cell_after_step s t told step by.node word (well_of s step.replays by.node.number).counted (right lines)))

told_node : (by : StepMove) (o : Option MadeEvent) (s : MachineState) → (move_after_optional_event by o s).node ≡ by.node
told_node by None s = refl
told_node by (Some told) s = moved_node by told s

same_node : (by : StepMove) (r : ScheduledMachine) (k : ℕ) → (move_after_events by r k).node ≡ by.node
same_node by r zero = refl
same_node by r (suc k) =
    let first : Option NodeId = Some by.node in
    told_node (move_after_events by r k) (next_event_with_precedence first (run_after_events_with_precedence first r k)) (run_after_event_with_precedence first (run_after_events_with_precedence first r k)).state ∙ same_node by r k

pub goes_after : (w : StepState) (r : ScheduledMachine) (k : ℕ)
    → watch_state_after_events (by_steps w.stepping.node) w r k ≡ with_parts w (tally_after_events (Some w.stepping.node) w.halts.breakpoints.now w.halts.tally r k) (move_after_events w.stepping r k)
goes_after w r zero = refl
goes_after w r (suc k) =
    let first : Option NodeId = Some w.stepping.node in
    let o : Option MadeEvent = next_event_with_precedence first (run_after_events_with_precedence first r k) in
    let s : MachineState = (run_after_event_with_precedence first (run_after_events_with_precedence first r k)).state in
    ap (λ (z : StepState). watch_after_event (by_steps w.stepping.node) z o s) (goes_after w r k)
    ∙ goes_told w.stepping.node w (tally_after_events first w.halts.breakpoints.now w.halts.tally r k) (move_after_events w.stepping r k) o s

step_alike_told : (w : StepState) (r : ScheduledMachine) (k : ℕ) (o : Option MadeEvent) (s : MachineState)
    → watch_ends_at_event (by_steps w.stepping.node) (with_parts w (tally_after_events (Some w.stepping.node) w.halts.breakpoints.now w.halts.tally r k) (move_after_events w.stepping r k)) o s
    ≡ is_halting_event (step_plan w.notes.now w.halts.breakpoints.now w.halts.expectations.now w.halts.tally w.halts.stops w.stepping r) k o s
step_alike_told w r k None s = refl
step_alike_told w r k (Some told) s =
    let tally : HitTally = tally_after_events (Some w.stepping.node) w.halts.breakpoints.now w.halts.tally r k in
    ap (λ (z : NodeId). ends_move_early w.halts.breakpoints.now w.halts.expectations.now tally w.halts.stops (Some z) told s || completes_move w.notes.now (move_after_events w.stepping r k) told s) (same_node w.stepping r k)

pub step_alike : (w : StepState) (r : ScheduledMachine) → AreAlike (by_steps w.stepping.node) w r (step_plan w.notes.now w.halts.breakpoints.now w.halts.expectations.now w.halts.tally w.halts.stops w.stepping r)
step_alike w r k =
    let first : Option NodeId = Some w.stepping.node in
    let o : Option MadeEvent = next_event_with_precedence first (run_after_events_with_precedence first r k) in
    let s : MachineState = (run_after_event_with_precedence first (run_after_events_with_precedence first r k)).state in
    ap (λ (z : StepState). watch_ends_at_event (by_steps w.stepping.node) z o s) (goes_after w r k) ∙ step_alike_told w r k o s
