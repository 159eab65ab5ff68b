-- Events made one after another, and how a run continues and ends.
use Rattle.std.proofs.Common.{◌≡◌, ℕ, zero, suc, ◌+◌, ◌-◌, ◌<◌, List, Some, None, Ok, inl, inr, refl, sym, ◌∙◌, ap, subst, arith, add-one, ◌≤◌, Bool, true, false, if◌then◌else◌}
use Rattle.std.specs.Prelude.{Option, is_some, IsSome}
use Rattle.std.specs.Result.{result_ok}
use Rattle.std.proofs.lemmas.Bool.{cases_lt}
use Rattle.ga_event.specs.declared.made.MadeEvent.{MadeEvent}
use Rattle.ga_lab.specs.Machine.{MachineState, step_answer, state_after_step, chip_of_machine}
use Rattle.ga_scheduler.specs.declared.condition.Condition.{Condition}
use Rattle.ga_scheduler.specs.declared.running.RunEnd.{RunEnd}
use Rattle.ga_scheduler.specs.declared.running.RunEnd.TheVariants as the_end
use Rattle.ga_grid.specs.declared.node_id.NodeId.{NodeId}
use Rattle.ga_scheduler.specs.declared.schedule.Schedule.{Schedule}
use Rattle.ga_scheduler.specs.Schedules.{schedule_after_event}
use Rattle.ga_scheduler.specs.Conditions.{first_holding_condition}
use Rattle.ga_scheduler.specs.Running.{ScheduledMachine, scheduled_machine, node_to_run, next_event_of_optional_node, next_run_event, run_after_step, run_after_next_event, run_after_events, CanMakeNextEvents, first_condition_held_by_event, condition_held_after_next_event, HasNoConditionHeld, IsRunEndWithoutNextEvent, HasRunEnded}
use Rattle.ga_scheduler.specs.inner.{IsRunEndByNextEventAtLatest, event_count_at_end}
use Rattle.ga_scheduler.specs.declared.watched.WatchedRunEnd.{WatchedRunEnd}
use Rattle.ga_scheduler.specs.declared.watched.WatchedRunEnd.TheVariants as watched_end
use Rattle.ga_races.specs.Orders.{node_has_event}
use Rattle.ga_scheduler.specs.Watched.{next_node_with_precedence, next_event_with_precedence, run_after_event_with_precedence, run_after_events_with_precedence, CanMakeNextPrecedenceEvents, RunWatch, watch_after_event, watch_ends_at_event, watch_state_after_events, watch_ends_run_after, HasNoWatchEnd, IsPrecedenceRunEndWithoutNextEvent, HasWatchedRunEnded}

-- ---- events made one after another

after_more : (r : ScheduledMachine) (n : ℕ) → run_after_events r (n + 1) ≡ run_after_next_event (run_after_events r n)
after_more r n = ap (run_after_events r) (add-one n)

-- one event more
pub gone_on : (start here next : ScheduledMachine) (n : ℕ) → here ≡ run_after_events start n → next ≡ run_after_next_event here → next ≡ run_after_events start (n + 1)
gone_on start here next n at on = on ∙ ap run_after_next_event at ∙ sym (after_more start n)

pub made_more : (start here : ScheduledMachine) (n : ℕ) (made : MadeEvent) → here ≡ run_after_events start n → next_run_event here ≡ Some made → CanMakeNextEvents start n → CanMakeNextEvents start (n + 1)
made_more start here n made at is before k l = elim (cases_lt k n) [
  | inl less ↦ before k less
  | inr more ↦ (let e : k ≡ n = omega arith in subst (λ z. IsSome (next_run_event (run_after_events start z))) (sym e) (subst (λ z. IsSome (next_run_event z)) at (ap is_some is)))
]

-- which of the conditions holds after it
pub held_is : (until : List Condition) (here next : ScheduledMachine) (made : MadeEvent) (held : Option ℕ) → next_run_event here ≡ Some made → next ≡ run_after_next_event here → held ≡ first_holding_condition until made next.state → condition_held_after_next_event until here ≡ held
held_is until here next made held is on h =
    ap (λ o. first_condition_held_by_event until o (run_after_next_event here).state) is ∙ ap (λ (z : ScheduledMachine). first_holding_condition until made z.state) (sym on) ∙ sym h

pub never_more : (until : List Condition) (start here : ScheduledMachine) (n : ℕ) → here ≡ run_after_events start n → condition_held_after_next_event until here ≡ None → HasNoConditionHeld until start n → HasNoConditionHeld until start (n + 1)
never_more until start here n at unmet before k l = elim (cases_lt k n) [
  | inl less ↦ before k less
  | inr more ↦ (let e : k ≡ n = omega arith in subst (λ z. condition_held_after_next_event until (run_after_events start z) ≡ None) (sym e) (subst (λ z. condition_held_after_next_event until z ≡ None) at unmet))
]

-- how it ends
pub ended_reached : (until : List Condition) (start here : ScheduledMachine) (most n : ℕ) (made : MadeEvent) (which : ℕ) → here ≡ run_after_events start n → HasNoConditionHeld until start n
    → next_run_event here ≡ Some made → condition_held_after_next_event until here ≡ Some which → HasRunEnded start most until (n + 1) (the_end.ConditionHeld made which)
ended_reached until start here most n made which at never is met =
    (n, refl, never, subst (λ z. next_run_event z ≡ Some made) at is, subst (λ z. condition_held_after_next_event until z ≡ Some which) at met)

pub ended_halted : (until : List Condition) (start here : ScheduledMachine) (most n : ℕ) (end : RunEnd) → here ≡ run_after_events start n → n < most → HasNoConditionHeld until start n → IsRunEndWithoutNextEvent here end → HasRunEnded start most until n end
ended_halted until start here most n the_end.Quiet at less never h = (less, never, subst (λ z. IsRunEndWithoutNextEvent z the_end.Quiet) at h)
ended_halted until start here most n (the_end.Refused why) at less never h = (less, never, subst (λ z. IsRunEndWithoutNextEvent z (the_end.Refused why)) at h)
ended_halted until start here most n (the_end.ConditionHeld made which) at less never h = absurd h
ended_halted until start here most n the_end.MadeRequestedEvents at less never h = absurd h

-- Two runs, one after the other, are one.

pub after_after : (r : ScheduledMachine) (m n : ℕ) → run_after_events (run_after_events r m) n ≡ run_after_events r (m + n)
after_after r m zero = ap (run_after_events r) (let e : m ≡ m + 0 = omega arith in e)
after_after r m (suc n) = ap run_after_next_event (after_after r m n) ∙ ap (run_after_events r) (let e : suc (m + n) ≡ m + suc n = omega arith in e)

never_both : (until : List Condition) (r : ScheduledMachine) (m n : ℕ) → HasNoConditionHeld until r m → HasNoConditionHeld until (run_after_events r m) n → HasNoConditionHeld until r (m + n)
never_both until r m n first second k l = elim (cases_lt k m) [
  | inl less ↦ first k less
  | inr more ↦ (
      let e : m + (k - m) ≡ k = omega arith in
      subst (λ z. condition_held_after_next_event until (run_after_events r z) ≡ None) e (subst (λ z. condition_held_after_next_event until z ≡ None) (after_after r m (k - m)) (second (k - m) (omega arith))))
]

pub ended_later : (until : List Condition) (r : ScheduledMachine) (most m n : ℕ) (end : RunEnd) → HasNoConditionHeld until r m → HasRunEnded (run_after_events r m) most until n end → HasRunEnded r (m + most) until (m + n) end
ended_later until r most m n (the_end.ConditionHeld made which) never h = (
  m + h.0,
  (let e : n ≡ h.0 + 1 = h.1 in omega arith),
  never_both until r m h.0 never h.2,
  subst (λ z. next_run_event z ≡ Some made) (after_after r m h.0) h.3,
  subst (λ z. condition_held_after_next_event until z ≡ Some which) (after_after r m h.0) h.4,
)
ended_later until r most m n the_end.MadeRequestedEvents never h = (ap (λ (z : ℕ). m + z) h.0, never_both until r m n never h.1)
ended_later until r most m n the_end.Quiet never h =
    ((let l : n < most = h.0 in omega arith), never_both until r m n never h.1, subst (λ z. IsRunEndWithoutNextEvent z the_end.Quiet) (after_after r m n) h.2)
ended_later until r most m n (the_end.Refused why) never h =
    ((let l : n < most = h.0 in omega arith), never_both until r m n never h.1, subst (λ z. IsRunEndWithoutNextEvent z (the_end.Refused why)) (after_after r m n) h.2)

-- one event: its report, and where it leads
pub told_is : (s : MachineState) (schedule : Schedule) (node : NodeId) (made : MadeEvent) → node_to_run (scheduled_machine s schedule) ≡ Some node → step_answer s node ≡ Ok made → next_run_event (scheduled_machine s schedule) ≡ Some made
told_is s schedule node made who answer = ap (next_event_of_optional_node s) who ∙ ap result_ok answer

pub moved_is : (s t : MachineState) (a b : Schedule) (node : NodeId) → node_to_run (scheduled_machine s a) ≡ Some node → t ≡ state_after_step s node → b ≡ schedule_after_event a node → scheduled_machine t b ≡ run_after_next_event (scheduled_machine s a)
moved_is s t a b node who state schedule =
    ap (λ z. scheduled_machine z b) state ∙ ap (λ z. scheduled_machine (state_after_step s node) z) schedule ∙ sym (ap (run_after_step (scheduled_machine s a)) who)

-- ---- how a run continues by one event, and how it ends

-- where nothing was made, it is the same run
pub stayed : (s t : MachineState) (a b : Schedule) → t ≡ s → b ≡ a → scheduled_machine t b ≡ scheduled_machine s a
stayed s t a b state schedule = ap (λ z. scheduled_machine z b) state ∙ ap (scheduled_machine s) schedule

-- one event more was made
pub made_one : (start here : ScheduledMachine) (n : ℕ) → here ≡ run_after_events start n → IsSome (next_run_event here) → CanMakeNextEvents start n → CanMakeNextEvents start (n + 1)
made_one start here n at is before k l = elim (cases_lt k n) [
  | inl less ↦ before k less
  | inr more ↦ (let e : k ≡ n = omega arith in subst (λ z. IsSome (next_run_event (run_after_events start z))) (sym e) (subst (λ z. IsSome (next_run_event z)) at is))
]

-- where a run is over
pub over_state : (until : List Condition) (start here next : ScheduledMachine) (n : ℕ) (end : RunEnd) → here ≡ run_after_events start n → IsRunEndByNextEventAtLatest until here next end → next ≡ run_after_events start (event_count_at_end n end)
over_state until start here next n (the_end.ConditionHeld made which) at h = gone_on start here next n at h.2
over_state until start here next n the_end.MadeRequestedEvents at h = absurd h
over_state until start here next n the_end.Quiet at h = h.1 ∙ at
over_state until start here next n (the_end.Refused why) at h = h.1 ∙ at

pub over_made : (until : List Condition) (start here next : ScheduledMachine) (n : ℕ) (end : RunEnd) → here ≡ run_after_events start n → IsRunEndByNextEventAtLatest until here next end → CanMakeNextEvents start n → CanMakeNextEvents start (event_count_at_end n end)
over_made until start here next n (the_end.ConditionHeld made which) at h before = made_more start here n made at h.0 before
over_made until start here next n the_end.MadeRequestedEvents at h before = before
over_made until start here next n the_end.Quiet at h before = before
over_made until start here next n (the_end.Refused why) at h before = before

pub over_end : (until : List Condition) (start here next : ScheduledMachine) (most n : ℕ) (end : RunEnd) → here ≡ run_after_events start n → n < most → IsRunEndByNextEventAtLatest until here next end → HasNoConditionHeld until start n
    → HasRunEnded start most until (event_count_at_end n end) end
over_end until start here next most n (the_end.ConditionHeld made which) at less h never = ended_reached until start here most n made which at never h.0 h.1
over_end until start here next most n the_end.MadeRequestedEvents at less h never = absurd h
over_end until start here next most n the_end.Quiet at less h never = ended_halted until start here most n the_end.Quiet at less never h.0
over_end until start here next most n (the_end.Refused why) at less h never = ended_halted until start here most n (the_end.Refused why) at less never h.0

pub over_most : (n most : ℕ) (end : RunEnd) → n < most → event_count_at_end n end ≤ most
over_most n most (the_end.ConditionHeld made which) less = omega arith
over_most n most the_end.MadeRequestedEvents less = omega arith
over_most n most the_end.Quiet less = omega arith
over_most n most (the_end.Refused why) less = omega arith

-- ---- events made one after another, where a node may go first and a watch looks on

-- ---- who makes the next event

pub chosen_ready : (node : NodeId) (r : ScheduledMachine) → node_has_event (chip_of_machine r.state) node.number ≡ true → next_node_with_precedence (Some node) r ≡ Some node
chosen_ready node r ready = ap (λ (b : Bool). if b then Some node else node_to_run r) ready

pub chosen_other : (node : NodeId) (r : ScheduledMachine) → node_has_event (chip_of_machine r.state) node.number ≡ false → next_node_with_precedence (Some node) r ≡ node_to_run r
chosen_other node r ready = ap (λ (b : Bool). if b then Some node else node_to_run r) ready

-- where the schedule finds none, the chip is quiet
none_chosen : (b : Bool) (node : NodeId) (o : Option NodeId) → (if b then Some node else o) ≡ None → o ≡ None
none_chosen true node o h = absurd (cc)
none_chosen false node o h = h

pub none_left : (first : Option NodeId) (r : ScheduledMachine) → next_node_with_precedence first r ≡ None → node_to_run r ≡ None
none_left None r h = h
none_left (Some node) r h = none_chosen (node_has_event (chip_of_machine r.state) node.number) node (node_to_run r) h

pub told_is_first : (first : Option NodeId) (s : MachineState) (schedule : Schedule) (node : NodeId) (made : MadeEvent) → next_node_with_precedence first (scheduled_machine s schedule) ≡ Some node → step_answer s node ≡ Ok made
    → next_event_with_precedence first (scheduled_machine s schedule) ≡ Some made
told_is_first first s schedule node made who answer = ap (next_event_of_optional_node s) who ∙ ap result_ok answer

pub moved_is_first : (first : Option NodeId) (s t : MachineState) (a b : Schedule) (node : NodeId) → next_node_with_precedence first (scheduled_machine s a) ≡ Some node → t ≡ state_after_step s node → b ≡ schedule_after_event a node
    → scheduled_machine t b ≡ run_after_event_with_precedence first (scheduled_machine s a)
moved_is_first first s t a b node who state schedule =
    ap (λ z. scheduled_machine z b) state ∙ ap (λ z. scheduled_machine (state_after_step s node) z) schedule ∙ sym (ap (run_after_step (scheduled_machine s a)) who)

-- ---- one event more

after_more_first : (first : Option NodeId) (r : ScheduledMachine) (n : ℕ) → run_after_events_with_precedence first r (n + 1) ≡ run_after_event_with_precedence first (run_after_events_with_precedence first r n)
after_more_first first r n = ap (run_after_events_with_precedence first r) (add-one n)

pub gone_on_first : (first : Option NodeId) (start here next : ScheduledMachine) (n : ℕ) → here ≡ run_after_events_with_precedence first start n → next ≡ run_after_event_with_precedence first here → next ≡ run_after_events_with_precedence first start (n + 1)
gone_on_first first start here next n at on = on ∙ ap (run_after_event_with_precedence first) at ∙ sym (after_more_first first start n)

pub made_more_first : (first : Option NodeId) (start here : ScheduledMachine) (n : ℕ) (made : MadeEvent) → here ≡ run_after_events_with_precedence first start n → next_event_with_precedence first here ≡ Some made → CanMakeNextPrecedenceEvents first start n
    → CanMakeNextPrecedenceEvents first start (n + 1)
made_more_first first start here n made at is before k l = elim (cases_lt k n) [
  | inl less ↦ before k less
  | inr more ↦ (let e : k ≡ n = omega arith in
      subst (λ z. IsSome (next_event_with_precedence first (run_after_events_with_precedence first start z))) (sym e) (subst (λ z. IsSome (next_event_with_precedence first z)) at (ap is_some is)))
]

-- the watch after it
watch_more : {W : Type 0} (by : RunWatch W) (w : W) (r : ScheduledMachine) (n : ℕ)
    → watch_state_after_events by w r (n + 1) ≡ watch_after_event by (watch_state_after_events by w r n) (next_event_with_precedence by.first (run_after_events_with_precedence by.first r n)) (run_after_event_with_precedence by.first (run_after_events_with_precedence by.first r n)).state
watch_more by w r n = ap (watch_state_after_events by w r) (add-one n)

pub seen_more : {W : Type 0} (by : RunWatch W) (w now behind : W) (start here next : ScheduledMachine) (n : ℕ) (made : MadeEvent) → now ≡ watch_state_after_events by w start n → here ≡ run_after_events_with_precedence by.first start n
    → next_event_with_precedence by.first here ≡ Some made → next ≡ run_after_event_with_precedence by.first here → behind ≡ by.seen now made next.state → behind ≡ watch_state_after_events by w start (n + 1)
seen_more {W} by w now behind start here next n made watch at is on seen =
    seen
    ∙ ap (λ (z : ScheduledMachine). by.seen now made z.state) on
    ∙ sym (ap (λ (o : Option MadeEvent). watch_after_event by now o (run_after_event_with_precedence by.first here).state) is)
    ∙ ap (λ (z : ScheduledMachine). watch_after_event by now (next_event_with_precedence by.first z) (run_after_event_with_precedence by.first z).state) at
    ∙ ap (λ (z : W). watch_after_event by z (next_event_with_precedence by.first (run_after_events_with_precedence by.first start n)) (run_after_event_with_precedence by.first (run_after_events_with_precedence by.first start n)).state) watch
    ∙ sym (watch_more by w start n)

-- whether it ends there
pub ends_is : {W : Type 0} (by : RunWatch W) (w now : W) (start here next : ScheduledMachine) (n : ℕ) (made : MadeEvent) (ended : Bool) → now ≡ watch_state_after_events by w start n → here ≡ run_after_events_with_precedence by.first start n
    → next_event_with_precedence by.first here ≡ Some made → next ≡ run_after_event_with_precedence by.first here → ended ≡ by.ends now made next.state → watch_ends_run_after by w start n ≡ ended
ends_is {W} by w now start here next n made ended watch at is on says =
    sym (
    says
    ∙ ap (λ (z : ScheduledMachine). by.ends now made z.state) on
    ∙ sym (ap (λ (o : Option MadeEvent). watch_ends_at_event by now o (run_after_event_with_precedence by.first here).state) is)
    ∙ ap (λ (z : ScheduledMachine). watch_ends_at_event by now (next_event_with_precedence by.first z) (run_after_event_with_precedence by.first z).state) at
    ∙ ap (λ (z : W). watch_ends_at_event by z (next_event_with_precedence by.first (run_after_events_with_precedence by.first start n)) (run_after_event_with_precedence by.first (run_after_events_with_precedence by.first start n)).state) watch
    )

pub never_more_first : {W : Type 0} (by : RunWatch W) (w : W) (start : ScheduledMachine) (n : ℕ) → watch_ends_run_after by w start n ≡ false → HasNoWatchEnd by w start n → HasNoWatchEnd by w start (n + 1)
never_more_first by w start n unmet before k l = elim (cases_lt k n) [
  | inl less ↦ before k less
  | inr more ↦ (let e : k ≡ n = omega arith in subst (λ z. watch_ends_run_after by w start z ≡ false) (sym e) unmet)
]

-- ---- how it ends

pub ended_seen : {W : Type 0} (by : RunWatch W) (w : W) (start here : ScheduledMachine) (most n : ℕ) (made : MadeEvent) → here ≡ run_after_events_with_precedence by.first start n → HasNoWatchEnd by w start n
    → next_event_with_precedence by.first here ≡ Some made → watch_ends_run_after by w start n ≡ true → HasWatchedRunEnded by w start most (n + 1) (watched_end.EndedByWatch made)
ended_seen by w start here most n made at never is met = (n, refl, never, subst (λ z. next_event_with_precedence by.first z ≡ Some made) at is, met)

pub ended_halted_first : {W : Type 0} (by : RunWatch W) (w : W) (start here : ScheduledMachine) (most n : ℕ) (end : WatchedRunEnd) → here ≡ run_after_events_with_precedence by.first start n → n < most → HasNoWatchEnd by w start n
    → IsPrecedenceRunEndWithoutNextEvent by.first here end → HasWatchedRunEnded by w start most n end
ended_halted_first by w start here most n watched_end.Quiet at less never h = (less, never, subst (λ z. IsPrecedenceRunEndWithoutNextEvent by.first z watched_end.Quiet) at h)
ended_halted_first by w start here most n (watched_end.Refused why) at less never h = (less, never, subst (λ z. IsPrecedenceRunEndWithoutNextEvent by.first z (watched_end.Refused why)) at h)
ended_halted_first by w start here most n (watched_end.EndedByWatch made) at less never h = absurd h
ended_halted_first by w start here most n watched_end.Made at less never h = absurd h

-- ---- two runs, one after the other, are one

pub after_after_first : (first : Option NodeId) (r : ScheduledMachine) (m n : ℕ) → run_after_events_with_precedence first (run_after_events_with_precedence first r m) n ≡ run_after_events_with_precedence first r (m + n)
after_after_first first r m zero = ap (run_after_events_with_precedence first r) (let e : m ≡ m + 0 = omega arith in e)
after_after_first first r m (suc n) = ap (run_after_event_with_precedence first) (after_after_first first r m n) ∙ ap (run_after_events_with_precedence first r) (let e : suc (m + n) ≡ m + suc n = omega arith in e)

-- what is seen of an event, by what the watch was and how the run stood
seen_at : {W : Type 0} → RunWatch W → W → ScheduledMachine → W
seen_at by w r = watch_after_event by w (next_event_with_precedence by.first r) (run_after_event_with_precedence by.first r).state

pub watch_after_after : {W : Type 0} (by : RunWatch W) (w : W) (r : ScheduledMachine) (m n : ℕ) → watch_state_after_events by (watch_state_after_events by w r m) (run_after_events_with_precedence by.first r m) n ≡ watch_state_after_events by w r (m + n)
unfolding seen_at
watch_after_after by w r m zero = ap (watch_state_after_events by w r) (let e : m ≡ m + 0 = omega arith in e)
watch_after_after {W} by w r m (suc n) =
    ap (λ (z : W). seen_at by z (run_after_events_with_precedence by.first (run_after_events_with_precedence by.first r m) n)) (watch_after_after by w r m n)
    ∙ ap (λ (z : ScheduledMachine). seen_at by (watch_state_after_events by w r (m + n)) z) (after_after_first by.first r m n)
    ∙ ap (watch_state_after_events by w r) (let e : suc (m + n) ≡ m + suc n = omega arith in e)

ends_at : {W : Type 0} → RunWatch W → W → ScheduledMachine → Bool
ends_at by w r = watch_ends_at_event by w (next_event_with_precedence by.first r) (run_after_event_with_precedence by.first r).state

pub ends_behind_after : {W : Type 0} (by : RunWatch W) (w : W) (r : ScheduledMachine) (m n : ℕ) → watch_ends_run_after by (watch_state_after_events by w r m) (run_after_events_with_precedence by.first r m) n ≡ watch_ends_run_after by w r (m + n)
unfolding ends_at
ends_behind_after {W} by w r m n =
    ap (λ (z : W). ends_at by z (run_after_events_with_precedence by.first (run_after_events_with_precedence by.first r m) n)) (watch_after_after by w r m n)
    ∙ ap (λ (z : ScheduledMachine). ends_at by (watch_state_after_events by w r (m + n)) z) (after_after_first by.first r m n)

never_both_first : {W : Type 0} (by : RunWatch W) (w : W) (r : ScheduledMachine) (m n : ℕ) → HasNoWatchEnd by w r m → HasNoWatchEnd by (watch_state_after_events by w r m) (run_after_events_with_precedence by.first r m) n → HasNoWatchEnd by w r (m + n)
never_both_first by w r m n first second k l = elim (cases_lt k m) [
  | inl less ↦ first k less
  | inr more ↦ (
      let e : m + (k - m) ≡ k = omega arith in
      subst (λ z. watch_ends_run_after by w r z ≡ false) e (sym (ends_behind_after by w r m (k - m)) ∙ second (k - m) (omega arith)))
]

pub ended_later_first : {W : Type 0} (by : RunWatch W) (w : W) (r : ScheduledMachine) (most m n : ℕ) (end : WatchedRunEnd) → HasNoWatchEnd by w r m
    → HasWatchedRunEnded by (watch_state_after_events by w r m) (run_after_events_with_precedence by.first r m) most n end → HasWatchedRunEnded by w r (m + most) (m + n) end
ended_later_first by w r most m n (watched_end.EndedByWatch made) never h = (
  m + h.0,
  (let e : n ≡ h.0 + 1 = h.1 in omega arith),
  never_both_first by w r m h.0 never h.2,
  subst (λ z. next_event_with_precedence by.first z ≡ Some made) (after_after_first by.first r m h.0) h.3,
  sym (ends_behind_after by w r m h.0) ∙ h.4,
)
ended_later_first by w r most m n watched_end.Made never h = (ap (λ (z : ℕ). m + z) h.0, never_both_first by w r m n never h.1)
ended_later_first by w r most m n watched_end.Quiet never h =
    ((let l : n < most = h.0 in omega arith), never_both_first by w r m n never h.1, subst (λ z. IsPrecedenceRunEndWithoutNextEvent by.first z watched_end.Quiet) (after_after_first by.first r m n) h.2)
ended_later_first by w r most m n (watched_end.Refused why) never h =
    ((let l : n < most = h.0 in omega arith), never_both_first by w r m n never h.1, subst (λ z. IsPrecedenceRunEndWithoutNextEvent by.first z (watched_end.Refused why)) (after_after_first by.first r m n) h.2)

-- if no node has precedence, it is a run in the order of the schedule
pub after_none : (r : ScheduledMachine) (n : ℕ) → run_after_events_with_precedence None r n ≡ run_after_events r n
after_none r zero = refl
after_none r (suc n) = ap run_after_next_event (after_none r n)
