-- A run with a watch for conditions ends as a run up to the first of them that holds.
use Rattle.std.proofs.Common.{◌≡◌, ◌∙◌, ℕ, zero, suc, ◌+◌, true, false, Option, Some, None, refl, sym, ap, subst, add-one}
use Rattle.std.specs.Prelude.{is_some, unwrap_or, IsSome}
use Rattle.ga_event.specs.declared.made.MadeEvent.{MadeEvent}
use Rattle.ga_lab.specs.Machine.{MachineState}
use Rattle.ga_scheduler.specs.declared.watched.WatchedRunEnd.{WatchedRunEnd}
use Rattle.ga_scheduler.specs.declared.watched.WatchedRunEnd.TheVariants as watched_end
use Rattle.ga_scheduler.specs.declared.running.RunEnd.TheVariants as run_end
use Rattle.ga_scheduler.specs.Running.{ScheduledMachine, next_run_event, run_after_events, CanMakeNextEvents, IsRunEndWithoutNextEvent}
use Rattle.ga_scheduler.specs.Watched.{next_event_with_precedence, run_after_event_with_precedence, run_after_events_with_precedence, CanMakeNextPrecedenceEvents, RunWatch, make_run_watch, watch_after_event, watch_ends_at_event, watch_state_after_events, watch_ends_run_after, HasNoWatchEnd, HasWatchedRunEnded}
use Rattle.ga_scheduler.proofs.Events.{after_none}
use Rattle.ga_state_expectations.specs.declared.expecting.AwaitedConditions.{AwaitedConditions}
use Rattle.ga_state_expectations.specs.Breaking.{first_condition_expecting}
use Rattle.ga_state_expectations.specs.Runs.{first_condition_after_optional_event, first_condition_after_next_event, HasNoConditionHeldExpecting, HasExpectingRunEnded}
use Rattle.ga_state_expectations.specs.inner.{run_end_of_watched_run}

abbrev pub by_conditions : RunWatch AwaitedConditions
by_conditions = make_run_watch None
    (λ awaited told s. is_some (first_condition_expecting awaited.expectations.now awaited.until.now told s))
    (λ awaited told s. record awaited { held = first_condition_expecting awaited.expectations.now awaited.until.now told s })

-- ---- what is awaited stays

-- what is awaited, with another result
abbrev pub with_held : AwaitedConditions → Option ℕ → AwaitedConditions
with_held w held = record w { held = held }

-- the result after the next event
held_next : AwaitedConditions → Option MadeEvent → MachineState → Option ℕ
held_next w None s = w.held
held_next w (Some told) s = first_condition_expecting w.expectations.now w.until.now told s

seen_next : (w : AwaitedConditions) (o : Option MadeEvent) (s : MachineState) → watch_after_event by_conditions w o s ≡ with_held w (held_next w o s)
unfolding held_next
seen_next w None s = refl
seen_next w (Some told) s = refl

held_after : AwaitedConditions → ScheduledMachine → ℕ → Option ℕ
held_after w r zero = w.held
held_after w r (suc n) = held_next (with_held w (held_after w r n)) (next_event_with_precedence None (run_after_events_with_precedence None r n)) (run_after_event_with_precedence None (run_after_events_with_precedence None r n)).state

stays : (w : AwaitedConditions) (r : ScheduledMachine) (n : ℕ) → watch_state_after_events by_conditions w r n ≡ with_held w (held_after w r n)
unfolding held_after
stays w r zero = refl
stays w r (suc n) =
    let o : Option MadeEvent = next_event_with_precedence None (run_after_events_with_precedence None r n) in
    let s : MachineState = (run_after_event_with_precedence None (run_after_events_with_precedence None r n)).state in
    ap (λ (z : AwaitedConditions). watch_after_event by_conditions z o s) (stays w r n) ∙ seen_next (with_held w (held_after w r n)) o s

-- ---- where it ends

ends_told : (w : AwaitedConditions) (o : Option MadeEvent) (s : MachineState) → watch_ends_at_event by_conditions w o s ≡ is_some (first_condition_after_optional_event w.expectations.now w.until.now o s)
ends_told w None s = refl
ends_told w (Some told) s = refl

ends_so : (w : AwaitedConditions) (r : ScheduledMachine) (n : ℕ) → watch_ends_run_after by_conditions w r n ≡ is_some (first_condition_after_next_event w.expectations.now w.until.now (run_after_events r n))
ends_so w r n =
    let here : ScheduledMachine = run_after_events_with_precedence None r n in
    let o : Option MadeEvent = next_event_with_precedence None here in
    let s : MachineState = (run_after_event_with_precedence None here).state in
    ap (λ (z : AwaitedConditions). watch_ends_at_event by_conditions z o s) (stays w r n)
    ∙ ends_told (with_held w (held_after w r n)) o s
    ∙ ap (λ (z : ScheduledMachine). is_some (first_condition_after_next_event w.expectations.now w.until.now z)) (after_none r n)

none_of : (o : Option ℕ) → is_some o ≡ false → o ≡ None
none_of None h = refl
none_of (Some n) h = absurd (cc)

some_of : (o held : Option ℕ) → is_some o ≡ true → held ≡ o → o ≡ Some (unwrap_or held 0)
some_of None held h e = absurd (cc)
some_of (Some n) held h e = ap (λ (z : Option ℕ). Some (unwrap_or z 0)) (sym e)

never_so : (w : AwaitedConditions) (r : ScheduledMachine) (n : ℕ) → HasNoWatchEnd by_conditions w r n → HasNoConditionHeldExpecting w.expectations.now w.until.now r n
never_so w r n never k l = none_of (first_condition_after_next_event w.expectations.now w.until.now (run_after_events r k)) (sym (ends_so w r k) ∙ never k l)

held_told : (w : AwaitedConditions) (o : Option MadeEvent) (s : MachineState) (told : MadeEvent) → o ≡ Some told → held_next w o s ≡ first_condition_after_optional_event w.expectations.now w.until.now o s
unfolding held_next
held_told w None s told is = absurd (cc)
held_told w (Some made) s told is = refl

held_so : (w : AwaitedConditions) (r : ScheduledMachine) (n : ℕ) (told : MadeEvent) → next_event_with_precedence None (run_after_events_with_precedence None r n) ≡ Some told
    → (watch_state_after_events by_conditions w r (n + 1)).held ≡ first_condition_after_next_event w.expectations.now w.until.now (run_after_events r n)
unfolding held_after
held_so w r n told is =
    let here : ScheduledMachine = run_after_events_with_precedence None r n in
    ap (λ (z : ℕ). (watch_state_after_events by_conditions w r z).held) (add-one n)
    ∙ ap (λ (z : AwaitedConditions). z.held) (stays w r (suc n))
    ∙ held_told (with_held w (held_after w r n)) (next_event_with_precedence None here) (run_after_event_with_precedence None here).state told is
    ∙ ap (λ (z : ScheduledMachine). first_condition_after_next_event w.expectations.now w.until.now z) (after_none r n)

pub made_so : (r : ScheduledMachine) (n : ℕ) → CanMakeNextPrecedenceEvents None r n → CanMakeNextEvents r n
made_so r n made k l = subst (λ (z : ScheduledMachine). IsSome (next_run_event z)) (after_none r k) (made k l)

pub ended_so : (w : AwaitedConditions) (r : ScheduledMachine) (most n : ℕ) (end : WatchedRunEnd) (held : Option ℕ) → held ≡ (watch_state_after_events by_conditions w r n).held
    → HasWatchedRunEnded by_conditions w r most n end → HasExpectingRunEnded w.expectations.now w.until.now r most n (run_end_of_watched_run held end)
ended_so w r most n (watched_end.EndedByWatch told) held is h = (
  h.0,
  h.1,
  never_so w r h.0 h.2,
  subst (λ (z : ScheduledMachine). next_run_event z ≡ Some told) (after_none r h.0) h.3,
  some_of (first_condition_after_next_event w.expectations.now w.until.now (run_after_events r h.0)) held (sym (ends_so w r h.0) ∙ h.4)
      (is ∙ ap (λ (z : ℕ). (watch_state_after_events by_conditions w r z).held) h.1 ∙ held_so w r h.0 told h.3),
)
ended_so w r most n watched_end.Made held is h = (h.0, never_so w r n h.1)
ended_so w r most n watched_end.Quiet held is h = (h.0, never_so w r n h.1, subst (λ (z : ScheduledMachine). IsRunEndWithoutNextEvent z run_end.Quiet) (after_none r n) h.2)
ended_so w r most n (watched_end.Refused why) held is h = (h.0, never_so w r n h.1, subst (λ (z : ScheduledMachine). IsRunEndWithoutNextEvent z (run_end.Refused why)) (after_none r n) h.2)
