-- Whether the newest event broke an expectation, by whether it violates it.
use Rattle.std.proofs.Common.{◌≡◌, ◌∙◌, ℕ, ◌+◌, ◌-◌, ◌<◌, ◌==◌, Bool, true, false, List, [], ◌∷◌, length, Option, Some, None, refl, sym, ap, arith}
use Rattle.std.specs.Prelude.{IsSome}
use Rattle.std.proofs.lemmas.Bool.{true≢false, eqb-true}
use Rattle.ga_event.specs.declared.event.Event.{Event}
use Rattle.ga_event.specs.declared.made.MadeEvent.{MadeEvent}
use Rattle.ga_event.specs.Apply.{run_events}
use Rattle.ga_event.specs.Told.{made_event_at_place}
use Rattle.ga_lab.specs.Machine.{MachineState, run_events_with_outcomes, earlier_state}
use Rattle.ga_scheduler.specs.Watched.{IsReportOfNewestEvent}
use Rattle.ga_scheduler.proofs.Newest.{whole_earlier}
use Rattle.ga_state_expectations.specs.declared.source.Expectation.{Expectation}
use Rattle.ga_state_expectations.specs.Violations.{violates_expectation, violates_as_optional_event, is_violated_at, IsOldestViolation}
use Rattle.ga_state_expectations.specs.Breaking.{oldest_violation, is_last_place, breaks_expectation}
use Rattle.ga_state_expectations.proofs.BreachLaws.{some_oldest, none_oldest}

-- there is an event
some_kept : (s : MachineState) (made : MadeEvent) (kept : List Event) → s.kept ≡ kept → IsReportOfNewestEvent s made → 0 < length s.kept
some_kept s made [] e report =
    absurd (
    let none : made_event_at_place (run_events_with_outcomes (run_events s.load [])) (length s.kept - 1) ≡ Some made =
    ap (λ (z : List Event). made_event_at_place (run_events_with_outcomes (run_events s.load z)) (length s.kept - 1)) (sym e) ∙ report in
    cc
    )
some_kept s made (event ∷ events) e report = let size : length s.kept ≡ length (event ∷ events) = ap (λ (z : List Event). length z) e in omega (arith, size)

newest_violated : (expectation : Expectation) (s : MachineState) (made : MadeEvent) → IsReportOfNewestEvent s made → 0 < length s.kept
    → is_violated_at expectation s (length s.kept - 1) ≡ violates_expectation expectation made s
newest_violated expectation s made report some =
    let all : length s.kept - 1 + 1 ≡ length s.kept = omega (arith, some) in
    ap (λ (o : Option MadeEvent). violates_as_optional_event expectation o (earlier_state s (length s.kept - 1 + 1))) report
    ∙ ap (λ (z : MachineState). violates_expectation expectation made z) (ap (earlier_state s) all ∙ whole_earlier s)

pub unviolated_unbroken : (expectation : Expectation) (s : MachineState) (made : MadeEvent) → IsReportOfNewestEvent s made → violates_expectation expectation made s ≡ false → breaks_expectation expectation s ≡ false
unviolated_unbroken expectation s made report none = by_place (oldest_violation expectation s) refl
  where
    by_test : (p : ℕ) → oldest_violation expectation s ≡ Some p → (b : Bool) → (length s.kept == p + 1) ≡ b → b ≡ false
    by_test p e false is = refl
    by_test p e true is =
        let it : IsOldestViolation expectation s p = some_oldest expectation s p e in
        let size : length s.kept ≡ p + 1 = eqb-true (length s.kept) (p + 1) is in
        let place : length s.kept - 1 ≡ p = omega (arith, size) in
        let some : 0 < length s.kept = omega (arith, size) in
        absurd (true≢false (sym it.here ∙ ap (is_violated_at expectation s) (sym place) ∙ newest_violated expectation s made report some ∙ none))

    by_place : (o : Option ℕ) → oldest_violation expectation s ≡ o → is_last_place (oldest_violation expectation s) (length s.kept) ≡ false
    by_place None e = ap (λ (z : Option ℕ). is_last_place z (length s.kept)) e
    by_place (Some p) e = ap (λ (z : Option ℕ). is_last_place z (length s.kept)) e ∙ by_test p e (length s.kept == p + 1) refl

pub violated_some : (expectation : Expectation) (s : MachineState) (made : MadeEvent) → IsReportOfNewestEvent s made → violates_expectation expectation made s ≡ true → IsSome (oldest_violation expectation s)
violated_some expectation s made report held = by_place (oldest_violation expectation s) refl
  where
    by_place : (o : Option ℕ) → oldest_violation expectation s ≡ o → IsSome o
    by_place (Some p) e = refl
    by_place None e =
        let some : 0 < length s.kept = some_kept s made s.kept refl report in
        absurd (true≢false (sym held ∙ sym (newest_violated expectation s made report some) ∙ none_oldest expectation s e (length s.kept - 1) (omega (arith, some))))
