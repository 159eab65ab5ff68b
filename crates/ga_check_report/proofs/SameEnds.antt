-- What `--same` says of the ends that were found, and of the verdict.
use Rattle.std.proofs.Common.{◌≡◌, inl, inr, ◌⊎◌, ℕ, ◌<◌, ◌≤◌, Bool, true, false, cond, length, Option, Some, None, refl, arith}
use Rattle.std.specs.Prelude.{nat_lt}
use Rattle.std.proofs.lemmas.Bool.Decides.{nat_tests}
use Rattle.ga_lab.specs.Machine.{MachineState}
use Rattle.ga_state_search.specs.declared.fault.SearchFault.{SearchFault}
use Rattle.ga_state_ends.specs.Ends.{EndSearchResult}
use Rattle.ga_state_expectations.specs.declared.source.Expectation.TheVariants.{OneEnd}
use Rattle.ga_check_report.specs.declared.outcome.Breach.{Breach}
use Rattle.ga_check_report.specs.declared.outcome.Breach.TheVariants.{SeveralEnds}
use Rattle.ga_check_report.specs.declared.outcome.ExpectationOutcome.{ExpectationOutcome}
use Rattle.ga_check_report.specs.declared.outcome.ExpectationOutcome.TheVariants.{Holds, Broken}
use Rattle.ga_check_report.specs.declared.outcome.ExpectationOutcome.TheVariants as outcome
use Rattle.ga_check_report.specs.declared.report.Verdict.{Verdict}
use Rattle.ga_check_report.specs.declared.report.Verdict.TheVariants.{Clean, Unclean, Unknown, SessionWritten, FailedWithStatus}
use Rattle.ga_check_report.specs.EndTexts.{is_fully_explored}
use Rattle.ga_check_report.specs.Outcomes.{IsExpectationOutcome}
use Rattle.ga_check_report.specs.SameEnd.{single_end_expectation_outcome, verdict_weakened_by_unknown, verdict_with_outcome, verdict_with_single_end_outcome}

-- ---- the outcome

explored : (fault : Option SearchFault) → is_fully_explored fault ≡ true → fault ≡ None
explored None h = refl
explored (Some fault) h = absurd (cc)

several : (n : ℕ) → nat_lt 1 n ≡ true → 1 < n
several n is = grind (arith, nat_tests)

few : (n : ℕ) → nat_lt 1 n ≡ false → n ≤ 1
few n is = grind (arith, nat_tests)

known_by : (s : MachineState) (found : EndSearchResult) (more whole : Bool) → nat_lt 1 (length found.ends) ≡ more → is_fully_explored found.fault ≡ whole
    → IsExpectationOutcome s found OneEnd (cond more (Broken (SeveralEnds (length found.ends))) (cond whole Holds outcome.Unknown))
known_by s found true whole are is = (refl, several (length found.ends) are)
known_by s found false true are is = (explored found.fault is, few (length found.ends) are)
known_by s found false false are is = (is, few (length found.ends) are)

pub one_end_known : (s : MachineState) (found : EndSearchResult) → IsExpectationOutcome s found OneEnd (single_end_expectation_outcome found)
one_end_known s found = known_by s found (nat_lt 1 (length found.ends)) (is_fully_explored found.fault) refl refl

several_by : (n : ℕ) (more whole : Bool) (breach : Breach) → nat_lt 1 n ≡ more → cond more (Broken (SeveralEnds n)) (cond whole Holds outcome.Unknown) ≡ Broken breach
    → 1 < n
several_by n true whole breach are is = several n are
several_by n false true breach are is = absurd (cc)
several_by n false false breach are is = absurd (cc)

two_ends : (found : EndSearchResult) (breach : Breach) → single_end_expectation_outcome found ≡ Broken breach → 1 < length found.ends
two_ends found breach is = several_by (length found.ends) (nat_lt 1 (length found.ends)) (is_fully_explored found.fault) breach refl is

-- ---- the verdict

not_clean : (other : Verdict) → Clean ≡ verdict_weakened_by_unknown other → ⊥
not_clean Clean is = cc
not_clean Unclean is = cc
not_clean Unknown is = cc
not_clean SessionWritten is = cc
not_clean (FailedWithStatus status) is = cc

unclean_before : (other : Verdict) → Unclean ≡ verdict_weakened_by_unknown other → Unclean ≡ other
unclean_before Clean is = absurd (cc)
unclean_before Unclean is = refl
unclean_before Unknown is = absurd (cc)
unclean_before SessionWritten is = absurd (cc)
unclean_before (FailedWithStatus status) is = absurd (cc)

saved_before : (other : Verdict) → SessionWritten ≡ verdict_weakened_by_unknown other → SessionWritten ≡ other
saved_before Clean is = absurd (cc)
saved_before Unclean is = absurd (cc)
saved_before Unknown is = absurd (cc)
saved_before SessionWritten is = refl
saved_before (FailedWithStatus status) is = absurd (cc)

clean_by_outcome : (it : ExpectationOutcome) (other : Verdict) → Clean ≡ verdict_with_outcome it other → (Clean ≡ other) × (it ≡ Holds)
clean_by_outcome Holds other is = (is, refl)
clean_by_outcome (Broken breach) other is = absurd (cc)
clean_by_outcome outcome.Unknown other is = absurd (not_clean other is)

unclean_by_outcome : (it : ExpectationOutcome) (other : Verdict) → Unclean ≡ verdict_with_outcome it other → (Unclean ≡ other) ⊎ ((breach : Breach) × (it ≡ Broken breach))
unclean_by_outcome Holds other is = inl is
unclean_by_outcome (Broken breach) other is = inr (breach, refl)
unclean_by_outcome outcome.Unknown other is = inl (unclean_before other is)

saved_by_outcome : (it : ExpectationOutcome) (other : Verdict) → SessionWritten ≡ verdict_with_outcome it other → SessionWritten ≡ other
saved_by_outcome Holds other is = is
saved_by_outcome (Broken breach) other is = absurd (cc)
saved_by_outcome outcome.Unknown other is = saved_before other is

-- a clean verdict is one without `--same`, and with it the program has one end
pub clean_with_same : (same : Bool) (found : EndSearchResult) (other : Verdict) → Clean ≡ verdict_with_single_end_outcome same found other
    → (Clean ≡ other) × (same ≡ true → single_end_expectation_outcome found ≡ Holds)
clean_with_same true found other is = let parts = clean_by_outcome (single_end_expectation_outcome found) other is in (parts.0, λ asked. parts.1)
clean_with_same false found other is = (is, λ asked. absurd (cc))

-- an unclean one is one without `--same`, or two ends were found
pub unclean_with_same : (same : Bool) (found : EndSearchResult) (other : Verdict) → Unclean ≡ verdict_with_single_end_outcome same found other
    → (Unclean ≡ other) ⊎ ((same ≡ true) × (1 < length found.ends))
unclean_with_same true found other is = elim (unclean_by_outcome (single_end_expectation_outcome found) other is) [
  | inl before ↦ inl before
  | inr broken ↦ inr (refl, two_ends found broken.0 broken.1)
]
unclean_with_same false found other is = inl is

pub saved_with_same : (same : Bool) (found : EndSearchResult) (other : Verdict) → SessionWritten ≡ verdict_with_single_end_outcome same found other → SessionWritten ≡ other
saved_with_same true found other is = saved_by_outcome (single_end_expectation_outcome found) other is
saved_with_same false found other is = is
