-- What a verdict says of what was found.
use Rattle.std.proofs.Common.{◌≡◌, ◌⊎◌, inl, inr, ℕ, ◌<◌, Bool, true, false, cond, List, length, Option, Some, None, refl}
use Rattle.std.specs.List.{list_any}
use Rattle.ga_lab.specs.Machine.{MachineState, chip_of_machine}
use Rattle.ga_explorer_text.specs.Saved.{saved_session_text}
use Rattle.ga_console.specs.declared.run.Status.TheVariants.{ImageRefused}
use Rattle.ga_state_search.specs.declared.fault.SearchFault.{SearchFault}
use Rattle.ga_state_ends.specs.Ends.{EndSearchResult, AreEndsOfChip, is_unclean}
use Rattle.ga_check_report.specs.Answers.{ends_answer}
use Rattle.ga_check_report.specs.EndTexts.{is_fully_explored}
use Rattle.ga_check_report.specs.Checking.{HasReachedEndOfNumberedKind, WritesEndsReport, end_kinds_verdict, ends_verdict}
use Rattle.ga_check_report.specs.Checking.WritesEndsReport.{all, none, led, no_memory, too_long}
use Rattle.ga_check_report.specs.Outcomes.{HoldsInEveryOrder}
use Rattle.ga_check_report.proofs.SameEnds.{clean_with_same, unclean_with_same, saved_with_same}
use Rattle.ga_check_report.proofs.ExpectationTelling.{one_end_held}
use Rattle.ga_state_expectations.specs.declared.source.Expectation.TheVariants.{OneEnd}
use Rattle.ga_check_report.specs.declared.request.CheckRequest.{CheckRequest}
use Rattle.ga_check_report.specs.declared.report.Verdict.TheVariants.{Clean, Unclean, Unknown, SessionWritten, FailedWithStatus}

clean_by : (unclean whole : Bool) → Clean ≡ cond unclean Unclean (cond whole Clean Unknown) → (unclean ≡ false) × (whole ≡ true)
clean_by true whole is = absurd (cc)
clean_by false true is = (refl, refl)
clean_by false false is = absurd (cc)

unclean_by : (unclean whole : Bool) → Unclean ≡ cond unclean Unclean (cond whole Clean Unknown) → unclean ≡ true
unclean_by true whole is = refl
unclean_by false true is = absurd (cc)
unclean_by false false is = absurd (cc)

saved_by : (unclean whole : Bool) → SessionWritten ≡ cond unclean Unclean (cond whole Clean Unknown) → ⊥
saved_by true whole is = cc
saved_by false true is = cc
saved_by false false is = cc

pub whole_is : (fault : Option SearchFault) → is_fully_explored fault ≡ true → fault ≡ None
whole_is None h = refl
whole_is (Some fault) h = absurd (cc)

clean_not_none : (whole : Bool) → Clean ≡ cond whole (FailedWithStatus ImageRefused) Unknown → ⊥
clean_not_none true is = cc
clean_not_none false is = cc

unclean_not_none : (whole : Bool) → Unclean ≡ cond whole (FailedWithStatus ImageRefused) Unknown → ⊥
unclean_not_none true is = cc
unclean_not_none false is = cc

saved_not_none : (whole : Bool) → SessionWritten ≡ cond whole (FailedWithStatus ImageRefused) Unknown → ⊥
saved_not_none true is = cc
saved_not_none false is = cc

-- the ends were written
clean_ends : (request : CheckRequest) (asked : ℕ) (s : MachineState) (text : List ℕ) → WritesEndsReport request asked s text Clean
    → (found : EndSearchResult) × AreEndsOfChip (chip_of_machine s) found × (Clean ≡ ends_verdict request found) × (text ≡ ends_answer request found)
clean_ends request asked s text (all found ends zero (inl out)) = (found, ends, out.1, out.0)
clean_ends request asked s text (all found ends zero (inr out)) = absurd (let q = out.1 in cc)
clean_ends request asked s text (none found ends past (inl out)) = absurd (clean_not_none (is_fully_explored found.fault) out.1)
clean_ends request asked s text (none found ends past (inr out)) = absurd (let q = out.1 in cc)
clean_ends request asked s text (led found last ends there (inl out)) = absurd (let q = out.1 in cc)
clean_ends request asked s text (led found last ends there (inr out)) = absurd (let q = out.1 in cc)
clean_ends request asked s text (no_memory (inl out)) = absurd (let q = out.1 in cc)
clean_ends request asked s text (no_memory (inr out)) = absurd (let q = out.1 in cc)
clean_ends request asked s text (too_long some (inl out)) = absurd (let q = out.1 in cc)
clean_ends request asked s text (too_long some (inr out)) = absurd (let q = out.1 in cc)

pub clean_told : (request : CheckRequest) (asked : ℕ) (s : MachineState) (text : List ℕ) → WritesEndsReport request asked s text Clean
    → (found : EndSearchResult) × AreEndsOfChip (chip_of_machine s) found × (found.fault ≡ None) × (list_any is_unclean found.kinds ≡ false) × (text ≡ ends_answer request found)
clean_told request asked s text report =
    let it = clean_ends request asked s text report in
    let found = it.0 in
    let same = clean_with_same request.same found (end_kinds_verdict found) it.2 in
    let parts = clean_by (list_any is_unclean found.kinds) (is_fully_explored found.fault) same.0 in
    (found, it.1, whole_is found.fault parts.1, parts.0, it.3)

-- with `--same` the program has one end
pub one_end_told : (request : CheckRequest) (asked : ℕ) (s : MachineState) (text : List ℕ) → WritesEndsReport request asked s text Clean → request.same ≡ true
    → HoldsInEveryOrder (chip_of_machine s) OneEnd
one_end_told request asked s text report is =
    let it = clean_ends request asked s text report in
    let same = clean_with_same request.same it.0 (end_kinds_verdict it.0) it.2 in
    one_end_held s it.0 it.1 (same.1 is)

pub unclean_told : (request : CheckRequest) (asked : ℕ) (s : MachineState) (text : List ℕ) → WritesEndsReport request asked s text Unclean
    → (found : EndSearchResult) × AreEndsOfChip (chip_of_machine s) found × ((list_any is_unclean found.kinds ≡ true) ⊎ ((request.same ≡ true) × (1 < length found.ends)))
    × (text ≡ ends_answer request found)
unclean_told request asked s text (all found ends zero (inl out)) = (
  found,
  ends,
  elim (unclean_with_same request.same found (end_kinds_verdict found) out.1) [
    | inl before ↦ inl (unclean_by (list_any is_unclean found.kinds) (is_fully_explored found.fault) before)
    | inr same ↦ inr same
  ],
  out.0,
)
unclean_told request asked s text (all found ends zero (inr out)) = absurd (let q = out.1 in cc)
unclean_told request asked s text (none found ends past (inl out)) = absurd (unclean_not_none (is_fully_explored found.fault) out.1)
unclean_told request asked s text (none found ends past (inr out)) = absurd (let q = out.1 in cc)
unclean_told request asked s text (led found last ends there (inl out)) = absurd (let q = out.1 in cc)
unclean_told request asked s text (led found last ends there (inr out)) = absurd (let q = out.1 in cc)
unclean_told request asked s text (no_memory (inl out)) = absurd (let q = out.1 in cc)
unclean_told request asked s text (no_memory (inr out)) = absurd (let q = out.1 in cc)
unclean_told request asked s text (too_long some (inl out)) = absurd (let q = out.1 in cc)
unclean_told request asked s text (too_long some (inr out)) = absurd (let q = out.1 in cc)

pub session_told : (request : CheckRequest) (asked : ℕ) (s : MachineState) (text : List ℕ) → WritesEndsReport request asked s text SessionWritten
    → (found : EndSearchResult) × (last : MachineState) × AreEndsOfChip (chip_of_machine s) found × HasReachedEndOfNumberedKind found asked s last × (text ≡ saved_session_text last)
session_told request asked s text (all found ends zero (inl out)) =
    absurd (saved_by (list_any is_unclean found.kinds) (is_fully_explored found.fault) (saved_with_same request.same found (end_kinds_verdict found) out.1))
session_told request asked s text (all found ends zero (inr out)) = absurd (let q = out.1 in cc)
session_told request asked s text (none found ends past (inl out)) = absurd (saved_not_none (is_fully_explored found.fault) out.1)
session_told request asked s text (none found ends past (inr out)) = absurd (let q = out.1 in cc)
session_told request asked s text (led found last ends there (inl out)) = (found, last, ends, there, out.0)
session_told request asked s text (led found last ends there (inr out)) = absurd (let q = out.1 in cc)
session_told request asked s text (no_memory (inl out)) = absurd (let q = out.1 in cc)
session_told request asked s text (no_memory (inr out)) = absurd (let q = out.1 in cc)
session_told request asked s text (too_long some (inl out)) = absurd (let q = out.1 in cc)
session_told request asked s text (too_long some (inr out)) = absurd (let q = out.1 in cc)
