-- What is known of an expectation, from what was found; and a machine that undoes the events of a session.
use Rattle.std.proofs.Common.{◌≡◌, ◌∙◌, ℕ, ◌+◌, ◌-◌, ◌<◌, ◌≤◌, inl, inr, List, [], ◌∷◌, ◌++◌, length, get_or, take, Some, Result, Ok, Err, refl, sym, ap, ap₂, subst, append-nil, arith}
use Rattle.std.specs.Prelude.{slice_get, unwrap_or, OnOk}
use Rattle.std.proofs.lemmas.Bool.{cases_lt}
use Rattle.std.proofs.lemmas.List.{length_push, length-append, length-take-le, get_or_append_left, get_or_push, take-take, take-append-le, take_all}
use Rattle.std.proofs.lemmas.Option.{same_Some, slice_get-get_or}
use Rattle.ga_node.specs.Record.{NodeRecord}
use Rattle.ga_event.specs.declared.event.Event.{Event}
use Rattle.ga_event.specs.declared.made.MadeEvent.{MadeEvent}
use Rattle.ga_event.specs.Apply.{replay}
use Rattle.ga_lab.specs.Machine.{MachineState, chip_of_machine, earlier_state, state_after_undo}
use Rattle.ga_state_conditions.specs.declared.condition.StateCondition.{StateCondition}
use Rattle.ga_state_links.specs.LinkExpectations.{IsLinkBreach}
use Rattle.ga_state_ends.specs.Ends.{EndSearchResult}
use Rattle.ga_state_expectations.specs.declared.source.Expectation.{Expectation}
use Rattle.ga_state_expectations.specs.declared.source.Expectation.TheVariants.{NodeAtEveryEnd, Never, LinkPassesWords, EveryOrderEnds, OneEnd}
use Rattle.ga_state_expectations.specs.declared.source.LineExpectation.{LineExpectation}
use Rattle.ga_check_report.specs.declared.outcome.ExpectationOutcome.{ExpectationOutcome}
use Rattle.ga_check_report.specs.declared.outcome.ExpectationOutcome.TheVariants.{Holds, Broken, Unknown}
use Rattle.ga_check_report.specs.Checking.{HasAppendedEvents}
use Rattle.ga_check_report.specs.Never.{HasReachedEvent}
use Rattle.ga_check_report.specs.Outcomes.{IsOutcomeOfSearchFindings, IsReachedConditionBreach, IsExpectationOutcome}
use Rattle.ga_check_report.specs.Expected.{LeadsToBreach}
use Rattle.ga_check_report.specs.inner.{IsNeverOfConditions}
use Rattle.ga_check_report.specs.declared.outcome.Breach.{Breach}
use Rattle.ga_state_conditions.specs.Reached.{HasNoReachedEvent}
use Rattle.ga_check_report.proofs.Leading.{made_more}

-- ---- events that are undone

pub undone_none : (s : MachineState) (n : ℕ) → n ≡ length s.kept → s ≡ earlier_state s n
undone_none s n is = ap (λ (es : List Event). record s { kept = es }) (sym (take_all n s.kept (omega arith)))

pub undone_more : (s t u : MachineState) (n m : ℕ) → t ≡ earlier_state s n → u ≡ state_after_undo t → n ≤ length s.kept → n ≡ m + 1 → u ≡ earlier_state s m
undone_more s t u n m at undone within next =
    let size : length (take n s.kept) ≡ n = length-take-le n s.kept within in
    let fewer : length (take n s.kept) - 1 ≡ m = omega arith in
    undone ∙ ap state_after_undo at
    ∙ ap (λ (k : ℕ). record s { kept = take k (take n s.kept) }) fewer
    ∙ ap (λ (es : List Event). record s { kept = es }) (take-take m n s.kept (omega arith))

-- the events of a session are undone: the machine keeps what it kept
pub all_undone : (s t u : MachineState) (events : List Event) (n : ℕ) → n ≡ length s.kept → HasAppendedEvents s events t → u ≡ earlier_state t n → HasAppendedEvents s [] u
all_undone s t u events n size led is = record {
  load = ap (λ (z : MachineState). z.load) is ∙ led.load;
  limit = ap (λ (z : MachineState). z.limit) is ∙ led.limit;
  kept = ap (λ (z : MachineState). z.kept) is ∙ ap (take n) led.kept ∙ take-append-le n s.kept events (omega arith) ∙ take_all n s.kept (omega arith) ∙ sym (append-nil s.kept);
}

pub kept_within : (s t : MachineState) (events : List Event) (n : ℕ) → n ≡ length s.kept → HasAppendedEvents s events t → n ≤ length t.kept
kept_within s t events n size led =
    let now : length t.kept ≡ length s.kept + length events = ap (λ (es : List Event). length es) led.kept ∙ length-append s.kept events in
    omega arith

-- ---- a machine that keeps the same

pub same_first : (s : MachineState) → HasAppendedEvents s [] s
same_first s = record { load = refl; limit = refl; kept = sym (append-nil s.kept) }

pub appended_as : (s t u : MachineState) (events : List Event) → HasAppendedEvents s [] t → HasAppendedEvents t events u → HasAppendedEvents s events u
appended_as s t u events same led = record {
  load = led.load ∙ same.load;
  limit = led.limit ∙ same.limit;
  kept = led.kept ∙ ap (λ (es : List Event). es ++ events) (same.kept ∙ append-nil s.kept);
}

pub chip_as : (s t : MachineState) → HasAppendedEvents s [] t → chip_of_machine t ≡ chip_of_machine s
chip_as s t same =
    ap₂ (λ (load : List NodeRecord) (kept : List Event). unwrap_or (replay load kept) []) same.load (same.kept ∙ append-nil s.kept)

reached_as : (s t last : MachineState) (conditions : List StateCondition) (which : ℕ) (made : MadeEvent) → HasAppendedEvents s [] t → HasReachedEvent conditions which t last made
    → HasReachedEvent conditions which s last made
reached_as s t last conditions which made same it = record {
  events = it.events;
  before = it.before;
  led = appended_as s t it.before it.events same it.led;
  event = it.event;
  reached = it.reached;
  report = it.report;
  leads = it.leads;
}

pub outcome_as : (s t : MachineState) (found : EndSearchResult) (expectation : Expectation) (outcome : ExpectationOutcome) → HasAppendedEvents s [] t → IsExpectationOutcome t found expectation outcome
    → IsExpectationOutcome s found expectation outcome
outcome_as s t found expectation Holds same it = it
outcome_as s t found (NodeAtEveryEnd expectation) (Broken breach) same it = it
outcome_as s t found (Never conditions) (Broken breach) same it = (it.0, it.1, it.2, reached_as s t it.1 conditions.items it.0 it.2 same it.3, it.4)
outcome_as s t found (LinkPassesWords expected) (Broken breach) same it =
    (it.0, it.1, it.2, subst (λ (load : List NodeRecord). IsLinkBreach load expected it.0 it.1 it.2) (chip_as s t same) it.3, it.4)
outcome_as s t found EveryOrderEnds (Broken breach) same it = it
outcome_as s t found OneEnd (Broken breach) same it = it
outcome_as s t found expectation Unknown same it = it

-- ---- each expectation

abbrev pub AreKnownBelow : MachineState → EndSearchResult → List LineExpectation → ℕ → List ExpectationOutcome → Type 0
AreKnownBelow s found expectations to outcomes =
    (length outcomes ≡ to)
    × ((place : ℕ) (one : LineExpectation) → place < to → slice_get expectations place ≡ Some one → IsExpectationOutcome s found one.expectation (get_or outcomes place Unknown))

pub none_known : (s : MachineState) (found : EndSearchResult) (expectations : List LineExpectation) (outcomes : List ExpectationOutcome) → outcomes ≡ []
    → AreKnownBelow s found expectations 0 outcomes
none_known s found expectations outcomes is = (ap (λ (list : List ExpectationOutcome). length list) is, λ place one below at. absurd (omega arith))

pub known_more : (s : MachineState) (found : EndSearchResult) (expectations : List LineExpectation) (to : ℕ) (one : LineExpectation) (outcomes later : List ExpectationOutcome)
    (outcome : ExpectationOutcome) → AreKnownBelow s found expectations to outcomes → slice_get expectations to ≡ Some one → later ≡ outcomes ++ outcome ∷ []
    → IsExpectationOutcome s found one.expectation outcome → AreKnownBelow s found expectations (to + 1) later
known_more s found expectations to one outcomes later outcome are at added is =
    subst (λ (list : List ExpectationOutcome). AreKnownBelow s found expectations (to + 1) list) (sym added) (
      length_push outcomes outcome ∙ ap (λ (n : ℕ). n + 1) are.0,
      λ place it less there. elim (cases_lt place to) [
        | inl below ↦
            subst (IsExpectationOutcome s found it.expectation) (sym (get_or_append_left outcomes (outcome ∷ []) Unknown place (omega (arith, below, are.0)))) (are.1 place it below there)
        | inr past ↦
            let this : place ≡ to = omega arith in
            let same : it ≡ one = same_Some it one (sym there ∙ ap (slice_get expectations) this ∙ at) in
            let value : get_or (outcomes ++ outcome ∷ []) place Unknown ≡ outcome =
            get_or_push outcomes outcome Unknown place (omega (arith, this, are.0)) in
            subst (IsExpectationOutcome s found it.expectation) (sym value) (subst (λ (x : LineExpectation). IsExpectationOutcome s found x.expectation outcome) (sym same) is)
      ],
    )

-- ---- what is known of one

pub widened : (found : EndSearchResult) (none : Type 0) (is_breach : Breach → Type 0) (outcome : ExpectationOutcome) → IsOutcomeOfSearchFindings found (Unit {0}) (λ breach. ⊥) outcome → none
    → IsOutcomeOfSearchFindings found none is_breach outcome
widened found none is_breach Holds it met = (it.0, met)
widened found none is_breach (Broken breach) it met = absurd it
widened found none is_breach Unknown it met = (it.0, met)

-- the events of a session, with the last
pub led_there : (s t : MachineState) (conditions : List StateCondition) (which : ℕ) (made : MadeEvent) → HasReachedEvent conditions which s t made → (events : List Event) × HasAppendedEvents s events t
led_there s t conditions which made it = (it.events ++ it.event ∷ [], made_more s it.before t it.events it.event it.led it.leads)

-- the expectation of a line, whose conditions these are
pub never_report : (s : MachineState) (found : EndSearchResult) (conditions : List StateCondition) (expectation : Expectation) (outcome : ExpectationOutcome) → IsNeverOfConditions conditions expectation
    → IsOutcomeOfSearchFindings found (HasNoReachedEvent found conditions) (IsReachedConditionBreach s conditions) outcome → IsExpectationOutcome s found expectation outcome
never_report s found conditions (NodeAtEveryEnd expectation) outcome is it = absurd is
never_report s found conditions (Never listed) outcome is it =
    subst (λ (list : List StateCondition). IsOutcomeOfSearchFindings found (HasNoReachedEvent found list) (IsReachedConditionBreach s list) outcome) (sym is) it
never_report s found conditions (LinkPassesWords expected) outcome is it = absurd is
never_report s found conditions EveryOrderEnds outcome is it = absurd is
never_report s found conditions OneEnd outcome is it = absurd is

pub never_led : (s last : MachineState) (conditions : List StateCondition) (expectation : Expectation) (which : ℕ) (made : MadeEvent) → IsNeverOfConditions conditions expectation
    → HasReachedEvent conditions which s last made → LeadsToBreach s expectation last
never_led s last conditions (NodeAtEveryEnd expectation) which made is it = absurd is
never_led s last conditions (Never listed) which made is it =
    (which, made, subst (λ (list : List StateCondition). HasReachedEvent list which s last made) (sym is) it)
never_led s last conditions (LinkPassesWords expected) which made is it = absurd is
never_led s last conditions EveryOrderEnds which made is it = absurd is
never_led s last conditions OneEnd which made is it = absurd is

pub listed : (expectations : List LineExpectation) (place : ℕ) (one : LineExpectation) → one ≡ get_or expectations place one → place < length expectations
    → slice_get expectations place ≡ Some one
listed expectations place one is within = slice_get-get_or expectations place one within ∙ ap (λ (x : LineExpectation). Some x) (sym is)

pub on_ok : {T E A : Type 0} (r : Result T E) → A → OnOk r A
on_ok (Ok x) a = a
on_ok (Err e) a = tt
