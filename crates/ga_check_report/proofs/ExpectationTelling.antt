-- What an outcome and a verdict about expectations say of every interleaving.
use Rattle.std.proofs.Common.{◌≡◌, ◌∙◌, ◌⊎◌, inl, inr, ℕ, zero, suc, ◌-◌, ◌*◌, ◌<◌, ◌≤◌, Bool, true, false, cond, List, [], ◌∷◌, ◌++◌, length, get_or, Some, None, true≢false, refl, sym, ap, subst, arith}
use Rattle.std.specs.Prelude.{slice_get}
use Rattle.std.specs.List.{list_any}
use Rattle.std.proofs.lemmas.Option.{same_Some, slice_get_within}
use Rattle.ga_node.specs.Record.{NodeRecord}
use Rattle.ga_event.specs.declared.event.Event.{Event}
use Rattle.ga_event.specs.Apply.{replay}
use Rattle.ga_races.proofs.Exact.{replay_into}
use Rattle.ga_races.proofs.Independence.{replay_more}
use Rattle.ga_lab.specs.Machine.{MachineState, chip_of_machine}
use Rattle.ga_explorer_text.specs.Saved.{saved_session_text}
use Rattle.ga_console.specs.declared.run.Status.TheVariants.{ImageRefused}
use Rattle.ga_state_store.specs.Edges.{forced_events, events_of_edge}
use Rattle.ga_state_store.specs.declared.edges.Edge.{Edge}
use Rattle.ga_state_search.specs.Searching.{StoredSearch, IsStoredSearch}
use Rattle.ga_state_search.proofs.Reaching.{reachable}
use Rattle.ga_state_graph.specs.Paths.{IsStatePath}
use Rattle.ga_state_graph.proofs.Numbering.{has_list}
use Rattle.ga_state_ends.specs.Along.{events_of_part}
use Rattle.ga_state_ends.specs.Ends.{EndSearchResult, AreEndsOfChip}
use Rattle.ga_state_ends.specs.declared.end_kind.StoredEnd.{StoredEnd}
use Rattle.ga_state_ends.proofs.Counting.{some_at}
use Rattle.ga_state_ends.proofs.Lifted.{leads_of, can_edge}
use Rattle.ga_state_ends.proofs.Whole.{end_reachable, end_bound}
use Rattle.ga_state_links.proofs.Whole.{holds_over}
use Rattle.ga_state_conditions.proofs.Whole.{none_met}
use Rattle.ga_state_expectations.specs.declared.source.Expectation.{Expectation}
use Rattle.ga_state_expectations.specs.declared.source.Expectation.TheVariants.{NodeAtEveryEnd, Never, LinkPassesWords, EveryOrderEnds, OneEnd}
use Rattle.ga_state_expectations.specs.declared.source.LineExpectation.{LineExpectation}
use Rattle.ga_state_expectations.proofs.Interleavings.{met_there, unmet_there}
use Rattle.ga_check_report.specs.declared.request.CheckRequest.{CheckRequest}
use Rattle.ga_check_report.specs.declared.outcome.Breach.{Breach}
use Rattle.ga_check_report.specs.declared.outcome.ExpectationOutcome.{ExpectationOutcome}
use Rattle.ga_check_report.specs.declared.outcome.ExpectationOutcome.TheVariants.{Holds, Broken}
use Rattle.ga_check_report.specs.declared.outcome.ExpectationOutcome.TheVariants as outcome
use Rattle.ga_check_report.specs.declared.report.Verdict.TheVariants.{Clean, Unclean, Unknown, SessionWritten, FailedWithStatus}
use Rattle.ga_check_report.specs.Outcomes.{HasNoBreach, IsBreachOfExpectation, IsExpectationOutcome, AreExpectationOutcomes, is_outcome_broken, is_outcome_unknown, outcomes_verdict, expectations_verdict, HoldsInEveryOrder, IsBrokenInSomeOrder}
use Rattle.ga_check_report.specs.SameEnd.{single_end_expectation_outcome}
use Rattle.ga_check_report.proofs.SameEnds.{one_end_known, clean_with_same, unclean_with_same, saved_with_same}
use Rattle.ga_check_report.specs.Expected.{LeadsToBreach, WritesExpectationsReport}
use Rattle.ga_check_report.specs.Expected.WritesExpectationsReport.{all, led, unbroken, missing, no_memory, too_long}

-- ---- a path of states

abbrev path_events : List Edge → List Event
path_events [] = []
path_events (edge ∷ path) = events_of_edge edge ++ path_events path

path_replayed : (searched : StoredSearch) (path : List Edge) (from to : ℕ) (chip there : List NodeRecord) → IsStoredSearch searched → IsStatePath searched.edges from path to
    → slice_get searched.chips from ≡ Some chip → slice_get searched.chips to ≡ Some there → replay chip (path_events path) ≡ Some there
path_replayed searched [] from to chip there is on at last = sym at ∙ ap (slice_get searched.chips) on ∙ last
path_replayed searched (edge ∷ path) from to chip there is on at last =
    let leads = leads_of searched is from chip edge at on.0 in
    let led = replay_more chip edge.event (forced_events edge) (can_edge searched is from chip edge at on.0) ∙ leads.leads in
    replay_into (events_of_edge edge) (path_events path) chip leads.last led ∙ path_replayed searched path edge.state to leads.last there is on.1 leads.at last

-- ---- what holds

only_end : (ends : List StoredEnd) (one other : ℕ) (end more : StoredEnd) → length ends ≤ 1 → slice_get ends one ≡ Some end → slice_get ends other ≡ Some more → end ≡ more
only_end ends one other end more few at there =
    let first : one < length ends = slice_get_within ends one end at in
    let second : other < length ends = slice_get_within ends other more there in
    let same : one ≡ other = omega arith in
    same_Some end more (sym at ∙ ap (slice_get ends) same ∙ there)

pub held : (s : MachineState) (found : EndSearchResult) (expectation : Expectation) → AreEndsOfChip (chip_of_machine s) found → found.fault ≡ None → HasNoBreach found expectation
    → HoldsInEveryOrder (chip_of_machine s) expectation
held s found (NodeAtEveryEnd expectation) are whole met = λ last events led returns. met_there (chip_of_machine s) found are whole expectation met last events led returns
held s found (Never conditions) are whole none = λ last events event place condition at led can met.
    none_met (chip_of_machine s) found are whole conditions.items none place condition at last events event led can met
held s found (LinkPassesWords expected) are whole none = holds_over (chip_of_machine s) found are whole expected none
held s found EveryOrderEnds are whole none = (511 * length found.searched.chips, λ last events led. end_bound (chip_of_machine s) found are whole none last events led)
held s found OneEnd are whole few =
    let first = end_reachable (chip_of_machine s) found are whole (chip_of_machine s) [] refl in (
      first.1,
      λ last events led.
          let it = end_reachable (chip_of_machine s) found are whole last events led in
          let same : it.3 ≡ first.3 = only_end found.ends it.2 first.2 it.3 first.3 few it.5 first.5 in
          (it.0, it.4 ∙ sym it.6 ∙ ap (λ (e : StoredEnd). slice_get found.searched.chips e.state) same ∙ first.6),
    )

pub outcome_held : (s : MachineState) (found : EndSearchResult) (expectation : Expectation) → AreEndsOfChip (chip_of_machine s) found → IsExpectationOutcome s found expectation Holds
    → HoldsInEveryOrder (chip_of_machine s) expectation
outcome_held s found expectation are it = held s found expectation are it.0 it.1

pub one_end_held : (s : MachineState) (found : EndSearchResult) → AreEndsOfChip (chip_of_machine s) found → single_end_expectation_outcome found ≡ Holds → HoldsInEveryOrder (chip_of_machine s) OneEnd
one_end_held s found are is = outcome_held s found OneEnd are (subst (IsExpectationOutcome s found OneEnd) is (one_end_known s found))

-- ---- what is broken

pub outcome_broken : (s : MachineState) (found : EndSearchResult) (expectation : Expectation) (breach : Breach) → AreEndsOfChip (chip_of_machine s) found → IsBreachOfExpectation s found expectation breach
    → IsBrokenInSomeOrder s found expectation
outcome_broken s found (NodeAtEveryEnd expectation) breach are it =
    let unmet = it.1.is_unmet in
    let there = unmet_there (chip_of_machine s) found are expectation it.0.state (events_of_part it.0.passed) unmet.at_end.stored unmet.chip unmet unmet.at_end.at_end.at unmet.at_end.leads in
    (unmet.chip, there.0.0, there.0.1, there.1, there.2)
outcome_broken s found (Never conditions) breach are it = (it.0, it.1, it.2, it.3)
outcome_broken s found (LinkPassesWords expected) breach are it = (it.0, it.1, it.2, it.3)
outcome_broken s found EveryOrderEnds breach are it =
    let cycle = are.cycle.0 it.1 in
    let size = are.is_search.explored_size in
    let below : cycle.0 < length found.searched.edges = has_list found.searched.edges cycle.0 cycle.1 cycle.3.0 in
    let chip = some_at found.searched.chips cycle.0 (omega arith) in
    let way = reachable found.searched (chip_of_machine s) cycle.0 chip.0 are.is_search are.initial chip.1 in
    (chip.0, way.0, cycle.1.event, forced_events cycle.1 ++ path_events cycle.2, way.1, path_replayed found.searched (cycle.1 ∷ cycle.2) cycle.0 cycle.0 chip.0 chip.0 are.is_search cycle.3 chip.1 chip.1)
outcome_broken s found OneEnd breach are it = it.1

-- ---- verdicts

clean_by : (broken unknown : Bool) → Clean ≡ cond broken Unclean (cond unknown Unknown Clean) → (broken ≡ false) × (unknown ≡ false)
clean_by true unknown is = absurd (cc)
clean_by false true is = absurd (cc)
clean_by false false is = (refl, refl)

unclean_by : (broken unknown : Bool) → Unclean ≡ cond broken Unclean (cond unknown Unknown Clean) → broken ≡ true
unclean_by true unknown is = refl
unclean_by false true is = absurd (cc)
unclean_by false false is = absurd (cc)

not_saved : (broken unknown : Bool) → SessionWritten ≡ cond broken Unclean (cond unknown Unknown Clean) → ⊥
not_saved true unknown is = cc
not_saved false true is = cc
not_saved false false is = cc

clean_not_unbroken : (unknown : Bool) → Clean ≡ cond unknown Unknown (FailedWithStatus ImageRefused) → ⊥
clean_not_unbroken true is = cc
clean_not_unbroken false is = cc

unclean_not_unbroken : (unknown : Bool) → Unclean ≡ cond unknown Unknown (FailedWithStatus ImageRefused) → ⊥
unclean_not_unbroken true is = cc
unclean_not_unbroken false is = cc

saved_not_unbroken : (unknown : Bool) → SessionWritten ≡ cond unknown Unknown (FailedWithStatus ImageRefused) → ⊥
saved_not_unbroken true is = cc
saved_not_unbroken false is = cc

each_holds : (outcomes : List ExpectationOutcome) (place : ℕ) → place < length outcomes → list_any is_outcome_broken outcomes ≡ false → list_any is_outcome_unknown outcomes ≡ false
    → get_or outcomes place outcome.Unknown ≡ Holds
each_holds [] place below broken unknown = absurd (omega arith)
each_holds (Holds ∷ outcomes) zero below broken unknown = refl
each_holds (Holds ∷ outcomes) (suc place) below broken unknown = each_holds outcomes place (omega arith) broken unknown
each_holds (Broken breach ∷ outcomes) place below broken unknown = absurd (true≢false broken)
each_holds (outcome.Unknown ∷ outcomes) place below broken unknown = absurd (true≢false unknown)

abbrev HasBroken : List ExpectationOutcome → Type 0
HasBroken outcomes = (place : ℕ) × (breach : Breach) × (place < length outcomes) × (get_or outcomes place outcome.Unknown ≡ Broken breach)

one_later : (first : ExpectationOutcome) (outcomes : List ExpectationOutcome) → HasBroken outcomes → HasBroken (first ∷ outcomes)
one_later first outcomes it = let below = it.2 in (suc it.0, it.1, omega arith, it.3)

some_broken : (outcomes : List ExpectationOutcome) → list_any is_outcome_broken outcomes ≡ true → HasBroken outcomes
some_broken [] is = absurd (true≢false (sym is))
some_broken (Holds ∷ outcomes) is = one_later Holds outcomes (some_broken outcomes is)
some_broken (Broken breach ∷ outcomes) is = (0, breach, omega arith, refl)
some_broken (outcome.Unknown ∷ outcomes) is = one_later outcome.Unknown outcomes (some_broken outcomes is)

abbrev EachHolds : List LineExpectation → MachineState → Type 0
EachHolds expectations s = (place : ℕ) (one : LineExpectation) → slice_get expectations place ≡ Some one → HoldsInEveryOrder (chip_of_machine s) one.expectation

all_held : (s : MachineState) (found : EndSearchResult) (expectations : List LineExpectation) (outcomes : List ExpectationOutcome) → AreEndsOfChip (chip_of_machine s) found
    → AreExpectationOutcomes s found expectations outcomes → list_any is_outcome_broken outcomes ≡ false → list_any is_outcome_unknown outcomes ≡ false → EachHolds expectations s
all_held s found expectations outcomes are known broken unknown = λ place one at.
    let within : place < length expectations = slice_get_within expectations place one at in
    let size = known.size in
    let holds : get_or outcomes place outcome.Unknown ≡ Holds = each_holds outcomes place (omega arith) broken unknown in
    outcome_held s found one.expectation are (subst (IsExpectationOutcome s found one.expectation) holds (known.known place one at))

abbrev OneIsBroken : EndSearchResult → List LineExpectation → MachineState → Type 0
OneIsBroken found expectations s =
    (place : ℕ) × (one : LineExpectation) × (slice_get expectations place ≡ Some one) × IsBrokenInSomeOrder s found one.expectation

one_broken : (s : MachineState) (found : EndSearchResult) (expectations : List LineExpectation) (outcomes : List ExpectationOutcome) → AreEndsOfChip (chip_of_machine s) found
    → AreExpectationOutcomes s found expectations outcomes → list_any is_outcome_broken outcomes ≡ true → OneIsBroken found expectations s
one_broken s found expectations outcomes are known broken =
    let it = some_broken outcomes broken in
    let below = it.2 in
    let size = known.size in
    let one = some_at expectations it.0 (omega arith) in
    (it.0, one.0, one.1, outcome_broken s found one.0.expectation it.1 are (subst (IsExpectationOutcome s found one.0.expectation) it.3 (known.known it.0 one.0 one.1)))

-- the expectations were written, and what is known of each
abbrev HasCleanOutcomes : CheckRequest → List LineExpectation → MachineState → Type 0
HasCleanOutcomes request expectations s =
    (found : EndSearchResult) × (outcomes : List ExpectationOutcome) × AreEndsOfChip (chip_of_machine s) found × AreExpectationOutcomes s found expectations outcomes
    × (Clean ≡ expectations_verdict request found outcomes)

clean_outcomes : (request : CheckRequest) (expectations : List LineExpectation) (asked : ℕ) (s : MachineState) (text : List ℕ)
    → WritesExpectationsReport request expectations asked s text Clean → HasCleanOutcomes request expectations s
clean_outcomes request expectations asked s text (all found outcomes decisions are known decides start (inl out)) = (found, outcomes, are, known, out.1)
clean_outcomes request expectations asked s text (all found outcomes decisions are known decides start (inr out)) = absurd (let q = out.1 in cc)
clean_outcomes request expectations asked s text (led one last at leads (inl out)) = absurd (let q = out.1 in cc)
clean_outcomes request expectations asked s text (led one last at leads (inr out)) = absurd (let q = out.1 in cc)
clean_outcomes request expectations asked s text (unbroken found one it are at known (inl out)) = absurd (clean_not_unbroken (is_outcome_unknown it) out.1)
clean_outcomes request expectations asked s text (unbroken found one it are at known (inr out)) = absurd (let q = out.1 in cc)
clean_outcomes request expectations asked s text (missing past (inl out)) = absurd (let q = out.1 in cc)
clean_outcomes request expectations asked s text (missing past (inr out)) = absurd (let q = out.1 in cc)
clean_outcomes request expectations asked s text (no_memory (inl out)) = absurd (let q = out.1 in cc)
clean_outcomes request expectations asked s text (no_memory (inr out)) = absurd (let q = out.1 in cc)
clean_outcomes request expectations asked s text (too_long (inl out)) = absurd (let q = out.1 in cc)
clean_outcomes request expectations asked s text (too_long (inr out)) = absurd (let q = out.1 in cc)

pub clean_told : (request : CheckRequest) (expectations : List LineExpectation) (asked : ℕ) (s : MachineState) (text : List ℕ) → WritesExpectationsReport request expectations asked s text Clean
    → EachHolds expectations s
clean_told request expectations asked s text report =
    let it = clean_outcomes request expectations asked s text report in
    let same = clean_with_same request.same it.0 (outcomes_verdict it.1) it.4 in
    let parts = clean_by (list_any is_outcome_broken it.1) (list_any is_outcome_unknown it.1) same.0 in
    all_held s it.0 expectations it.1 it.2 it.3 parts.0 parts.1

-- with `--same` the program has one end
pub one_end_told : (request : CheckRequest) (expectations : List LineExpectation) (asked : ℕ) (s : MachineState) (text : List ℕ)
    → WritesExpectationsReport request expectations asked s text Clean → request.same ≡ true → HoldsInEveryOrder (chip_of_machine s) OneEnd
one_end_told request expectations asked s text report is =
    let it = clean_outcomes request expectations asked s text report in
    let same = clean_with_same request.same it.0 (outcomes_verdict it.1) it.4 in
    one_end_held s it.0 it.2 (same.1 is)

pub unclean_told : (request : CheckRequest) (expectations : List LineExpectation) (asked : ℕ) (s : MachineState) (text : List ℕ) → WritesExpectationsReport request expectations asked s text Unclean
    → (found : EndSearchResult) × AreEndsOfChip (chip_of_machine s) found × (OneIsBroken found expectations s ⊎ ((request.same ≡ true) × IsBrokenInSomeOrder s found OneEnd))
unclean_told request expectations asked s text (all found outcomes decisions are known decides start (inl out)) = (
  found,
  are,
  elim (unclean_with_same request.same found (outcomes_verdict outcomes) out.1) [
    | inl before ↦ inl (one_broken s found expectations outcomes are known (unclean_by (list_any is_outcome_broken outcomes) (list_any is_outcome_unknown outcomes) before))
    | inr same ↦ inr same
  ],
)
unclean_told request expectations asked s text (all found outcomes decisions are known decides start (inr out)) = absurd (let q = out.1 in cc)
unclean_told request expectations asked s text (led one last at leads (inl out)) = absurd (let q = out.1 in cc)
unclean_told request expectations asked s text (led one last at leads (inr out)) = absurd (let q = out.1 in cc)
unclean_told request expectations asked s text (unbroken found one it are at known (inl out)) = absurd (unclean_not_unbroken (is_outcome_unknown it) out.1)
unclean_told request expectations asked s text (unbroken found one it are at known (inr out)) = absurd (let q = out.1 in cc)
unclean_told request expectations asked s text (missing past (inl out)) = absurd (let q = out.1 in cc)
unclean_told request expectations asked s text (missing past (inr out)) = absurd (let q = out.1 in cc)
unclean_told request expectations asked s text (no_memory (inl out)) = absurd (let q = out.1 in cc)
unclean_told request expectations asked s text (no_memory (inr out)) = absurd (let q = out.1 in cc)
unclean_told request expectations asked s text (too_long (inl out)) = absurd (let q = out.1 in cc)
unclean_told request expectations asked s text (too_long (inr out)) = absurd (let q = out.1 in cc)

pub session_told : (request : CheckRequest) (expectations : List LineExpectation) (asked : ℕ) (s : MachineState) (text : List ℕ) → WritesExpectationsReport request expectations asked s text SessionWritten
    → (one : LineExpectation) × (last : MachineState) × (slice_get expectations (asked - 1) ≡ Some one) × LeadsToBreach s one.expectation last × (text ≡ saved_session_text last)
session_told request expectations asked s text (all found outcomes decisions are known decides start (inl out)) =
    absurd (not_saved (list_any is_outcome_broken outcomes) (list_any is_outcome_unknown outcomes) (saved_with_same request.same found (outcomes_verdict outcomes) out.1))
session_told request expectations asked s text (all found outcomes decisions are known decides start (inr out)) = absurd (let q = out.1 in cc)
session_told request expectations asked s text (led one last at leads (inl out)) = (one, last, at, leads, out.0)
session_told request expectations asked s text (led one last at leads (inr out)) = absurd (let q = out.1 in cc)
session_told request expectations asked s text (unbroken found one it are at known (inl out)) = absurd (saved_not_unbroken (is_outcome_unknown it) out.1)
session_told request expectations asked s text (unbroken found one it are at known (inr out)) = absurd (let q = out.1 in cc)
session_told request expectations asked s text (missing past (inl out)) = absurd (let q = out.1 in cc)
session_told request expectations asked s text (missing past (inr out)) = absurd (let q = out.1 in cc)
session_told request expectations asked s text (no_memory (inl out)) = absurd (let q = out.1 in cc)
session_told request expectations asked s text (no_memory (inr out)) = absurd (let q = out.1 in cc)
session_told request expectations asked s text (too_long (inl out)) = absurd (let q = out.1 in cc)
session_told request expectations asked s text (too_long (inr out)) = absurd (let q = out.1 in cc)
