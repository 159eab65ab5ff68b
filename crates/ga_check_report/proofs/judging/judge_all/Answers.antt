use Rattle.std.proofs.Common.{◌≡◌, ◌∙◌, ◌<◌, List, [], length, get_or, refl, sym, subst, arith}
use Rattle.std.proofs.lemmas.Option.{slice_get_within}
use Rattle.ga_node.specs.Record.{NodeRecord}
use Rattle.ga_lab.specs.Machine.{MachineState, chip_of_machine}
use Rattle.ga_state_ends.specs.Ends.{EndSearchResult, AreEndsOfChip}
use Rattle.ga_state_expectations.specs.declared.source.LineExpectation.{LineExpectation}
use Rattle.ga_check_report.specs.Outcomes.{IsExpectationOutcome}
use Rattle.ga_check_report.proofs.JudgingLemmas.{same_first, none_known, known_more, chip_as, appended_as, outcome_as, listed}
use Rattle.ga_check_report.proofs.judging.judge_all.Goals as goal

pub expectations-init : goal.expectations-init
expectations-init c = record {
  same = refl;
  kept = same_first c.args.lab.now;
  known = none_known c.args.lab.now c.args.found.now c.args.expectations.now c.new-outcomes.result.items c.new-outcomes.ensures.items;
}

pub judge_and_undo-requires : goal.judge_and_undo-requires
judge_and_undo-requires c =
    subst (λ (f : EndSearchResult). AreEndsOfChip (chip_of_machine c.expectations.lab) f) (sym c.expectations.invariant.same)
    (subst (λ (load : List NodeRecord). AreEndsOfChip load c.args.found.now) (sym (chip_as c.args.lab.now c.expectations.lab c.expectations.invariant.kept)) c.requires)

pub expectations-preserved : goal.expectations-preserved
expectations-preserved c =
    let s : MachineState = c.args.lab.now in
    let one : LineExpectation = c.index-expectations-place.result in
    let here : LineExpectation = get_or c.args.expectations.now c.expectations.place one in
    let there : IsExpectationOutcome c.expectations.lab c.args.found.now here.expectation c.in_ok-outcome.outcome =
    subst (λ (f : EndSearchResult). IsExpectationOutcome c.expectations.lab f here.expectation c.in_ok-outcome.outcome) c.expectations.invariant.same c.in_ok-outcome.ensures.known in
    let known : IsExpectationOutcome c.expectations.lab c.args.found.now one.expectation c.in_ok-outcome.outcome =
    subst (λ (x : LineExpectation). IsExpectationOutcome c.expectations.lab c.args.found.now x.expectation c.in_ok-outcome.outcome) (sym c.index-expectations-place.is) there in
    record {
      same = c.judge_and_undo.ensures.same ∙ c.expectations.invariant.same;
      kept = appended_as s c.expectations.lab c.judge_and_undo.new.lab [] c.expectations.invariant.kept c.in_ok-outcome.ensures.undone;
      known = known_more s c.args.found.now c.args.expectations.now c.expectations.place one c.expectations.outcomes.items c.push_outcome.new.outcomes.items c.in_ok-outcome.outcome
          c.expectations.invariant.known (listed c.args.expectations.now c.expectations.place one c.index-expectations-place.is (omega arith)) c.in_ok-push_outcome.ensures.added
          (outcome_as s c.expectations.lab c.args.found.now one.expectation c.in_ok-outcome.outcome c.expectations.invariant.kept known);
    }

pub returns-clause-known : goal.returns-clause-known
returns-clause-known c = record {
  size = c.expectations.invariant.known.0 ∙ (let all : c.expectations.place ≡ length c.args.expectations.now = omega arith in all);
  known = λ place one at.
      let within : place < length c.args.expectations.now = slice_get_within c.args.expectations.now place one at in
      c.expectations.invariant.known.1 place one (omega arith) at;
}

pub returns-clause-same : goal.returns-clause-same
returns-clause-same c = c.expectations.invariant.same
