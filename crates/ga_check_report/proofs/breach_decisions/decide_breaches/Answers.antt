use Rattle.std.proofs.Common.{◌≡◌, ◌∙◌, ◌<◌, List, length, get_or, refl, sym, subst, arith}
use Rattle.std.proofs.lemmas.Option.{slice_get_within, slice_get-get_or}
use Rattle.ga_state_ends.specs.Ends.{EndSearchResult, AreEndsOfChip}
use Rattle.ga_state_expectations.specs.declared.source.LineExpectation.{LineExpectation}
use Rattle.ga_check_report.specs.declared.outcome.ExpectationOutcome.{ExpectationOutcome}
use Rattle.ga_check_report.specs.Outcomes.{IsExpectationOutcome}
use Rattle.ga_check_report.specs.BreachDecisions.{IsDecisionOfBreach}
use Rattle.ga_check_report.proofs.BreachDecisions.{none_decided, decided_more}
use Rattle.ga_check_report.proofs.breach_decisions.decide_breaches.Goals as goal

pub expectations-init : goal.expectations-init
expectations-init c = record {
  same = refl;
  decided = none_decided c.args.found.now c.args.expectations.now c.args.outcomes.now c.new-decisions.result.items c.new-decisions.ensures.items;
}

pub decide_breach-requires-clause-ends : goal.decide_breach-requires-clause-ends
decide_breach-requires-clause-ends c =
    (c.requires.ends.0, subst (λ (f : EndSearchResult). AreEndsOfChip c.requires.ends.0 f) (sym c.expectations.invariant.same) c.requires.ends.1)

pub decide_breach-requires-clause-known : goal.decide_breach-requires-clause-known
decide_breach-requires-clause-known c =
    let s = c.requires.known.0 in
    let one : LineExpectation = c.index-expectations-place.result in
    let here : LineExpectation = get_or c.args.expectations.now c.expectations.place one in
    let at = slice_get-get_or c.args.expectations.now c.expectations.place one (omega arith) in
    let known = subst (λ (o : ExpectationOutcome). IsExpectationOutcome s c.args.found.now here.expectation o) (sym c.outcome_at-outcome.ensures)
    (c.requires.known.1.known c.expectations.place here at) in
    (s, subst (λ (f : EndSearchResult). IsExpectationOutcome s f here.expectation c.outcome_at-outcome.result) (sym c.expectations.invariant.same) known)

pub expectations-preserved : goal.expectations-preserved
expectations-preserved c =
    let found = c.args.found.now in
    let decision = c.in_ok-decision.decision in
    let one : LineExpectation = c.index-expectations-place.result in
    let here : LineExpectation = get_or c.args.expectations.now c.expectations.place one in
    let at = slice_get-get_or c.args.expectations.now c.expectations.place one (omega arith) in
    let there = subst (λ (f : EndSearchResult). IsDecisionOfBreach f here.expectation c.outcome_at-outcome.result decision) c.expectations.invariant.same c.in_ok-decision.ensures.decided in
    let is = subst (λ (o : ExpectationOutcome). IsDecisionOfBreach found here.expectation o decision) c.outcome_at-outcome.ensures there in
    record {
      same = c.decide_breach.ensures.same ∙ c.expectations.invariant.same;
      decided = decided_more found c.args.expectations.now c.args.outcomes.now c.expectations.place here c.expectations.decisions.items c.push_decision.new.decisions.items decision
          c.expectations.invariant.decided at c.in_ok-push_decision.ensures.added is;
    }

pub returns-clause-decided : goal.returns-clause-decided
returns-clause-decided c = record {
  size = c.expectations.invariant.decided.0 ∙ (let all : c.expectations.place ≡ length c.args.expectations.now = omega arith in all);
  decided = λ place one at.
      let within : place < length c.args.expectations.now = slice_get_within c.args.expectations.now place one at in
      c.expectations.invariant.decided.1 place one (omega arith) at;
}

pub returns-clause-same : goal.returns-clause-same
returns-clause-same c = c.expectations.invariant.same
