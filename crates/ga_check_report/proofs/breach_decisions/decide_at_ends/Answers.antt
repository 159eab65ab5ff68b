use Rattle.std.proofs.Common.{ℕ, ◌<◌, length, Option, None, refl, sym, subst}
use Rattle.std.specs.Prelude.{IfOk, IfSome}
use Rattle.ga_check_report.specs.BreachDecisions.{IsDecisionOfNodeBreach}
use Rattle.ga_check_report.proofs.breach_decisions.decide_at_ends.Goals as goal

pub decide_state-requires-clause-state : goal.decide_state-requires-clause-state
decide_state-requires-clause-state c =
    subst (λ (o : Option ℕ). IfSome o (λ number. number < length c.args.found.now.searched.chips)) c.in-Some.is c.requires.state

pub returns-in-Some-clause-decided : goal.returns-in-Some-clause-decided
returns-in-Some-clause-decided c =
    subst (λ (o : Option ℕ). IfOk c.decide_state.result (IsDecisionOfNodeBreach c.args.found.now c.args.expectation.now o)) (sym c.in-Some.is) c.decide_state.ensures.decided

pub returns-in-None-clause-decided : goal.returns-in-None-clause-decided
returns-in-None-clause-decided c =
    subst (λ (o : Option ℕ). IsDecisionOfNodeBreach c.args.found.now c.args.expectation.now o None) (sym c.in-None.is) refl
