use Rattle.std.proofs.Common.{Option, sym, subst}
use Rattle.ga_state_search.specs.declared.fault.SearchFault.{SearchFault}
use Rattle.ga_check_report.specs.BreachDecisions.{IsDecisionOfUnmetExpectation}
use Rattle.ga_check_report.proofs.breach_decisions.decide_whole.Goals as goal

pub returns-in-Ok-clause-decided : goal.returns-in-Ok-clause-decided
returns-in-Ok-clause-decided c =
    subst (λ (f : Option SearchFault). IsDecisionOfUnmetExpectation c.args.found.now c.args.expectation.now c.args.state f c.in-Ok.decision) (sym c.requires.whole) c.in-Ok.ensures.decided
