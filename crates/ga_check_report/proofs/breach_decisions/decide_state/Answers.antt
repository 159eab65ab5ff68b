use Rattle.std.proofs.Common.{◌∙◌, Option, None, refl, sym, subst}
use Rattle.ga_state_search.specs.declared.fault.SearchFault.{SearchFault}
use Rattle.ga_check_report.specs.BreachDecisions.{IsDecisionOfUnmetExpectation}
use Rattle.ga_check_report.proofs.breach_decisions.decide_state.Goals as goal

pub returns-in-Some-clause-decided : goal.returns-in-Some-clause-decided
returns-in-Some-clause-decided c =
    subst (λ (f : Option SearchFault). IsDecisionOfUnmetExpectation c.args.found.now c.args.expectation.now c.args.state f None) (sym (sym c.fault.ensures ∙ c.in-Some.is)) refl
