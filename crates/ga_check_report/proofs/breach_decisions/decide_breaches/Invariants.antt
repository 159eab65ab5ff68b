use Rattle.std.proofs.Common.{◌≡◌}
use Rattle.ga_check_report.proofs.BreachDecisions.{AreDecidedUpTo}
use Rattle.ga_check_report.proofs.breach_decisions.decide_breaches.Given as goal

abbrev pub invariant-expectations : goal.invariant-expectations
invariant-expectations l = record {
  same : l.found ≡ l.initial.found;
  decided : AreDecidedUpTo l.initial.found l.expectations l.outcomes l.place l.decisions.items;
}
