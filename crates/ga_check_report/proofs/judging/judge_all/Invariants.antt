use Rattle.std.proofs.Common.{◌≡◌, []}
use Rattle.ga_check_report.specs.Checking.{HasAppendedEvents}
use Rattle.ga_check_report.proofs.JudgingLemmas.{AreKnownBelow}
use Rattle.ga_check_report.proofs.judging.judge_all.Given as goal

abbrev pub invariant-expectations : goal.invariant-expectations
invariant-expectations l = record {
  same : l.found ≡ l.initial.found;
  kept : HasAppendedEvents l.initial.lab [] l.lab;
  known : AreKnownBelow l.initial.lab l.initial.found l.expectations l.place l.outcomes.items;
}
