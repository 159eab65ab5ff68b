use Rattle.std.proofs.Common.{drop}
use Rattle.ga_json.proofs.Says.{SaysUpTo}
use Rattle.ga_check_report.specs.ExpectationJson.{expectation_objects}
use Rattle.ga_check_report.proofs.expectations_json.write_objects.Given as goal

abbrev pub invariant-expectations : goal.invariant-expectations
invariant-expectations g l =
    SaysUpTo g.W.Write.contents l.fn.writer l.writer (expectation_objects l.file l.outcomes l.decisions 0 l.expectations)
    (expectation_objects l.file l.outcomes l.decisions l.place (drop l.place l.expectations))
