use Rattle.std.proofs.Common.{◌+◌, drop, ap, arith}
use Rattle.std.proofs.lemmas.List.{drop_all}
use Rattle.ga_check_report.specs.ExpectationJson.{expectation_with_decision_objects, expectation_objects}
use Rattle.ga_check_report.proofs.ObjectsOut.{next_objects}
use Rattle.ga_json.proofs.Says.{begins, goes_on, ends, cuts}
use Rattle.ga_check_report.proofs.expectations_json.write_objects.Goals as goal

pub expectations-init : goal.expectations-init
expectations-init g c = begins g.W.Write.contents c.args.writer.now (expectation_objects c.args.file.now c.args.outcomes.now c.args.decisions.now 0 c.args.expectations.now)

pub returns-in_err-write_decided_objects : goal.returns-in_err-write_decided_objects
returns-in_err-write_decided_objects g c =
    cuts c.from_residual.result c.write_decided_objects.new.writer (expectation_with_decision_objects c.args.file.now (c.expectations.place + 1) c.index-expectations-place.result c.outcome_at-outcome.result c.decision_at-decision.result) (expectation_objects c.args.file.now c.args.outcomes.now c.args.decisions.now (c.expectations.place + 1) (drop (c.expectations.place + 1) c.args.expectations.now)) c.from_residual.ensures.0 c.expectations.invariant
    (next_objects c.args.file.now c.args.outcomes.now c.args.decisions.now c.args.expectations.now c.expectations.place c.index-expectations-place.result c.outcome_at-outcome.result
    c.decision_at-decision.result c.index-expectations-place.is (omega arith) c.outcome_at-outcome.ensures c.decision_at-decision.ensures)
    c.in_err-write_decided_objects.ensures

pub expectations-preserved : goal.expectations-preserved
expectations-preserved g c =
    goes_on c.write_decided_objects.new.writer (expectation_with_decision_objects c.args.file.now (c.expectations.place + 1) c.index-expectations-place.result c.outcome_at-outcome.result c.decision_at-decision.result) (expectation_objects c.args.file.now c.args.outcomes.now c.args.decisions.now (c.expectations.place + 1) (drop (c.expectations.place + 1) c.args.expectations.now)) c.expectations.invariant
    (next_objects c.args.file.now c.args.outcomes.now c.args.decisions.now c.args.expectations.now c.expectations.place c.index-expectations-place.result c.outcome_at-outcome.result
    c.decision_at-decision.result c.index-expectations-place.is (omega arith) c.outcome_at-outcome.ensures c.decision_at-decision.ensures)
    c.in_ok-write_decided_objects.ensures

pub returns : goal.returns
returns g c = ends (ap (expectation_objects c.args.file.now c.args.outcomes.now c.args.decisions.now c.expectations.place) (drop_all c.expectations.place c.args.expectations.now (omega arith))) c.expectations.invariant
