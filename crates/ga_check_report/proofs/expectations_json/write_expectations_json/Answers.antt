use Rattle.std.proofs.Common.{List, ℕ, ◌++◌, refl}
use Rattle.std.proofs.Common.{length}
use Rattle.ga_json.specs.Compact.{json_line}
use Rattle.ga_json.specs.Fields.{json_object}
use Rattle.ga_check_report.specs.ExpectationJson.{expectations_head_fields, expectation_objects}
use Rattle.ga_json.proofs.Says.{begins, goes_on, cuts, ends_with}
use Rattle.ga_check_report.proofs.expectations_json.write_expectations_json.Goals as goal

pub returns-in_err-write_expectations_head : goal.returns-in_err-write_expectations_head
returns-in_err-write_expectations_head g c =
    let text : List ℕ = json_line (json_object (expectations_head_fields c.args.file.now c.args.found.now (length c.args.expectations.now))) in
    let more : List ℕ = expectation_objects c.args.file.now c.args.outcomes.now c.args.decisions.now 0 c.args.expectations.now in
    cuts c.from_residual.result c.write_expectations_head.new.writer text more c.from_residual.ensures.0 (begins g.W.Write.contents c.args.writer.now (text ++ more)) refl c.in_err-write_expectations_head.ensures

pub returns : goal.returns
returns g c =
    let text : List ℕ = json_line (json_object (expectations_head_fields c.args.file.now c.args.found.now (length c.args.expectations.now))) in
    let more : List ℕ = expectation_objects c.args.file.now c.args.outcomes.now c.args.decisions.now 0 c.args.expectations.now in
    ends_with c.write_objects.result c.write_objects.new.writer (goes_on c.write_expectations_head.new.writer text more (begins g.W.Write.contents c.args.writer.now (text ++ more)) refl c.in_ok-write_expectations_head.ensures)
    c.write_objects.ensures
