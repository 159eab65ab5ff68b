use Rattle.std.proofs.Common.{List, ℕ, ap}
use Rattle.ga_json.specs.Compact.{json_line}
use Rattle.ga_json.proofs.Says.{says_as}
use Rattle.ga_check_report.specs.ExpectationJson.{expectation_object}
use Rattle.ga_check_report.proofs.expectations_json.write_one.Goals as goal

pub returns : goal.returns
returns g c =
    let written = λ (words : List ℕ). json_line (expectation_object c.args.file.now c.args.number c.args.one.now.line words c.args.outcome) in
    says_as g.W.Write.contents c.write_expectation_object.result c.args.writer.now c.write_expectation_object.new.writer (written c.as_slice.result.now) (written c.args.one.now.text.items)
    (ap written c.as_slice.ensures.value) c.write_expectation_object.ensures
