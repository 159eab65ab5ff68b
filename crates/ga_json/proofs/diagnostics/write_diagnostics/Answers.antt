use Rattle.std.proofs.Common.{ap}
use Rattle.ga_text.specs.Lines.{Line}
use Rattle.std.proofs.Common.{List}
use Rattle.ga_json.specs.Compact.{json_line}
use Rattle.ga_json.proofs.Says.{goes_on, cuts}
use Rattle.ga_json.specs.Diagnostics.{diagnostic_object, diagnostic_objects, diagnostics_json}
use Rattle.ga_json.proofs.diagnostics.write_diagnostics.Goals as goal

pub returns-in_err-write_diagnostic : goal.returns-in_err-write_diagnostic
returns-in_err-write_diagnostic g c =
    let file = c.args.file.now in
    cuts c.from_residual.result c.write_diagnostic.new.writer (json_line (diagnostic_object file c.first_line.result.0.now)) (diagnostics_json file c.first_line.result.1.now)
    c.from_residual.ensures.0 c.lines.invariant (ap (λ (lines : List Line). diagnostic_objects file lines) c.first_line.ensures.splits) c.in_err-write_diagnostic.ensures

pub lines-preserved : goal.lines-preserved
lines-preserved g c =
    let file = c.args.file.now in
    goes_on c.write_diagnostic.new.writer (json_line (diagnostic_object file c.first_line.result.0.now)) (diagnostics_json file c.first_line.result.1.now) c.lines.invariant
    (ap (λ (lines : List Line). diagnostic_objects file lines) c.first_line.ensures.splits) c.in_ok-write_diagnostic.ensures
