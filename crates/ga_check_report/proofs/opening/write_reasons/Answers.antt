use Rattle.std.proofs.Common.{List, ℕ, ◌++◌, refl}
use Rattle.ga_json.specs.Diagnostics.{diagnostics_json}
use Rattle.ga_json.proofs.Says.{begins, goes_on, cuts, ends_with}
use Rattle.ga_check_report.proofs.opening.write_reasons.Goals as goal

pub returns-in_err-write_diagnostics : goal.returns-in_err-write_diagnostics
returns-in_err-write_diagnostics g c =
    let text : List ℕ = diagnostics_json c.args.file.now c.args.reason.now in
    let more : List ℕ = diagnostics_json c.args.file.now c.args.told.now in
    cuts c.from_residual.result c.write_diagnostics.new.writer text more c.from_residual.ensures.0 (begins g.W.Write.contents c.args.writer.now (text ++ more)) refl c.in_err-write_diagnostics.ensures

pub returns : goal.returns
returns g c =
    let text : List ℕ = diagnostics_json c.args.file.now c.args.reason.now in
    let more : List ℕ = diagnostics_json c.args.file.now c.args.told.now in
    ends_with c.write_diagnostics-2.result c.write_diagnostics-2.new.writer (goes_on c.write_diagnostics.new.writer text more (begins g.W.Write.contents c.args.writer.now (text ++ more)) refl c.in_ok-write_diagnostics.ensures)
    c.write_diagnostics-2.ensures
