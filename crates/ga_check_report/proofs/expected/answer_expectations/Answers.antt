use Rattle.std.proofs.Common.{◌≡◌, ◌∙◌, List, Option, Ok, sym, ap, subst}
use Rattle.std.specs.Prelude.{map}
use Rattle.ga_debug_info.specs.declared.notes.DebugInfo.{DebugInfo}
use Rattle.ga_lab.specs.Machine.{MachineState}
use Rattle.ga_state_expectations.specs.declared.source.LineExpectation.{LineExpectation}
use Rattle.ga_state_expectations.specs.Lines.{source_expectations, line_expectation_content}
use Rattle.ga_check_report.specs.Expected.{WritesProgramCheckReport}
use Rattle.ga_check_report.specs.Expected.WritesReportForDebugInfo.{parsed}
use Rattle.ga_check_report.specs.Settled.{check_start_state}
use Rattle.ga_check_report.proofs.expected.answer_expectations.Goals as goal

pub returns-in-Ok : goal.returns-in-Ok
returns-in-Ok g c = λ before held.
    let sent = c.settle_and_judge.ensures before held in
    let spelled : source_expectations c.args.begun.notes ≡ Ok (map line_expectation_content c.in-Ok.expectations.items) =
    ap (λ (notes : Option DebugInfo). source_expectations notes) (sym c.notes.ensures) ∙ c.in-Ok.ensures in
    let Written : List LineExpectation → Type 0 =
    λ list. WritesProgramCheckReport c.args.request list c.args.asked (check_start_state c.args.settles c.into_lab.result) sent.0 c.settle_and_judge.result in
    let Begun : MachineState → Type 0 =
    λ s. WritesProgramCheckReport c.args.request c.in-Ok.expectations.items c.args.asked (check_start_state c.args.settles s) sent.0 c.settle_and_judge.result in
    (sent.0, sent.1, parsed c.in-Ok.expectations.items spelled (subst Begun c.into_lab.ensures (subst Written c.as_slice.ensures.value sent.2)))
