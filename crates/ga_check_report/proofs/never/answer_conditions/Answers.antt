use Rattle.std.proofs.Common.{◌≡◌, ◌∙◌, List, Option, Result, Ok, sym, ap, subst}
use Rattle.ga_debug_info.specs.declared.notes.DebugInfo.{DebugInfo}
use Rattle.ga_lab.specs.Machine.{MachineState}
use Rattle.ga_state_conditions.specs.Asked.{parsed_state_conditions}
use Rattle.ga_state_conditions.specs.declared.asked.ConditionFault.{ConditionFault}
use Rattle.ga_state_conditions.specs.declared.condition.StateCondition.{StateCondition}
use Rattle.ga_check_report.specs.Never.{WritesNeverCheckReport, WritesReportForConditions}
use Rattle.ga_check_report.specs.Settled.{check_start_state}
use Rattle.ga_check_report.proofs.never.answer_conditions.Goals as goal

pub returns-in-Ok : goal.returns-in-Ok
returns-in-Ok g c = λ before held.
    let sent = c.settle_and_look.ensures before held in
    let spelled : parsed_state_conditions c.args.begun.notes c.args.asked.now ≡ Ok c.in-Ok.conditions.items =
    ap (λ (notes : Option DebugInfo). parsed_state_conditions notes c.args.asked.now) (sym c.notes.ensures) ∙ c.in-Ok.ensures.conditions in
    let Written : List StateCondition → Type 0 =
    λ list. WritesNeverCheckReport c.args.request list c.args.session (check_start_state c.args.settles c.into_lab.result) sent.0 c.settle_and_look.result in
    let Begun : MachineState → Type 0 =
    λ s. WritesNeverCheckReport c.args.request c.in-Ok.conditions.items c.args.session (check_start_state c.args.settles s) sent.0 c.settle_and_look.result in
    let Spelled : Result (List StateCondition) ConditionFault → Type 0 =
    λ r. WritesReportForConditions r c.args.request c.args.session (check_start_state c.args.settles c.args.begun.lab) sent.0 (Ok c.settle_and_look.result) in
    (sent.0, sent.1, subst Spelled (sym spelled) (subst Begun c.into_lab.ensures (subst Written c.as_slice.ensures.value sent.2)))
