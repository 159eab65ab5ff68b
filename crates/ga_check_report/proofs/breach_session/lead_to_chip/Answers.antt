use Rattle.std.proofs.Common.{◌∙◌, List, Option, refl, sym, ap, subst}
use Rattle.std.specs.Prelude.{IsSome}
use Rattle.std.proofs.lemmas.Option.{slice_get_within}
use Rattle.ga_node.specs.Record.{NodeRecord}
use Rattle.ga_event.specs.Apply.{replay}
use Rattle.ga_lab.specs.Machine.{MachineState, chip_of_machine}
use Rattle.ga_state_ends.specs.Along.{events_of_part}
use Rattle.ga_check_report.proofs.Leading.{on_both}
use Rattle.ga_check_report.proofs.BreachSessions.{led_to_unmet}
use Rattle.ga_check_report.proofs.breach_session.lead_to_chip.Goals as goal

pub path_along_edge-requires : goal.path_along_edge-requires
path_along_edge-requires c =
    slice_get_within c.args.found.now.searched.chips c.args.unmet.state c.requires.unmet.is_unmet.at_end.stored c.requires.unmet.is_unmet.at_end.at_end.at

pub make_all-requires : goal.make_all-requires
make_all-requires c =
    let s : MachineState = c.args.lab.now in
    let at = c.requires.unmet.is_unmet.at_end in
    let path = c.in-Ok.ensures (chip_of_machine s) at.stored c.requires.unmet.is_unmet.chip c.requires.ends.initial at.at_end.at at.leads in
    subst (λ (o : Option (List NodeRecord)). IsSome o) (sym (ap (replay (chip_of_machine s)) c.as_slice.ensures.value ∙ path)) refl

pub returns-in-Ok-clause-led : goal.returns-in-Ok-clause-led
returns-in-Ok-clause-led c =
    let s : MachineState = c.args.lab.now in
    let unmet = c.requires.unmet.is_unmet in
    let path = c.in-Ok.ensures (chip_of_machine s) unmet.at_end.stored unmet.chip c.requires.ends.initial unmet.at_end.at_end.at unmet.at_end.leads in
    on_both c.make_all.result
    (led_to_unmet s c.make_all.new.lab c.args.found.now c.args.expectation.now c.args.unmet.state (events_of_part c.args.unmet.passed) c.as_slice.result.now c.requires.ends unmet
    (ap (replay (chip_of_machine s)) c.as_slice.ensures.value ∙ path)) c.make_all.ensures.made c.make_all.ensures.there
