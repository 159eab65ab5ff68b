use Rattle.std.proofs.Common.{◌∙◌, List, sym, ap, subst}
use Rattle.std.specs.Prelude.{IsSome}
use Rattle.ga_event.specs.declared.event.Event.{Event}
use Rattle.ga_event.specs.Apply.{replay}
use Rattle.ga_lab.specs.Machine.{MachineState, chip_of_machine}
use Rattle.ga_check_report.specs.Checking.{HasAppendedEvents}
use Rattle.ga_check_report.proofs.NeverTelling.{session_can, last_can, reached_result}
use Rattle.ga_check_report.proofs.never.make_reached.Goals as goal

pub make_all-requires : goal.make_all-requires
make_all-requires c =
    let s : MachineState = c.args.lab.now in
    let it = c.in-Ok.ensures.leads (chip_of_machine s) c.requires.ends in
    subst (λ (list : List Event). IsSome (replay (chip_of_machine s) list)) (sym c.as_slice.ensures.value)
    (session_can (chip_of_machine s) c.args.conditions.now c.args.reached.which c.in-Ok.events.items c.args.reached.event it)

pub make-requires : goal.make-requires
make-requires c =
    let s : MachineState = c.args.lab.now in
    let it = c.in-Ok.ensures.leads (chip_of_machine s) c.requires.ends in
    last_can (chip_of_machine s) (chip_of_machine c.make_all.new.lab) c.args.conditions.now c.args.reached.which c.in-Ok.events.items c.args.reached.event it
    (ap (replay (chip_of_machine s)) (sym c.as_slice.ensures.value) ∙ c.in_ok-make_all-in-Ok.ensures.there)

pub returns-in_ok-make_all-in-Ok-clause-made : goal.returns-in_ok-make_all-in-Ok-clause-made
returns-in_ok-make_all-in-Ok-clause-made c =
    let s : MachineState = c.args.lab.now in
    let it = c.in-Ok.ensures.leads (chip_of_machine s) c.requires.ends in
    reached_result s c.make_all.new.lab c.make.new.lab c.args.conditions.now c.args.reached.which c.in-Ok.events.items c.args.reached.event c.make.result it
    (subst (λ (list : List Event). HasAppendedEvents s list c.make_all.new.lab) c.as_slice.ensures.value c.in_ok-make_all-in-Ok.ensures.made)
    (ap (replay (chip_of_machine s)) (sym c.as_slice.ensures.value) ∙ c.in_ok-make_all-in-Ok.ensures.there) c.make.ensures.told c.make.ensures.made
