use Rattle.std.proofs.Common.{◌∙◌, List, Option, refl, sym, ap, subst}
use Rattle.std.specs.Prelude.{IsSome}
use Rattle.ga_node.specs.Record.{NodeRecord}
use Rattle.ga_event.specs.Apply.{replay}
use Rattle.ga_lab.specs.Machine.{MachineState, chip_of_machine}
use Rattle.ga_check_report.proofs.LinkBreaches.{led_to_breach}
use Rattle.ga_check_report.proofs.link_breach.make_link_breach.Goals as goal

pub make_all-requires : goal.make_all-requires
make_all-requires c =
    let s : MachineState = c.args.lab.now in
    subst (λ (o : Option (List NodeRecord)). IsSome o) (sym (ap (replay (chip_of_machine s)) c.as_slice.ensures.value ∙ c.requires.led)) refl

pub returns-clause-led : goal.returns-clause-led
returns-clause-led c =
    led_to_breach c.args.lab.now c.make_all.new.lab c.args.expected.now c.args.breach.now c.as_slice.result.now c.make_all.result c.as_slice.ensures.value c.requires c.make_all.ensures.made
