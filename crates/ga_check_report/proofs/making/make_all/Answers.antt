use Rattle.std.proofs.Common.{◌≡◌, ◌∙◌, List, None, Ok, sym, ap, subst, refl, arith}
use Rattle.std.proofs.lemmas.List.{take_all, drop_all}
use Rattle.ga_event.specs.declared.event.Event.{Event}
use Rattle.ga_event.specs.Apply.{event_refusal, event_result, replay}
use Rattle.ga_lab.specs.Machine.{chip_of_machine, machine_with_event}
use Rattle.ga_check_report.specs.Checking.{HasAppendedEvents}
use Rattle.ga_check_report.proofs.Leading.{made_none, next_can, next_rest, next_made}
use Rattle.ga_check_report.proofs.making.make_all.Goals as goal

pub events-init : goal.events-init
events-init c = record { made = made_none c.args.lab.now; rest = refl }

pub make-requires : goal.make-requires
make-requires c =
    let e : Event = c.index-events-place.result in
    subst (λ (z : Event). event_refusal (chip_of_machine c.events.lab) z ≡ None) (sym c.index-events-place.is)
    (next_can c.events.lab (chip_of_machine c.args.lab.now) c.args.events.now c.events.place e (omega arith) c.requires c.events.invariant.rest)

pub events-preserved : goal.events-preserved
events-preserved c =
    let e : Event = c.index-events-place.result in
    let can = next_can c.events.lab (chip_of_machine c.args.lab.now) c.args.events.now c.events.place e (omega arith) c.requires c.events.invariant.rest in record {
      made = next_made c.args.lab.now c.events.lab c.make.new.lab c.args.events.now c.events.place e (omega arith) c.events.invariant.made
          (c.in_ok-make.ensures.made ∙ ap (λ (z : Event). machine_with_event c.events.lab (Ok z)) c.index-events-place.is);
      rest = next_rest c.events.lab c.make.new.lab (chip_of_machine c.args.lab.now) c.args.events.now c.events.place e (omega arith) can
          (c.in_ok-make.ensures.chip ∙ ap (λ (z : Event). (event_result (chip_of_machine c.events.lab) z).0) c.index-events-place.is) c.events.invariant.rest;
    }

pub returns-clause-made : goal.returns-clause-made
returns-clause-made c =
    subst (λ (z : List Event). HasAppendedEvents c.args.lab.now z c.events.lab) (take_all c.events.place c.args.events.now (omega arith)) c.events.invariant.made

pub returns-clause-there : goal.returns-clause-there
returns-clause-there c =
    sym c.events.invariant.rest ∙ ap (replay (chip_of_machine c.events.lab)) (drop_all c.events.place c.args.events.now (omega arith))
