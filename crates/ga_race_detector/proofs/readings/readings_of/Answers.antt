use Rattle.std.proofs.Common.{List, sym, subst, arith}
use Rattle.std.specs.List.{All}
use Rattle.std.proofs.lemmas.List.Elements.{All-nil, All-get_or}
use Rattle.ga_event.specs.declared.event.EventWithLook.{EventWithLook}
use Rattle.ga_race_detector.specs.Readings.{IsReportedLookRace}
use Rattle.ga_race_detector.specs.declared.readings.LookRace.{LookRace}
use Rattle.ga_race_detector.specs.inner.Glances.{IsRequestedLookChange, AreStepsKeptByLookRollback}
use Rattle.ga_race_detector.proofs.Glancing.{all_steps}
use Rattle.ga_race_detector.proofs.Lefts.{known_none}
use Rattle.ga_race_detector.proofs.NearReadings.{read_first, read_next, read_all}
use Rattle.ga_race_detector.proofs.readings.readings_of.Goals as goal

pub glances-init : goal.glances-init
glances-init c = record {
  size = c.in_ok-known.ensures.size;
  known = known_none c.args.causes.now c.args.glances.now c.in_ok-known.known.items c.in_ok-known.ensures.none;
  told = subst (λ (z : List LookRace). All (IsReportedLookRace c.args.lab.now c.args.only) z) (sym c.new-list.ensures.items) (All-nil (IsReportedLookRace c.args.lab.now c.args.only));
  found = read_first c.args.lab.now c.args.only c.args.glances.now c.new-list.result.items;
}

pub around_of-requires-clause-steps : goal.around_of-requires-clause-steps
around_of-requires-clause-steps c =
    all_steps c.args.lab.now c.args.causes.now c.args.only c.args.glances.now c.node-stands.ensures.replays c.requires.all c.requires.glances

pub add_reading-requires-clause-glance : goal.add_reading-requires-clause-glance
add_reading-requires-clause-glance c =
    subst (IsRequestedLookChange c.args.lab.now c.args.only) (sym c.glance_at-glance.ensures) (All-get_or (IsRequestedLookChange c.args.lab.now c.args.only) c.args.glances.now c.glances.place c.glance_at-glance.result (omega arith) c.requires.glances)

pub add_reading-requires-clause-around : goal.add_reading-requires-clause-around
add_reading-requires-clause-around c =
    subst (λ (z : List EventWithLook). AreStepsKeptByLookRollback z c.glance_at-glance.result c.in_ok-around.around) c.requires.all (c.in_ok-around.ensures.around c.glance_at-glance.result c.glance_at-glance.ensures)

pub glances-preserved : goal.glances-preserved
glances-preserved c = record {
  size = c.in_ok-around.ensures.size;
  known = c.in_ok-around.ensures.known;
  told = c.in_ok-add_reading.ensures.told;
  found = read_next c.args.lab.now c.args.only c.args.glances.now c.glances.place c.glance_at-glance.result c.glances.list.items c.add_reading.new.list.items (omega arith) c.glance_at-glance.ensures
      c.in_ok-add_reading.ensures.kept c.in_ok-add_reading.ensures.found c.glances.invariant.found;
}

pub returns-clause-found : goal.returns-clause-found
returns-clause-found c = read_all c.args.lab.now c.args.only c.args.glances.now c.glances.place c.glances.list.items (omega arith) c.glances.invariant.found
