use Rattle.std.proofs.Common.{◌-◌, ◌∙◌, subst, arith}
use Rattle.std.proofs.lemmas.List.{length-set}
use Rattle.ga_lab.specs.Machine.{chip_of_machine}
use Rattle.ga_race_detector.proofs.Acting.{plain_causes, plain_size, acts_next, causes_next, all_alike, is_at, cause_at, stood_from, whole_list, none_made, moments_none, moments_next, moments_all}
use Rattle.ga_event.specs.declared.event.EventWithLook.{EventWithLook}
use Rattle.ga_race_detector.specs.inner.Glances.{AreEventStepCounts}
use Rattle.ga_race_detector.proofs.acts.kept_accesses.Goals as goal

pub back-init : goal.back-init
back-init c =
    let size = plain_size c.in_ok-acts.acts.items c.args.causes.now c.in_ok-acts.ensures.causes in
    record {
      size = size;
      many = c.in_ok-moments.ensures.size;
      within = omega arith;
      causes = plain_causes c.in_ok-acts.acts.items c.args.causes.now c.in_ok-acts.ensures.causes;
      changes = none_made c.args.lab.now c.in_ok-acts.acts.items c.len-place.result (omega arith);
      moments = moments_none c.args.lab.now c.len-place.result c.args.causes.now c.in_ok-moments.moments.items (let a = c.in_ok-moments.ensures.size in omega (arith, a, size));
      stood = c.of-behind.ensures c.len-place.result
          (whole_list c.args.lab.now (chip_of_machine c.args.lab.now) c.args.causes.now c.len-place.result c.node-stands.ensures.replays c.requires.all (omega (arith, size)));
    }

pub back_by-act-requires-clause-stood : goal.back_by-act-requires-clause-stood
back_by-act-requires-clause-stood c = (
  c.back.place - 1,
  is_at c.args.lab.now (chip_of_machine c.args.lab.now) c.args.causes.now (c.back.place - 1) c.index-causes-place.result c.node-stands.ensures.replays c.requires.all (let e = c.back.invariant.size in omega (arith, e)) c.index-causes-place.is,
  stood_from c.args.lab.now c.back.place (c.back.place - 1) c.back.behind.waits c.back.behind.steps (omega arith) c.back.invariant.stood,
)

pub moment-moment-requires : goal.moment-moment-requires
moment-moment-requires c =
    let e = c.back.invariant.size in
    let at = is_at c.args.lab.now (chip_of_machine c.args.lab.now) c.args.causes.now (c.back.place - 1) c.index-causes-place.result c.node-stands.ensures.replays c.requires.all (omega (arith, e)) c.index-causes-place.is in
    let stood = stood_from c.args.lab.now c.back.place (c.back.place - 1) c.back.behind.waits c.back.behind.steps (omega arith) c.back.invariant.stood in
    λ m l. (c.back_by-act.ensures.stood (c.back.place - 1) at stood m l).valid

pub back-preserved : goal.back-preserved
back-preserved c =
    let e = c.back.invariant.size in
    let at = is_at c.args.lab.now (chip_of_machine c.args.lab.now) c.args.causes.now (c.back.place - 1) c.index-causes-place.result c.node-stands.ensures.replays c.requires.all (omega (arith, e)) c.index-causes-place.is in
    let stood = stood_from c.args.lab.now c.back.place (c.back.place - 1) c.back.behind.waits c.back.behind.steps (omega arith) c.back.invariant.stood in
    let size = length-set c.back.acts.items (c.back.place - 1) c.back_by-act.result in
    let more = length-set c.back.moments.items (c.back.place - 1) c.moment-moment.result in
    let many = c.back.invariant.many in
    let there = cause_at c.args.causes.now (c.back.place - 1) c.index-causes-place.result (omega (arith, e)) c.index-causes-place.is in
    record {
      size = size ∙ e;
      many = more ∙ c.back.invariant.many;
      within = omega (arith, size);
      causes = causes_next (c.back.place - 1) c.back.acts.items c.back_by-act.result c.args.causes.now (omega arith)
          (c.back_by-act.ensures.cause ∙ cause_at c.args.causes.now (c.back.place - 1) c.index-causes-place.result (omega (arith, e)) c.index-causes-place.is) c.back.invariant.causes;
      changes = acts_next c.args.lab.now c.back.place (c.back.place - 1) c.back.acts.items c.back_by-act.result (omega arith) (omega arith) (c.back_by-act.ensures.changes (c.back.place - 1) at stood) c.back.invariant.changes;
      moments = moments_next c.args.lab.now c.back.place (c.back.place - 1) c.args.causes.now c.back.moments.items c.moment-moment.result (omega arith) (omega (arith, many, e))
          (subst (λ (z : EventWithLook). AreEventStepCounts c.args.lab.now (c.back.place - 1) z c.moment-moment.result) there
          (c.moment-moment.ensures c.args.lab.now (c.back.place - 1) (c.back_by-act.ensures.stood (c.back.place - 1) at stood))) c.back.invariant.moments;
      stood = c.back_by-act.ensures.stood (c.back.place - 1) at stood;
    }

pub returns-clause-alike : goal.returns-clause-alike
returns-clause-alike c =
    all_alike c.args.lab.now (chip_of_machine c.args.lab.now) c.back.place c.back.acts.items c.args.causes.now c.node-stands.ensures.replays c.requires.all c.back.invariant.size (omega arith) c.back.invariant.causes c.back.invariant.changes

pub returns-clause-moments : goal.returns-clause-moments
returns-clause-moments c = moments_all c.args.lab.now c.back.place c.args.causes.now c.back.moments.items (omega arith) c.back.invariant.many c.back.invariant.moments
