use Rattle.std.proofs.Common.{◌∙◌, List, sym, ap, subst, Contains}
use Rattle.std.specs.Prelude.{Result, Ok, Err, IfOk}
use Rattle.ga_races.specs.declared.racing_pairs.RacingPair.{RacingPair}
use Rattle.ga_races.specs.declared.act.EventAccess.{EventAccess}
use Rattle.ga_races.specs.Acts.{IsRacingLook}
use Rattle.ga_race_detector.specs.Races.{has_look_event}
use Rattle.ga_race_detector.specs.declared.look_changes.LookChange.{LookChange}
use Rattle.ga_race_detector.proofs.NearReadings.{none_without_looks, is_near, at_near}
use Rattle.ga_race_detector.proofs.readings.find_look_races.Goals as goal

if_ok : {T E : Type 0} {A B : T → Type 0} → (r : Result T E) → ((x : T) → A x → B x) → IfOk r A → IfOk r B
if_ok (Ok x) f h = f x h
if_ok (Err e) f h = h

pub returns-then-not-looks-clause-found : goal.returns-then-not-looks-clause-found
returns-then-not-looks-clause-found c = λ reading t n.
    absurd (none_without_looks c.args.lab.now reading (ap has_look_event (sym c.requires.all) ∙ sym c.requires.looks ∙ c.if-not-looks.true) t.0)

pub returns-clause-found : goal.returns-clause-found
returns-clause-found c =
    let s = c.args.lab.now in
    if_ok c.readings_of.result
    (λ list read. λ reading t n.
    let near : RacingPair = record { look = n.look; change = n.change } in
    let has = (c.in-Ok.ensures.exact near).1
    (subst (λ (z : List EventAccess). IsRacingLook z near) (sym c.as_slice.ensures.value)
    (is_near s c.in_ok-acts.acts.list.items c.args.causes.now reading c.node-stands.ensures.replays c.requires.all c.in_ok-acts.ensures.size c.in_ok-acts.ensures.alike t.0 n)) in
    let g = c.in_ok-glances.ensures.found reading near (subst (λ (z : List RacingPair). Contains z near) (sym c.as_slice-3.ensures.value) has) t (at_near s reading n) in
    read near g.0 reading (subst (λ (z : List LookChange). Contains z g.0) (sym c.as_slice-4.ensures.value) g.1) g.2 t (at_near s reading n))
    c.readings_of.ensures.found
