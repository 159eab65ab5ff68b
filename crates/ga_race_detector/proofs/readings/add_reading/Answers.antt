use Rattle.std.proofs.Common.{◌≡◌, ◌∙◌, ◌++◌, List, [], ◌∷◌, Contains, sym, subst}
use Rattle.std.specs.Prelude.{IfSome}
use Rattle.std.specs.List.{All}
use Rattle.std.proofs.lemmas.Option.{same_Some}
use Rattle.std.proofs.lemmas.List.Elements.{All-push, Contains-push, Contains-append_left}
use Rattle.ga_grid.specs.declared.node_id.NodeId.{NodeId}
use Rattle.ga_race_detector.specs.declared.readings.LookRace.{LookRace}
use Rattle.ga_race_detector.specs.Readings.{IsReportedLookRace}
use Rattle.ga_race_detector.proofs.NearReadings.{some_none}
use Rattle.std.proofs.lemmas.Result.{on_ok_weaker}
use Rattle.ga_race_detector.proofs.readings.add_reading.Goals as goal

pub returns-in-Some-clause-told : goal.returns-in-Some-clause-told
returns-in-Some-clause-told c =
    on_ok_weaker c.add.result
    (λ q. subst (λ (z : List LookRace). All (IsReportedLookRace c.args.lab.now c.args.only) z) (sym q)
    (All-push (IsReportedLookRace c.args.lab.now c.args.only) c.args.list.now.items c.in-Some.reading c.requires.told
    (c.in-Some.ensures.told, subst (λ (z : NodeId). IfSome c.args.only (λ node. z ≡ node)) (sym c.in-Some.ensures.node) c.requires.glance.1)))
    c.add.ensures.ok

pub returns-in-Some-clause-kept : goal.returns-in-Some-clause-kept
returns-in-Some-clause-kept c =
    on_ok_weaker c.add.result
    (λ q. λ reading h. subst (λ (z : List LookRace). Contains z reading) (sym q) (Contains-append_left c.args.list.now.items (c.in-Some.reading ∷ []) reading h))
    c.add.ensures.ok

pub returns-in-Some-clause-found : goal.returns-in-Some-clause-found
returns-in-Some-clause-found c =
    on_ok_weaker c.add.result
    (λ q. λ near reading g t a.
    let same : c.in-Some.reading ≡ reading = same_Some c.in-Some.reading reading (sym c.in-Some.is ∙ c.reading_of.ensures.found near reading g t.0 a) in
    subst (λ (z : List LookRace). Contains z reading) (sym q)
    (subst (λ (z : LookRace). Contains (c.args.list.now.items ++ z ∷ []) reading) (sym same) (Contains-push c.args.list.now.items reading)))
    c.add.ensures.ok

pub returns-in-None-clause-found : goal.returns-in-None-clause-found
returns-in-None-clause-found c = λ near reading g t a.
    absurd (some_none reading (sym (c.reading_of.ensures.found near reading g t.0 a) ∙ c.in-None.is))
