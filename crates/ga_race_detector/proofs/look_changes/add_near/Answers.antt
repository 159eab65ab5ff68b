use Rattle.std.proofs.Common.{List, [], ◌∷◌, Contains, sym, subst}
use Rattle.std.specs.List.{All}
use Rattle.std.proofs.lemmas.List.Elements.{All-push, Contains-push, Contains-append_left}
use Rattle.ga_race_detector.specs.declared.look_changes.LookChange.{LookChange}
use Rattle.ga_race_detector.specs.inner.Glances.{IsRequestedLookChange}
use Rattle.std.proofs.lemmas.Result.{on_ok_weaker}
use Rattle.ga_race_detector.proofs.Glancing.{not_shown}
use Rattle.ga_race_detector.proofs.NearReadings.{look_there, asked_of}
use Rattle.ga_race_detector.proofs.look_changes.add_near.Goals as goal

pub returns-in-Some-clause-told : goal.returns-in-Some-clause-told
returns-in-Some-clause-told c =
    on_ok_weaker c.add.result
    (λ q. subst (λ (z : List LookChange). All (IsRequestedLookChange c.args.lab.now c.args.only) z) (sym q)
    (All-push (IsRequestedLookChange c.args.lab.now c.args.only) c.args.list.now.items c.in-Some.glance c.requires.told ((c.args.near, c.in-Some.ensures.is), c.is_asked.ensures.asked c.if-is_asked.true)))
    c.add.ensures.ok

pub returns-in-Some-clause-kept : goal.returns-in-Some-clause-kept
returns-in-Some-clause-kept c =
    on_ok_weaker c.add.result
    (λ q. λ glance h. subst (λ (z : List LookChange). Contains z glance) (sym q) (Contains-append_left c.args.list.now.items (c.in-Some.glance ∷ []) glance h))
    c.add.ensures.ok

pub returns-in-Some-clause-found : goal.returns-in-Some-clause-found
returns-in-Some-clause-found c =
    on_ok_weaker c.add.result
    (λ q. λ reading t a. (c.in-Some.glance, subst (λ (z : List LookChange). Contains z c.in-Some.glance) (sym q) (Contains-push c.args.list.now.items c.in-Some.glance), c.in-Some.ensures.is))
    c.add.ensures.ok

pub returns-in_default-clause-found : goal.returns-in_default-clause-found
returns-in_default-clause-found c = λ reading t a.
    absurd (c.is_asked.ensures.other c.if-is_asked.false (asked_of c.args.lab.now c.args.only c.args.near c.in-Some.glance reading c.glance_of.ensures.led c.in-Some.ensures.is t a))

pub returns-in_default-2-clause-found : goal.returns-in_default-2-clause-found
returns-in_default-2-clause-found c = λ reading t a.
    absurd (not_shown c.glance_of.result c.in_default.is (c.glance_of.ensures.found reading.node (look_there c.args.lab.now c.args.near reading t.0 a)))
