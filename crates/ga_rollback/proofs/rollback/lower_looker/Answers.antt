use Rattle.std.proofs.Common.{◌≡◌, ℕ, ◌+◌, ◌<◌, refl, sym, ◌∙◌, ap, subst, arith}
use Rattle.std.proofs.lemmas.Option.{same_Some}
use Rattle.ga_journal.specs.Histories.{JournalState}
use Rattle.ga_journal.specs.Marks.{mark_of_node, journal_with_lowered_mark}
use Rattle.ga_journal.specs.Looks.{HasNoLookToRemove}
use Rattle.ga_rollback.specs.inner.{Same, Further}
use Rattle.ga_rollback.proofs.Lowering.{lowered_same}
use Rattle.ga_rollback.proofs.Lookers.{after_lowered, searched, still_saw, ticks_fit}
use Rattle.ga_rollback.proofs.rollback.lower_looker.Goals as goal

pub finding-init : goal.finding-init
finding-init c = Same refl refl

pub find_look_to_remove-requires : goal.find_look_to_remove-requires
find_look_to_remove-requires c =
    let a = ticks_fit c.args.journal.now c.args.node.number c.finding.journal c.requires.sound c.finding.invariant in
    let f = c.requires.fits in omega arith

pub lower_mark-requires-clause-fits : goal.lower_mark-requires-clause-fits
lower_mark-requires-clause-fits c =
    let a = ticks_fit c.args.journal.now c.args.node.number c.finding.journal c.requires.sound c.finding.invariant in
    let b : c.find_look_to_remove.new.self.ticks.count ≡ c.finding.journal.ticks.count + 1 = ap (λ (z : JournalState). z.ticks.count) c.in-Some-find_look_to_remove.ensures.some.1 in
    let f = c.requires.fits in omega arith

pub lower_mark-requires-clause-smaller : goal.lower_mark-requires-clause-smaller
lower_mark-requires-clause-smaller c =
    subst (λ (z : JournalState). c.in-Some-find_look_to_remove.at < mark_of_node z c.in-Some.looker.number) (sym c.in-Some-find_look_to_remove.ensures.some.1) c.in-Some-find_look_to_remove.ensures.some.0.look.below

pub finding-preserved : goal.finding-preserved
finding-preserved c =
    Further c.finding.journal c.in-Some.looker.number c.in-Some-find_look_to_remove.at c.args.side c.finding.invariant c.in-Some.ensures.back c.in-Some-find_look_to_remove.ensures.some.0
    (c.lower_mark.ensures ∙ ap (λ (z : JournalState). journal_with_lowered_mark z c.in-Some.looker.number c.in-Some-find_look_to_remove.at) c.in-Some-find_look_to_remove.ensures.some.1)

pub finding-smaller : goal.finding-smaller
finding-smaller c =
    let sound = (after_lowered c.args.journal.now c.args.node.number 0 c.finding.journal c.requires.sound c.finding.invariant).sound in
    let low : c.in-Some-find_look_to_remove.at < mark_of_node c.finding.journal c.in-Some.looker.number = c.in-Some-find_look_to_remove.ensures.some.0.look.below in
    let mark = (lowered_same c.finding.journal c.in-Some.looker.number c.in-Some-find_look_to_remove.at sound low).1 in
    subst (λ (z : JournalState). mark_of_node z c.in-Some.looker.number < mark_of_node c.finding.journal c.in-Some.looker.number)
    (sym (c.lower_mark.ensures ∙ ap (λ (z : JournalState). journal_with_lowered_mark z c.in-Some.looker.number c.in-Some-find_look_to_remove.at) c.in-Some-find_look_to_remove.ensures.some.1)) (omega arith)

pub returns-in_default-clause-journal_with_lowered_mark : goal.returns-in_default-clause-journal_with_lowered_mark
returns-in_default-clause-journal_with_lowered_mark c = searched c.args.journal.now c.args.node.number c.in-Some.looker.number c.finding.journal c.find_look_to_remove.new.self c.finding.invariant c.in_default.ensures.none.1

pub returns-in_default-clause-unseen : goal.returns-in_default-clause-unseen
returns-in_default-clause-unseen c m at =
    still_saw c.in-Some.looker.number c.finding.journal c.find_look_to_remove.new.self c.args.node.number m c.in_default.ensures.none.1
    (subst (λ (z : ℕ). HasNoLookToRemove c.finding.journal c.args.node.number z) (same_Some c.in-Some.looker.number m (c.in-Some.ensures.value ∙ at)) c.in_default.ensures.none.0)

pub returns-in-None-clause-journal_with_lowered_mark : goal.returns-in-None-clause-journal_with_lowered_mark
returns-in-None-clause-journal_with_lowered_mark c = record { vain = 0; few = omega arith; chain = Same refl refl }
