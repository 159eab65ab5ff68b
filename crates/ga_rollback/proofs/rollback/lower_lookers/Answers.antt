use Rattle.std.proofs.Common.{arith}
use Rattle.ga_rollback.proofs.Lookers.{sound_after, then_lowered, saw_after, all_sides, room_after}
use Rattle.ga_rollback.proofs.rollback.lower_lookers.Goals as goal

pub lower_looker-requires-2-clause-sound : goal.lower_looker-requires-2-clause-sound
lower_looker-requires-2-clause-sound c = sound_after 1 c.args.journal.now c.args.node.number c.lower_looker.new.journal c.requires.sound c.lower_looker.ensures.journal_with_lowered_mark

pub lower_looker-requires-2-clause-fits : goal.lower_looker-requires-2-clause-fits
lower_looker-requires-2-clause-fits c = let a = room_after 1 5 c.args.journal.now c.args.node.number c.lower_looker.new.journal 18446744073709551616 c.requires.sound c.lower_looker.ensures.journal_with_lowered_mark c.requires.fits in omega arith

pub lower_looker-requires-3-clause-sound : goal.lower_looker-requires-3-clause-sound
lower_looker-requires-3-clause-sound c = sound_after 2 c.args.journal.now c.args.node.number c.lower_looker-2.new.journal c.requires.sound (then_lowered 1 c.args.journal.now c.args.node.number c.lower_looker.new.journal c.lower_looker-2.new.journal c.lower_looker.ensures.journal_with_lowered_mark c.lower_looker-2.ensures.journal_with_lowered_mark)

pub lower_looker-requires-3-clause-fits : goal.lower_looker-requires-3-clause-fits
lower_looker-requires-3-clause-fits c = let a = room_after 2 4 c.args.journal.now c.args.node.number c.lower_looker-2.new.journal 18446744073709551616 c.requires.sound (then_lowered 1 c.args.journal.now c.args.node.number c.lower_looker.new.journal c.lower_looker-2.new.journal c.lower_looker.ensures.journal_with_lowered_mark c.lower_looker-2.ensures.journal_with_lowered_mark) c.requires.fits in omega arith

pub lower_looker-requires-4-clause-sound : goal.lower_looker-requires-4-clause-sound
lower_looker-requires-4-clause-sound c = sound_after 3 c.args.journal.now c.args.node.number c.lower_looker-3.new.journal c.requires.sound (then_lowered 2 c.args.journal.now c.args.node.number c.lower_looker-2.new.journal c.lower_looker-3.new.journal (then_lowered 1 c.args.journal.now c.args.node.number c.lower_looker.new.journal c.lower_looker-2.new.journal c.lower_looker.ensures.journal_with_lowered_mark c.lower_looker-2.ensures.journal_with_lowered_mark) c.lower_looker-3.ensures.journal_with_lowered_mark)

pub lower_looker-requires-4-clause-fits : goal.lower_looker-requires-4-clause-fits
lower_looker-requires-4-clause-fits c = let a = room_after 3 3 c.args.journal.now c.args.node.number c.lower_looker-3.new.journal 18446744073709551616 c.requires.sound (then_lowered 2 c.args.journal.now c.args.node.number c.lower_looker-2.new.journal c.lower_looker-3.new.journal (then_lowered 1 c.args.journal.now c.args.node.number c.lower_looker.new.journal c.lower_looker-2.new.journal c.lower_looker.ensures.journal_with_lowered_mark c.lower_looker-2.ensures.journal_with_lowered_mark) c.lower_looker-3.ensures.journal_with_lowered_mark) c.requires.fits in omega arith

pub returns-clause-journal_with_lowered_mark : goal.returns-clause-journal_with_lowered_mark
returns-clause-journal_with_lowered_mark c = (then_lowered 3 c.args.journal.now c.args.node.number c.lower_looker-3.new.journal c.lower_looker-4.new.journal (then_lowered 2 c.args.journal.now c.args.node.number c.lower_looker-2.new.journal c.lower_looker-3.new.journal (then_lowered 1 c.args.journal.now c.args.node.number c.lower_looker.new.journal c.lower_looker-2.new.journal c.lower_looker.ensures.journal_with_lowered_mark c.lower_looker-2.ensures.journal_with_lowered_mark) c.lower_looker-3.ensures.journal_with_lowered_mark) c.lower_looker-4.ensures.journal_with_lowered_mark)

pub returns-clause-unseen : goal.returns-clause-unseen
returns-clause-unseen c =
    let sound_1 = sound_after 1 c.args.journal.now c.args.node.number c.lower_looker.new.journal c.requires.sound c.lower_looker.ensures.journal_with_lowered_mark in
    let sound_2 = sound_after 2 c.args.journal.now c.args.node.number c.lower_looker-2.new.journal c.requires.sound (then_lowered 1 c.args.journal.now c.args.node.number c.lower_looker.new.journal c.lower_looker-2.new.journal c.lower_looker.ensures.journal_with_lowered_mark c.lower_looker-2.ensures.journal_with_lowered_mark) in
    let sound_3 = sound_after 3 c.args.journal.now c.args.node.number c.lower_looker-3.new.journal c.requires.sound (then_lowered 2 c.args.journal.now c.args.node.number c.lower_looker-2.new.journal c.lower_looker-3.new.journal (then_lowered 1 c.args.journal.now c.args.node.number c.lower_looker.new.journal c.lower_looker-2.new.journal c.lower_looker.ensures.journal_with_lowered_mark c.lower_looker-2.ensures.journal_with_lowered_mark) c.lower_looker-3.ensures.journal_with_lowered_mark) in
    all_sides c.lower_looker-4.new.journal c.args.node.number
    (λ m at. saw_after 3 c.lower_looker.new.journal c.args.node.number c.lower_looker-4.new.journal m sound_1 (then_lowered 2 c.lower_looker.new.journal c.args.node.number c.lower_looker-3.new.journal c.lower_looker-4.new.journal (then_lowered 1 c.lower_looker.new.journal c.args.node.number c.lower_looker-2.new.journal c.lower_looker-3.new.journal c.lower_looker-2.ensures.journal_with_lowered_mark c.lower_looker-3.ensures.journal_with_lowered_mark) c.lower_looker-4.ensures.journal_with_lowered_mark) (c.lower_looker.ensures.unseen m at))
    (λ m at. saw_after 2 c.lower_looker-2.new.journal c.args.node.number c.lower_looker-4.new.journal m sound_2 (then_lowered 1 c.lower_looker-2.new.journal c.args.node.number c.lower_looker-3.new.journal c.lower_looker-4.new.journal c.lower_looker-3.ensures.journal_with_lowered_mark c.lower_looker-4.ensures.journal_with_lowered_mark) (c.lower_looker-2.ensures.unseen m at))
    (λ m at. saw_after 1 c.lower_looker-3.new.journal c.args.node.number c.lower_looker-4.new.journal m sound_3 c.lower_looker-4.ensures.journal_with_lowered_mark (c.lower_looker-3.ensures.unseen m at))
    c.lower_looker-4.ensures.unseen
