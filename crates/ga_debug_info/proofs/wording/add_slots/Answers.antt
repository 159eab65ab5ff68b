use Rattle.std.proofs.Common.{◌∙◌, map, length, refl}
use Rattle.ga_debug_info.specs.Notes.{displayed_word_content}
use Rattle.ga_debug_info.proofs.Adding.{slot_step, slots_all, told_all}
use Rattle.ga_debug_info.proofs.wording.add_slots.Goals as goal

pub loop-slot-preserved : goal.loop-slot-preserved
loop-slot-preserved c =
    let words = rw (c.loop-slot.invariant.same, c.word_in_slot-word.ensures) at c.in_ok-add_word.ensures.words in
    record {
      same = c.add_word.ensures.same ∙ c.loop-slot.invariant.same;
      words = slot_step c.args.lines.now c.args.words.now c.args.cell (length c.args.numbers.now) c.loop-slot.slot _ c.args.numbers.now
          (map displayed_word_content c.loop-slot.told.items) (map displayed_word_content c.add_word.new.told.items) _
          c.loop-slot-test.true refl words c.loop-slot.invariant.words;
    }

pub returns-clause-words : goal.returns-clause-words
returns-clause-words c =
    told_all _ _ _ (slots_all c.args.lines.now c.args.words.now c.args.cell (length c.args.numbers.now) c.loop-slot.slot c.args.numbers.now c.loop-slot-test.false) c.loop-slot.invariant.words
