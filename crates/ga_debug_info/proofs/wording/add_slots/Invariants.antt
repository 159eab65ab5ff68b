use Rattle.std.proofs.Common.{◌≡◌, ◌-◌, ◌++◌, map, length, drop}
use Rattle.ga_debug_info.specs.Notes.{displayed_word_content, displayed_slot_words}
use Rattle.ga_debug_info.proofs.wording.add_slots.Given as goal

abbrev pub invariant-loop-slot : goal.invariant-loop-slot
invariant-loop-slot l = record {
  same : l.lines ≡ l.fn.lines;
  words : map displayed_word_content l.told.items ++ displayed_slot_words l.fn.lines l.words l.cell (length l.numbers) l.slot (drop l.slot l.numbers)
      ≡ map displayed_word_content l.fn.told.items ++ displayed_slot_words l.fn.lines l.words l.cell (length l.numbers) 0 l.numbers;
}

abbrev pub decreases-loop-slot : goal.decreases-loop-slot
decreases-loop-slot l = length l.numbers - l.slot
