use Rattle.std.proofs.Common.{◌≡◌, None, drop}
use Rattle.ga_debug_info.specs.Notes.{first_slot_word_from_line}
use Rattle.ga_debug_info.proofs.notes.DebugInfo.find_first_slot_word_from_line.Given as goal

abbrev pub invariant-loop-told : goal.invariant-loop-told
invariant-loop-told l = first_slot_word_from_line l.line l.best (drop l.told-index l.told-items) ≡ first_slot_word_from_line l.line None l.self.words.items
