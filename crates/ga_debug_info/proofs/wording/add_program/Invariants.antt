use Rattle.std.proofs.Common.{◌≡◌, ◌++◌, map, drop, flat_map}
use Rattle.ga_debug_info.specs.Notes.{displayed_word_content, displayed_group_words, displayed_program_words}
use Rattle.ga_debug_info.proofs.wording.add_program.Given as goal

abbrev pub invariant-loop-group : goal.invariant-loop-group
invariant-loop-group l = record {
  same : l.lines ≡ l.fn.lines;
  words : map displayed_word_content l.told.items ++ flat_map (displayed_group_words l.fn.lines l.words l.program.node) (drop l.group-index l.group-items)
      ≡ map displayed_word_content l.fn.told.items ++ displayed_program_words l.fn.lines l.words l.program;
}
