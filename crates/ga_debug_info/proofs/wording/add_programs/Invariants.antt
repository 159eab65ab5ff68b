use Rattle.std.proofs.Common.{◌≡◌, ◌++◌, map, drop, flat_map}
use Rattle.ga_debug_info.specs.Notes.{displayed_word_content, displayed_program_words, all_displayed_words}
use Rattle.ga_debug_info.proofs.wording.add_programs.Given as goal

abbrev pub invariant-loop-program : goal.invariant-loop-program
invariant-loop-program l = record {
  same : l.lines ≡ l.fn.lines;
  words : map displayed_word_content l.told.items ++ flat_map (displayed_program_words l.fn.lines l.words) (drop l.program-index l.programs) ≡ all_displayed_words l.fn.lines l.words l.programs;
}
