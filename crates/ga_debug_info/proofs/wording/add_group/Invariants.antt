use Rattle.std.proofs.Common.{◌≡◌, ◌++◌, map, length, drop}
use Rattle.ga_debug_info.specs.Source.{literal_entries}
use Rattle.ga_debug_info.specs.Notes.{displayed_word_content, displayed_literal_words, displayed_group_words}
use Rattle.ga_debug_info.proofs.wording.add_group.Given as goal

abbrev pub invariant-loop-item : goal.invariant-loop-item
invariant-loop-item l = record {
  same : l.lines ≡ l.fn.lines;
  words : map displayed_word_content l.told.items ++ literal_entries (displayed_literal_words l.fn.lines l.words l.node) l.p (drop (length l.yielded) l.group.items.items) (drop (length l.yielded) l.group.lines.items)
      ≡ map displayed_word_content l.fn.told.items ++ displayed_group_words l.fn.lines l.words l.node l.group;
}
