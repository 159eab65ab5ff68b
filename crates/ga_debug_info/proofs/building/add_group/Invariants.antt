use Rattle.std.proofs.Common.{◌≡◌, ◌++◌, map, length, drop}
use Rattle.ga_debug_info.specs.Source.{cell_source_content, literal_cell_sources, literal_entries, group_cell_sources}
use Rattle.ga_debug_info.proofs.building.add_group.Given as goal

abbrev pub invariant-loop-item : goal.invariant-loop-item
invariant-loop-item l = record {
  same : l.lines ≡ l.fn.lines;
  told : map cell_source_content l.notes.items ++ literal_entries (literal_cell_sources l.fn.lines l.program) l.p (drop (length l.yielded) l.group.items.items) (drop (length l.yielded) l.group.lines.items)
      ≡ map cell_source_content l.fn.notes.items ++ group_cell_sources l.fn.lines l.program l.group;
}
