use Rattle.std.proofs.Common.{◌≡◌, ◌++◌, map, drop, flat_map}
use Rattle.ga_debug_info.specs.Source.{cell_source_content, group_cell_sources, program_cell_sources}
use Rattle.ga_debug_info.proofs.building.add_cells.Given as goal

abbrev pub invariant-loop-group : goal.invariant-loop-group
invariant-loop-group l = record {
  same : l.lines ≡ l.fn.lines;
  told : map cell_source_content l.notes.items ++ flat_map (group_cell_sources l.fn.lines l.program) (drop l.group-index l.group-items)
      ≡ map cell_source_content l.fn.notes.items ++ program_cell_sources l.fn.lines l.program;
}
