use Rattle.std.proofs.Common.{◌≡◌, ◌++◌, map, drop, flat_map}
use Rattle.ga_debug_info.specs.Source.{label_address_content, program_label_addresses, all_label_addresses, cell_source_content, program_cell_sources, debug_info_of_source}
use Rattle.ga_debug_info.proofs.building.debug_info_of_source.Given as goal

abbrev pub invariant-loop-program : goal.invariant-loop-program
invariant-loop-program l = record {
  same : l.lines ≡ l.source;
  labels : map label_address_content l.names.items ++ flat_map program_label_addresses (drop l.program-index l.programs) ≡ all_label_addresses l.programs;
  cells : map cell_source_content l.notes.items ++ flat_map (program_cell_sources l.source) (drop l.program-index l.programs) ≡ debug_info_of_source l.source l.programs;
}
