use Rattle.std.proofs.Common.{◌≡◌, ◌++◌, map, drop, flat_map}
use Rattle.ga_debug_info.specs.Given.{given_ranges_of_registers, given_range_of_cell_source, given_ranges_of_source}
use Rattle.ga_debug_info.proofs.given.given_ranges_of_source.Given as goal

abbrev pub invariant-loop-program : goal.invariant-loop-program
invariant-loop-program l = l.given.items ++ flat_map given_ranges_of_registers (drop l.program-index l.programs) ≡ flat_map given_ranges_of_registers l.programs

abbrev pub invariant-loop-note : goal.invariant-loop-note
invariant-loop-note l = l.given.items ++ map given_range_of_cell_source (drop l.note-index l.notes) ≡ given_ranges_of_source l.programs l.notes
