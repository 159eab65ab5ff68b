use Rattle.std.proofs.Common.{◌≡◌, ◌++◌, map, length, drop}
use Rattle.ga_debug_info.specs.Source.{label_address_content, addresses_of_named_labels, program_label_addresses}
use Rattle.ga_debug_info.proofs.building.add_names.Given as goal

abbrev pub invariant-loop-label : goal.invariant-loop-label
invariant-loop-label l =
    map label_address_content l.names.items ++ addresses_of_named_labels l.program.node (drop (length l.yielded) l.program.names.items) (drop (length l.yielded) l.program.labels.items)
    ≡ map label_address_content l.fn.names.items ++ program_label_addresses l.program
