use Rattle.std.proofs.Common.{◌≡◌, ◌+◌, ◌*◌, ◌-◌, ◌≤◌}
use Rattle.arrayvec.specs.ArrayVec.{array_vec_len}
use Rattle.ga_grid.specs.Grid.{optional_node_number}
use Rattle.ga_grid.specs.Chip.{records_of_chip}
use Rattle.ga_explorer_text.specs.Waiting.{only_awaited_neighbour, wait_cycle_node_names, wait_cycle_line}
use Rattle.ga_explorer_text.proofs.Rings.{closed}
use Rattle.ga_explorer_text.proofs.ring_text.ring_from.Given as goal

abbrev pub invariant-ring : goal.invariant-ring
invariant-ring l = record {
  len : array_vec_len l.out ≤ 8 + 4 * l.counter;
  text : closed l.out.items (wait_cycle_node_names (records_of_chip l.chip) l.first.number (144 - l.counter) (optional_node_number l.next))
      ≡ wait_cycle_line l.first.number (wait_cycle_node_names (records_of_chip l.chip) l.first.number 144 (only_awaited_neighbour (records_of_chip l.chip) l.first.number));
}
