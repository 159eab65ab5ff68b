-- The position of a node: the slot that it carries out next, or the cell that it fetches next (F18A Technology Reference DB001,
-- instruction fetch).
use Rattle.std.specs.Prelude.{ℕ, ◌==◌, if◌then◌else◌, Option, option_map}
use Rattle.ga_node.specs.Record.{NodeRecord}
use Rattle.ga_grid.specs.declared.node_id.NodeId.{NodeId}
use Rattle.ga_event.specs.Told.{count_steps}
use Rattle.ga_lab.specs.Machine.{MachineState}
use Rattle.ga_debug_info.specs.Source.{cell_of_address}
use Rattle.ga_provenance.specs.Origins.{node_after_steps}
use Rattle.ga_provenance.specs.Fetched.{fetched_cell}
use Rattle.ga_dap_views.specs.declared.spots.SlotAddress.{SlotAddress}

abbrev pub slot_address : ℕ → ℕ → SlotAddress
slot_address slot cell = record { cell = cell; slot = slot }

-- In slot 4 a fetch is due; else the node carries out a word that was fetched from this cell, came over a port or was there at
-- load.
abbrev pub slot_address_of_node_record : NodeRecord → Option ℕ → Option SlotAddress
slot_address_of_node_record n fetched = if n.slot == 4 then option_map (slot_address 0) (cell_of_address n.p) else option_map (slot_address n.slot) fetched

-- the position of a node after `step` of its steps
abbrev pub slot_address_after_steps : MachineState → NodeId → ℕ → Option SlotAddress
slot_address_after_steps s node step = slot_address_of_node_record (node_after_steps s node.number step) (fetched_cell s node step)

abbrev pub current_slot_address : MachineState → NodeId → Option SlotAddress
current_slot_address s node = slot_address_after_steps s node (count_steps node.number s.kept)
