-- A chip that has come to rest before its program runs: each node whose first event is to wait for code has made it (F18A Technology
-- Reference DB001, ports and reset; in which order is this project's own choice).
use Rattle.std.specs.Prelude.{ℕ, zero, suc, ◌==◌, Bool, true, false, ◌&&◌, if◌then◌else◌, is_none}
use Rattle.ga_ports.specs.Address.{address_target}
use Rattle.ga_ports.specs.declared.address.AddressTarget.{AddressTarget}
use Rattle.ga_ports.specs.declared.address.AddressTarget.TheVariants.{Ram, Rom, Io, Ports, Bad}
use Rattle.ga_node.specs.Record.{NodeRecord}
use Rattle.ga_node.specs.Table.{refusal_of_own_event}
use Rattle.ga_grid.specs.declared.node_id.NodeId.{NodeId}
use Rattle.ga_grid.specs.Chip.{node_record_at}
use Rattle.ga_grid.specs.Grid.{node_id}
use Rattle.ga_lab.specs.Machine.{MachineState, chip_of_machine, state_after_step}

abbrev pub is_port_target : AddressTarget → Bool
is_port_target (Ports sides) = true
is_port_target (Ram k) = false
is_port_target (Rom k) = false
is_port_target Io = false
is_port_target Bad = false

-- the node runs and fetches next, from ports: so its next event is to wait for code
abbrev pub fetches_from_ports_next : NodeRecord → Bool
fetches_from_ports_next n = is_none (refusal_of_own_event n) && n.slot == 4 && is_port_target (address_target n.p)

-- the machine after a step of the node, where that is to wait for code
abbrev pub state_after_settling_node : MachineState → NodeId → MachineState
state_after_settling_node s n = if fetches_from_ports_next (node_record_at (chip_of_machine s) n.number) then state_after_step s n else s

-- the machine after each node with a lower number, one after another, made its step, where that is to wait for code
abbrev pub state_after_settling_lower_nodes : MachineState → ℕ → MachineState
state_after_settling_lower_nodes s zero = s
state_after_settling_lower_nodes s (suc n) = state_after_settling_node (state_after_settling_lower_nodes s n) (node_id n)

-- the machine after each node made its step, where that is to wait for code; as far as the limit of kept events allows
unfoldable pub state_after_settling : MachineState → MachineState
state_after_settling s = state_after_settling_lower_nodes s 144

-- the machine from which the search begins, by whether its idle nodes wait first
abbrev pub check_start_state : Bool → MachineState → MachineState
check_start_state settles s = if settles then state_after_settling s else s
