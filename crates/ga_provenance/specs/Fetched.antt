-- From which cell the instruction word was fetched to which a step belongs (F18A Technology Reference DB001, instruction fetch).
use Rattle.std.specs.Prelude.{ℕ, zero, suc, ◌+◌, Option, Some, None}
use Rattle.ga_ports.specs.Address.{address_target}
use Rattle.ga_ports.specs.declared.address.AddressTarget.{AddressTarget}
use Rattle.ga_ports.specs.declared.address.AddressTarget.TheVariants.{Ram, Rom}
use Rattle.ga_grid.specs.declared.node_id.NodeId.{NodeId}
use Rattle.ga_lab.specs.Machine.{MachineState}
use Rattle.ga_event.specs.declared.flow.part.NodePart.TheVariants as part
use Rattle.ga_provenance.specs.Origins.{node_after_steps, value_made_by_step, origin_of_value}

-- the cell's address: of RAM from 0 on, of ROM from 128 on
abbrev pub cell_of_target : AddressTarget → Option ℕ
cell_of_target (Ram k) = Some k
cell_of_target (Rom k) = Some (128 + k)
cell_of_target _ = None

-- the cell that P named before the fetch with this number; none where the word was loaded
abbrev pub cell_of_fetch : MachineState → ℕ → ℕ → Option ℕ
cell_of_fetch s n zero = None
cell_of_fetch s n (suc k) = cell_of_target (address_target (node_after_steps s n k).p)

-- The cell from which the word in I after a step was fetched: the step belongs to this word.
abbrev pub fetched_cell : MachineState → NodeId → ℕ → Option ℕ
fetched_cell s node step = cell_of_fetch s node.number (origin_of_value s (value_made_by_step node step part.I)).step
