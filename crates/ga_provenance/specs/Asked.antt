-- The value that a step selects for a query: the value that it made, or else the one that it sent or was decided by. The rows
-- are those of the opcode table of the F18A Technology Reference (DB001), in the order of the codes, as in Table.antt of
-- ga_node and Flow.antt of ga_event.
use Rattle.std.specs.Prelude.{ℕ, zero, suc, ◌==◌, if◌then◌else◌, Option, Some, None, option_and_then}
use Rattle.std.specs.List.{slice_get}
use Rattle.ga_slots.specs.declared.op.Op.{Op}
use Rattle.ga_slots.specs.declared.op.Op.TheVariants.{Return, Execute, Jump, Call, Unext, Next, If, MinusIf, FetchP, FetchPlus, FetchB, Fetch, StoreP, StorePlus, StoreB, Store, MultiplyStep, TwoStar, TwoSlash, Invert, Plus, And, Or, Drop, Dup, Pop, Over, A, Nop, Push, BStore, AStore}
use Rattle.ga_ports.specs.Address.{address_target}
use Rattle.ga_ports.specs.declared.address.AddressTarget.{AddressTarget}
use Rattle.ga_ports.specs.declared.address.AddressTarget.TheVariants as target
use Rattle.ga_node.specs.Record.{NodeRecord}
use Rattle.ga_node.specs.Table.{next_action_of_node}
use Rattle.ga_node.specs.declared.due.NextAction.{NextAction}
use Rattle.ga_node.specs.declared.due.NextAction.TheVariants as due
use Rattle.ga_node.specs.declared.wait.Wait.{Wait}
use Rattle.ga_node.specs.declared.wait.Wait.TheVariants as wait
use Rattle.ga_grid.specs.declared.node_id.NodeId.{NodeId}
use Rattle.ga_event.specs.declared.made.MadeEvent.{MadeEvent}
use Rattle.ga_event.specs.declared.made.MadeEvent.TheVariants as made
use Rattle.ga_lab.specs.Machine.{MachineState, history_of_node}
use Rattle.ga_event.specs.declared.flow.part.NodePart.{NodePart}
use Rattle.ga_event.specs.declared.flow.part.NodePart.TheVariants as part
use Rattle.ga_event.specs.Flow.{top_data_part, top_return_part}
use Rattle.ga_provenance.specs.declared.asked.QueriedPart.{QueriedPart}
use Rattle.ga_provenance.specs.declared.asked.QueriedPart.TheVariants.{PartAfter, PartBefore, Nothing}
use Rattle.ga_provenance.specs.declared.value.PartValue.{PartValue}
use Rattle.ga_provenance.specs.Origins.{value_made_by_step, node_after_steps}

-- The selected value of a read: the word that it left in a part. A read at a port or at no address becomes a wait or a stop,
-- decided by the address.
abbrev pub queried_read_part : NodePart → NodePart → AddressTarget → QueriedPart
queried_read_part address there (target.Ram k) = PartAfter there
queried_read_part address there (target.Rom k) = PartAfter there
queried_read_part address there target.Io = PartAfter there
queried_read_part address there (target.Ports sides) = PartBefore address
queried_read_part address there target.Bad = PartBefore address

-- The selected value of a write: it leaves T in a cell or in `io`, and nothing in ROM; a wait or a stop is decided by the
-- address.
abbrev pub queried_write_part : NodePart → AddressTarget → QueriedPart
queried_write_part address (target.Ram k) = PartAfter (part.Ram k)
queried_write_part address (target.Rom k) = Nothing
queried_write_part address target.Io = PartAfter part.Io
queried_write_part address (target.Ports sides) = PartBefore address
queried_write_part address target.Bad = PartBefore address

-- the selected value of each opcode, by its node before
abbrev pub queried_opcode_part : Op → NodeRecord → QueriedPart
queried_opcode_part Return n = PartAfter part.P  -- 00 ;
queried_opcode_part Execute n = PartAfter part.P  -- 01 ex
queried_opcode_part Jump n = PartBefore part.I  -- 02 jump: its word names where to
queried_opcode_part Call n = PartBefore part.I  -- 03 call
queried_opcode_part Unext n = PartBefore top_return_part  -- 04 unext
queried_opcode_part Next n = PartBefore top_return_part  -- 05 next
queried_opcode_part If n = PartBefore top_data_part  -- 06 if
queried_opcode_part MinusIf n = PartBefore top_data_part  -- 07 -if
queried_opcode_part FetchP n = queried_read_part part.P top_data_part (address_target n.p)  -- 08 @p
queried_opcode_part FetchPlus n = queried_read_part part.A top_data_part (address_target n.a)  -- 09 @+
queried_opcode_part FetchB n = queried_read_part part.B top_data_part (address_target n.b)  -- 0a @b
queried_opcode_part Fetch n = queried_read_part part.A top_data_part (address_target n.a)  -- 0b @
queried_opcode_part StoreP n = queried_write_part part.P (address_target n.p)  -- 0c !p
queried_opcode_part StorePlus n = queried_write_part part.A (address_target n.a)  -- 0d !+
queried_opcode_part StoreB n = queried_write_part part.B (address_target n.b)  -- 0e !b
queried_opcode_part Store n = queried_write_part part.A (address_target n.a)  -- 0f !
queried_opcode_part MultiplyStep n = PartAfter top_data_part  -- 10 +*
queried_opcode_part TwoStar n = PartAfter top_data_part  -- 11 2*
queried_opcode_part TwoSlash n = PartAfter top_data_part  -- 12 2/
queried_opcode_part Invert n = PartAfter top_data_part  -- 13 invert
queried_opcode_part Plus n = PartAfter top_data_part  -- 14 +
queried_opcode_part And n = PartAfter top_data_part  -- 15 and
queried_opcode_part Or n = PartAfter top_data_part  -- 16 or
queried_opcode_part Drop n = Nothing  -- 17 drop
queried_opcode_part Dup n = PartAfter top_data_part  -- 18 dup
queried_opcode_part Pop n = PartAfter top_data_part  -- 19 pop
queried_opcode_part Over n = PartAfter top_data_part  -- 1a over
queried_opcode_part A n = PartAfter top_data_part  -- 1b a
queried_opcode_part Nop n = Nothing  -- 1c .
queried_opcode_part Push n = PartAfter top_return_part  -- 1d push
queried_opcode_part BStore n = PartAfter part.B  -- 1e b!
queried_opcode_part AStore n = PartAfter part.A  -- 1f a!

-- the selected value of what comes next in a node
abbrev pub queried_action_part : NextAction → NodeRecord → QueriedPart
queried_action_part due.Fetch n = queried_read_part part.P part.I (address_target n.p)
queried_action_part (due.Run op) n = queried_opcode_part op n

-- the selected value of a word that was taken, by what its node waited for
abbrev pub node_part_receiving_word : Wait → QueriedPart
node_part_receiving_word (wait.Fetch sides) = PartAfter part.I
node_part_receiving_word (wait.Read sides) = PartAfter top_data_part
node_part_receiving_word wait.Nothing = Nothing
node_part_receiving_word (wait.Write side) = Nothing

-- the selected value of an event as made, by its node before; the writer of a pass sends T
abbrev pub queried_event_part : MadeEvent → NodeRecord → ℕ → QueriedPart
queried_event_part (made.Own node step kind) before n = queried_action_part (next_action_of_node before) before
queried_event_part (made.Pass writer i reader j word) before n = if n == reader.number then node_part_receiving_word before.wait else PartBefore top_data_part

-- the selected value of the step after k steps of a node
abbrev pub queried_part_value : NodeId → ℕ → QueriedPart → Option PartValue
queried_part_value node k (PartAfter at) = Some (value_made_by_step node (suc k) at)
queried_part_value node k (PartBefore at) = Some (value_made_by_step node k at)
queried_part_value node k Nothing = None

abbrev pub queried_value_of_next_step : MachineState → NodeId → ℕ → Option PartValue
queried_value_of_next_step s node k =
    option_and_then (λ told. queried_part_value node k (queried_event_part told (node_after_steps s node.number k) node.number)) (slice_get (history_of_node s node.number) k)

-- the value that a step of a node selects, by the step's number, if the step exists
abbrev pub queried_value : MachineState → NodeId → ℕ → Option PartValue
queried_value s node zero = None
queried_value s node (suc k) = queried_value_of_next_step s node k
