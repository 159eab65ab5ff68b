-- The steps of a node at which a value decided where it continued: the opcodes that test or that take P from R, and what came
-- over a port to be carried out (F18A Technology Reference DB001, opcodes and port execution).
use Rattle.std.specs.Prelude.{ℕ, zero, suc, ◌%◌, Bool, true, false, if◌then◌else◌, Option, Some, None, option_map, option_and_then, unwrap_or}
use Rattle.std.specs.List.{slice_get}
use Rattle.ga_slots.specs.Codes.{opcode_of_code}
use Rattle.ga_slots.specs.declared.op.Op.{Op}
use Rattle.ga_slots.specs.declared.op.Op.TheVariants.{Return, Execute, Jump, Call, Unext, Next, If, MinusIf}
use Rattle.ga_node.specs.declared.kind.OwnEventKind.{OwnEventKind}
use Rattle.ga_node.specs.declared.kind.OwnEventKind.TheVariants as kind
use Rattle.ga_grid.specs.declared.node_id.NodeId.{NodeId}
use Rattle.ga_event.specs.declared.made.MadeEvent.{MadeEvent}
use Rattle.ga_event.specs.declared.made.MadeEvent.TheVariants as made
use Rattle.ga_lab.specs.Machine.{MachineState, history_of_node}
use Rattle.ga_event.specs.declared.flow.part.NodePart.{NodePart}
use Rattle.ga_event.specs.declared.flow.part.NodePart.TheVariants as part
use Rattle.ga_event.specs.Flow.{ValueFlow, CopiedFromPart, From, top_data_part, top_return_part, node_part_value}
use Rattle.ga_provenance.specs.declared.value.PartValue.{PartValue}
use Rattle.ga_provenance.specs.declared.deciding.BranchDecision.{BranchDecision}
use Rattle.ga_provenance.specs.Origins.{value_made_by_step, node_after_steps, value_flow_at_step, origin_of_value}
use Rattle.ga_provenance.specs.Sources.{source_of_sent_word}

-- the part before it that an opcode tests, or that it makes P of
abbrev pub part_tested_by_opcode : Op → Option NodePart
part_tested_by_opcode Return = Some top_return_part  -- 00 ;
part_tested_by_opcode Execute = Some top_return_part  -- 01 ex
part_tested_by_opcode Unext = Some top_return_part  -- 04 unext
part_tested_by_opcode Next = Some top_return_part  -- 05 next
part_tested_by_opcode If = Some top_data_part  -- 06 if
part_tested_by_opcode MinusIf = Some top_data_part  -- 07 -if
part_tested_by_opcode _ = None

-- the source of an instruction word that came over a port by a step of a node, as made: T of the writer before
abbrev pub port_code_source : Option MadeEvent → ValueFlow → Option PartValue
port_code_source told (CopiedFromPart part.OutsideWord) = source_of_sent_word told
port_code_source told (CopiedFromPart from) = None
port_code_source told (From parts) = None

abbrev pub port_code_source_at : MachineState → ℕ → ℕ → Option PartValue
port_code_source_at s n k = port_code_source (slice_get (history_of_node s n) k) (value_flow_at_step s n k part.I)

-- whether a step, as made, brought an instruction word over a port: false for a fetch, which brought another; none if it left
-- the word that was there
abbrev pub brings_port_code : Option MadeEvent → Option PartValue → Option Bool
brings_port_code None code = None
brings_port_code (Some (made.Own other step kind.Fetch)) code = Some false
brings_port_code (Some (made.Own other step (kind.Run number))) code = None
brings_port_code (Some (made.Own other step kind.Wait)) code = None
brings_port_code (Some (made.Own other step (kind.Stop number))) code = None
brings_port_code (Some (made.Pass writer i reader j word)) code = option_map (λ value. true) code

abbrev pub brings_port_code_at : MachineState → ℕ → ℕ → Option Bool
brings_port_code_at s n k = brings_port_code (slice_get (history_of_node s n) k) (port_code_source_at s n k)

-- whether the word in I after a number of steps came over a port, by the newest step that brought one
abbrev pub has_port_code : MachineState → ℕ → ℕ → Bool
has_port_code s n zero = false
has_port_code s n (suc k) = unwrap_or (brings_port_code_at s n k) (has_port_code s n k)

-- the part by which the opcode was decided that the step after k steps ran: a jump and a call continue where their word points,
-- and that word is a value if it came over a port
abbrev pub instruction_part_if_port_code : Bool → Option NodePart
instruction_part_if_port_code came = if came then Some part.I else None

abbrev pub tested_opcode_part : MachineState → NodeId → ℕ → Op → Option NodePart
tested_opcode_part s node k Jump = instruction_part_if_port_code (has_port_code s node.number k)  -- 02 jump
tested_opcode_part s node k Call = instruction_part_if_port_code (has_port_code s node.number k)  -- 03 call
tested_opcode_part s node k op = part_tested_by_opcode op

abbrev pub part_tested_by_event : MachineState → NodeId → ℕ → OwnEventKind → Option NodePart
part_tested_by_event s node k kind.Fetch = None
part_tested_by_event s node k (kind.Run code) = tested_opcode_part s node k (opcode_of_code (code % 32))
part_tested_by_event s node k kind.Wait = None
part_tested_by_event s node k (kind.Stop number) = None

-- the value that decided a step, as made
abbrev pub value_that_decided_event : MachineState → NodeId → ℕ → MadeEvent → Option PartValue
value_that_decided_event s node k (made.Own other step kind) = option_map (value_made_by_step node k) (part_tested_by_event s node k kind)
value_that_decided_event s node k (made.Pass writer i reader j word) = port_code_source_at s node.number k

-- the word of the value that decided a step: the one in its part, or the transferred one
abbrev pub deciding_word : MachineState → MadeEvent → PartValue → ℕ
deciding_word s (made.Own other step kind) value = node_part_value 0 (node_after_steps s value.node.number value.step) value.part
deciding_word s (made.Pass writer i reader j word) value = word

abbrev pub decision_of_step : MachineState → ℕ → MadeEvent → PartValue → BranchDecision
decision_of_step s k told value = record { step = suc k; made = told; tested = value; word = deciding_word s told value; source = origin_of_value s value }

-- the step after k steps of a node, as made, if a value decided it
abbrev pub step_decision : MachineState → NodeId → ℕ → MadeEvent → Option BranchDecision
step_decision s node k told = option_map (decision_of_step s k told) (value_that_decided_event s node k told)

abbrev pub branch_decision_at : MachineState → NodeId → ℕ → Option BranchDecision
branch_decision_at s node k = option_and_then (step_decision s node k) (slice_get (history_of_node s node.number) k)

-- what the first names, or else the second
abbrev pub newer_decision : Option BranchDecision → Option BranchDecision → Option BranchDecision
newer_decision (Some decision_of_step) other = Some decision_of_step
newer_decision None other = other

-- the newest that a value decided among the first steps of a node
abbrev pub newest_decision : MachineState → NodeId → ℕ → Option BranchDecision
newest_decision s node zero = None
newest_decision s node (suc k) = newer_decision (branch_decision_at s node k) (newest_decision s node k)
