-- Where a run ended (Debug Adapter Protocol, "StoppedEvent").
use Rattle.std.specs.Prelude.{◌≡◌, ℕ, Bool, List, [], ◌++◌, map, filter, codes, decimal}
use Rattle.ga_text.specs.Lines.{Text}
use Rattle.ga_event.specs.declared.made.MadeEvent.{MadeEvent}
use Rattle.ga_lab.specs.Machine.{MachineState, chip_of_machine}
use Rattle.ga_lab.specs.declared.fault.LabFault.{LabFault}
use Rattle.ga_lab.specs.declared.fault.LabFault.TheVariants as fault
use Rattle.ga_dap_views.specs.Activity.{node_name_and_activity_text}
use Rattle.ga_dap_breakpoints.specs.Reversing.{is_event_hit_meeting_condition}
use Rattle.ga_dap_queries.specs.declared.debuggee.Debuggee.{Debuggee}
use Rattle.ga_dap_control.specs.declared.configuration.Configuration.{Configuration}
use Rattle.ga_dap_control.specs.declared.configuration.PlacedBreakpoint.{PlacedBreakpoint}
use Rattle.ga_dap_control.specs.declared.stop_reason.StopReason.{StopReason}
use Rattle.ga_dap_control.specs.declared.stop_reason.StopReason.TheVariants as stop
use Rattle.ga_dap_queries.specs.Events.{stopped_event_body, stopped_body_with_breakpoints, IsFirstThreadNode}
use Rattle.ga_dap_queries.specs.Sending.{Message, event_message}

-- why the lab made no further event
abbrev pub lab_fault_text : LabFault → Text
lab_fault_text fault.Full = codes "full: as many events are kept as may be"
lab_fault_text fault.Memory = codes "memory was refused to the next event"
lab_fault_text fault.EventNumbersSpent = codes "spent: as many events were made as can be counted"
lab_fault_text fault.Waiting = codes "the node waits"
lab_fault_text fault.Stopped = codes "the node is stopped"
lab_fault_text fault.Empty = codes "nothing is kept"
lab_fault_text fault.NoStep = codes "there is no such step"

abbrev pub stopped_message : Text → Text → ℕ → Message
stopped_message reason description n = event_message (codes "stopped") (stopped_event_body reason description n)

abbrev pub breakpoint_hit_message : Text → Text → ℕ → List ℕ → Message
breakpoint_hit_message reason description n ids = event_message (codes "stopped") (stopped_body_with_breakpoints reason description n ids)

-- the numbers of the breakpoints that the made event hits, by their hit conditions
unfoldable pub is_placed_breakpoint_hit : MadeEvent → MachineState → PlacedBreakpoint → Bool
is_placed_breakpoint_hit told s one = is_event_hit_meeting_condition told s one.breakpoint

abbrev pub hit_breakpoint_ids : MadeEvent → MachineState → List PlacedBreakpoint → List ℕ
hit_breakpoint_ids told s placed = map (λ (one : PlacedBreakpoint). one.id) (filter (is_placed_breakpoint_hit told s) placed)

-- a node that can't go on, and why
abbrev pub exception_stop_message : Debuggee → ℕ → Text → Message
exception_stop_message p n behind = stopped_message (codes "exception") (codes "node " ++ node_name_and_activity_text (chip_of_machine p.lab) n ++ behind) n

-- what a node did broke the expectation of a line
abbrev pub broken_expectation_text : ℕ → Text
broken_expectation_text line = codes "the expectation of line " ++ decimal line ++ codes " is broken"

abbrev pub broken_expectation_message : ℕ → ℕ → Message
broken_expectation_message n line = stopped_message (codes "exception") (broken_expectation_text line) n

-- `stopped_message` if a run ended for this reason; if it ended at no node, the message names the first node that has something to show
abbrev pub stop_reason_message : Debuggee → List PlacedBreakpoint → ℕ → StopReason → Message
stop_reason_message p placed first (stop.StepCompleted node) = stopped_message (codes "step") (codes "step") node.number
stop_reason_message p placed first (stop.Breakpoint node told) = breakpoint_hit_message (codes "breakpoint") (codes "breakpoint") node.number (hit_breakpoint_ids told p.lab placed)
stop_reason_message p placed first (stop.WatchedCellWritten node told) = breakpoint_hit_message (codes "data breakpoint") (codes "a watched cell was written") node.number (hit_breakpoint_ids told p.lab placed)
stop_reason_message p placed first (stop.Stopped node) = exception_stop_message p node.number []
stop_reason_message p placed first (stop.Stuck node) = exception_stop_message p node.number (codes ", and can never go on")
stop_reason_message p placed first (stop.BrokeExpectation node line) = broken_expectation_message node.number line
stop_reason_message p placed first stop.Quiet = stopped_message (codes "pause") (codes "quiet: no node has an event") first
stop_reason_message p placed first (stop.Refused why) = stopped_message (codes "pause") (lab_fault_text why) first

abbrev pub IsStopReasonMessage : Debuggee → Configuration → StopReason → Message → Type 0
IsStopReasonMessage p set stop message = (first : ℕ) × IsFirstThreadNode p.lab p.nodes.items first × (message ≡ stop_reason_message p set.points.placed.items first stop)
