-- The requests that go back (Debug Adapter Protocol, "StepBackRequest", "ReverseContinueRequest", "SteppingGranularity").
use Rattle.std.specs.Prelude.{◌≡◌, ◌<◌, ◌==◌, ◌+◌, ◌-◌, nat_lt, if◌then◌else◌, ℕ, zero, suc, List, [], ◌++◌, length, slice_index_or, codes, decimal, bytes_eq, Option, Some, None}
use Rattle.serde_json.specs.Data.{Data}
use Rattle.ga_text.specs.Lines.{Text}
use Rattle.ga_text.specs.Digits.{name_of_node, three_decimal_digits}
use Rattle.ga_event.specs.Told.{count_steps}
use Rattle.ga_grid.specs.Grid.{decimal_name_of_node}
use Rattle.ga_lab.specs.Machine.{MachineState}
use Rattle.ga_grid.specs.declared.node_id.NodeId.{NodeId}
use Rattle.ga_debug_info.specs.declared.notes.DebugInfo.{DebugInfo}
use Rattle.ga_dap_protocol.specs.Messages.{member_as_text}
use Rattle.ga_dap_breakpoints.specs.Back.{state_after_step_back}
use Rattle.ga_dap_breakpoints.specs.Lines.{state_after_line_rollback}
use Rattle.ga_dap_breakpoints.specs.declared.breakpoint.Breakpoint.{Breakpoint}
use Rattle.ga_dap_breakpoints.specs.Reversing.{state_after_reverse_continue}
use Rattle.ga_dap_breakpoints.specs.declared.stepping.Granularity.{Granularity}
use Rattle.ga_dap_breakpoints.specs.declared.stepping.Granularity.TheVariants.{Instruction, Line}
use Rattle.ga_dap_queries.specs.declared.debuggee.Debuggee.{Debuggee}
use Rattle.ga_dap_queries.specs.Disassembling.{program_debug_info}

-- the granularity of one step: lines if there is source and the client doesn't request an instruction
abbrev pub granularity_of_name : Option Text → Granularity
granularity_of_name None = Line
granularity_of_name (Some name) = if bytes_eq name (codes "instruction") then Instruction else Line

abbrev pub granularity_for_source : Option DebugInfo → Option Text → Granularity
granularity_for_source None name = Instruction
granularity_for_source (Some notes) name = granularity_of_name name

abbrev pub requested_granularity : Debuggee → Data → Granularity
requested_granularity p d = granularity_for_source p.source (member_as_text (codes "granularity") d)

-- `stepBack`: the node is rolled back, with all dependents, and nothing else changes
abbrev pub debuggee_after_step_back : Granularity → Debuggee → NodeId → Debuggee
debuggee_after_step_back Instruction p node = record p { lab = state_after_step_back p.lab node }
debuggee_after_step_back Line p node = record p { lab = state_after_line_rollback (program_debug_info p) p.lab node }

-- `reverseContinue`: the node is gone back to the newest step by which it came to a breakpoint of its own, or right before it wrote a
-- watched cell
abbrev pub debuggee_after_reverse_continue : Debuggee → NodeId → List Breakpoint → Debuggee
debuggee_after_reverse_continue p node points = record p { lab = state_after_reverse_continue p.lab node points }

-- ---- the text about it ("OutputEvent"): how many events were removed and kept, and which steps of each other node were
-- removed

-- how many steps of each node were kept
abbrev pub AreStepCountsByNode : MachineState → List ℕ → Type 0
AreStepCountsByNode s steps = (n : ℕ) → n < 144 → slice_index_or steps n 0 ≡ count_steps n s.kept

abbrev pub removed_steps_line : ℕ → ℕ → ℕ → Text
removed_steps_line n first before = codes "  with it " ++ three_decimal_digits (decimal_name_of_node n) ++ codes " " ++ decimal first ++ codes " to " ++ decimal before ++ codes "\n"

abbrev pub removed_steps_line_if_any : ℕ → ℕ → ℕ → Text
removed_steps_line_if_any n before left = if nat_lt left before then removed_steps_line n (left + 1) before else []

abbrev pub removed_steps_of_other_node_text : ℕ → List ℕ → MachineState → ℕ → Text
removed_steps_of_other_node_text node before s n = if n == node then [] else removed_steps_line_if_any n (slice_index_or before n 0) (count_steps n s.kept)

-- the lines for the first nodes of which steps went, but for the node that was gone back
unfoldable pub removed_steps_text_below : ℕ → List ℕ → MachineState → ℕ → Text
removed_steps_text_below node before s zero = []
removed_steps_text_below node before s (suc n) = removed_steps_text_below node before s n ++ removed_steps_of_other_node_text node before s n

abbrev pub rollback_summary_first_line : NodeId → ℕ → MachineState → Text
rollback_summary_first_line node removed s =
    codes "rewind " ++ name_of_node node ++ codes " " ++ decimal (count_steps node.number s.kept + 1) ++ codes ": removed " ++ decimal removed ++ codes " kept "
    ++ decimal (length s.kept) ++ codes "\n"

-- the text, given how many steps each node had before and how many events were removed
abbrev pub rollback_summary_text : NodeId → List ℕ → ℕ → MachineState → Text
rollback_summary_text node before removed s = rollback_summary_first_line node removed s ++ removed_steps_text_below node.number before s 144

-- what went where a node was gone back: between these two machines
pub record IsRollbackSummary (old new : MachineState) (before : List ℕ) (removed : ℕ) : Type 0 where
  pub steps : AreStepCountsByNode old before
  pub count : removed ≡ length old.kept - length new.kept
