-- Breakpoints by references to memory.
use Rattle.std.proofs.Common.{◌≡◌, ℕ, Option, subst}
use Rattle.ga_text.specs.Lines.{Text}
use Rattle.ga_grid.specs.declared.node_id.NodeId.{NodeId}
use Rattle.ga_dap_breakpoints.specs.declared.breakpoint.Breakpoint.{Breakpoint}
use Rattle.ga_dap_control.specs.Placing.{IsBreakpointOfReference, instruction_breakpoint_at}

pub referred_so : (place : NodeId × ℕ → Option Breakpoint) (a b : Option Text) (point : Option Breakpoint) → a ≡ b → IsBreakpointOfReference place a point → IsBreakpointOfReference place b point
referred_so place a b point e so = subst (λ (z : Option Text). IsBreakpointOfReference place z point) e so

pub referred_on : (a b : ℕ) (text : Option Text) (point : Option Breakpoint) → a ≡ b → IsBreakpointOfReference (instruction_breakpoint_at a) text point → IsBreakpointOfReference (instruction_breakpoint_at b) text point
referred_on a b text point e so = subst (λ (z : ℕ). IsBreakpointOfReference (instruction_breakpoint_at z) text point) e so
