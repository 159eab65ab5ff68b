-- What watches a move of one node: the move, what ends it early, and what is kept of the events before.
use Rattle.std.specs.Prelude.{◌≡◌}
use Rattle.ga_event.specs.declared.made.MadeEvent.{MadeEvent}
use Rattle.ga_lab.specs.Machine.{MachineState}
use Rattle.ga_dap_breakpoints.specs.declared.moves.StepState.{StepState}
use Rattle.ga_dap_breakpoints.specs.declared.moves.Steps.{Steps}
use Rattle.ga_dap_breakpoints.specs.declared.stepping.Granularity.TheVariants.{Line}
use Rattle.ga_dap_breakpoints.specs.Stepping.{move_after_event}
use Rattle.ga_dap_breakpoints.specs.inner.Halting.{halt_conditions_after_event, IsInstructionCell, RemembersHalts}

abbrev pub step_state_after_event : StepState → MadeEvent → MachineState → StepState
step_state_after_event w told s = record w { halts = halt_conditions_after_event w.halts told s; stepping = move_after_event w.stepping told s }

-- what is kept beside the move and its conditions holds of this machine
pub record RemembersSteps (w : Steps) (s : MachineState) : Type 0 where
  pub halting : RemembersHalts w.halting s
  pub word : w.stepping.grain ≡ Line → IsInstructionCell s w.stepping.node w.word
