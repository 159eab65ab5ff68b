use Rattle.std.proofs.Common.{refl}
use Rattle.ga_dap_control.specs.declared.moving.DapStepKind.TheVariants.{Over, In, Out}
use Rattle.ga_dap_queries.specs.declared.request_name.RequestName.TheVariants as the
use Rattle.ga_dap_control.proofs.Answered.{only_answers, moves_so, steps_so, unknown_refused, with_command}
use Rattle.ga_dap_control.proofs.launched.answer_immediate_request.Goals as goal

pub returns-in-SetBreakpoints-clause-sent : goal.returns-in-SetBreakpoints-clause-sent
returns-in-SetBreakpoints-clause-sent c = with_command _ the.SetBreakpoints c.args.command c.args.launched.now c.args.request.now _ c.args.out.now _ c.in-SetBreakpoints.is
    c.set_lines_of.ensures.sent

pub returns-in-SetFunctionBreakpoints-clause-sent : goal.returns-in-SetFunctionBreakpoints-clause-sent
returns-in-SetFunctionBreakpoints-clause-sent c = with_command _ the.SetFunctionBreakpoints c.args.command c.args.launched.now c.args.request.now _ c.args.out.now _ c.in-SetFunctionBreakpoints.is
    c.set_points_of.ensures.sent

pub returns-in-SetInstructionBreakpoints-clause-sent : goal.returns-in-SetInstructionBreakpoints-clause-sent
returns-in-SetInstructionBreakpoints-clause-sent c = with_command _ the.SetInstructionBreakpoints c.args.command c.args.launched.now c.args.request.now _ c.args.out.now _ c.in-SetInstructionBreakpoints.is
    c.set_points_of-in-SetInstructionBreakpoints.ensures.sent

pub returns-in-SetDataBreakpoints-clause-sent : goal.returns-in-SetDataBreakpoints-clause-sent
returns-in-SetDataBreakpoints-clause-sent c = with_command _ the.SetDataBreakpoints c.args.command c.args.launched.now c.args.request.now _ c.args.out.now _ c.in-SetDataBreakpoints.is
    c.set_points_of-in-SetDataBreakpoints.ensures.sent

pub returns-in-SetExceptionBreakpoints-clause-sent : goal.returns-in-SetExceptionBreakpoints-clause-sent
returns-in-SetExceptionBreakpoints-clause-sent c = with_command _ the.SetExceptionBreakpoints c.args.command c.args.launched.now c.args.request.now _ c.args.out.now _ c.in-SetExceptionBreakpoints.is
    c.set_filters_of.ensures.sent

pub returns-in-DataBreakpointInfo-clause-sent : goal.returns-in-DataBreakpointInfo-clause-sent
returns-in-DataBreakpointInfo-clause-sent c = with_command _ the.DataBreakpointInfo c.args.command c.args.launched.now c.args.request.now _ c.args.out.now _ c.in-DataBreakpointInfo.is
    (only_answers _ c.respond_data_breakpoint_info.result c.args.launched.now c.args.launched.now c.args.out.now c.respond_data_breakpoint_info.new.out c.respond_data_breakpoint_info.ensures.sent refl)

pub returns-in-Threads-clause-sent : goal.returns-in-Threads-clause-sent
returns-in-Threads-clause-sent c = with_command _ the.Threads c.args.command c.args.launched.now c.args.request.now _ c.args.out.now _ c.in-Threads.is
    (only_answers _ c.respond_threads.result c.args.launched.now c.args.launched.now c.args.out.now c.respond_threads.new.out c.respond_threads.ensures.sent refl)

pub returns-in-StackTrace-clause-sent : goal.returns-in-StackTrace-clause-sent
returns-in-StackTrace-clause-sent c = with_command _ the.StackTrace c.args.command c.args.launched.now c.args.request.now _ c.args.out.now _ c.in-StackTrace.is
    (only_answers _ c.respond_stack_trace.result c.args.launched.now c.args.launched.now c.args.out.now c.respond_stack_trace.new.out c.respond_stack_trace.ensures.sent refl)

pub returns-in-Scopes-clause-sent : goal.returns-in-Scopes-clause-sent
returns-in-Scopes-clause-sent c = with_command _ the.Scopes c.args.command c.args.launched.now c.args.request.now _ c.args.out.now _ c.in-Scopes.is
    (only_answers _ c.respond_scopes.result c.args.launched.now c.args.launched.now c.args.out.now c.respond_scopes.new.out c.respond_scopes.ensures.sent refl)

pub returns-in-Variables-clause-sent : goal.returns-in-Variables-clause-sent
returns-in-Variables-clause-sent c = with_command _ the.Variables c.args.command c.args.launched.now c.args.request.now _ c.args.out.now _ c.in-Variables.is
    (only_answers _ c.respond_variables.result c.args.launched.now c.args.launched.now c.args.out.now c.respond_variables.new.out c.respond_variables.ensures.sent refl)

pub returns-in-ExceptionInfo-clause-sent : goal.returns-in-ExceptionInfo-clause-sent
returns-in-ExceptionInfo-clause-sent c = with_command _ the.ExceptionInfo c.args.command c.args.launched.now c.args.request.now _ c.args.out.now _ c.in-ExceptionInfo.is
    (only_answers _ c.respond_exception_info.result c.args.launched.now c.args.launched.now c.args.out.now c.respond_exception_info.new.out c.respond_exception_info.ensures.sent refl)

pub returns-in-Disassemble-clause-sent : goal.returns-in-Disassemble-clause-sent
returns-in-Disassemble-clause-sent c = with_command _ the.Disassemble c.args.command c.args.launched.now c.args.request.now _ c.args.out.now _ c.in-Disassemble.is
    (only_answers _ c.respond_disassemble.result c.args.launched.now c.args.launched.now c.args.out.now c.respond_disassemble.new.out c.respond_disassemble.ensures.sent refl)

pub returns-in-ConfigurationDone-clause-sent : goal.returns-in-ConfigurationDone-clause-sent
returns-in-ConfigurationDone-clause-sent c = with_command _ the.ConfigurationDone c.args.command c.args.launched.now c.args.request.now _ c.args.out.now _ c.in-ConfigurationDone.is
    (moves_so _ c.respond_configuration_done.result c.args.launched.now _ c.respond_configuration_done.new.execution c.args.out.now c.respond_configuration_done.new.out c.respond_configuration_done.ensures.sent refl)

pub returns-in-Continue-clause-sent : goal.returns-in-Continue-clause-sent
returns-in-Continue-clause-sent c = with_command _ the.Continue c.args.command c.args.launched.now c.args.request.now _ c.args.out.now _ c.in-Continue.is
    (moves_so _ c.begin_continue.result c.args.launched.now _ c.begin_continue.new.execution c.args.out.now c.begin_continue.new.out c.begin_continue.ensures.sent refl)

pub returns-in-Pause-clause-sent : goal.returns-in-Pause-clause-sent
returns-in-Pause-clause-sent c = with_command _ the.Pause c.args.command c.args.launched.now c.args.request.now _ c.args.out.now _ c.in-Pause.is
    (moves_so _ c.respond_pause.result c.args.launched.now _ c.respond_pause.new.execution c.args.out.now c.respond_pause.new.out c.respond_pause.ensures.sent refl)

pub returns-in-Next-clause-sent : goal.returns-in-Next-clause-sent
returns-in-Next-clause-sent c = with_command _ the.Next c.args.command c.args.launched.now c.args.request.now _ c.args.out.now _ c.in-Next.is
    (steps_so Over c.begin_step.result c.args.launched.now _ c.args.request.now c.begin_step.new.execution c.args.out.now c.begin_step.new.out c.begin_step.ensures.sent refl)

pub returns-in-StepIn-clause-sent : goal.returns-in-StepIn-clause-sent
returns-in-StepIn-clause-sent c = with_command _ the.StepIn c.args.command c.args.launched.now c.args.request.now _ c.args.out.now _ c.in-StepIn.is
    (steps_so In c.begin_step-in-StepIn.result c.args.launched.now _ c.args.request.now c.begin_step-in-StepIn.new.execution c.args.out.now c.begin_step-in-StepIn.new.out c.begin_step-in-StepIn.ensures.sent refl)

pub returns-in-StepOut-clause-sent : goal.returns-in-StepOut-clause-sent
returns-in-StepOut-clause-sent c = with_command _ the.StepOut c.args.command c.args.launched.now c.args.request.now _ c.args.out.now _ c.in-StepOut.is
    (steps_so Out c.begin_step-in-StepOut.result c.args.launched.now _ c.args.request.now c.begin_step-in-StepOut.new.execution c.args.out.now c.begin_step-in-StepOut.new.out c.begin_step-in-StepOut.ensures.sent refl)

pub returns-in-Initialize-clause-sent : goal.returns-in-Initialize-clause-sent
returns-in-Initialize-clause-sent c = with_command _ the.Initialize c.args.command c.args.launched.now c.args.request.now _ c.args.out.now _ c.in-Initialize.is
    (unknown_refused _ c.args.launched.now c.args.request.now c.args.out.now c.refuse_unknown.new.out c.refuse_unknown.ensures.sent)

pub returns-in-Launch-clause-sent : goal.returns-in-Launch-clause-sent
returns-in-Launch-clause-sent c = with_command _ the.Launch c.args.command c.args.launched.now c.args.request.now _ c.args.out.now _ c.in-Launch.is
    (unknown_refused _ c.args.launched.now c.args.request.now c.args.out.now c.refuse_unknown-in-Launch.new.out c.refuse_unknown-in-Launch.ensures.sent)

pub returns-in-StepBack-clause-sent : goal.returns-in-StepBack-clause-sent
returns-in-StepBack-clause-sent c = with_command _ the.StepBack c.args.command c.args.launched.now c.args.request.now _ c.args.out.now _ c.in-StepBack.is
    (unknown_refused _ c.args.launched.now c.args.request.now c.args.out.now c.refuse_unknown-in-StepBack.new.out c.refuse_unknown-in-StepBack.ensures.sent)

pub returns-in-ReverseContinue-clause-sent : goal.returns-in-ReverseContinue-clause-sent
returns-in-ReverseContinue-clause-sent c = with_command _ the.ReverseContinue c.args.command c.args.launched.now c.args.request.now _ c.args.out.now _ c.in-ReverseContinue.is
    (unknown_refused _ c.args.launched.now c.args.request.now c.args.out.now c.refuse_unknown-in-ReverseContinue.new.out c.refuse_unknown-in-ReverseContinue.ensures.sent)

pub returns-in-Evaluate-clause-sent : goal.returns-in-Evaluate-clause-sent
returns-in-Evaluate-clause-sent c = with_command _ the.Evaluate c.args.command c.args.launched.now c.args.request.now _ c.args.out.now _ c.in-Evaluate.is
    (unknown_refused _ c.args.launched.now c.args.request.now c.args.out.now c.refuse_unknown-in-Evaluate.new.out c.refuse_unknown-in-Evaluate.ensures.sent)

pub returns-in-Terminate-clause-sent : goal.returns-in-Terminate-clause-sent
returns-in-Terminate-clause-sent c = with_command _ the.Terminate c.args.command c.args.launched.now c.args.request.now _ c.args.out.now _ c.in-Terminate.is
    (unknown_refused _ c.args.launched.now c.args.request.now c.args.out.now c.refuse_unknown-in-Terminate.new.out c.refuse_unknown-in-Terminate.ensures.sent)

pub returns-in-Disconnect-clause-sent : goal.returns-in-Disconnect-clause-sent
returns-in-Disconnect-clause-sent c = with_command _ the.Disconnect c.args.command c.args.launched.now c.args.request.now _ c.args.out.now _ c.in-Disconnect.is
    (unknown_refused _ c.args.launched.now c.args.request.now c.args.out.now c.refuse_unknown-in-Disconnect.new.out c.refuse_unknown-in-Disconnect.ensures.sent)
