-- The names of the requests that are known (Debug Adapter Protocol, "Requests").
use Rattle.std.specs.Prelude.{codes}
use Rattle.ga_text.specs.Lines.{Text}
use Rattle.ga_dap_queries.specs.declared.request_name.RequestName.{RequestName}
use Rattle.ga_dap_queries.specs.declared.request_name.RequestName.TheVariants as the

abbrev pub command_name : RequestName → Text
command_name the.Initialize = codes "initialize"
command_name the.Launch = codes "launch"
command_name the.SetBreakpoints = codes "setBreakpoints"
command_name the.SetFunctionBreakpoints = codes "setFunctionBreakpoints"
command_name the.SetInstructionBreakpoints = codes "setInstructionBreakpoints"
command_name the.DataBreakpointInfo = codes "dataBreakpointInfo"
command_name the.SetDataBreakpoints = codes "setDataBreakpoints"
command_name the.SetExceptionBreakpoints = codes "setExceptionBreakpoints"
command_name the.ConfigurationDone = codes "configurationDone"
command_name the.Threads = codes "threads"
command_name the.StackTrace = codes "stackTrace"
command_name the.Scopes = codes "scopes"
command_name the.Variables = codes "variables"
command_name the.Continue = codes "continue"
command_name the.Next = codes "next"
command_name the.StepIn = codes "stepIn"
command_name the.StepOut = codes "stepOut"
command_name the.Pause = codes "pause"
command_name the.StepBack = codes "stepBack"
command_name the.ReverseContinue = codes "reverseContinue"
command_name the.Evaluate = codes "evaluate"
command_name the.ExceptionInfo = codes "exceptionInfo"
command_name the.Disassemble = codes "disassemble"
command_name the.Terminate = codes "terminate"
command_name the.Disconnect = codes "disconnect"
