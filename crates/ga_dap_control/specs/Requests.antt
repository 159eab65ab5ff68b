-- What a request that neither makes nor removes events does to a launched program (Debug Adapter Protocol, "Requests"): the
-- messages sent, in order, and the state after them.
use Rattle.std.specs.Prelude.{◌≡◌, List, [], ◌∷◌, codes, None}
use Rattle.ga_dap_protocol.specs.declared.request.ClientRequest.{ClientRequest}
use Rattle.ga_dap_queries.specs.declared.request_name.RequestName.{RequestName}
use Rattle.ga_dap_queries.specs.declared.request_name.RequestName.TheVariants as the
use Rattle.ga_dap_control.specs.declared.moving.DapStepKind.{DapStepKind}
use Rattle.ga_dap_control.specs.declared.moving.DapStepKind.TheVariants.{Over, In, Out}
use Rattle.ga_dap_control.specs.declared.execution.Execution.{Execution}
use Rattle.ga_dap_control.specs.declared.launched.LaunchedSession.{LaunchedSession}
use Rattle.ga_dap_control.specs.declared.configuration.Configuration.{Configuration}
use Rattle.ga_dap_control.specs.declared.configuration.BreakpointKind.TheVariants as family
use Rattle.ga_dap_control.specs.Breakpoints.{SetsExceptionFilters, SetsLineBreakpoints, ReplacesBreakpoints}
use Rattle.ga_dap_control.specs.Configuring.{AnswersConfigurationDone}
use Rattle.ga_dap_control.specs.Moving.{AnswersContinue, BeginsStep, AnswersPause}
use Rattle.ga_dap_queries.specs.Readings.{AnswersThreads, AnswersStackTrace, AnswersScopes, AnswersVariables, AnswersExceptionInfo}
use Rattle.ga_dap_queries.specs.Disassembling.{AnswersDisassemble}
use Rattle.ga_dap_queries.specs.Watching.{AnswersDataBreakpointInfo}
use Rattle.ga_dap_queries.specs.Sending.{Message, Messages, refused_response}

-- one message is sent, and what was launched stays
abbrev pub SendsOneResponse : (Message → Type 0) → LaunchedSession → Messages → LaunchedSession → Type 0
SendsOneResponse Answers l messages new = (message : Message) × Answers message × (messages ≡ message ∷ []) × (new ≡ l)

-- a run begins, or ends
abbrev pub ChangesExecution : (Messages → Execution → Type 0) → LaunchedSession → Messages → LaunchedSession → Type 0
ChangesExecution Begins l messages new = (execution : Execution) × Begins messages execution × (new ≡ record l { execution = execution })

abbrev pub AnswersStep : DapStepKind → LaunchedSession → ClientRequest → Messages → LaunchedSession → Type 0
AnswersStep kind l request messages new = (message : Message) × (execution : Execution) × BeginsStep l.program kind l.execution request message execution
    × (messages ≡ message ∷ []) × (new ≡ record l { execution = execution })

-- what the client set changes, hits are counted anew, and nothing else; one message is sent
abbrev pub ChangesConfiguration : (Message → Configuration → Type 0) → LaunchedSession → Messages → LaunchedSession → Type 0
ChangesConfiguration Becomes l messages new = (message : Message) × (settings : Configuration) × Becomes message settings × (messages ≡ message ∷ [])
    × (new ≡ record l { settings = settings; execution = record l.execution { tally = None } })

abbrev pub AnswersImmediateRequest : RequestName → LaunchedSession → ClientRequest → Messages → LaunchedSession → Type 0
AnswersImmediateRequest the.Threads l request messages new = SendsOneResponse (AnswersThreads l.program request) l messages new
AnswersImmediateRequest the.StackTrace l request messages new = SendsOneResponse (AnswersStackTrace l.program request) l messages new
AnswersImmediateRequest the.Scopes l request messages new = SendsOneResponse (AnswersScopes request) l messages new
AnswersImmediateRequest the.Variables l request messages new = SendsOneResponse (AnswersVariables l.program request) l messages new
AnswersImmediateRequest the.ExceptionInfo l request messages new = SendsOneResponse (AnswersExceptionInfo l.program request) l messages new
AnswersImmediateRequest the.ConfigurationDone l request messages new = ChangesExecution (AnswersConfigurationDone l.program l.execution request) l messages new
AnswersImmediateRequest the.Continue l request messages new = ChangesExecution (AnswersContinue l.execution request) l messages new
AnswersImmediateRequest the.Pause l request messages new = ChangesExecution (AnswersPause l.program l.execution request) l messages new
AnswersImmediateRequest the.Next l request messages new = AnswersStep Over l request messages new
AnswersImmediateRequest the.StepIn l request messages new = AnswersStep In l request messages new
AnswersImmediateRequest the.StepOut l request messages new = AnswersStep Out l request messages new
AnswersImmediateRequest the.SetBreakpoints l request messages new = ChangesConfiguration (SetsLineBreakpoints l.program l.settings request) l messages new
AnswersImmediateRequest the.SetFunctionBreakpoints l request messages new = ChangesConfiguration (ReplacesBreakpoints l.program family.Function l.settings request) l messages new
AnswersImmediateRequest the.SetInstructionBreakpoints l request messages new = ChangesConfiguration (ReplacesBreakpoints l.program family.Instruction l.settings request) l messages new
AnswersImmediateRequest the.SetDataBreakpoints l request messages new = ChangesConfiguration (ReplacesBreakpoints l.program family.Data l.settings request) l messages new
AnswersImmediateRequest the.DataBreakpointInfo l request messages new = SendsOneResponse (AnswersDataBreakpointInfo request) l messages new
AnswersImmediateRequest the.SetExceptionBreakpoints l request messages new = ChangesConfiguration (SetsExceptionFilters l.settings request) l messages new
AnswersImmediateRequest the.Disassemble l request messages new = SendsOneResponse (AnswersDisassemble l.program request) l messages new
AnswersImmediateRequest other l request messages new = (messages ≡ refused_response request (codes "no such request") ∷ []) × (new ≡ l)
