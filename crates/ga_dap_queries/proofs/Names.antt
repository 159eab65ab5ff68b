-- Each known request is in the list of all.
use Rattle.std.proofs.Common.{◌≡◌, ◌<◌, ℕ, refl, arith}
use Rattle.ga_dap_queries.specs.declared.request_name.RequestName.{RequestName}
use Rattle.ga_dap_queries.specs.declared.request_name.RequestName.TheVariants as the
use Rattle.ga_dap_queries.specs.inner.{request_name_at}

pub at_place : (command : RequestName) → (k : ℕ) × (k < 25) × (request_name_at k ≡ command)
at_place the.Initialize = (0, omega arith, refl)
at_place the.Launch = (1, omega arith, refl)
at_place the.SetBreakpoints = (2, omega arith, refl)
at_place the.SetFunctionBreakpoints = (3, omega arith, refl)
at_place the.SetInstructionBreakpoints = (4, omega arith, refl)
at_place the.DataBreakpointInfo = (5, omega arith, refl)
at_place the.SetDataBreakpoints = (6, omega arith, refl)
at_place the.SetExceptionBreakpoints = (7, omega arith, refl)
at_place the.ConfigurationDone = (8, omega arith, refl)
at_place the.Threads = (9, omega arith, refl)
at_place the.StackTrace = (10, omega arith, refl)
at_place the.Scopes = (11, omega arith, refl)
at_place the.Variables = (12, omega arith, refl)
at_place the.Continue = (13, omega arith, refl)
at_place the.Next = (14, omega arith, refl)
at_place the.StepIn = (15, omega arith, refl)
at_place the.StepOut = (16, omega arith, refl)
at_place the.Pause = (17, omega arith, refl)
at_place the.StepBack = (18, omega arith, refl)
at_place the.ReverseContinue = (19, omega arith, refl)
at_place the.Evaluate = (20, omega arith, refl)
at_place the.ExceptionInfo = (21, omega arith, refl)
at_place the.Disassemble = (22, omega arith, refl)
at_place the.Terminate = (23, omega arith, refl)
at_place the.Disconnect = (24, omega arith, refl)
