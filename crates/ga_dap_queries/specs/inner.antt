-- The requests that are known, in a list.
use Rattle.ga_dap_queries.specs.declared.request_name.RequestName.TheVariants as the
use Rattle.std.specs.Prelude.{ℕ, List, [], ◌∷◌, slice_index_or}
use Rattle.ga_dap_queries.specs.declared.request_name.RequestName.{RequestName}

abbrev pub all_commands : List RequestName
all_commands = the.Initialize ∷ the.Launch ∷ the.SetBreakpoints ∷ the.SetFunctionBreakpoints ∷ the.SetInstructionBreakpoints ∷ the.DataBreakpointInfo ∷ the.SetDataBreakpoints ∷ the.SetExceptionBreakpoints ∷ the.ConfigurationDone ∷ the.Threads ∷ the.StackTrace ∷ the.Scopes ∷ the.Variables ∷ the.Continue ∷ the.Next ∷ the.StepIn ∷ the.StepOut ∷ the.Pause ∷ the.StepBack ∷ the.ReverseContinue ∷ the.Evaluate ∷ the.ExceptionInfo ∷ the.Disassemble ∷ the.Terminate ∷ the.Disconnect ∷ []

abbrev pub request_name_at : ℕ → RequestName
request_name_at k = slice_index_or all_commands k the.Initialize
